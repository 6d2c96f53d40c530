use Rattle.std.proofs.Common.{◌≡◌, ◌++◌, map}
use Rattle.dwc_addr.specs.Compilations.{lists}
use Rattle.dwc_cli.proofs.carrying.parts_of.Given as goal

-- what is told of the modules so far, and of the modules to come
abbrev pub invariant-loop-module : goal.invariant-loop-module
invariant-loop-module l = record {
  functions : lists l.functions.items ++ map (λ m. m.functions.items) l.module-iterator.rest.items ≡ map (λ m. m.functions.items) l.fn.modules.items;
  memories : l.memory_offsets.items ++ map (λ m. m.memory) l.module-iterator.rest.items ≡ map (λ m. m.memory) l.fn.modules.items;
  paths : l.paths.items ++ map (λ m. m.path) l.module-iterator.rest.items ≡ map (λ m. m.path) l.fn.modules.items;
}
