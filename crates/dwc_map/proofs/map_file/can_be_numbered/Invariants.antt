use Rattle.std.proofs.Common.{◌≡◌, ◌<◌, ◌+◌, ◌^◌, map, drop, length, sum_by}
use Rattle.dwc_map.specs.MapViews.{module_view}
use Rattle.dwc_map.proofs.map_file.can_be_numbered.Given as goal

-- the functions so far, and those of the modules to come, are all functions
abbrev pub invariant-loop-module : goal.invariant-loop-module
invariant-loop-module l = record {
  total : l.functions + sum_by (λ m. length m.functions) (map module_view (drop l.module-index l.modules)) ≡ sum_by (λ m. length m.functions) (map module_view l.modules);
  small : l.functions < 2 ^ 32;
}
