use Rattle.std.proofs.Common.{map, drop}
use Rattle.dwc_cli.proofs.WalkedModules.{Walked}
use Rattle.dwc_cli.proofs.answer.translations_of.Given as goal

-- the modules so far are translated, and those to come decide
abbrev pub invariant-loop-module : goal.invariant-loop-module
invariant-loop-module l = Walked l.translations.items (map (λ m. m.items) (drop l.module-index l.modules)) (map (λ m. m.items) l.modules)
