use Rattle.std.proofs.Common.{◌≡◌, map, drop}
use Rattle.dwc_map.specs.MapFile.{have_counts}
use Rattle.dwc_map.specs.MapViews.{module_view}
use Rattle.dwc_map.proofs.map_file.has_counts.Given as goal

-- the modules so far have their counts, so those to come decide
abbrev pub invariant-loop-i : goal.invariant-loop-i
invariant-loop-i l = have_counts (map (λ t. t.defined_funcs) (drop l.i l.translations)) (map module_view (drop l.i l.modules)) ≡ have_counts (map (λ t. t.defined_funcs) l.translations) (map module_view l.modules)
