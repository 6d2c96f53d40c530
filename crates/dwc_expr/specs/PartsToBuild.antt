-- Parts as they are built, as the definitions have them.
use Rattle.std.specs.Prelude.{ℕ, List, [], ◌∷◌, ◌++◌, map, filter_map, if◌then◌else◌}
use Rattle.dwc_native.specs.Parts.{Part, dereference}
use Rattle.dwc_native.specs.Placed.{label_needed}
use Rattle.dwc_expr.specs.declared.build.parts_to_build.PartsToBuild.{PartsToBuild}
use Rattle.dwc_expr.specs.PartViews.{part_view}

-- the parts, and behind them the one that makes an address of the result, if there is one
abbrev pub all_parts : PartsToBuild → List Part
all_parts p = map part_view p.parts.now ++ (if p.then_dereference then dereference ∷ [] else [])

-- the labels that they need, in their order
abbrev pub labels_needed : PartsToBuild → List ℕ
labels_needed p = filter_map label_needed (all_parts p)
