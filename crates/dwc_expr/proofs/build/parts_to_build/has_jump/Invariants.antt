use Rattle.std.proofs.Common.{◌≡◌, drop, map}
use Rattle.std.specs.List.{list_any}
use Rattle.dwc_native.specs.Parts.{is_jump}
use Rattle.dwc_expr.specs.PartViews.{part_view}
use Rattle.dwc_expr.proofs.build.parts_to_build.has_jump.Given as goal

-- the parts that are left decide
abbrev pub invariant-loop-part : goal.invariant-loop-part
invariant-loop-part l = list_any is_jump (map part_view (drop l.part-index l.parts)) ≡ list_any is_jump (map part_view l.parts)
