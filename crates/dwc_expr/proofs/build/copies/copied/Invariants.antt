use Rattle.std.proofs.Common.{◌≡◌, ◌++◌, drop, flat_map, map}
use Rattle.dwc_expr.specs.Builds.{location_view}
use Rattle.dwc_expr.proofs.CopyLaws.{copies_of}
use Rattle.dwc_expr.proofs.build.copies.copied.Given as goal

-- what was pushed, with the copies of the intervals that are left, is the whole
abbrev pub invariant-loop-start : goal.invariant-loop-start
invariant-loop-start l = map location_view l.expressions.items ++ flat_map (copies_of l.addr_tr l.code) (drop l.start-index l.scope) ≡ flat_map (copies_of l.addr_tr l.code) l.scope
