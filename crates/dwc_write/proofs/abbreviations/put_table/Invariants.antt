use Rattle.std.proofs.Common.{◌≡◌, ◌++◌, suc, drop, map}
use Rattle.std.specs.List.{flat_map}
use Rattle.dwc_unit.specs.SpelledTables.{declaration_bytes}
use Rattle.dwc_unit.specs.GivenUnits.{numbered}
use Rattle.dwc_write.specs.ShapeViews.{shape_view}
use Rattle.dwc_write.proofs.abbreviations.put_table.Given as goal

-- what is there, and the declarations that are left to append
abbrev pub invariant-loop-i : goal.invariant-loop-i
invariant-loop-i l = l.out.items ++ flat_map declaration_bytes (numbered (suc l.i) (map shape_view (drop l.i l.shapes))) ≡ l.initial.out.items ++ flat_map declaration_bytes (numbered 1 (map shape_view l.shapes))
