use Rattle.std.proofs.Common.{drop, filter_map, map}
use Rattle.dwc_isa.specs.Registers.{Registers}
use Rattle.dwc_isa.specs.ValueLabels.{range_view}
use Rattle.dwc_expr.specs.Alone.{LeadsAlone, parts_in}
use Rattle.dwc_expr.specs.OverIntervals.{IsFront}
use Rattle.dwc_expr.specs.CodeRanges.{code_range_view}
use Rattle.dwc_expr.specs.PlacedParts.{cut_by}
use Rattle.dwc_expr.proofs.build.alone.put_expressions.Given as goal

-- what is put for the pieces that are left makes what is put for all, and what stood there is in front
abbrev pub invariant-loop-place : goal.invariant-loop-place
invariant-loop-place g l =
    let registers : Registers = (goal.TargetIsa-dyn g l.isa.now).dwarf_registers l.isa.now.1 in
    record {
      leads : LeadsAlone l.local.trailing registers (filter_map (cut_by 0 (code_range_view l.range)) (drop l.place (map range_view l.pieces))) (parts_in l.range l.pieces) l.fn.expressions.items l.expressions.items;
      front : IsFront l.fn.expressions.items l.expressions.items;
    }
