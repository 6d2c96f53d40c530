use Rattle.std.proofs.Common.{◌+◌, arith, get_or, map, subst}
use Rattle.dwc_base.proofs.InLists.{IsIn, at-in}
use Rattle.dwc_isa.specs.Registers.{Registers}
use Rattle.dwc_isa.specs.ValueLabels.{range_view}
use Rattle.dwc_expr.specs.CodeRanges.{code_range_view}
use Rattle.dwc_expr.proofs.CutWalkLaws.{inside-seen, no_piece, piece-seen}
use Rattle.dwc_expr.proofs.VaryingLaws.{pieces-differ}
use Rattle.dwc_expr.proofs.build.varying.has_two.Goals as goal

pub returns : goal.returns
returns g c = λ differs covers.
    let registers : Registers = (goal.TargetIsa-dyn g c.args.isa.now).dwarf_registers c.args.isa.now.1 in
    let ps = c.args.pieces.now in
    pieces-differ c.args.trailing registers (code_range_view c.args.range) (map range_view ps) (range_view (get_or ps c.args.first no_piece)) (range_view (get_or ps (c.args.first + 1) no_piece))
    (subst (λ p. IsIn p (map range_view ps)) (piece-seen ps c.args.first no_piece c.if-first-pieces.false) (at-in (map range_view ps) c.args.first (range_view no_piece) (inside-seen range_view ps c.args.first c.if-first-pieces.false)))
    (subst (λ p. IsIn p (map range_view ps)) (piece-seen ps (c.args.first + 1) no_piece c.if-next-pieces.false) (at-in (map range_view ps) (c.args.first + 1) (range_view no_piece) (inside-seen range_view ps (c.args.first + 1) c.if-next-pieces.false)))
    (c.differ_on.ensures differs) covers
