use Rattle.std.proofs.Common.{◌+◌, arith}
use Rattle.dwc_expr.specs.CodeRanges.{code_range_view}
use Rattle.dwc_expr.proofs.CutWalkLaws.{no_piece}
use Rattle.dwc_expr.proofs.FilledLaws.{gap, reached-go}
use Rattle.dwc_expr.proofs.build.varying.has_gap.Goals as goal

pub returns-then-begins_behind : goal.returns-then-begins_behind
returns-then-begins_behind c = λ varies.
    gap c.args.pieces.now c.requires.flat (code_range_view c.args.range) c.args.range.start c.args.first (omega arith) c.requires.some c.requires.passed (λ inside. c.begins_behind.ensures c.if-begins_behind.true no_piece inside)

pub returns : goal.returns
returns c = λ varies.
    gap c.args.pieces.now c.requires.flat (code_range_view c.args.range) c.max-reached.result (c.args.first + 1) (omega (arith, c.max-reached.ensures)) c.if-reached-range.false
    (reached-go c.args.pieces.now c.args.range.start c.max-reached.result c.args.first c.if-first-pieces.false c.max-reached.ensures c.requires.passed)
    (λ inside. c.begins_behind-2.ensures varies no_piece inside)
