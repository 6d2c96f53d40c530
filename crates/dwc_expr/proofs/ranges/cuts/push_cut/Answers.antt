use Rattle.std.proofs.Common.{arith, min, subst}
use Rattle.dwc_isa.specs.ValueLabels.{range_view}
use Rattle.dwc_expr.specs.NarrowedRanges.{IsMadeOf}
use Rattle.dwc_expr.proofs.MadeLaws.{appends-cut, appends-uncut}
use Rattle.dwc_expr.proofs.ranges.cuts.push_cut.Goals as goal

pub returns-in_ok-push : goal.returns-in_ok-push
returns-in_ok-push c = λ index.
    let range = c.args.range.now in
    let p = range_view c.args.piece.now in
    let made = c.in_ok-cut_from.field-0 in
    appends-cut c.args.label.0 range index p made c.args.made.now.items c.push.new.self.items (omega (arith, c.if-start-end.true, c.max-start.ensures, c.min-end.ensures)) c.in_ok-push.ensures.items
    (subst (λ start. IsMadeOf c.args.label.0 range (record { function = range.func_index; start = start; end = min range.end p.end }) p.place made) c.max-start.ensures
    (subst (λ end. IsMadeOf c.args.label.0 range (record { function = range.func_index; start = c.max-start.result; end = end }) p.place made) c.min-end.ensures c.in_ok-cut_from.ensures))

pub returns-else-start-end : goal.returns-else-start-end
returns-else-start-end c = λ index. appends-uncut c.args.label.0 c.args.range.now index (range_view c.args.piece.now) c.args.made.now.items (omega (arith, c.if-start-end.false, c.max-start.ensures, c.min-end.ensures))
