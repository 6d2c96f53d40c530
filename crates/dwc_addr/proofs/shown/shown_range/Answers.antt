use Rattle.std.proofs.Common.{◌<◌, arith, length}
use Rattle.dwc_addr.proofs.StretchLaws.{range-none, range-found, range-order}
use Rattle.dwc_addr.proofs.shown.shown_range.Goals as goal

pub returns-then-first-len-clause-range : goal.returns-then-first-len-clause-range
returns-then-first-len-clause-range c =
    let m = c.args.function.now in
    range-none m c.args.start c.args.end (m.shown c.requires) c.args.number c.stretch_behind-first.result (omega (arith, c.if-first-len.true, c.len.ensures, m.stretches.ok.0)) c.stretch_behind-first.ensures.passed

pub returns-clause-range : goal.returns-clause-range
returns-clause-range c =
    let m = c.args.function.now in
    let first = c.stretch_behind-first.result in
    let behind = c.stretch_behind-behind.result in
    let inside : first < length m.stretches.items = omega (arith, c.if-first-len.false, c.len.ensures, m.stretches.ok.0) in
    rw (c.stretch_start.ensures.start, c.stretch_start-2.ensures.start)
    (range-found m c.args.start c.args.end (m.shown c.requires) c.args.number first behind c.stretch_behind-first.ensures.order inside (omega (arith, c.stretch_behind-behind.ensures.order)) (c.stretch_behind-behind.ensures.bound (omega (arith, inside)))
    c.stretch_behind-first.ensures.passed (λ d. c.stretch_behind-first.ensures.other d inside) (λ k d from to there. c.stretch_behind-behind.ensures.passed k d (omega (arith, from)) to there) c.stretch_behind-behind.ensures.other)

pub returns-clause-order : goal.returns-clause-order
returns-clause-order c =
    let m = c.args.function.now in
    let first = c.stretch_behind-first.result in
    let inside : first < length m.stretches.items = omega (arith, c.if-first-len.false, c.len.ensures, m.stretches.ok.0) in
    rw (c.stretch_start.ensures.start, c.stretch_start-2.ensures.start)
    (range-order m c.args.start c.args.end (m.shown c.requires) first c.stretch_behind-behind.result (omega (arith, c.stretch_behind-behind.ensures.order)) (c.stretch_behind-behind.ensures.bound (omega (arith, inside))))
