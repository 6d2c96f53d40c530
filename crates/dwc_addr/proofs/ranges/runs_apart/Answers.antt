use Rattle.std.proofs.Common.{◌/◌, arith}
use Rattle.dwc_addr.proofs.BoundLaws.{run-passed, block-passed, outer-passed}
use Rattle.dwc_addr.proofs.ranges.runs_apart.Goals as goal

pub returns-then-is_apart-clause-ranges : goal.returns-then-is_apart-clause-ranges
returns-then-is_apart-clause-ranges c =
    let inside = rw c.deref.ensures.value at c.is_apart.ensures.inside c.if-is_apart.true in
    let apart = rw c.deref.ensures.value at c.is_apart.ensures.apart c.if-is_apart.true in
    outer-passed c.args.function.now c.args.start c.args.end (c.args.place / 4096) c.args.place (omega (arith, c.if-place-eq0.true)) inside apart

pub returns-then-is_apart-2-clause-ranges : goal.returns-then-is_apart-2-clause-ranges
returns-then-is_apart-2-clause-ranges c =
    let inside = rw c.deref-then-place-eq0-2.ensures.value at c.is_apart-then-place-eq0-2.ensures.inside c.if-is_apart-2.true in
    let apart = rw c.deref-then-place-eq0-2.ensures.value at c.is_apart-then-place-eq0-2.ensures.apart c.if-is_apart-2.true in
    block-passed c.args.function.now c.args.start c.args.end (c.args.place / 64) c.args.place (omega (arith, c.if-place-eq0-2.true)) inside apart

pub returns-then-is_apart-3-clause-ranges : goal.returns-then-is_apart-3-clause-ranges
returns-then-is_apart-3-clause-ranges c =
    let inside = rw c.deref-2.ensures.value at c.is_apart-2.ensures.inside c.if-is_apart-3.true in
    let apart = rw c.deref-2.ensures.value at c.is_apart-2.ensures.apart c.if-is_apart-3.true in
    run-passed c.args.function.now c.args.start c.args.end c.args.place inside apart
