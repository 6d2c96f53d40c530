use Rattle.std.proofs.Common.{◌≡◌, ◌+◌, ◌-◌, ◌∙◌, ap, arith, suc, sym}
use Rattle.dwc_clone.specs.OpenWrappers.{reserved_more}
use Rattle.dwc_clone.proofs.unit.reserve_kept.Goals as goal

pub loop-preserved : goal.loop-preserved
loop-preserved c =
    let count = c.args.count in
    let counter = c.loop.counter in
    let left : count - counter ≡ suc (count - (counter + 1)) = omega (arith, c.loop-test.true) in
    ap (reserved_more (count - (counter + 1))) c.in_ok-reserve.ensures.ok ∙ sym (ap (λ n. reserved_more n c.loop.unit) left) ∙ c.loop.invariant
