use Rattle.std.proofs.Common.{arith, subst, sym}
use Rattle.dwc_kept.proofs.BlockLaws.{HasFirstsSoFar, firsts-more, firsts-end}
use Rattle.dwc_kept.proofs.blocks.put_firsts.Goals as goal

pub loop-firsts-preserved : goal.loop-firsts-preserved
loop-firsts-preserved c =
    let xs = c.loop-firsts.firsts in
    subst (HasFirstsSoFar c.args.block c.args.number c.args.firsts.now.items) (sym c.in_ok-push.ensures.items) (firsts-more c.args.block c.args.number c.args.firsts.now.items xs.items c.loop-firsts.invariant (omega (arith, c.loop-firsts-test.true, c.len.ensures, xs.ok.0, xs.ok.1)))

pub returns : goal.returns
returns c =
    let xs = c.loop-firsts.firsts in
    firsts-end c.args.block c.args.number c.args.firsts.now.items xs.items c.loop-firsts.invariant (omega (arith, c.loop-firsts-test.false, c.len.ensures, xs.ok.0, xs.ok.1))
