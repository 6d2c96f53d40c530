use Rattle.std.proofs.Common.{◌∙◌, ap, sym, arith, List, Option}
use Rattle.dwc_kept.specs.declared.last_at.LastAt.{LastAt}
use Rattle.dwc_kept.specs.ReadEntries.{with_last_at}
use Rattle.dwc_kept.proofs.LastLaws.{last-grows, last-set}
use Rattle.dwc_kept.proofs.reading.put_last.Goals as goal

pub loop-lasts-preserved : goal.loop-lasts-preserved
loop-lasts-preserved c =
    let xs = c.loop-lasts.lasts in
    ap (λ (ys : List (Option LastAt)). with_last_at ys c.args.depth c.args.last) c.in_ok-push.ensures.items ∙ last-grows xs.items c.args.depth c.args.last (omega (arith, c.loop-lasts-test.true, c.len.ensures, xs.ok.0, xs.ok.1)) ∙ c.loop-lasts.invariant

pub returns : goal.returns
returns c =
    let xs = c.loop-lasts.lasts in
    sym (last-set xs.items c.args.depth c.args.last (omega (arith, c.loop-lasts-test.false, c.len.ensures, xs.ok.0, xs.ok.1))) ∙ c.loop-lasts.invariant
