use Rattle.std.proofs.Common.{◌≡◌, ◌+◌, ◌<◌, arith, rules, subst, get_or}
use Rattle.dwc_image.proofs.RunLaws.{AreBelow, below-step, no_source}
use Rattle.dwc_image.proofs.image.behind_by_doubling.Goals as goal

pub loop-step-preserved : goal.loop-step-preserved
loop-step-preserved c =
    let sources = c.args.sources.now in
    let limit = c.args.start + c.args.offset in
    let at = c.loop-step.at + c.loop-step.step in
    let less : (get_or sources at no_source).wasm < limit = search rules in
    let below = below-step (λ s. s.wasm) sources c.args.from limit c.args.end at no_source c.requires.rises (omega (arith, c.loop-step-test.true)) c.requires.high less in
    let same : at + 1 ≡ c.loop-step.at + (c.loop-step.step + 1) = omega arith in
    (omega (arith, c.loop-step.invariant.0), omega (arith, c.loop-step-test.true), subst (AreBelow (λ s. s.wasm) sources c.args.from limit) same below)
