use Rattle.std.proofs.Common.{◌++◌, ◌∙◌, ap, option_map}
use Rattle.dwc_native.specs.Parts.{joined}
use Rattle.dwc_expr.specs.Landings.{marked_pad}
use Rattle.dwc_expr.proofs.EmitLaws.{steps-more}
use Rattle.dwc_expr.proofs.compile.emit.push_steps.Goals as goal

pub loop-step-preserved : goal.loop-step-preserved
loop-step-preserved c =
    let l = c.loop-step in
    steps-more (option_map (λ x. x.now) c.args.frame_base) c.args.landings.now l.parts c.push_pad.new.parts c.push_step.new.parts c.args.steps.now l.step-index c.step-item.result c.loop-step-test.true c.step-item.is
    (c.in_ok-push_pad.ensures ∙ ap (λ place. joined (l.parts ++ marked_pad c.args.landings.now place)) c.place.ensures) c.in_ok-push_step.ensures ∙ l.invariant
