use Rattle.std.proofs.Common.{ℕ, Bool, false, get_or, sym, ◌∙◌}
use Rattle.dwc_expr.proofs.LandingLaws.{arrived, no-jump}
use Rattle.dwc_expr.proofs.compile.landings.arrive_at_marks.Goals.{in-Some+else-not-is_marked, in_default}
use Rattle.dwc_expr.proofs.compile.landings.arrive_at_marks.Goals as goal

pub loop-step-preserved : goal.loop-step-preserved
loop-step-preserved c =
    let marked : ℕ → Bool = λ place. get_or c.args.marks.now place false in
    let os = c.args.steps.now in
    let i = c.loop-step.step-index in
    let o = c.step-item.result in
    elim c.match-target.branch [
      | in-Some+else-not-is_marked w ↦
          sym (arrived marked os i o c.loop-step-test.true c.step-item.is w.in-Some.target (sym c.target.ensures ∙ w.in-Some.is) (sym w.is_marked.ensures ∙ w.if-not-is_marked.false)) ∙ c.loop-step.invariant
      | in_default w ↦ sym (no-jump marked os i o c.loop-step-test.true c.step-item.is (sym c.target.ensures ∙ w.in_default.is)) ∙ c.loop-step.invariant
    ]
