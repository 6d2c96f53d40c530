use Rattle.std.proofs.Common.{◌∙◌, ap, subst}
use Rattle.dwc_compiled.specs.Gaps.{gaps_behind, AreGapsOf}
use Rattle.dwc_compiled.proofs.GapLaws.{none-front}
use Rattle.dwc_compiled.proofs.instruction_maps.gap_behind.Goals as goal

pub returns-then-gap-before-clause-none : goal.returns-then-gap-before-clause-none
returns-then-gap-before-clause-none c = λ is es kept.
    ap (λ gs. gaps_behind gs c.args.before) c.in_ok-gap.ensures.cases.0
    ∙ none-front c.args.before es c.in_ok-gap.gap.now c.in_ok-gap.later.now c.if-gap-before.true (subst (AreGapsOf c.args.before es) c.in_ok-gap.ensures.cases.0 kept)
