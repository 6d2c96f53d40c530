use Rattle.std.proofs.Common.{Bool, List, false, get_or, ◌∙◌, ap}
use Rattle.std.specs.List.{list_all}
use Rattle.dwc_native.specs.Parts.{targets}
use Rattle.dwc_expr.proofs.LandingLaws.{whole-by-marks}
use Rattle.dwc_expr.proofs.compile.landings.has_whole_jumps.Goals as goal

pub returns : goal.returns
returns c =
    let os = c.args.steps.now in
    c.arrive_at_marks.ensures ∙ ap (λ (marks : List Bool). list_all (λ place. get_or marks place false) (targets os)) (c.deref.ensures.value ∙ c.in_ok-starts.ensures) ∙ whole-by-marks os c.args.size c.requires.inside
