use Rattle.std.proofs.Common.{ap, ◌∙◌}
use Rattle.dwc_expr.specs.Frames.{frame_view}
use Rattle.dwc_extents.proofs.location.check_placed.Goals as goal

pub returns : goal.returns
returns c = λ registers s e before at numbered tops.
    c.check_attribute_expression.ensures registers s e before at numbered
    (c.in_force_by-in_force.ensures registers c.args.source.now s e tops.1 (ap frame_view c.as_ref.ensures.value ∙ c.frame_in_force-frame.ensures registers s e tops.0 tops.1))
