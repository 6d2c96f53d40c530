use Rattle.std.proofs.Common.{ap, ◌∙◌}
use Rattle.dwc_expr.specs.Frames.{frame_view}
use Rattle.dwc_extents.proofs.FrameLaws.{frame-none, frame-some}
use Rattle.dwc_extents.proofs.in_force.frame_in_force.Goals as goal

pub returns-in_err-frame : goal.returns-in_err-frame
returns-in_err-frame c = λ registers s e frames force. ap frame_view c.from_residual.ensures ∙ frame-none registers c.args.source.now s e (c.in_err-frame.ensures ∙ force.frame)

pub returns : goal.returns
returns c = λ registers s e frames force. frame-some registers c.args.source.now s e c.in_ok-frame.field-0 c.frame-2.result frames (c.in_ok-frame.ensures ∙ force.frame) (c.frame-2.ensures.frame registers)
