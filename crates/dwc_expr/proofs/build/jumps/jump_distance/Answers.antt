use Rattle.std.proofs.Common.{◌∙◌, ◌+◌, ◌-ℤ◌, ap, pos, sym, unwrap_or}
use Rattle.dwc_expr.specs.Jumps.{fitting, pad_in}
use Rattle.dwc_expr.proofs.JumpLaws.{distance-given}
use Rattle.dwc_expr.proofs.build.jumps.jump_distance.Goals as goal

pub returns-in-Jump : goal.returns-in-Jump
returns-in-Jump c =
    let behind = c.args.offset + 3 in
    rw c.in-Jump.is
    (distance-given (pos (unwrap_or (pad_in c.args.pads.now c.in-Jump.target) 0) -ℤ pos behind) c.distance.result c.ok_or.result
    (c.distance.ensures ∙ ap (λ o. fitting (pos (unwrap_or o 0) -ℤ pos behind)) (sym c.offset_of.ensures)) c.ok_or.ensures.value)
