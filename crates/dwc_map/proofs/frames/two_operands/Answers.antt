use Rattle.dwc_map.proofs.FrameKinds.{of_both-few, of_both-many}
use Rattle.dwc_map.proofs.frames.two_operands.Goals as goal

pub returns-in_default : goal.returns-in_default
returns-in_default c = λ instruction. of_both-few instruction c.args.operands.now c.in_default.len_below

pub returns-in_default-2 : goal.returns-in_default-2
returns-in_default-2 c = λ instruction. of_both-many instruction c.args.operands.now c.in_default.len_at_least
