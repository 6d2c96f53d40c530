use Rattle.dwc_map.proofs.FrameKinds.{of_register-many}
use Rattle.dwc_map.proofs.frames.register_operand.Goals as goal

pub returns-in_default-2 : goal.returns-in_default-2
returns-in_default-2 c = λ instruction. of_register-many instruction c.args.operands.now c.in_default.len_at_least
