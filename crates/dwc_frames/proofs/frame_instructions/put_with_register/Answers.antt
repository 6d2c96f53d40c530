use Rattle.std.proofs.Common.{rules}
use Rattle.dwc_frames.proofs.frame_instructions.put_with_register.Goals as goal

pub returns-then-register-lt-SHORT_REGISTERS : goal.returns-then-register-lt-SHORT_REGISTERS
returns-then-register-lt-SHORT_REGISTERS c = λ order size. let e0 = c.put_byte.ensures order size in search rules

pub returns-else-register-lt-SHORT_REGISTERS : goal.returns-else-register-lt-SHORT_REGISTERS
returns-else-register-lt-SHORT_REGISTERS c = λ order size. let e0 = c.put_of_register.ensures order size in search rules
