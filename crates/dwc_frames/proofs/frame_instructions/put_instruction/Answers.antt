use Rattle.std.proofs.Common.{rules}
use Rattle.dwc_frames.proofs.frame_instructions.put_instruction.Goals as goal

pub returns-in-Cfa : goal.returns-in-Cfa
returns-in-Cfa c = λ order size. let e0 = c.put_cfa.ensures order size in search rules

pub returns-in-CfaRegister : goal.returns-in-CfaRegister
returns-in-CfaRegister c = λ order size. let e0 = c.put_of_register.ensures order size in search rules

pub returns-in-CfaOffset : goal.returns-in-CfaOffset
returns-in-CfaOffset c = λ order size. let e0 = c.put_cfa_offset.ensures order size in search rules

pub returns-in-Restore : goal.returns-in-Restore
returns-in-Restore c = λ order size. let e0 = c.put_with_register.ensures order size in search rules

pub returns-in-Undefined : goal.returns-in-Undefined
returns-in-Undefined c = λ order size. let e0 = c.put_of_register-in-Undefined.ensures order size in search rules

pub returns-in-SameValue : goal.returns-in-SameValue
returns-in-SameValue c = λ order size. let e0 = c.put_of_register-in-SameValue.ensures order size in search rules

pub returns-in-Offset : goal.returns-in-Offset
returns-in-Offset c = λ order size. let e0 = c.put_saved.ensures order size in search rules

pub returns-in-RememberState : goal.returns-in-RememberState
returns-in-RememberState c = λ order size. let e0 = c.put_byte.ensures order size in search rules

pub returns-in-RestoreState : goal.returns-in-RestoreState
returns-in-RestoreState c = λ order size. let e0 = c.put_byte-in-RestoreState.ensures order size in search rules
