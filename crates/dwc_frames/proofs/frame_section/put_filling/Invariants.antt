use Rattle.std.proofs.Common.{◌≡◌, ◌++◌, ◌-◌, replicate}
use Rattle.dwc_base.specs.declared.constants.TheConstants.{DW_CFA_nop}
use Rattle.dwc_frames.proofs.frame_section.put_filling.Given as goal

-- what is there, and the nops that are still to come
abbrev pub invariant-loop : goal.invariant-loop
invariant-loop l = l.out.items ++ replicate (l.left - l.counter) DW_CFA_nop ≡ l.initial.out.items ++ replicate l.left DW_CFA_nop
