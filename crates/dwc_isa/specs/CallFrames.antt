-- Call frames, as the definitions see them (DWARF 5, section 6.4).
use Rattle.std.specs.Prelude.{map}
use Rattle.dwc_native.specs.CallFrames.{FrameInstruction, def_cfa, def_cfa_register, def_cfa_offset, restore, undefined, same_value, saved_at, remember_state, restore_state, CommonEntry, FrameDescription}
use Rattle.dwc_native.specs.UnwindRecords.{UnwindRecord, system_v, windows_x64, windows_arm64}
use Rattle.dwc_isa.specs.declared.cie.Cie.{Cie}
use Rattle.dwc_isa.specs.declared.frame_op.FrameOp.{FrameOp}
use Rattle.dwc_isa.specs.declared.frame_op.FrameOp.TheVariants.{Cfa, CfaRegister, CfaOffset, Restore, Undefined, SameValue, Offset, RememberState, RestoreState}
use Rattle.dwc_isa.specs.declared.unwind_info.CfaUnwindInfo.{CfaUnwindInfo}
use Rattle.dwc_isa.specs.declared.unwind_info.UnwindInfo.{UnwindInfo}
use Rattle.dwc_isa.specs.declared.unwind_info.UnwindInfo.TheVariants.{SystemV, WindowsX64, WindowsArm64}

abbrev pub instruction_view : FrameOp → FrameInstruction
instruction_view (Cfa register offset) = def_cfa register offset
instruction_view (CfaRegister register) = def_cfa_register register
instruction_view (CfaOffset offset) = def_cfa_offset offset
instruction_view (Restore register) = restore register
instruction_view (Undefined register) = undefined register
instruction_view (SameValue register) = same_value register
instruction_view (Offset register offset) = saved_at register offset
instruction_view RememberState = remember_state
instruction_view RestoreState = restore_state

abbrev pub cie_view : Cie → CommonEntry
cie_view c = record { code_factor = c.code_factor; data_factor = c.data_factor; return_register = c.return_register; instructions = map instruction_view c.ops.items }

abbrev pub description_view : CfaUnwindInfo → FrameDescription
description_view info = record { length = info.len; instructions = map (λ op. (op.0, instruction_view op.1)) info.ops.items }

abbrev pub unwind_view : UnwindInfo → UnwindRecord
unwind_view (SystemV info) = system_v (description_view info)
unwind_view (WindowsX64 codes) = windows_x64 codes.items
unwind_view (WindowsArm64 codes) = windows_arm64 codes.0.items
