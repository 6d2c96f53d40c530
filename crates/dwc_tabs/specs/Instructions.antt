-- The program's own instructions, seen as those of the definitions.
use Rattle.std.specs.Prelude.{ℕ, ◌-◌, slice_index, Some, None}
use Rattle.dwc_base.specs.Reading.{Unread, Read, coded}
use Rattle.dwc_dwarf.specs.LineHeaders as spec
use Rattle.dwc_tabs.specs.Headers.{file_view}
use Rattle.dwc_tabs.specs.declared.instruction.Instruction.{Instruction}
use Rattle.dwc_tabs.specs.declared.instruction.Instruction.TheVariants.{Special, Copy, AdvancePc, AdvanceLine, SetFile, SetColumn, NegateStmt, SetBasicBlock, ConstAddPc, FixedAdvancePc, SetPrologueEnd, SetEpilogueBegin, SetIsa, EndSequence, SetAddress, DefineFile, SetDiscriminator, Unknown}

-- an instruction
abbrev pub instruction_view : Instruction → spec.Instruction
instruction_view (Special opcode) = spec.special opcode
instruction_view Copy = spec.copy
instruction_view (AdvancePc n) = spec.advance_pc n
instruction_view (AdvanceLine n) = spec.advance_line n
instruction_view (SetFile n) = spec.set_file n
instruction_view (SetColumn n) = spec.set_column n
instruction_view NegateStmt = spec.negate_stmt
instruction_view SetBasicBlock = spec.set_basic_block
instruction_view ConstAddPc = spec.const_add_pc
instruction_view (FixedAdvancePc n) = spec.fixed_advance_pc n
instruction_view SetPrologueEnd = spec.set_prologue_end
instruction_view SetEpilogueBegin = spec.set_epilogue_begin
instruction_view (SetIsa n) = spec.set_isa n
instruction_view EndSequence = spec.end_sequence
instruction_view (SetAddress a) = spec.set_address a
instruction_view (DefineFile f) = spec.define_file (file_view f)
instruction_view (SetDiscriminator n) = spec.set_discriminator n
instruction_view Unknown = spec.unknown

-- the operands of a standard opcode
unfoldable pub standard_at : spec.LineHeader → ℕ → Unread → Read spec.Instruction
standard_at h opcode u = elim (coded spec.standard_opcodes opcode) [
  | Some operand ↦ spec.operand_at operand u
  | None ↦ spec.passed_operands_at (slice_index h.standard_opcode_lengths (opcode - 1)) u
]
