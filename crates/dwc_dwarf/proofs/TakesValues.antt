-- Entries and instructions take a byte at least, and values and operands go not back.
use Rattle.std.proofs.Common.{ℕ, zero, suc, arith, lit<, List, [], ◌∷◌, length, take, length-drop, Option, Some, None, Ok, Err, Bool, true, false, ltb}
use Rattle.std.specs.Prelude.{◌==◌, nat_le, slice_index, ◌-◌, if◌then◌else◌}
use Rattle.dwc_base.specs.declared.faults.Flaw.TheVariants.{EndsEarly, Malformed}
use Rattle.dwc_base.specs.declared.records.Encoding.{Encoding}
use Rattle.dwc_base.specs.declared.section_name.SectionName.TheVariants.{Info}
use Rattle.dwc_base.specs.Reading.{Unread, Read, ◌>>=◌, forbid, coded, bytes_at, number_at, uleb_at, counted_at, passed}
use Rattle.dwc_base.specs.Sections.{Sections, Relocation, address_at}
use Rattle.dwc_base.specs.Abbreviations.{AttributeSpec, Declaration, declaration_of}
use Rattle.dwc_base.specs.Units.{UnitHeader}
use Rattle.dwc_dwarf.specs.Values.{Value, Size, fixed, variable, Form, addr, indexed_addr, blocks, exprloc, data_of, sdata, implicit, flag_byte, flag_present, string, string_elsewhere, reference, ref_addr, sec_offset, indexed_location, indexed_range, passed_over, supplementary, form_of, sized_number_at, block_at, formed_value_at, form_behind, form_code_at, encoded_value_at, encoding_of, value_at}
use Rattle.dwc_dwarf.specs.Entries.{Found, attributes_at, declared_entry_at, entry_at}
use Rattle.dwc_dwarf.specs.LineHeaders.{LineHeader, Instruction, special, Operand, no_operand, one_uleb, one_sleb, two_bytes, operand_at, standard_opcodes, passed_operands_at, extended_at, extended_instruction_at, instruction_at}
use Rattle.dwc_base.proofs.Items.{Leaves, LeavesFewer}
use Rattle.dwc_base.proofs.Takes.{Leaves-bind, Leaves-behind, Leaves-same, number_at-leaves, part_at-leaves, text_at-leaves}
use Rattle.dwc_base.proofs.TakesMore.{Leaves-more, Leaves-seen, uleb_at-leaves, sleb_at-leaves}
use Rattle.dwc_base.specs.declared.constants.TheConstants.{DW_FORM_implicit_const, DW_FORM_indirect}

-- a field goes not back, whatever its size
bytes_at-back : (size : ℕ) (u : Unread) → Leaves (bytes_at size u) (suc (length u.left))
unfolding bytes_at
bytes_at-back size u = record { fewer = go (ltb (length u.left) size) }
  where
    go : (b : Bool) → LeavesFewer {A = List ℕ} (if b then Err EndsEarly else Ok (take size u.left, passed size u)) (suc (length u.left))
    go true = tt
    go false = omega (arith, length-drop size u.left)

number_at-back : (size : ℕ) (u : Unread) → Leaves (number_at size u) (suc (length u.left))
unfolding number_at
number_at-back size u = Leaves-seen _ _ _ (bytes_at-back size u)

-- ---- instructions

operand_at-leaves : (o : Operand) (u : Unread) → Leaves (operand_at o u) (suc (length u.left))
unfolding operand_at
operand_at-leaves (no_operand i) u = Leaves-same _ _
operand_at-leaves (one_uleb make) u = Leaves-seen make _ _ (Leaves-more _ _ (uleb_at-leaves u))
operand_at-leaves (one_sleb make) u = Leaves-seen make _ _ (Leaves-more _ _ (sleb_at-leaves u))
operand_at-leaves (two_bytes make) u = Leaves-seen make _ _ (Leaves-more _ _ (number_at-leaves 2 u (lit< tt)))

-- so many things go not back where each does not
counted_at-leaves : {A : Type 0} (count : ℕ) (item : Unread → Read A) (u : Unread) → ((v : Unread) → Leaves (item v) (suc (length v.left))) → Leaves (counted_at count item u) (suc (length u.left))
unfolding counted_at
counted_at-leaves zero item u each = Leaves-same _ _
counted_at-leaves (suc count) item u each =
    Leaves-bind _ _ _ (each u) (λ first. Leaves-bind _ _ _ (counted_at-leaves count item first.1 each) (λ others. Leaves-same _ _))

passed_operands_at-leaves : (count : ℕ) (u : Unread) → Leaves (passed_operands_at count u) (suc (length u.left))
unfolding passed_operands_at
passed_operands_at-leaves count u = Leaves-seen _ _ _ (counted_at-leaves count uleb_at u (λ v. Leaves-more _ _ (uleb_at-leaves v)))

extended_instruction_at-leaves : (relocations : List Relocation) (h : LineHeader) (u : Unread) → Leaves (extended_instruction_at relocations h u) (length u.left)
unfolding extended_instruction_at
extended_instruction_at-leaves relocations h u =
    Leaves-bind _ _ _ (uleb_at-leaves u) (λ size. Leaves-bind _ _ _ (part_at-leaves size.0 size.1) (λ inside.
    Leaves-behind (number_at 1 inside.0) _ _ (λ opcode. Leaves-behind (extended_at relocations h opcode.0 opcode.1) _ _ (λ i. Leaves-same _ _))))

known_opcode-leaves : (h : LineHeader) (opcode : ℕ) (u : Unread) (o : Option Operand) → Leaves {A = Instruction} (elim o [ Some operand ↦ operand_at operand u | None ↦ passed_operands_at (slice_index h.standard_opcode_lengths (opcode - 1)) u ]) (suc (length u.left))
known_opcode-leaves h opcode u (Some operand) = operand_at-leaves operand u
known_opcode-leaves h opcode u None = passed_operands_at-leaves _ u

pub instruction_at-leaves : (relocations : List Relocation) (h : LineHeader) (u : Unread) → Leaves (instruction_at relocations h u) (length u.left)
unfolding instruction_at
instruction_at-leaves relocations h u =
    Leaves-bind (number_at 1 u) _ _ (number_at-leaves 1 u (lit< tt)) (λ opcode.
    either (nat_le h.opcode_base opcode.0) (opcode.0 == 0) (Ok (special opcode.0, opcode.1)) (extended_instruction_at relocations h opcode.1) _ _
    (Leaves-same _ _) (Leaves-more _ _ (extended_instruction_at-leaves relocations h opcode.1)) (known_opcode-leaves h opcode.0 opcode.1 (coded standard_opcodes opcode.0)))
  where
    either : (a b : Bool) (r s t : Read Instruction) (n : ℕ) → Leaves r n → Leaves s n → Leaves t n → Leaves {A = Instruction} (elim a [ true ↦ r | false ↦ elim b [ true ↦ s | false ↦ t ] ]) n
    either true b r s t n x y z = x
    either false true r s t n x y z = y
    either false false r s t n x y z = z

-- ---- values and entries

sized_number_at-leaves : (size : Size) (u : Unread) → Leaves (sized_number_at size u) (suc (length u.left))
unfolding sized_number_at
sized_number_at-leaves (fixed size) u = number_at-back size u
sized_number_at-leaves variable u = Leaves-more _ _ (uleb_at-leaves u)

block_at-leaves : (size : Size) (u : Unread) → Leaves (block_at size u) (suc (length u.left))
unfolding block_at
block_at-leaves size u = Leaves-bind _ _ _ (sized_number_at-leaves size u) (λ count. bytes_at-back count.0 count.1)

address_at-leaves : (relocations : List Relocation) (size : ℕ) (u : Unread) → Leaves (address_at relocations size u) (suc (length u.left))
unfolding address_at
address_at-leaves relocations size u = Leaves-bind _ _ _ (number_at-back size u) (λ spelled. Leaves-same _ _)

formed_value_at-leaves : (relocations : List Relocation) (e : Encoding) (spec : AttributeSpec) (code : ℕ) (form : Form) (u : Unread) → Leaves (formed_value_at relocations e spec code form u) (suc (length u.left))
unfolding formed_value_at
formed_value_at-leaves relocations e spec code addr u = Leaves-seen _ _ _ (address_at-leaves _ _ u)
formed_value_at-leaves relocations e spec code (indexed_addr size) u = Leaves-seen _ _ _ (sized_number_at-leaves size u)
formed_value_at-leaves relocations e spec code (blocks size) u = Leaves-seen _ _ _ (block_at-leaves size u)
formed_value_at-leaves relocations e spec code exprloc u = Leaves-seen _ _ _ (block_at-leaves variable u)
formed_value_at-leaves relocations e spec code (data_of size) u = Leaves-seen _ _ _ (sized_number_at-leaves size u)
formed_value_at-leaves relocations e spec code sdata u = Leaves-seen _ _ _ (Leaves-more _ _ (sleb_at-leaves u))
formed_value_at-leaves relocations e spec code implicit u = Leaves-same _ _
formed_value_at-leaves relocations e spec code flag_byte u = Leaves-seen _ _ _ (number_at-back 1 u)
formed_value_at-leaves relocations e spec code flag_present u = Leaves-same _ _
formed_value_at-leaves relocations e spec code string u = Leaves-seen _ _ _ (Leaves-more _ _ (text_at-leaves u))
formed_value_at-leaves relocations e spec code (string_elsewhere size) u = Leaves-seen _ _ _ (sized_number_at-leaves size u)
formed_value_at-leaves relocations e spec code (reference size) u = Leaves-seen _ _ _ (sized_number_at-leaves size u)
formed_value_at-leaves relocations e spec code ref_addr u = Leaves-seen _ _ _ (number_at-back _ u)
formed_value_at-leaves relocations e spec code sec_offset u = Leaves-seen _ _ _ (number_at-back 4 u)
formed_value_at-leaves relocations e spec code indexed_location u = Leaves-seen _ _ _ (Leaves-more _ _ (uleb_at-leaves u))
formed_value_at-leaves relocations e spec code indexed_range u = Leaves-seen _ _ _ (Leaves-more _ _ (uleb_at-leaves u))
formed_value_at-leaves relocations e spec code (passed_over size) u = Leaves-seen _ _ _ (bytes_at-back size u)
formed_value_at-leaves relocations e spec code supplementary u = record { fewer = tt }

form_behind-leaves : (most : ℕ) (u : Unread) → Leaves (form_behind most u) (suc (length u.left))
unfolding form_behind
form_behind-leaves zero u = record { fewer = tt }
form_behind-leaves (suc most) u = Leaves-bind (uleb_at u) _ _ (Leaves-more _ _ (uleb_at-leaves u)) (λ code. go (code.0 == DW_FORM_indirect) code (form_behind-leaves most code.1))
  where
    go : (b : Bool) (code : ℕ × Unread) → Leaves (form_behind most code.1) (suc (length (code.1).left))
        → Leaves {A = ℕ} (elim b [ true ↦ form_behind most code.1 | false ↦ (forbid (code.0 == DW_FORM_implicit_const) Malformed >>= λ given. Ok code) ]) (suc (length (code.1).left))
    go true code again = again
    go false code again = Leaves-behind {A = Unit {0}} (forbid _ _) _ _ (λ given. Leaves-same _ _)

form_code_at-leaves : (spec : AttributeSpec) (u : Unread) → Leaves (form_code_at spec u) (suc (length u.left))
unfolding form_code_at
form_code_at-leaves spec u = go (spec.form == DW_FORM_indirect)
  where
    go : (b : Bool) → Leaves {A = ℕ} (elim b [ true ↦ form_behind (length u.left) u | false ↦ Ok (spec.form, u) ]) (suc (length u.left))
    go true = form_behind-leaves (length u.left) u
    go false = Leaves-same _ _

encoded_value_at-leaves : (relocations : List Relocation) (e : Encoding) (spec : AttributeSpec) (u : Unread) → Leaves (encoded_value_at relocations e spec u) (suc (length u.left))
unfolding encoded_value_at
encoded_value_at-leaves relocations e spec u = Leaves-bind (form_code_at spec u) _ _ (form_code_at-leaves spec u) (λ code. go (form_of code.0) code)
  where
    go : (o : Option Form) (code : ℕ × Unread) → Leaves {A = Value} (elim o [ None ↦ Err Malformed | Some form ↦ formed_value_at relocations e spec code.0 form code.1 ]) (suc (length (code.1).left))
    go None code = record { fewer = tt }
    go (Some form) code = formed_value_at-leaves relocations e spec code.0 form code.1

value_at-leaves : (s : Sections) (h : UnitHeader) (spec : AttributeSpec) (u : Unread) → Leaves (value_at s h spec u) (suc (length u.left))
unfolding value_at
value_at-leaves s h spec u = encoded_value_at-leaves (s.relocations Info) (encoding_of h) spec u

attributes_at-leaves : (s : Sections) (h : UnitHeader) (specs : List AttributeSpec) (u : Unread) → Leaves (attributes_at s h specs u) (suc (length u.left))
unfolding attributes_at
attributes_at-leaves s h [] u = Leaves-same _ _
attributes_at-leaves s h (spec ∷ specs) u =
    Leaves-bind _ _ _ (value_at-leaves s h spec u) (λ first. Leaves-bind _ _ _ (attributes_at-leaves s h specs first.1) (λ others. Leaves-same _ _))

declared_entry_at-leaves : (s : Sections) (h : UnitHeader) (offset depth : ℕ) (d : Declaration) (u : Unread) → Leaves (declared_entry_at s h offset depth d u) (suc (length u.left))
unfolding declared_entry_at
declared_entry_at-leaves s h offset depth d u = Leaves-bind _ _ _ (attributes_at-leaves s h d.attributes u) (λ attributes. Leaves-same _ _)

pub entry_at-leaves : (s : Sections) (h : UnitHeader) (table : List Declaration) (depth : ℕ) (u : Unread) → Leaves (entry_at s h table depth u) (length u.left)
unfolding entry_at
entry_at-leaves s h table depth u = Leaves-bind (uleb_at u) _ _ (uleb_at-leaves u) (λ code. go (code.0 == 0) (declaration_of code.0 table) code)
  where
    go : (b : Bool) (o : Option Declaration) (code : ℕ × Unread)
        → Leaves {A = Option Found} (elim b [ true ↦ Ok (None, code.1) | false ↦ elim o [ None ↦ Err Malformed | Some d ↦ declared_entry_at s h u.place depth d code.1 ] ]) (suc (length (code.1).left))
    go true o code = Leaves-same _ _
    go false None code = record { fewer = tt }
    go false (Some d) code = declared_entry_at-leaves s h u.place depth d code.1
