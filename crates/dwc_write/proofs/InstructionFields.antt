-- The fields of the addresses in line programs that are spelled are found where they stand, and their relocations are those of sequences:
-- `instruction-found`, `sequences-related`. They are the same in all versions.
use Rattle.std.proofs.Common.{◌≡◌, ℕ, ◌+◌, ◌^◌, ◌<◌, refl, sym, ap, ◌∙◌, arith, List, [], ◌∷◌, ◌++◌, append_assoc, append-nil, length, map}
use Rattle.std.specs.List.{All}
use Rattle.std.proofs.lemmas.List.{map-append}
use Rattle.std.proofs.lemmas.List.Elements.{All-head, All-tail, filter_map-append}
use Rattle.dwc_base.specs.declared.records.Endian.{Endian}
use Rattle.dwc_base.specs.declared.records.Address.{Address}
use Rattle.dwc_base.specs.declared.records.Address.TheVariants.{Constant, Symbol}
use Rattle.dwc_base.specs.Sections.{Relocation}
use Rattle.dwc_dwarf.specs.LineHeaders.{LineHeader, Instruction, special, copy, advance_pc, advance_line, set_file, set_column, negate_stmt, set_basic_block, const_add_pc, fixed_advance_pc, set_prologue_end, set_epilogue_begin, set_isa, end_sequence, set_address, define_file, set_discriminator, unknown}
use Rattle.dwc_output.specs.Fields.{Field, an_address, field_of_instruction, fields_of_instructions, relocation_of, relocations_of_fields}
use Rattle.dwc_base.specs.Spelling.{unread_at}
use Rattle.dwc_base.specs.NumberBytes.{uleb_bytes}
use Rattle.dwc_section.specs.SpelledAddresses.{AddressField, address_bytes, stored, IsHeld}
use Rattle.dwc_unit.specs.SpelledLines.{FitsInstruction, instruction_bytes, instruction_fields, program_bytes, program_fields, WrittenSequence, first_row, sequence_instructions, sequences_instructions}
use Rattle.dwc_write.specs.SequenceRelocations.{sequence_bytes, sequence_relocations, sequences_relocations}
use Rattle.dwc_section.specs.Writers.{address_relocations}
use Rattle.dwc_section.proofs.ReadNumbers.{number_bytes-length}
use Rattle.dwc_unit.proofs.ReadParts.{Spells-uleb_bytes}
use Rattle.dwc_unit.proofs.ReadValues.{All-front, All-back}
use Rattle.dwc_unit.proofs.RowFields.{rows-none, at_places-append}
use Rattle.dwc_write.proofs.ReadPathProgram.{IsPlain, plain-instruction-reads}

-- ---- instructions that define no file

-- the field of an address, as it is found
abbrev pub field_held : AddressField → Field
field_held f = record { offset = f.offset; size = f.size; held = an_address f.address }

module _ (rs : List Relocation) (h : LineHeader) (base : h.opcode_base ≡ 13) (order : Endian) where
  instruction-found : (place : ℕ) (i : Instruction) (rest : List ℕ) → FitsInstruction h.address_size i → field_of_instruction h (unread_at order place (instruction_bytes order h.address_size i ++ rest)) i ≡ map field_held (instruction_fields order h.address_size place i)
  instruction-found place (set_address a) rest fits =
      let address = address_bytes order h.address_size a in
      let sized = uleb_bytes (length (2 ∷ address)) in
      let long : length (2 ∷ address) < 2 ^ 64 = omega (arith, number_bytes-length order h.address_size (stored a), fits.1) in
      let read = (Spells-uleb_bytes order (length (2 ∷ address)) long).reads (place + 1) ((2 ∷ address) ++ rest) in
      rw (append_assoc sized (2 ∷ address) rest, field_of_instruction, read) refl
  instruction-found place (special opcode) rest fits = refl
  instruction-found place copy rest fits = refl
  instruction-found place (advance_pc n) rest fits = refl
  instruction-found place (advance_line z) rest fits = refl
  instruction-found place (set_file n) rest fits = refl
  instruction-found place (set_column n) rest fits = refl
  instruction-found place negate_stmt rest fits = refl
  instruction-found place set_basic_block rest fits = refl
  instruction-found place const_add_pc rest fits = refl
  instruction-found place (fixed_advance_pc n) rest fits = refl
  instruction-found place set_prologue_end rest fits = refl
  instruction-found place set_epilogue_begin rest fits = refl
  instruction-found place (set_isa n) rest fits = refl
  instruction-found place end_sequence rest fits = refl
  instruction-found place (define_file f) rest fits = refl
  instruction-found place (set_discriminator n) rest fits = refl
  instruction-found place unknown rest fits = refl

  pub instructions-found : (is : List Instruction) (place : ℕ) → All (FitsInstruction h.address_size) is → All IsPlain is → All (IsHeld rs) (program_fields order h.address_size place is)
      → fields_of_instructions rs h is (unread_at order place (program_bytes order h.address_size is)) ≡ map field_held (program_fields order h.address_size place is)
  unfolding fields_of_instructions
  instructions-found [] place fits plain held = refl
  instructions-found (i ∷ is) place fits plain held =
      let bytes = instruction_bytes order h.address_size i in
      let rest = program_bytes order h.address_size is in
      let fields = instruction_fields order h.address_size place i in
      let here = All-head (FitsInstruction h.address_size) i is fits in
      let field = instruction-found place i rest here in
      let read = (plain-instruction-reads rs h base order place i here (All-head IsPlain i is plain) (All-front (IsHeld rs) fields _ held)).reads rest in
      let more = instructions-found is (place + length bytes) (All-tail (FitsInstruction h.address_size) i is fits) (All-tail IsPlain i is plain) (All-back (IsHeld rs) fields _ held) in
      rw (field, read, more) (sym (map-append field_held fields (program_fields order h.address_size (place + length bytes) is)))

-- ---- their relocations

address-related : (place size : ℕ) (a : Address) → relocations_of_fields (map field_held (record { offset = place; size = size; address = a } ∷ [])) ≡ address_relocations place size a
address-related place size (Constant n) = refl
address-related place size (Symbol symbol addend) = refl

related-both : (fs gs : List AddressField) → relocations_of_fields (map field_held (fs ++ gs)) ≡ relocations_of_fields (map field_held fs) ++ relocations_of_fields (map field_held gs)
related-both fs gs = ap relocations_of_fields (map-append field_held fs gs) ∙ filter_map-append (λ f. relocation_of f.offset f.size f.held) (map field_held fs) (map field_held gs)

sequence-related : (order : Endian) (size place : ℕ) (q : WrittenSequence) → relocations_of_fields (map field_held (program_fields order size place (sequence_instructions q))) ≡ sequence_relocations order size place q
sequence-related order size place q =
    let start = instruction_fields order size place (set_address q.start_address) in
    let none = rows-none order size first_row q.rows q.end_offset (place + length (instruction_bytes order size (set_address q.start_address))) in
    let alone : program_fields order size place (sequence_instructions q) ≡ start = ap (λ fs. start ++ fs) none ∙ append-nil start in
    ap (λ fs. relocations_of_fields (map field_held fs)) alone ∙ address-related _ size q.start_address

pub sequences-related : (order : Endian) (size : ℕ) (qs : List WrittenSequence) (place : ℕ) → relocations_of_fields (map field_held (program_fields order size place (sequences_instructions qs))) ≡ sequences_relocations order size place qs
sequences-related order size [] place = refl
sequences-related order size (q ∷ qs) place =
    let first = program_fields order size place (sequence_instructions q) in
    let others = program_fields order size (place + length (sequence_bytes order size q)) (sequences_instructions qs) in
    ap (λ fs. relocations_of_fields (map field_held fs)) (at_places-append (instruction_bytes order size) (instruction_fields order size) (sequence_instructions q) (sequences_instructions qs) place)
    ∙ related-both first others
    ∙ ap (λ rs. rs ++ relocations_of_fields (map field_held others)) (sequence-related order size place q)
    ∙ ap (λ rs. sequence_relocations order size place q ++ rs) (sequences-related order size qs (place + length (sequence_bytes order size q)))
