-- Instructions of a line program that are spelled are read again: one (`instruction-reads`), and a whole program (`program-read`).
use Rattle.std.proofs.Common.{◌≡◌, ℕ, ◌+◌, ◌^◌, ◌<◌, refl, ap, ◌∙◌, arith, lit<, List, [], ◌∷◌, ◌++◌, append-nil, length, None, Ok}
use Rattle.std.specs.List.{All}
use Rattle.std.proofs.lemmas.Bool.{le-leb}
use Rattle.std.proofs.lemmas.List.Elements.{All-head, All-tail}
use Rattle.dwc_base.specs.declared.records.Endian.{Endian}
use Rattle.dwc_base.specs.Listing.{with_first}
use Rattle.dwc_base.specs.Sections.{Relocation}
use Rattle.dwc_dwarf.specs.LineHeaders.{LineFile, LineHeader, Instruction, special, copy, advance_pc, advance_line, set_file, set_column, negate_stmt, set_basic_block, const_add_pc, fixed_advance_pc, set_prologue_end, set_epilogue_begin, set_isa, end_sequence, set_address, define_file, set_discriminator, unknown, operand_at, file_behind, extended_at, extended_instruction_at, instruction_at, instructions}
use Rattle.dwc_base.specs.Spelling.{unread_at}
use Rattle.dwc_base.specs.NumberBytes.{uleb_bytes}
use Rattle.dwc_section.specs.Spelled.{SpellsAt, block_bytes}
use Rattle.dwc_section.specs.SpelledAddresses.{stored, address_bytes, IsHeld}
use Rattle.dwc_unit.specs.SpelledLines.{file_bytes, instruction_bytes, FitsInstruction, instruction_fields, program_bytes, program_fields}
use Rattle.dwc_section.proofs.ReadNumbers.{number_bytes-length, uleb_bytes-length}
use Rattle.dwc_unit.proofs.ReadParts.{here, behind, last, nothing, seen, part-reads, Spells-number_bytes, Spells-uleb_bytes, Spells-sleb_bytes, Spells-byte, Spells-zero, Spells-text_bytes}
use Rattle.dwc_unit.proofs.ReadValues.{address-reads, All-front, All-back}
use Rattle.dwc_base.proofs.Takes.{Leaves-at}
use Rattle.dwc_dwarf.proofs.TakesValues.{instruction_at-leaves}
use Rattle.dwc_dwarf.proofs.EntryWalk.{instructions-end, instructions-more}

-- a file, behind its name
pub file-rest : (order : Endian) (place : ℕ) (f : LineFile) → f.directory < 2 ^ 64 → SpellsAt order place (file_behind f.name) (uleb_bytes f.directory ++ 0 ∷ 0 ∷ []) f
unfolding file_behind
file-rest order place f small =
    behind _ (here place (Spells-uleb_bytes order f.directory small))
    (behind _ {bs = 0 ∷ []} (here _ (Spells-zero order)) (last _ (here _ (Spells-zero order)) (λ u. refl)))

module _ (rs : List Relocation) (h : LineHeader) (version : h.version ≡ 4) (base : h.opcode_base ≡ 13) where
  -- an extended instruction, from what its opcode and operands read as
  extended-reads : (order : Endian) (place opcode : ℕ) (operands : List ℕ) (i : Instruction) → length operands < 2 ^ 63
      → SpellsAt order (((place + 1) + length (uleb_bytes (length (opcode ∷ operands)))) + 1) (extended_at rs h opcode) operands i
      → SpellsAt order (place + 1) (extended_instruction_at rs h) (block_bytes (opcode ∷ operands)) i
  unfolding extended_instruction_at
  extended-reads order place opcode operands i small inner =
      let at = (place + 1) + length (uleb_bytes (length (opcode ∷ operands))) in
      let read : extended_at rs h opcode (unread_at order (at + 1) operands) ≡ Ok (i, unread_at order ((at + 1) + length operands) []) = rw (append-nil operands) at (inner.reads []) in
      behind _ (here (place + 1) (Spells-uleb_bytes order (length (opcode ∷ operands)) (omega arith)))
      (last _ (part-reads order _ (opcode ∷ operands)) (λ u. rw ((Spells-byte order opcode).reads at operands, read) refl))

  pub instruction-reads : (order : Endian) (place : ℕ) (i : Instruction) → FitsInstruction h.address_size i → All (IsHeld rs) (instruction_fields order h.address_size place i)
      → SpellsAt order place (instruction_at rs h) (instruction_bytes order h.address_size i) i
  unfolding instruction_at operand_at extended_at
  instruction-reads order place (special opcode) fits held = let is = le-leb 13 opcode fits in last _ (here place (Spells-byte order opcode)) (λ u. rw (base, is) refl)
  instruction-reads order place copy fits held = last _ (here place (Spells-byte order 1)) (λ u. rw (base) refl)
  instruction-reads order place (advance_pc n) fits held = behind _ {bs = 2 ∷ []} (here place (Spells-byte order 2)) (rw (base) (seen _ (here _ (Spells-uleb_bytes order n fits))))
  instruction-reads order place (advance_line z) fits held = behind _ {bs = 3 ∷ []} (here place (Spells-byte order 3)) (rw (base) (seen _ (here _ (Spells-sleb_bytes order z fits))))
  instruction-reads order place (set_file n) fits held = behind _ {bs = 4 ∷ []} (here place (Spells-byte order 4)) (rw (base) (seen _ (here _ (Spells-uleb_bytes order n fits))))
  instruction-reads order place (set_column n) fits held = behind _ {bs = 5 ∷ []} (here place (Spells-byte order 5)) (rw (base) (seen _ (here _ (Spells-uleb_bytes order n fits))))
  instruction-reads order place negate_stmt fits held = last _ (here place (Spells-byte order 6)) (λ u. rw (base) refl)
  instruction-reads order place set_basic_block fits held = last _ (here place (Spells-byte order 7)) (λ u. rw (base) refl)
  instruction-reads order place const_add_pc fits held = last _ (here place (Spells-byte order 8)) (λ u. rw (base) refl)
  instruction-reads order place (fixed_advance_pc n) fits held = behind _ {bs = 9 ∷ []} (here place (Spells-byte order 9)) (rw (base) (seen _ (here _ (Spells-number_bytes order 2 n fits))))
  instruction-reads order place set_prologue_end fits held = last _ (here place (Spells-byte order 10)) (λ u. rw (base) refl)
  instruction-reads order place set_epilogue_begin fits held = last _ (here place (Spells-byte order 11)) (λ u. rw (base) refl)
  instruction-reads order place (set_isa n) fits held = behind _ {bs = 12 ∷ []} (here place (Spells-byte order 12)) (rw (base) (seen _ (here _ (Spells-uleb_bytes order n fits))))
  instruction-reads order place end_sequence fits held = behind _ {bs = 0 ∷ []} (here place (Spells-byte order 0)) (rw (base) (extended-reads order place 1 [] end_sequence (lit< tt) nothing))
  instruction-reads order place (set_address a) fits held =
      let long : length (address_bytes order h.address_size a) < 2 ^ 63 = omega (arith, number_bytes-length order h.address_size (stored a), fits.1) in
      behind _ {bs = 0 ∷ []} (here place (Spells-byte order 0)) (rw (base) (extended-reads order place 2 (address_bytes order h.address_size a) (set_address a) long
      (seen set_address (address-reads order rs _ h.address_size a fits.0 (All-head (IsHeld rs) _ [] held)))))
  instruction-reads order place (define_file f) fits held =
      let names = Spells-text_bytes order f.name fits.0.name.plain in
      behind _ {bs = 0 ∷ []} (here place (Spells-byte order 0)) (rw (base) (extended-reads order place 3 (file_bytes f) (define_file f) fits.1
      (rw (version) (behind _ (here _ names) (seen define_file (file-rest order _ f fits.0.directory))))))
  instruction-reads order place (set_discriminator n) fits held =
      behind _ {bs = 0 ∷ []} (here place (Spells-byte order 0)) (rw (base) (extended-reads order place 4 (uleb_bytes n) (set_discriminator n) (omega (arith, uleb_bytes-length 9 n (omega arith)))
      (seen set_discriminator (here _ (Spells-uleb_bytes order n fits)))))
  instruction-reads order place unknown fits held = absurd fits

  -- The instructions of a program that is spelled are those that were given.
  pub program-read : (order : Endian) (is : List Instruction) (place : ℕ) → All (FitsInstruction h.address_size) is → All (IsHeld rs) (program_fields order h.address_size place is)
      → instructions rs h (unread_at order place (program_bytes order h.address_size is)) ≡ record { items = is; fault = None }
  program-read order [] place fits held = instructions-end rs h (unread_at order place []) refl
  program-read order (i ∷ is) place fits held =
      let read = (instruction-reads order place i (All-head (FitsInstruction h.address_size) i is fits) (All-front (IsHeld rs) (instruction_fields order h.address_size place i) _ held)).reads (program_bytes order h.address_size is) in
      let some = Leaves-at read (instruction_at-leaves rs h (unread_at order place (instruction_bytes order h.address_size i ++ program_bytes order h.address_size is))) in
      instructions-more rs h _ _ i (omega (arith, some)) read
      ∙ ap (with_first i) (program-read order is (place + length (instruction_bytes order h.address_size i)) (All-tail (FitsInstruction h.address_size) i is fits) (All-back (IsHeld rs) (instruction_fields order h.address_size place i) _ held))
