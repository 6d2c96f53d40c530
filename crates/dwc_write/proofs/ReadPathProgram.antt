-- Programs that define no file are read again under a header of any version: `plain-instruction-reads` and `plain-program-read`. What the
-- effects of sequences are: `sequences-checked`.
use Rattle.std.proofs.Common.{◌≡◌, ℕ, ◌+◌, ◌^◌, ◌<◌, refl, ap, ◌∙◌, arith, lit<, List, [], ◌∷◌, ◌++◌, append-nil, length, map, Option, Some, None, Ok, Bool, true, false, ltb}
use Rattle.std.specs.List.{All, flat_map, list_all, filter_map}
use Rattle.std.proofs.lemmas.Bool.{le-leb, lt-ltb, le-ltb, and_from}
use Rattle.std.proofs.lemmas.List.{map-append}
use Rattle.std.proofs.lemmas.List.Folds.{list_all-append}
use Rattle.std.proofs.lemmas.List.Elements.{All-head, All-tail, All-cons, All-nil}
use Rattle.dwc_base.specs.declared.records.Endian.{Endian}
use Rattle.dwc_base.specs.declared.records.LineRow.{LineRow}
use Rattle.dwc_base.specs.Listing.{with_first}
use Rattle.dwc_base.specs.Sections.{Relocation}
use Rattle.dwc_base.specs.Spelling.{unread_at}
use Rattle.dwc_base.specs.NumberBytes.{uleb_bytes}
use Rattle.dwc_dwarf.specs.LineHeaders.{LineFile, LineHeader, Instruction, special, copy, advance_pc, advance_line, set_file, set_column, negate_stmt, set_basic_block, const_add_pc, fixed_advance_pc, set_prologue_end, set_epilogue_begin, set_isa, end_sequence, set_address, define_file, set_discriminator, unknown, operand_at, extended_at, extended_instruction_at, instruction_at, instructions}
use Rattle.dwc_dwarf.specs.LineRows.{appends, ends, is_in_range, start, row, end, step_of, file_defined}
use Rattle.dwc_section.specs.Spelled.{SpellsAt, block_bytes}
use Rattle.dwc_section.specs.SpelledAddresses.{stored, address_bytes, IsHeld}
use Rattle.dwc_unit.specs.SpelledLines.{instruction_bytes, FitsInstruction, instruction_fields, program_bytes, program_fields, WrittenSequence, registers_at, FitsRow, FitsSequence, sequence_steps}
use Rattle.dwc_section.proofs.ReadNumbers.{number_bytes-length, uleb_bytes-length}
use Rattle.dwc_unit.proofs.ReadParts.{here, behind, last, nothing, seen, part-reads, Spells-number_bytes, Spells-uleb_bytes, Spells-sleb_bytes, Spells-byte}
use Rattle.dwc_unit.proofs.ReadValues.{address-reads, All-front, All-back}
use Rattle.dwc_unit.proofs.ReadRows.{sequence_effects}
use Rattle.dwc_base.proofs.Takes.{Leaves-at}
use Rattle.dwc_dwarf.proofs.TakesValues.{instruction_at-leaves}
use Rattle.dwc_dwarf.proofs.EntryWalk.{instructions-end, instructions-more}

-- an instruction that defines no file
abbrev pub IsPlain : Instruction → Type 0
IsPlain i = file_defined i ≡ None

-- and all of them
pub all-plain : (is : List Instruction) → filter_map file_defined is ≡ [] → All IsPlain is
all-plain [] none = All-nil IsPlain
all-plain (i ∷ is) none = go (file_defined i) refl none (all-plain is)
  where
    front : Option LineFile → List LineFile → List LineFile
    front None xs = xs
    front (Some f) xs = f ∷ xs

    go : (o : Option LineFile) → file_defined i ≡ o → filter_map file_defined (i ∷ is) ≡ [] → (filter_map file_defined is ≡ [] → All IsPlain is) → All IsPlain (i ∷ is)
    go None e none others = All-cons IsPlain i is e (others (rw (e) at none))
    go (Some f) e none others = absurd (cons-nil (rw (e) at none))
      where
        cons-nil : f ∷ filter_map file_defined is ≡ [] → ⊥
        cons-nil h = cc

module _ (rs : List Relocation) (h : LineHeader) (base : h.opcode_base ≡ 13) where
  -- an extended instruction, from what its opcode and operands read as
  plain-extended-reads : (order : Endian) (place opcode : ℕ) (operands : List ℕ) (i : Instruction) → length operands < 2 ^ 63
      → SpellsAt order (((place + 1) + length (uleb_bytes (length (opcode ∷ operands)))) + 1) (extended_at rs h opcode) operands i
      → SpellsAt order (place + 1) (extended_instruction_at rs h) (block_bytes (opcode ∷ operands)) i
  unfolding extended_instruction_at
  plain-extended-reads order place opcode operands i small inner =
      let at = (place + 1) + length (uleb_bytes (length (opcode ∷ operands))) in
      let read : extended_at rs h opcode (unread_at order (at + 1) operands) ≡ Ok (i, unread_at order ((at + 1) + length operands) []) = rw (append-nil operands) at (inner.reads []) in
      behind _ (here (place + 1) (Spells-uleb_bytes order (length (opcode ∷ operands)) (omega arith)))
      (last _ (part-reads order _ (opcode ∷ operands)) (λ u. rw ((Spells-byte order opcode).reads at operands, read) refl))

  pub plain-instruction-reads : (order : Endian) (place : ℕ) (i : Instruction) → FitsInstruction h.address_size i → IsPlain i → All (IsHeld rs) (instruction_fields order h.address_size place i)
      → SpellsAt order place (instruction_at rs h) (instruction_bytes order h.address_size i) i
  unfolding instruction_at operand_at extended_at
  plain-instruction-reads order place (special opcode) fits plain held = let is = le-leb 13 opcode fits in last _ (here place (Spells-byte order opcode)) (λ u. rw (base, is) refl)
  plain-instruction-reads order place copy fits plain held = last _ (here place (Spells-byte order 1)) (λ u. rw (base) refl)
  plain-instruction-reads order place (advance_pc n) fits plain held = behind _ {bs = 2 ∷ []} (here place (Spells-byte order 2)) (rw (base) (seen _ (here _ (Spells-uleb_bytes order n fits))))
  plain-instruction-reads order place (advance_line z) fits plain held = behind _ {bs = 3 ∷ []} (here place (Spells-byte order 3)) (rw (base) (seen _ (here _ (Spells-sleb_bytes order z fits))))
  plain-instruction-reads order place (set_file n) fits plain held = behind _ {bs = 4 ∷ []} (here place (Spells-byte order 4)) (rw (base) (seen _ (here _ (Spells-uleb_bytes order n fits))))
  plain-instruction-reads order place (set_column n) fits plain held = behind _ {bs = 5 ∷ []} (here place (Spells-byte order 5)) (rw (base) (seen _ (here _ (Spells-uleb_bytes order n fits))))
  plain-instruction-reads order place negate_stmt fits plain held = last _ (here place (Spells-byte order 6)) (λ u. rw (base) refl)
  plain-instruction-reads order place set_basic_block fits plain held = last _ (here place (Spells-byte order 7)) (λ u. rw (base) refl)
  plain-instruction-reads order place const_add_pc fits plain held = last _ (here place (Spells-byte order 8)) (λ u. rw (base) refl)
  plain-instruction-reads order place (fixed_advance_pc n) fits plain held = behind _ {bs = 9 ∷ []} (here place (Spells-byte order 9)) (rw (base) (seen _ (here _ (Spells-number_bytes order 2 n fits))))
  plain-instruction-reads order place set_prologue_end fits plain held = last _ (here place (Spells-byte order 10)) (λ u. rw (base) refl)
  plain-instruction-reads order place set_epilogue_begin fits plain held = last _ (here place (Spells-byte order 11)) (λ u. rw (base) refl)
  plain-instruction-reads order place (set_isa n) fits plain held = behind _ {bs = 12 ∷ []} (here place (Spells-byte order 12)) (rw (base) (seen _ (here _ (Spells-uleb_bytes order n fits))))
  plain-instruction-reads order place end_sequence fits plain held = behind _ {bs = 0 ∷ []} (here place (Spells-byte order 0)) (rw (base) (plain-extended-reads order place 1 [] end_sequence (lit< tt) nothing))
  plain-instruction-reads order place (set_address a) fits plain held =
      let long : length (address_bytes order h.address_size a) < 2 ^ 63 = omega (arith, number_bytes-length order h.address_size (stored a), fits.1) in
      behind _ {bs = 0 ∷ []} (here place (Spells-byte order 0)) (rw (base) (plain-extended-reads order place 2 (address_bytes order h.address_size a) (set_address a) long
      (seen set_address (address-reads order rs _ h.address_size a fits.0 (All-head (IsHeld rs) _ [] held)))))
  plain-instruction-reads order place (define_file f) fits plain held = absurd (cc)
  plain-instruction-reads order place (set_discriminator n) fits plain held =
      behind _ {bs = 0 ∷ []} (here place (Spells-byte order 0)) (rw (base) (plain-extended-reads order place 4 (uleb_bytes n) (set_discriminator n) (omega (arith, uleb_bytes-length 9 n (omega arith)))
      (seen set_discriminator (here _ (Spells-uleb_bytes order n fits)))))
  plain-instruction-reads order place unknown fits plain held = absurd fits

  -- The instructions of a program that is spelled are those that were given.
  pub plain-program-read : (order : Endian) (is : List Instruction) (place : ℕ) → All (FitsInstruction h.address_size) is → All IsPlain is → All (IsHeld rs) (program_fields order h.address_size place is)
      → instructions rs h (unread_at order place (program_bytes order h.address_size is)) ≡ record { items = is; fault = None }
  plain-program-read order [] place fits plain held = instructions-end rs h (unread_at order place []) refl
  plain-program-read order (i ∷ is) place fits plain held =
      let first = plain-instruction-reads order place i (All-head (FitsInstruction h.address_size) i is fits) (All-head IsPlain i is plain) (All-front (IsHeld rs) (instruction_fields order h.address_size place i) _ held) in
      let read = first.reads (program_bytes order h.address_size is) in
      let some = Leaves-at read (instruction_at-leaves rs h (unread_at order place (instruction_bytes order h.address_size i ++ program_bytes order h.address_size is))) in
      instructions-more rs h _ _ i (omega (arith, some)) read
      ∙ ap (with_first i) (plain-program-read order is (place + length (instruction_bytes order h.address_size i)) (All-tail (FitsInstruction h.address_size) i is fits) (All-tail IsPlain i is plain) (All-back (IsHeld rs) (instruction_fields order h.address_size place i) _ held))

-- ---- the effects of sequences are in range, and are the steps

rows-in_range : (rows : List LineRow) (last : ℕ) → All FitsRow rows → list_all is_in_range (map (λ r. appends (registers_at r)) rows ++ ends last ∷ []) ≡ true
rows-in_range [] last fits = refl
rows-in_range (r ∷ rows) last fits =
    let here = All-head FitsRow r rows fits in
    let near = lt-ltb r.offset (2 ^ 32) here.offset in
    let some : ltb r.line 0 ≡ false = le-ltb _ _ (omega arith) in
    let low = lt-ltb r.line (2 ^ 32) here.line in
    rw (near, some, low) (rows-in_range rows last (All-tail FitsRow r rows fits))

pub sequences-in_range : (size : ℕ) (qs : List WrittenSequence) → All (FitsSequence size) qs → list_all is_in_range (flat_map sequence_effects qs) ≡ true
sequences-in_range size [] fits = refl
sequences-in_range size (q ∷ qs) fits =
    list_all-append is_in_range (sequence_effects q) (flat_map sequence_effects qs)
    ∙ and_from _ _ (rows-in_range q.rows q.end_offset (All-head (FitsSequence size) q qs fits).rows) (sequences-in_range size qs (All-tail (FitsSequence size) q qs fits))

rows-steps : (rows : List LineRow) (last : ℕ) → last < 2 ^ 32 → map step_of (map (λ r. appends (registers_at r)) rows ++ ends last ∷ []) ≡ map row rows ++ end (Some last) ∷ []
rows-steps [] last low = rw (lt-ltb last (2 ^ 32) low) refl
rows-steps (r ∷ rows) last low = ap (λ xs. row r ∷ xs) (rows-steps rows last low)

pub sequences-steps : (size : ℕ) (qs : List WrittenSequence) → All (FitsSequence size) qs → map step_of (flat_map sequence_effects qs) ≡ flat_map sequence_steps qs
sequences-steps size [] fits = refl
sequences-steps size (q ∷ qs) fits =
    map-append step_of (sequence_effects q) (flat_map sequence_effects qs)
    ∙ ap (λ xs. xs ++ map step_of (flat_map sequence_effects qs)) (ap (λ xs. start q.start_address ∷ xs) (rows-steps q.rows q.end_offset (All-head (FitsSequence size) q qs fits).last))
    ∙ ap (λ xs. sequence_steps q ++ xs) (sequences-steps size qs (All-tail (FitsSequence size) q qs fits))
