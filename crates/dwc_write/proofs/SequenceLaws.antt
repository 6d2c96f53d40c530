-- The bytes of a sequence as code appends them: its start, and rows that hang on no order and no size.
use Rattle.std.proofs.Common.{◌≡◌, ℕ, ◌+◌, ◌<◌, ◌≤◌, ◌⊎◌, inl, inr, refl, sym, ap, ◌∙◌, arith, List, [], ◌∷◌, ◌++◌, length, length-append}
use Rattle.dwc_base.specs.declared.records.Endian.{Endian}
use Rattle.dwc_base.specs.declared.records.Endian.TheVariants.{Little}
use Rattle.dwc_base.specs.declared.records.Address.{Address}
use Rattle.dwc_base.specs.declared.records.LineRow.{LineRow}
use Rattle.dwc_base.specs.NumberBytes.{uleb_bytes}
use Rattle.dwc_section.specs.SpelledAddresses.{address_bytes, stored}
use Rattle.dwc_unit.specs.SpelledLines.{WrittenSequence, first_row, program_bytes, row_instructions, rows_instructions}
use Rattle.dwc_write.specs.SequenceRelocations.{sequence_bytes, sequence_relocations}
use Rattle.dwc_section.specs.Writers.{address_relocations}
use Rattle.dwc_section.proofs.ReadNumbers.{uleb_bytes-small, number_bytes-length}
use Rattle.dwc_unit.proofs.ReadWritten.{row-bytes, rows-bytes-end, rows-bytes-more}

-- rows have no number of a fixed size
pub rows-plain : (order : Endian) (size : ℕ) (before : LineRow) (rows : List LineRow) (last : ℕ) → program_bytes order size (rows_instructions before rows last) ≡ program_bytes Little 8 (rows_instructions before rows last)
rows-plain order size before [] last = rows-bytes-end order size before last ∙ sym (rows-bytes-end Little 8 before last)
rows-plain order size before (r ∷ rows) last =
    let here : program_bytes order size (row_instructions before r) ≡ program_bytes Little 8 (row_instructions before r) = row-bytes order size before r ∙ sym (row-bytes Little 8 before r) in
    rows-bytes-more order size before r rows last
    ∙ ap (λ bytes. bytes ++ program_bytes order size (rows_instructions r rows last)) here
    ∙ ap (λ bytes. program_bytes Little 8 (row_instructions before r) ++ bytes) (rows-plain order size r rows last)
    ∙ sym (rows-bytes-more Little 8 before r rows last)

-- the length of a set_address, in one byte
start-length : (order : Endian) (size : ℕ) (a : Address) → size < 127 → uleb_bytes (length (2 ∷ address_bytes order size a)) ≡ (size + 1) ∷ []
start-length order size a small =
    let long : length (2 ∷ address_bytes order size a) ≡ size + 1 = omega (arith, number_bytes-length order size (stored a)) in
    ap uleb_bytes long ∙ uleb_bytes-small (size + 1) (omega arith)

pub sequence-bytes : (order : Endian) (size : ℕ) (q : WrittenSequence) → size < 127
    → sequence_bytes order size q ≡ ((0 ∷ (size + 1) ∷ 2 ∷ []) ++ address_bytes order size q.start_address) ++ program_bytes Little 8 (rows_instructions first_row q.rows q.end_offset)
sequence-bytes order size q small =
    rw (rows-plain order size first_row q.rows q.end_offset, start-length order size q.start_address small) refl

pub sequence-relocations : (order : Endian) (size place : ℕ) (q : WrittenSequence) → size < 127 → sequence_relocations order size place q ≡ address_relocations (place + 3) size q.start_address
sequence-relocations order size place q small =
    rw (start-length order size q.start_address small) (ap (λ p. address_relocations p size q.start_address) (omega arith))

pub size-small : (size : ℕ) → (size ≡ 4) ⊎ (size ≡ 8) → size < 127
size-small size (inl e) = omega (arith, e)
size-small size (inr e) = omega (arith, e)

-- the start is no longer than the sequence
pub sequence-front : (order : Endian) (size : ℕ) (q : WrittenSequence) → size < 127 → length ((0 ∷ (size + 1) ∷ 2 ∷ []) ++ address_bytes order size q.start_address) ≤ length (sequence_bytes order size q)
sequence-front order size q small =
    let front = (0 ∷ (size + 1) ∷ 2 ∷ []) ++ address_bytes order size q.start_address in
    let rows = program_bytes Little 8 (rows_instructions first_row q.rows q.end_offset) in
    omega (arith, ap length (sequence-bytes order size q small), length-append front rows)
