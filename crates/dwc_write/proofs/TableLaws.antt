-- A line table of version 4 as code writes it: room for its length, header and sequences, and the length put in.
use Rattle.std.proofs.Common.{◌≡◌, ℕ, ◌+◌, ◌≤◌, refl, ap, ◌∙◌, arith, List, [], ◌∷◌, ◌++◌, append_assoc, length, length-append}
use Rattle.std.specs.Prelude.{◌-◌}
use Rattle.std.specs.List.{All, flat_map}
use Rattle.dwc_base.specs.declared.records.Endian.{Endian}
use Rattle.dwc_base.specs.NumberBytes.{number_bytes}
use Rattle.dwc_base.specs.Outputs.{OutputRelocation}
use Rattle.dwc_section.specs.Spelled.{sized_bytes}
use Rattle.dwc_dwarf.specs.LineHeaders.{LineFile}
use Rattle.dwc_unit.specs.SpelledLines.{WrittenSequence, line_fields_bytes, line_body, line_table_bytes, program_place, sequences_instructions}
use Rattle.dwc_write.specs.SequenceRelocations.{sequence_bytes, sequences_relocations}
use Rattle.dwc_section.specs.Writers.{Writing, appended, overwritten, IsClear}
use Rattle.dwc_section.proofs.ReadNumbers.{number_bytes-length}
use Rattle.dwc_section.proofs.WritesLaws.{appended-twice, length-behind, order-behind, patched}
use Rattle.dwc_write.proofs.ReadRelocations.{clear-between}
use Rattle.dwc_write.proofs.LineRelocations.{sequences-bytes, sequences-rise}

abbrev room : List ℕ
room = 0 ∷ 0 ∷ 0 ∷ 0 ∷ []

-- the header, with room for the length
abbrev pub front : Endian → List ℕ → List ℕ
front order fields = room ++ (number_bytes order 2 4 ++ sized_bytes order fields)

front-length : (order : Endian) (fields : List ℕ) → length (front order fields) ≡ 10 + length fields
front-length order fields =
    omega (arith, number_bytes-length order 2 4, number_bytes-length order 4 (length fields), length-append (number_bytes order 2 4) (sized_bytes order fields), length-append (number_bytes order 4 (length fields)) fields)

-- what stands behind the length
abbrev pub rest : Endian → ℕ → List (List ℕ) → List LineFile → List WrittenSequence → List ℕ
rest order size ds fs qs = number_bytes order 2 4 ++ (sized_bytes order (line_fields_bytes ds fs) ++ flat_map (sequence_bytes order size) qs)

rest-body : (order : Endian) (size : ℕ) (ds : List (List ℕ)) (fs : List LineFile) (qs : List WrittenSequence) → rest order size ds fs qs ≡ line_body order size ds fs (sequences_instructions qs)
rest-body order size ds fs qs = ap (λ bytes. number_bytes order 2 4 ++ (sized_bytes order (line_fields_bytes ds fs) ++ bytes)) (sequences-bytes order size qs)

grouped : (order : Endian) (size : ℕ) (ds : List (List ℕ)) (fs : List LineFile) (qs : List WrittenSequence) → front order (line_fields_bytes ds fs) ++ flat_map (sequence_bytes order size) qs ≡ room ++ rest order size ds fs qs
grouped order size ds fs qs =
    let fields = sized_bytes order (line_fields_bytes ds fs) in
    ap (λ bytes. room ++ bytes) (append_assoc (number_bytes order 2 4) fields (flat_map (sequence_bytes order size) qs))

-- how much header and sequences are
pub table-length : (size : ℕ) (ds : List (List ℕ)) (fs : List LineFile) (qs : List WrittenSequence) (a b : Writing) → b ≡ appended (front a.order (line_fields_bytes ds fs)) [] a
    → length (front a.order (line_fields_bytes ds fs)) + length (flat_map (sequence_bytes b.order size) qs) ≤ length (line_table_bytes a.order size ds fs (sequences_instructions qs))
table-length size ds fs qs a b headed =
    let fields = line_fields_bytes ds fs in
    let order : b.order ≡ a.order = order-behind a b (front a.order fields) [] headed in
    let same = ap (λ o. length (flat_map (sequence_bytes o size) qs)) order in
    let body = line_body a.order size ds fs (sequences_instructions qs) in
    omega (
      arith,
      same,
      ap length (grouped a.order size ds fs qs),
      ap length (rest-body a.order size ds fs qs),
      length-append (front a.order fields) (flat_map (sequence_bytes a.order size) qs),
      length-append (number_bytes a.order 4 (length body)) body,
      number_bytes-length a.order 4 (length body),
    )

module _ (size : ℕ) (ds : List (List ℕ)) (fs : List LineFile) (qs : List WrittenSequence) (a b c : Writing)
    (headed : b ≡ appended (front a.order (line_fields_bytes ds fs)) [] a)
    (filled : c ≡ appended (flat_map (sequence_bytes b.order size) qs) (sequences_relocations b.order size (length b.body) qs) b) where
  abbrev relocations : List OutputRelocation
  relocations = sequences_relocations a.order size (length a.body + program_place ds fs) qs

  -- header and sequences
  written : c ≡ appended (room ++ rest a.order size ds fs qs) relocations a
  written =
      let fields = line_fields_bytes ds fs in
      let order : b.order ≡ a.order = order-behind a b (front a.order fields) [] headed in
      let place : length b.body ≡ length a.body + program_place ds fs = omega (arith, length-behind a b (front a.order fields) [] headed, front-length a.order fields) in
      let step : c ≡ appended (flat_map (sequence_bytes a.order size) qs) relocations b =
      filled ∙ ap (λ o. appended (flat_map (sequence_bytes o size) qs) (sequences_relocations o size (length b.body) qs) b) order
      ∙ ap (λ p. appended (flat_map (sequence_bytes a.order size) qs) (sequences_relocations a.order size p qs) b) place in
      appended-twice a b c (front a.order fields) (flat_map (sequence_bytes a.order size) qs) [] relocations headed step
      ∙ ap (λ bytes. appended bytes relocations a) (grouped a.order size ds fs qs)

  -- no relocation is at the length
  pub table-clear : All (λ r. r.offset + r.size ≤ length a.body) a.relocations → IsClear (length a.body) 4 c.relocations
  table-clear before =
      let at = length a.body + program_place ds fs in
      rw written (clear-between (length a.body) 4 at (at + length (flat_map (sequence_bytes a.order size) qs)) a.relocations relocations before (sequences-rise a.order size at qs) (omega arith))

  pub table-inside : length a.body + 4 ≤ length c.body
  table-inside = omega (arith, length-behind a c (room ++ rest a.order size ds fs qs) relocations written)

  -- with the length put in, they are the table
  pub table-appended : (d : Writing) → d ≡ overwritten (length a.body) (number_bytes c.order 4 (length c.body - (length a.body + 4))) [] c
      → d ≡ appended (line_table_bytes a.order size ds fs (sequences_instructions qs)) (sequences_relocations a.order size (length a.body + program_place ds fs) qs) a
  table-appended d over =
      let body = rest a.order size ds fs qs in
      let order : c.order ≡ a.order = order-behind a c (room ++ body) relocations written in
      let value : length c.body - (length a.body + 4) ≡ length body = omega (arith, length-behind a c (room ++ body) relocations written) in
      let size_bytes = number_bytes c.order 4 (length c.body - (length a.body + 4)) in
      let sized : size_bytes ≡ number_bytes a.order 4 (length body) = ap (λ o. number_bytes o 4 (length c.body - (length a.body + 4))) order ∙ ap (number_bytes a.order 4) value in
      let table : size_bytes ++ body ≡ line_table_bytes a.order size ds fs (sequences_instructions qs) = ap (λ bytes. bytes ++ body) sized ∙ ap (sized_bytes a.order) (rest-body a.order size ds fs qs) in
      patched a c d room size_bytes body relocations refl (number_bytes-length c.order 4 _) written over ∙ ap (λ bytes. appended bytes relocations a) table
