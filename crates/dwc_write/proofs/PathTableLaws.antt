-- A line table of version 5 as code writes it: the fields of its header, the header, and the length put in front of what has it.
use Rattle.std.proofs.Common.{◌≡◌, ℕ, ◌+◌, ◌≤◌, refl, sym, ap, subst, ◌∙◌, arith, List, [], ◌∷◌, ◌++◌, append_assoc, length, length-append, Ok, Err}
use Rattle.std.specs.Prelude.{◌-◌, Result}
use Rattle.std.specs.List.{All, flat_map}
use Rattle.dwc_base.specs.declared.records.Endian.{Endian}
use Rattle.dwc_base.specs.NumberBytes.{number_bytes}
use Rattle.dwc_base.specs.Outputs.{OutputRelocation}
use Rattle.dwc_dwarf.specs.LineHeaders.{LineFile}
use Rattle.dwc_output.specs.Versions.{files_written}
use Rattle.dwc_section.specs.declared.error.WriteError.{WriteError}
use Rattle.dwc_section.specs.Spelled.{sized_bytes}
use Rattle.dwc_section.specs.Writers.{Writing, Writes, Refuses, IsClear, appended, overwritten}
use Rattle.dwc_section.proofs.ReadNumbers.{number_bytes-length}
use Rattle.dwc_section.proofs.WritesLaws.{order-behind, length-behind, patched, first-refused}
use Rattle.dwc_unit.specs.SpelledLines.{standard_counts, WrittenSequence, sequences_instructions}
use Rattle.dwc_write.specs.SequenceRelocations.{sequence_bytes, sequences_relocations}
use Rattle.dwc_write.specs.PathTables.{path_directories_bytes, path_files_bytes, path_fields_bytes, path_table_body, path_table_bytes, path_program_place, names_relocations, path_table_relocations}
use Rattle.dwc_write.specs.PathViews.{directories_relocations_at, files_relocations_at, fields_relocations_at, path_front}
use Rattle.dwc_write.proofs.PathWrites.{put-then, writes-same}
use Rattle.dwc_write.proofs.LineRelocations.{fields-rise, fields-at, path-table-rise, sequences-bytes}
use Rattle.dwc_write.proofs.ReadRelocations.{clear-between}

abbrev pub room : List ℕ
room = 0 ∷ 0 ∷ 0 ∷ 0 ∷ []

-- how instructions are spelled
abbrev pub spelling : List ℕ
spelling = 1 ∷ 1 ∷ 1 ∷ 251 ∷ 14 ∷ 13 ∷ standard_counts

module _ (texts : List (List ℕ)) (own : List ℕ) (directories : List (List ℕ)) (files : List LineFile) where
  -- ---- the fields

  pub fields-written : (a b w c : Writing) (result : Result (Unit {0}) WriteError) → b ≡ appended spelling [] a
      → w ≡ appended (path_directories_bytes b.order texts (own ∷ directories)) (directories_relocations_at b.order texts (length b.body) (own ∷ directories)) b
      → Writes w c result (path_files_bytes w.order texts (files_written 5 files)) (files_relocations_at w.order texts (length w.body) (files_written 5 files))
      → Writes a c result (path_fields_bytes a.order texts own directories files) (fields_relocations_at a.order texts (length a.body) own directories files)
  fields-written a b w c result first second third =
      let names = own ∷ directories in
      let written = files_written 5 files in
      let bytes = path_directories_bytes a.order texts names in
      let two : w ≡ appended (spelling ++ bytes) (directories_relocations_at a.order texts (length a.body + 18) names) a = put-then (λ o. path_directories_bytes o texts names) (λ o p. directories_relocations_at o texts p names) a b w spelling [] (Ok tt) first second in
      let all = put-then (λ o. path_files_bytes o texts written) (λ o p. files_relocations_at o texts p written) a w c (spelling ++ bytes) (directories_relocations_at a.order texts (length a.body + 18) names) result two third in
      let p : ℕ = length a.body + length (spelling ++ bytes) in
      let place : p ≡ length a.body + (18 + length bytes) = omega (arith, length-append spelling bytes) in
      writes-same a c result _ _ _ _ (append_assoc spelling bytes (path_files_bytes a.order texts written)) (ap (λ q. directories_relocations_at a.order texts (length a.body + 18) names ++ files_relocations_at a.order texts q written) place) all

  -- ---- the fields behind their length

  pub sized-joined : (a b c : Writing) → b ≡ appended room [] a → c ≡ appended (path_fields_bytes b.order texts own directories files) (fields_relocations_at b.order texts (length b.body) own directories files) b
      → c ≡ appended (room ++ path_fields_bytes a.order texts own directories files) (fields_relocations_at a.order texts (length a.body + 4) own directories files) a
  sized-joined a b c first second = put-then (λ o. path_fields_bytes o texts own directories files) (λ o p. fields_relocations_at o texts p own directories files) a b c room [] (Ok tt) first second

  pub sized-clear : (a b c : Writing) → b ≡ appended room [] a → c ≡ appended (path_fields_bytes b.order texts own directories files) (fields_relocations_at b.order texts (length b.body) own directories files) b
      → All (λ r. r.offset + r.size ≤ length a.body) a.relocations → IsClear (length a.body) 4 c.relocations
  sized-clear a b c first second before =
      let joined = sized-joined a b c first second in
      let all = clear-between (length a.body) 4 (length a.body + 4) _ a.relocations (fields_relocations_at a.order texts (length a.body + 4) own directories files) before (fields-rise a.order texts (length a.body + 4) own directories files) (omega arith) in
      subst (λ (w : Writing). IsClear (length a.body) 4 w.relocations) (sym joined) all

  pub sized-appended : (a b c d : Writing) → b ≡ appended room [] a → c ≡ appended (path_fields_bytes b.order texts own directories files) (fields_relocations_at b.order texts (length b.body) own directories files) b
      → d ≡ overwritten (length a.body) (number_bytes c.order 4 (length c.body - (length a.body + 4))) [] c
      → d ≡ appended (sized_bytes a.order (path_fields_bytes a.order texts own directories files)) (fields_relocations_at a.order texts (length a.body + 4) own directories files) a
  sized-appended a b c d first second over =
      let body = path_fields_bytes a.order texts own directories files in
      let relocations = fields_relocations_at a.order texts (length a.body + 4) own directories files in
      let joined = sized-joined a b c first second in
      let order : c.order ≡ a.order = order-behind a c (room ++ body) relocations joined in
      let value : length c.body - (length a.body + 4) ≡ length body = omega (arith, length-behind a c (room ++ body) relocations joined) in
      let sized = ap (λ o. number_bytes o 4 (length c.body - (length a.body + 4))) order ∙ ap (number_bytes a.order 4) value in
      patched a c d room _ body relocations refl (number_bytes-length c.order 4 _) joined over ∙ ap (λ bytes. appended (bytes ++ body) relocations a) sized

  -- ---- the header

  pub header-written : (size : ℕ) (a b v w c : Writing) (result : Result (Unit {0}) WriteError) → b ≡ appended room [] a → v ≡ appended (number_bytes b.order 2 5) [] b → w ≡ appended (size ∷ 0 ∷ []) [] v
      → Writes w c result (sized_bytes w.order (path_fields_bytes w.order texts own directories files)) (fields_relocations_at w.order texts (length w.body + 4) own directories files)
      → Writes a c result (path_front a.order size (path_fields_bytes a.order texts own directories files)) (names_relocations a.order texts (length a.body) own directories files)
  header-written size a b v w c result first second third fourth =
      let version = number_bytes a.order 2 5 in
      let rest = sized_bytes a.order (path_fields_bytes a.order texts own directories files) in
      let two : v ≡ appended (room ++ version) [] a = put-then (λ o. number_bytes o 2 5) (λ o p. []) a b v room [] (Ok tt) first second in
      let three : w ≡ appended ((room ++ version) ++ (size ∷ 0 ∷ [])) [] a = put-then (λ o. size ∷ 0 ∷ []) (λ o p. []) a v w (room ++ version) [] (Ok tt) two third in
      let all = put-then (λ o. sized_bytes o (path_fields_bytes o texts own directories files)) (λ o p. fields_relocations_at o texts (p + 4) own directories files) a w c ((room ++ version) ++ (size ∷ 0 ∷ [])) [] result three fourth in
      let place : (length a.body + length ((room ++ version) ++ (size ∷ 0 ∷ []))) + 4 ≡ length a.body + 12 = omega (arith, length-append (room ++ version) (size ∷ 0 ∷ []), length-append room version, number_bytes-length a.order 2 5) in
      writes-same a c result _ _ _ _ (append_assoc (room ++ version) (size ∷ 0 ∷ []) rest ∙ append_assoc room version ((size ∷ 0 ∷ []) ++ rest)) (fields-at a.order texts _ (length a.body) own directories files place) all

  -- ---- the table

  front-length : (order : Endian) (size : ℕ) → length (path_front order size (path_fields_bytes order texts own directories files)) ≡ path_program_place order texts own directories files
  front-length order size =
      let fields = path_fields_bytes order texts own directories files in
      omega (arith, number_bytes-length order 2 5, number_bytes-length order 4 (length fields), length-append (number_bytes order 2 5) ((size ∷ 0 ∷ []) ++ sized_bytes order fields), length-append (number_bytes order 4 (length fields)) fields)

  grouped : (order : Endian) (size : ℕ) (qs : List WrittenSequence) → path_front order size (path_fields_bytes order texts own directories files) ++ flat_map (sequence_bytes order size) qs ≡ room ++ path_table_body order size texts own directories files (sequences_instructions qs)
  grouped order size qs =
      let fields = sized_bytes order (path_fields_bytes order texts own directories files) in
      let rest = flat_map (sequence_bytes order size) qs in
      ap (λ bytes. room ++ bytes) (append_assoc (number_bytes order 2 5) ((size ∷ 0 ∷ []) ++ fields) rest)
      ∙ ap (λ bytes. room ++ (number_bytes order 2 5 ++ ((size ∷ 0 ∷ []) ++ (fields ++ bytes)))) (sequences-bytes order size qs)
      ∙ ap (λ bytes. room ++ (number_bytes order 2 5 ++ ((size ∷ 0 ∷ []) ++ bytes))) (append_assoc (number_bytes order 4 (length (path_fields_bytes order texts own directories files))) (path_fields_bytes order texts own directories files) _ ∙ sym (append_assoc (number_bytes order 4 (length (path_fields_bytes order texts own directories files))) (path_fields_bytes order texts own directories files) _))

  module _ (size : ℕ) (qs : List WrittenSequence) (a b : Writing) (headed : b ≡ appended (path_front a.order size (path_fields_bytes a.order texts own directories files)) (names_relocations a.order texts (length a.body) own directories files) a) where
    pub table-refused : (now : Writing) (result : Result (Unit {0}) WriteError) (e : WriteError) → ((error : WriteError) × (result ≡ Err error) × (error ≡ e)) → Refuses e b (length (flat_map (sequence_bytes b.order size) qs))
        → Writes a now result (path_table_bytes a.order size texts own directories files (sequences_instructions qs)) (path_table_relocations a.order size (length a.body) texts own directories files qs)
    table-refused now result e p refused =
        let fields = path_fields_bytes a.order texts own directories files in
        let body = path_table_body a.order size texts own directories files (sequences_instructions qs) in
        let all = put-then (λ o. flat_map (sequence_bytes o size) qs) (λ o q. []) a b now (path_front a.order size fields) (names_relocations a.order texts (length a.body) own directories files) (Err e) headed refused in
        first-refused result e a now (path_table_bytes a.order size texts own directories files (sequences_instructions qs)) (path_table_relocations a.order size (length a.body) texts own directories files qs) _ p all
        (omega (arith, ap length (grouped a.order size qs), length-append (number_bytes a.order 4 (length body)) body, number_bytes-length a.order 4 (length body)))

    module _ (c : Writing) (filled : c ≡ appended (flat_map (sequence_bytes b.order size) qs) (sequences_relocations b.order size (length b.body) qs) b) where
      written : c ≡ appended (room ++ path_table_body a.order size texts own directories files (sequences_instructions qs)) (path_table_relocations a.order size (length a.body) texts own directories files qs) a
      written =
          let fields = path_fields_bytes a.order texts own directories files in
          let names = names_relocations a.order texts (length a.body) own directories files in
          let all = put-then (λ o. flat_map (sequence_bytes o size) qs) (λ o p. sequences_relocations o size p qs) a b c (path_front a.order size fields) names (Ok tt) headed filled in
          all ∙ ap (λ bytes. appended bytes (names ++ sequences_relocations a.order size (length a.body + length (path_front a.order size fields)) qs) a) (grouped a.order size qs)
          ∙ ap (λ n. appended (room ++ path_table_body a.order size texts own directories files (sequences_instructions qs)) (names ++ sequences_relocations a.order size (length a.body + n) qs) a) (front-length a.order size)

      -- no relocation is at the length
      pub table-clear : All (λ r. r.offset + r.size ≤ length a.body) a.relocations → IsClear (length a.body) 4 c.relocations
      table-clear before =
          let all = clear-between (length a.body) 4 (length a.body + 12) _ a.relocations (path_table_relocations a.order size (length a.body) texts own directories files qs) before (path-table-rise a.order size (length a.body) texts own directories files qs) (omega arith) in
          subst (λ (w : Writing). IsClear (length a.body) 4 w.relocations) (sym written) all

      -- with the length put in, they are the table
      pub table-appended : (d : Writing) → d ≡ overwritten (length a.body) (number_bytes c.order 4 (length c.body - (length a.body + 4))) [] c
          → d ≡ appended (path_table_bytes a.order size texts own directories files (sequences_instructions qs)) (path_table_relocations a.order size (length a.body) texts own directories files qs) a
      table-appended d over =
          let body = path_table_body a.order size texts own directories files (sequences_instructions qs) in
          let relocations = path_table_relocations a.order size (length a.body) texts own directories files qs in
          let order : c.order ≡ a.order = order-behind a c (room ++ body) relocations written in
          let value : length c.body - (length a.body + 4) ≡ length body = omega (arith, length-behind a c (room ++ body) relocations written) in
          let sized = ap (λ o. number_bytes o 4 (length c.body - (length a.body + 4))) order ∙ ap (number_bytes a.order 4) value in
          patched a c d room _ body relocations refl (number_bytes-length c.order 4 _) written over
          ∙ ap (λ bytes. appended (bytes ++ body) relocations a) sized
