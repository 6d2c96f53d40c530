-- A line table of version 4 that is spelled is read again. `line-table-read`: the table that a section holds at an offset,
-- whatever stands around it. `line-table-segments`: its segments are the given sequences.
use Rattle.std.proofs.Common.{◌≡◌, ℕ, suc, ◌+◌, ◌-◌, ◌^◌, ◌<◌, refl, ap, ◌∙◌, arith, lit<, List, [], ◌∷◌, ◌++◌, append_assoc, append-nil, length, length-append, map, drop, Option, Some, None, Ok, Bool, true, false, eqb, ltb}
use Rattle.std.specs.Prelude.{pos, ◌-ℤ◌, int_lt, int_le, ◌==◌, not}
use Rattle.std.specs.List.{All, flat_map, list_all, filter_map}
use Rattle.std.proofs.lemmas.Bool.{lt-ltb, le-ltb, ne_eqb, and_from}
use Rattle.std.proofs.lemmas.List.Folds.{list_all-append}
use Rattle.std.proofs.lemmas.Int.{ints}
use Rattle.std.proofs.lemmas.List.{map-append}
use Rattle.std.proofs.lemmas.List.Elements.{All-head, All-tail, All-cons, All-nil, All-append, All-weaker, filter_map-append}
use Rattle.dwc_base.specs.declared.records.Endian.{Endian}
use Rattle.dwc_base.specs.declared.records.Address.{Address}
use Rattle.dwc_base.specs.declared.records.LineRow.{LineRow}
use Rattle.dwc_base.specs.declared.section_name.SectionName.TheVariants.{Line}
use Rattle.dwc_base.specs.Reading.{Unread, ◌>>=◌, is_64_bit, text_at}
use Rattle.dwc_base.specs.Sections.{Sections}
use Rattle.dwc_dwarf.specs.LineHeaders.{LineFile, LineHeader, directory_at, file_behind, file_at, operations_at, LineSource, line_source, line_names_at, line_fields_at, line_address_size_at, line_header_at, Instruction, copy, advance_pc, advance_line, set_file, set_column, negate_stmt, set_basic_block, set_prologue_end, set_epilogue_begin, set_isa, end_sequence, set_address, set_discriminator}
use Rattle.dwc_dwarf.specs.LineRows.{at_sequence_start, appends, ends, effects, is_in_range, LineStep, start, row, end, step_of, LineTable, file_defined, checked_table, table_of, line_table_at, line_table, named_row, rows_before, stop_behind, segment_if, segments_among, segments}
use Rattle.dwc_base.specs.Spelling.{Spells, unread_at}
use Rattle.dwc_base.specs.NumberBytes.{number_bytes}
use Rattle.dwc_section.specs.Spelled.{SpellsAt, text_bytes}
use Rattle.dwc_section.specs.SpelledAddresses.{IsHeld}
use Rattle.dwc_unit.specs.SpelledLines.{standard_counts, file_bytes, line_fields_bytes, FitsName, FitsFile, FitsInstruction, program_bytes, program_fields, line_body, line_table_bytes, program_place, read_line_header, WrittenSequence, first_row, registers_at, when, differs, row_instructions, rows_instructions, sequences_instructions, FitsRow, FitsSequence, sequence_steps, read_segment, read_line_table}
use Rattle.dwc_base.proofs.Items.{Leaves}
use Rattle.dwc_base.proofs.Takes.{Leaves-bind, Leaves-same, text_at-leaves}
use Rattle.dwc_dwarf.proofs.LineTakes.{directory_at-leaves}
use Rattle.dwc_base.proofs.TakesMore.{Leaves-more, uleb_at-leaves}
use Rattle.dwc_section.proofs.ReadNumbers.{number_bytes-length}
use Rattle.dwc_unit.proofs.ReadParts.{here, anywhere, behind, last, then_read, end_read, part-reads, Spells-number_bytes, Spells-byte, Spells-text_bytes, Spells-counted, Spells-items}
use Rattle.dwc_unit.proofs.ReadEntries.{sized-reads}
use Rattle.dwc_unit.proofs.ReadRows.{sequence_effects, sequences-show}
use Rattle.dwc_unit.proofs.ReadProgram.{file-rest, program-read}

-- ---- the effects of sequences are in range, and are the steps

rows-in_range : (rows : List LineRow) (last : ℕ) → All FitsRow rows → list_all is_in_range (map (λ r. appends (registers_at r)) rows ++ ends last ∷ []) ≡ true
rows-in_range [] last fits = refl
rows-in_range (r ∷ rows) last fits =
    let here = All-head FitsRow r rows fits in
    let near = lt-ltb r.offset (2 ^ 32) here.offset in
    let some : ltb r.line 0 ≡ false = le-ltb _ _ (omega arith) in
    let low = lt-ltb r.line (2 ^ 32) here.line in
    rw (near, some, low) (rows-in_range rows last (All-tail FitsRow r rows fits))

sequences-in_range : (size : ℕ) (qs : List WrittenSequence) → All (FitsSequence size) qs → list_all is_in_range (flat_map sequence_effects qs) ≡ true
sequences-in_range size [] fits = refl
sequences-in_range size (q ∷ qs) fits =
    list_all-append is_in_range (sequence_effects q) (flat_map sequence_effects qs)
    ∙ and_from _ _ (rows-in_range q.rows q.end_offset (All-head (FitsSequence size) q qs fits).rows) (sequences-in_range size qs (All-tail (FitsSequence size) q qs fits))

rows-steps : (rows : List LineRow) (last : ℕ) → last < 2 ^ 32 → map step_of (map (λ r. appends (registers_at r)) rows ++ ends last ∷ []) ≡ map row rows ++ end (Some last) ∷ []
rows-steps [] last low = rw (lt-ltb last (2 ^ 32) low) refl
rows-steps (r ∷ rows) last low = ap (λ xs. row r ∷ xs) (rows-steps rows last low)

sequences-steps : (size : ℕ) (qs : List WrittenSequence) → All (FitsSequence size) qs → map step_of (flat_map sequence_effects qs) ≡ flat_map sequence_steps qs
sequences-steps size [] fits = refl
sequences-steps size (q ∷ qs) fits =
    map-append step_of (sequence_effects q) (flat_map sequence_effects qs)
    ∙ ap (λ xs. xs ++ map step_of (flat_map sequence_effects qs)) (ap (λ xs. start q.start_address ∷ xs) (rows-steps q.rows q.end_offset (All-head (FitsSequence size) q qs fits).last))
    ∙ ap (λ xs. sequence_steps q ++ xs) (sequences-steps size qs (All-tail (FitsSequence size) q qs fits))

-- ---- the segments

rows-before : (t : LineTable) (rows : List LineRow) (last : Option ℕ) (rest : List LineStep) → rows_before t ((map row rows ++ end last ∷ []) ++ rest) ≡ map (named_row t) rows
rows-before t [] last rest = refl
rows-before t (r ∷ rows) last rest = ap (λ xs. named_row t r ∷ xs) (rows-before t rows last rest)

stop-behind : (rows : List LineRow) (last : Option ℕ) (rest : List LineStep) → stop_behind ((map row rows ++ end last ∷ []) ++ rest) ≡ Some last
stop-behind [] last rest = refl
stop-behind (r ∷ rows) last rest = stop-behind rows last rest

segments-behind : (t : LineTable) (rows : List LineRow) (last : Option ℕ) (rest : List LineStep) → segments_among t ((map row rows ++ end last ∷ []) ++ rest) ≡ segments_among t rest
segments-behind t [] last rest = refl
segments-behind t (r ∷ rows) last rest = segments-behind t rows last rest

segment-of : (t : LineTable) (a : Address) (rows : List LineRow) (last : Option ℕ) → 0 < length rows → segment_if a (map (named_row t) rows) (Some last) ≡ Some (record { start = a; rows = map (named_row t) rows; end = last })
segment-of t a [] last some = absurd (omega arith)
segment-of t a (r ∷ rows) last some = refl

-- The segments of sequences are the sequences.
pub sequences-segments : (size : ℕ) (t : LineTable) (qs : List WrittenSequence) → All (FitsSequence size) qs → segments_among t (flat_map sequence_steps qs) ≡ map (read_segment t) qs
sequences-segments size t [] fits = refl
sequences-segments size t (q ∷ qs) fits =
    let some = (All-head (FitsSequence size) q qs fits).some in
    let inner = sequences-segments size t qs (All-tail (FitsSequence size) q qs fits) in
    rw (rows-before t q.rows (Some q.end_offset) (flat_map sequence_steps qs), stop-behind q.rows (Some q.end_offset) (flat_map sequence_steps qs), segment-of t q.start_address q.rows (Some q.end_offset) some, segments-behind t q.rows (Some q.end_offset) (flat_map sequence_steps qs), inner) refl

-- ---- the header

pub file_behind-leaves : (name : List ℕ) (u : Unread) → Leaves (file_behind name u) (suc (length u.left))
unfolding file_behind
file_behind-leaves name u = search (arith, Leaves-bind, Leaves-same, Leaves-more, uleb_at-leaves) depth 9

pub file_at-leaves : (u : Unread) → Leaves (file_at u) (length u.left)
unfolding file_at
file_at-leaves u = Leaves-bind (text_at u) _ _ (text_at-leaves u) (λ name. go (eqb (length name.0) 0) name.0 name.1)
  where
    go : (b : Bool) (name : List ℕ) (v : Unread) → Leaves {A = Option LineFile} (elim b [ true ↦ Ok (None, v) | false ↦ (file_behind name v >>= λ file. Ok (Some file.0, file.1)) ]) (suc (length v.left))
    go true name v = Leaves-same _ _
    go false name v = Leaves-bind (file_behind name v) _ _ (file_behind-leaves name v) (λ file. Leaves-same _ _)

module _ (order : Endian) where
  Spells-directory : (name : List ℕ) → FitsName name → Spells order directory_at (text_bytes name) (Some name)
  unfolding directory_at
  Spells-directory name fits =
      let some : eqb (length name) 0 ≡ false = ne_eqb _ _ (λ e. absurd (omega (arith, fits.some, e))) in
      anywhere (λ place. last _ (here place (Spells-text_bytes order name fits.plain)) (λ u. rw (some) refl))

  directories-end : Spells order directory_at (0 ∷ []) None
  unfolding directory_at
  directories-end = anywhere (λ place. last _ (here place (Spells-text_bytes order [] (All-nil (λ b. 0 < b)))) (λ u. refl))

  Spells-file : (f : LineFile) → FitsFile f → Spells order file_at (file_bytes f) (Some f)
  unfolding file_at
  Spells-file f fits =
      let some : eqb (length f.name) 0 ≡ false = ne_eqb _ _ (λ e. absurd (omega (arith, fits.name.some, e))) in
      anywhere (λ place. behind _ (here place (Spells-text_bytes order f.name fits.name.plain)) (rw (some) (last _ (file-rest order _ f fits.directory) (λ u. refl))))

  files-end : Spells order file_at (0 ∷ []) None
  unfolding file_at
  files-end = anywhere (λ place. last _ (here place (Spells-text_bytes order [] (All-nil (λ b. 0 < b)))) (λ u. refl))

  operations-read : Spells order (operations_at 4) (1 ∷ []) 1
  unfolding operations_at
  operations-read = anywhere (λ place. last _ (here place (Spells-byte order 1)) (λ u. refl))

  names-read : (source : LineSource) (place size : ℕ) (directories : List (List ℕ)) (files : List LineFile) → All FitsName directories → All FitsFile files
      → SpellsAt order place (line_names_at source 4 size) ((flat_map text_bytes directories ++ 0 ∷ []) ++ (flat_map file_bytes files ++ 0 ∷ [])) (directories, files)
  unfolding line_names_at
  names-read source place size directories files named given =
      let inner = Spells-items order directory_at text_bytes (0 ∷ []) directories directory_at-leaves (All-weaker FitsName _ Spells-directory directories named) directories-end in
      let others = Spells-items order file_at file_bytes (0 ∷ []) files file_at-leaves (All-weaker FitsFile _ Spells-file files given) files-end in
      behind _ (here place inner) (last _ (here _ others) (λ u. refl))

  fields-read : (source : LineSource) (place size : ℕ) (directories : List (List ℕ)) (files : List LineFile) (program : Unread) → All FitsName directories → All FitsFile files
      → line_fields_at source 4 size program (unread_at order place (line_fields_bytes directories files))
      ≡ Ok (record { version = 4; address_size = size; minimum_instruction_length = 1; default_is_stmt = true; line_base = pos 251 -ℤ pos 256; line_range = 14; opcode_base = 13; standard_opcode_lengths = standard_counts; directories = directories; files = files; program = program })
  unfolding line_fields_at
  fields-read source place size directories files program named given =
      then_read _ {bs = 1 ∷ []} (here _ (Spells-byte order 1))
      (then_read _ {bs = 1 ∷ []} (here _ operations-read)
      (then_read _ {bs = 1 ∷ []} (here _ (Spells-byte order 1))
      (then_read _ {bs = 251 ∷ []} (here _ (Spells-byte order 251))
      (then_read _ {bs = 14 ∷ []} (here _ (Spells-byte order 14))
      (then_read _ {bs = 13 ∷ []} (here _ (Spells-byte order 13))
      (then_read _ {bs = standard_counts} (here _ (Spells-counted order standard_counts))
      (end_read _ (names-read source _ size directories files named given) refl)))))))

  -- A header that is spelled is read as it was given, and its program begins behind it.
  pub header-read : (source : LineSource) (place size : ℕ) (directories : List (List ℕ)) (files : List LineFile) (is : List Instruction) (rest : List ℕ) → All FitsName directories → All FitsFile files
      → length (line_body order size directories files is) < 0xFFFFFFF0
      → line_header_at source size (unread_at order place (line_table_bytes order size directories files is ++ rest)) ≡ Ok (read_line_header order size place directories files is)
  unfolding line_header_at line_address_size_at
  header-read source place size directories files is rest named given small =
      let fields = line_fields_bytes directories files in
      let program = program_bytes order size is in
      let fits : length fields < 256 ^ 4 = omega (arith, small, lengths (number_bytes order 2 4) (number_bytes order 4 (length fields)) fields program) in
      let long = number_bytes-length order 4 (length fields) in
      then_read _ (sized-reads order place (line_body order size directories files is) small)
      (then_read _ (here _ (Spells-number_bytes order 2 4 (lit< tt)))
      (rw (append_assoc (number_bytes order 4 (length fields)) fields program)
      (then_read _ (here _ (Spells-number_bytes order 4 (length fields) fits))
      (then_read _ (part-reads order _ fields)
      (fields-read source _ size directories files _ named given
      ∙ ap (λ p. Ok (with_program (unread_at order p program))) (omega (arith, number_bytes-length order 2 4, long)))))))
    where
      lengths : (a b c d : List ℕ) → length (a ++ ((b ++ c) ++ d)) ≡ length a + (length b + (length c + length d))
      lengths a b c d = simp (length-append) (omega arith)

      with_program : Unread → LineHeader
      with_program u = record { version = 4; address_size = size; minimum_instruction_length = 1; default_is_stmt = true; line_base = pos 251 -ℤ pos 256; line_range = 14; opcode_base = 13; standard_opcode_lengths = standard_counts; directories = directories; files = files; program = u }

-- ---- instructions of sequences

-- they fit, and define no file
pub record Fit (size : ℕ) (xs : List Instruction) : Type 0 where
  pub all : All (FitsInstruction size) xs
  pub plain : filter_map file_defined xs ≡ []

when-fit : {size : ℕ} (b : Bool) (i : Instruction) {xs : List Instruction} → FitsInstruction size i → file_defined i ≡ None → Fit size xs → Fit size (when b i ++ xs)
when-fit {size} b i {xs} h quiet others = go b
  where
    go : (b : Bool) → Fit size (when b i ++ xs)
    go true = record { all = All-cons (FitsInstruction size) i xs h others.all; plain = rw (quiet) others.plain }
    go false = others

one-fits : {size : ℕ} (i : Instruction) → FitsInstruction size i → file_defined i ≡ None → Fit size (i ∷ [])
one-fits {size} i h quiet = record { all = All-cons (FitsInstruction size) i [] h (All-nil (FitsInstruction size)); plain = rw (quiet) refl }

pub both-fit : {size : ℕ} {xs ys : List Instruction} → Fit size xs → Fit size ys → Fit size (xs ++ ys)
both-fit {size} {xs} {ys} first second = record {
  all = All-append (FitsInstruction size) xs ys first.all second.all;
  plain = let h = first.plain in let k = second.plain in filter_map-append file_defined xs ys ∙ rw (h, k) refl;
}

-- a step of a line between rows fits
line-step : (n m : ℕ) → n < 2 ^ 32 → m < 2 ^ 32 → is_64_bit (pos m -ℤ pos n) ≡ true
line-step n m small less =
    let above : int_lt (pos m -ℤ pos n) (pos 0 -ℤ pos (2 ^ 63)) ≡ false = grind (arith, ints) in
    let below : int_le (pos (2 ^ 63)) (pos m -ℤ pos n) ≡ false = grind (arith, ints) in
    rw (above, below) refl

pub row-fits : (size : ℕ) (before r : LineRow) → before.line < 2 ^ 32 → FitsRow r → Fit size (row_instructions before r)
row-fits size before r line fits =
    when-fit (not (r.discriminator == 0)) (set_discriminator r.discriminator) fits.discriminator refl
    (when-fit r.basic_block set_basic_block tt refl
    (when-fit r.prologue_end set_prologue_end tt refl
    (when-fit r.epilogue_begin set_epilogue_begin tt refl
    (when-fit (differs before.is_stmt r.is_stmt) negate_stmt tt refl
    (when-fit (not (before.file == r.file)) (set_file r.file) fits.file refl
    (when-fit (not (before.column == r.column)) (set_column r.column) fits.column refl
    (when-fit (not (before.isa == r.isa)) (set_isa r.isa) fits.isa refl
    (when-fit (not (before.line == r.line)) (advance_line (pos r.line -ℤ pos before.line)) (line-step before.line r.line line fits.line) refl
    (when-fit (not (before.offset == r.offset)) (advance_pc (r.offset - before.offset)) (omega (arith, fits.offset)) refl
    (one-fits copy tt refl))))))))))

pub rows-fit : (size : ℕ) (rows : List LineRow) (before : LineRow) (last : ℕ) → before.line < 2 ^ 32 → All FitsRow rows → last < 2 ^ 32 → Fit size (rows_instructions before rows last)
rows-fit size [] before last line fits low = when-fit (not (before.offset == last)) (advance_pc (last - before.offset)) (omega (arith, low)) refl (one-fits end_sequence tt refl)
rows-fit size (r ∷ rows) before last line fits low =
    let here = All-head FitsRow r rows fits in
    both-fit (row-fits size before r line here) (rows-fit size rows r last here.line (All-tail FitsRow r rows fits) low)

pub sequences-fit : (size : ℕ) (qs : List WrittenSequence) → size < 2 ^ 63 → All (FitsSequence size) qs → Fit size (sequences_instructions qs)
sequences-fit size [] short fits = record { all = All-nil (FitsInstruction size); plain = refl }
sequences-fit size (q ∷ qs) short fits =
    let here = All-head (FitsSequence size) q qs fits in
    let start : Fit size (set_address q.start_address ∷ []) = one-fits (set_address q.start_address) (here.begin, short) refl in
    both-fit (both-fit start (rows-fit size q.rows first_row q.end_offset (lit< tt) here.rows here.last)) (sequences-fit size qs short (All-tail (FitsSequence size) q qs fits))

-- ---- the table

abbrev with_files : LineHeader → List LineFile → List LineStep → LineTable
with_files h files steps = record { header = h; files = files; steps = steps }

-- A line table that a section holds at an offset, whatever stands around it, is read as it was given.
pub line-table-read : (s : Sections) (size base offset : ℕ) (directories : List (List ℕ)) (files : List LineFile) (qs : List WrittenSequence) (rest : List ℕ)
    → All FitsName directories → All FitsFile files → size < 2 ^ 63 → All (FitsSequence size) qs
    → length (line_body s.order size directories files (sequences_instructions qs)) < 0xFFFFFFF0
    → All (IsHeld (s.relocations Line)) (program_fields s.order size (offset + program_place directories files) (sequences_instructions qs))
    → drop offset (s.bytes Line) ≡ line_table_bytes s.order size directories files (sequences_instructions qs) ++ rest
    → line_table s size base offset ≡ Ok (read_line_table s.order size offset directories files qs)
unfolding line_table line_table_at
line-table-read s size base offset directories files qs rest named given short fits small held stands =
    let is = sequences_instructions qs in
    let h = read_line_header s.order size offset directories files is in
    let fit = sequences-fit size qs short fits in
    let none = fit.plain in
    let header = header-read s.order (line_source s base) offset size directories files is rest named given small in
    let program = program-read (s.relocations Line) h refl refl s.order is (offset + program_place directories files) fit.all held in
    let shown = sequences-show h refl refl size qs fits in
    let steps : map step_of (effects h (at_sequence_start h) is) ≡ flat_map sequence_steps qs = ap (map step_of) shown ∙ sequences-steps size qs fits in
    let all : files ++ filter_map file_defined is ≡ files = ap (λ xs. files ++ xs) none ∙ append-nil files in
    let whole : table_of h is ≡ read_line_table s.order size offset directories files qs =
    ap (λ xs. with_files h xs (map step_of (effects h (at_sequence_start h) is))) all ∙ ap (λ xs. with_files h files xs) steps in
    let near : list_all is_in_range (effects h (at_sequence_start h) is) ≡ true = ap (list_all is_in_range) shown ∙ sequences-in_range size qs fits in
    let checked : checked_table h (record { items = is; fault = None }) ≡ Ok (read_line_table s.order size offset directories files qs) = rw (near, checked_table) (ap Ok whole) in
    rw (stands, header, program, checked) refl

-- and its segments are the sequences
pub line-table-segments : (order : Endian) (size offset : ℕ) (directories : List (List ℕ)) (files : List LineFile) (qs : List WrittenSequence) → All (FitsSequence size) qs
    → segments (read_line_table order size offset directories files qs) ≡ map (read_segment (read_line_table order size offset directories files qs)) qs
line-table-segments order size offset directories files qs fits = sequences-segments size (read_line_table order size offset directories files qs) qs fits
