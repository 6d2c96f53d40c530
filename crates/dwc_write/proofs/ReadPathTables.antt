-- A line table of version 5 that is spelled is read again. `path-table-read`: the table that a section holds at an offset, whatever stands
-- around it. `path-table-segments`: its segments are the given sequences. `path-own-directory`: its directory 0. `path-file-named`: what the
-- number of a file names is the same as in version 4.
use Rattle.std.proofs.Common.{◌≡◌, ℕ, zero, suc, ◌+◌, ◌^◌, ◌<◌, ◌≤◌, ◌⊎◌, inl, inr, refl, ap, ◌∙◌, arith, lit<, List, [], ◌∷◌, ◌++◌, append_assoc, append-nil, length, length-append, map, drop, None, Ok, true, false, eqb}
use Rattle.std.specs.Prelude.{pos, ◌-ℤ◌, ◌||◌}
use Rattle.std.specs.List.{All, flat_map, list_any, list_all, filter_map}
use Rattle.std.specs.Str.{bytes_eq}
use Rattle.std.proofs.lemmas.Bool.{ne_eqb}
use Rattle.std.proofs.lemmas.List.Elements.{All-head, All-tail, All-cons}
use Rattle.dwc_base.specs.declared.records.Endian.{Endian}
use Rattle.dwc_base.specs.declared.records.LineRow.{LineRow}
use Rattle.dwc_base.specs.declared.section_name.SectionName.TheVariants.{Line, LineStr}
use Rattle.dwc_base.specs.Reading.{Unread}
use Rattle.dwc_base.specs.Sections.{Sections, section_from}
use Rattle.dwc_base.specs.Spelling.{Spells, unread_at}
use Rattle.dwc_base.specs.NumberBytes.{number_bytes, uleb_bytes}
use Rattle.dwc_dwarf.specs.LineHeaders.{LineFile, LineHeader, LineSource, line_source, operations_at, line_names_at, line_fields_at, line_address_size_at, line_header_at, Instruction}
use Rattle.dwc_dwarf.specs.LineRows.{at_sequence_start, effects, is_in_range, step_of, LineStep, LineTable, file_defined, checked_table, table_of, line_table_at, line_table, source_file, named_row, segments}
use Rattle.dwc_dwarf.specs.TreeLaws.{texts_ended}
use Rattle.dwc_output.specs.OwnDirectories.{own_directory_at}
use Rattle.dwc_output.specs.NewWidest.{names_in}
use Rattle.dwc_output.specs.Versions.{files_written}
use Rattle.dwc_section.specs.Spelled.{SpellsAt}
use Rattle.dwc_section.specs.SpelledAddresses.{IsHeld}
use Rattle.dwc_unit.specs.SpelledLines.{standard_counts, FitsFile, FitsSequence, program_bytes, WrittenSequence, sequences_instructions, sequence_steps, read_segment, read_line_table}
use Rattle.dwc_write.specs.PathTables.{place_of_path, AreAmong, path_bytes, path_file_bytes, directory_formats, file_formats, path_directories_bytes, path_files_bytes, path_fields_bytes, path_table_body, path_table_bytes, path_program_place, read_path_header, read_path_table, FitsPaths, FitsPathTable, path_table_fields}
use Rattle.dwc_base.proofs.Spellings.{Spells-bytes}
use Rattle.dwc_section.proofs.ReadNumbers.{number_bytes-length}
use Rattle.dwc_unit.proofs.ReadParts.{here, anywhere, behind, last, then_read, end_read, part-reads, Spells-number_bytes, Spells-byte, Spells-uleb_bytes, Spells-counted}
use Rattle.dwc_unit.proofs.ReadEntries.{sized-reads}
use Rattle.dwc_unit.proofs.ReadValues.{All-front, All-back}
use Rattle.dwc_unit.proofs.ReadRows.{sequences-show}
use Rattle.dwc_unit.proofs.ReadLines.{sequences-segments, sequences-fit}
use Rattle.dwc_write.proofs.ReadPaths.{Holds, Spells-directory_formats, directories-read, files-read, own-read}
use Rattle.dwc_write.proofs.ReadPathProgram.{all-plain, plain-program-read, sequences-in_range, sequences-steps}

-- ---- how many names there are

named-length : (order : Endian) (texts : List (List ℕ)) (names : List (List ℕ)) → length names ≤ length (flat_map (path_bytes order texts) names)
named-length order texts [] = omega arith
named-length order texts (n ∷ ns) = omega (arith, named-length order texts ns, length-append (path_bytes order texts n) (flat_map (path_bytes order texts) ns), number_bytes-length order 4 (place_of_path 0 texts n))

files-length : (order : Endian) (texts : List (List ℕ)) (fs : List LineFile) → length fs ≤ length (flat_map (path_file_bytes order texts) fs)
files-length order texts [] = omega arith
files-length order texts (f ∷ fs) =
    let name = path_bytes order texts f.name in
    omega (arith, files-length order texts fs, length-append (path_file_bytes order texts f) (flat_map (path_file_bytes order texts) fs), length-append name (uleb_bytes f.directory), number_bytes-length order 4 (place_of_path 0 texts f.name))

-- What a short header has is few.
pub record AreFew (own : List ℕ) (directories : List (List ℕ)) (files : List LineFile) : Type 0 where
  pub directories_few : length (own ∷ directories) < 2 ^ 64
  pub files_few : length (files_written 5 files) < 2 ^ 64

few-of : (order : Endian) (texts : List (List ℕ)) (own : List ℕ) (directories : List (List ℕ)) (files : List LineFile) → length (path_fields_bytes order texts own directories files) < 2 ^ 64 → AreFew own directories files
few-of order texts own directories files small =
    let names = flat_map (path_bytes order texts) (own ∷ directories) in
    let given = flat_map (path_file_bytes order texts) (files_written 5 files) in
    let long = lengths (uleb_bytes (length (own ∷ directories))) names (uleb_bytes (length (files_written 5 files))) given in
    record {
      directories_few = omega (arith, small, long, named-length order texts (own ∷ directories));
      files_few = omega (arith, small, long, files-length order texts (files_written 5 files));
    }
  where
    lengths : (a b c d : List ℕ) → length ((1 ∷ 1 ∷ 1 ∷ 251 ∷ 14 ∷ 13 ∷ []) ++ (standard_counts ++ ((directory_formats ++ (a ++ b)) ++ (file_formats ++ (c ++ d))))) ≡ 26 + (length a + (length b + (length c + length d)))
    lengths a b c d = simp (length-append) (omega arith)

-- the files, with the first one twice, are files that fit
written-fit : (files : List LineFile) → All FitsFile files → All FitsFile (files_written 5 files)
written-fit [] fits = fits
written-fit (f ∷ fs) fits = All-cons FitsFile f (f ∷ fs) (All-head FitsFile f fs fits) fits

-- ---- the header

known-size : (size : ℕ) → (size ≡ 4) ⊎ (size ≡ 8) → (eqb size 4 || eqb size 8) ≡ true
known-size size (inl e) = rw (e) refl
known-size size (inr e) = rw (e) refl

module _ (order : Endian) (size : ℕ) (texts : List (List ℕ)) (own : List ℕ) (directories : List (List ℕ)) (files : List LineFile) where
  operations-read : Spells order (operations_at 5) (1 ∷ []) 1
  unfolding operations_at
  operations-read = anywhere (λ place. last _ (here place (Spells-byte order 1)) (λ u. refl))

  pub size-read : (unit_size : ℕ) → (size ≡ 4) ⊎ (size ≡ 8) → Spells order (line_address_size_at 5 unit_size) (size ∷ 0 ∷ []) size
  unfolding line_address_size_at
  size-read unit_size known =
      let is = known-size size known in
      anywhere (λ place. behind _ {bs = size ∷ []} (here place (Spells-byte order size)) (rw (is) (last _ (here _ (Spells-byte order 0)) (λ u. refl))))

  names-read : (s : LineSource) (place : ℕ) → FitsPaths texts → Holds s texts → AreAmong texts (names_in own directories files) → All FitsFile files → AreFew own directories files
      → SpellsAt order place (line_names_at s 5 size) (path_directories_bytes order texts (own ∷ directories) ++ path_files_bytes order texts (files_written 5 files)) (directories, files_written 5 files)
  unfolding line_names_at
  names-read s place paths holds among given few =
      let first = All-front (λ name. list_any (bytes_eq name) texts ≡ true) (own ∷ directories) (map (λ f. f.name) (files_written 5 files)) among in
      let second = All-back (λ name. list_any (bytes_eq name) texts ≡ true) (own ∷ directories) (map (λ f. f.name) (files_written 5 files)) among in
      behind _ (directories-read s size order texts paths holds place own directories first few.directories_few)
      (last _ (files-read s size order texts paths holds _ (files_written 5 files) second (written-fit files given) few.files_few) (λ u. refl))

  fields-read : (s : LineSource) (place : ℕ) (program : Unread) → FitsPaths texts → Holds s texts → AreAmong texts (names_in own directories files) → All FitsFile files → AreFew own directories files
      → line_fields_at s 5 size program (unread_at order place (path_fields_bytes order texts own directories files))
      ≡ Ok (record { version = 5; address_size = size; minimum_instruction_length = 1; default_is_stmt = true; line_base = pos 251 -ℤ pos 256; line_range = 14; opcode_base = 13; standard_opcode_lengths = standard_counts; directories = directories; files = files_written 5 files; program = program })
  unfolding line_fields_at
  fields-read s place program paths holds among given few =
      then_read _ {bs = 1 ∷ []} (here _ (Spells-byte order 1))
      (then_read _ {bs = 1 ∷ []} (here _ operations-read)
      (then_read _ {bs = 1 ∷ []} (here _ (Spells-byte order 1))
      (then_read _ {bs = 251 ∷ []} (here _ (Spells-byte order 251))
      (then_read _ {bs = 14 ∷ []} (here _ (Spells-byte order 14))
      (then_read _ {bs = 13 ∷ []} (here _ (Spells-byte order 13))
      (then_read _ {bs = standard_counts} (here _ (Spells-counted order standard_counts))
      (end_read _ (names-read s _ paths holds among given few) refl)))))))

  -- what is short
  pub record IsShort (is : List Instruction) : Type 0 where
    pub fields_short : length (path_fields_bytes order texts own directories files) < 256 ^ 4
    pub few : AreFew own directories files

  pub short-of : (is : List Instruction) → length (path_table_body order size texts own directories files is) < 0xFFFFFFF0 → IsShort is
  short-of is small =
      let fields = path_fields_bytes order texts own directories files in
      let long = lengths (number_bytes order 2 5) (number_bytes order 4 (length fields)) fields (program_bytes order size is) in
      record { fields_short = omega (arith, small, long); few = few-of order texts own directories files (omega (arith, small, long)) }
    where
      lengths : (a b c d : List ℕ) → length (a ++ ((size ∷ 0 ∷ []) ++ ((b ++ c) ++ d))) ≡ length a + (2 + (length b + (length c + length d)))
      lengths a b c d = simp (length-append) (omega arith)

  -- A header that is spelled is read as it was given, and its program begins behind it.
  pub path-header-read : (s : LineSource) (place unit_size : ℕ) (is : List Instruction) (rest : List ℕ) → (size ≡ 4) ⊎ (size ≡ 8) → FitsPaths texts → Holds s texts → AreAmong texts (names_in own directories files) → All FitsFile files
      → length (path_table_body order size texts own directories files is) < 0xFFFFFFF0
      → line_header_at s unit_size (unread_at order place (path_table_bytes order size texts own directories files is ++ rest)) ≡ Ok (read_path_header order size place texts own directories files is)
  unfolding line_header_at
  path-header-read s place unit_size is rest known paths holds among given small =
      let fields = path_fields_bytes order texts own directories files in
      let program = program_bytes order size is in
      let short = short-of is small in
      let long = number_bytes-length order 4 (length fields) in
      then_read _ (sized-reads order place (path_table_body order size texts own directories files is) small)
      (then_read _ (here _ (Spells-number_bytes order 2 5 (lit< tt)))
      (then_read _ {bs = size ∷ 0 ∷ []} (here _ (size-read unit_size known))
      (rw (append_assoc (number_bytes order 4 (length fields)) fields program)
      (then_read _ (here _ (Spells-number_bytes order 4 (length fields) short.fields_short))
      (then_read _ (part-reads order _ fields)
      (fields-read s _ _ paths holds among given short.few
      ∙ ap (λ p. Ok (with_program (unread_at order p program))) (omega (arith, number_bytes-length order 2 5, long))))))))
    where
      with_program : Unread → LineHeader
      with_program u = record { version = 5; address_size = size; minimum_instruction_length = 1; default_is_stmt = true; line_base = pos 251 -ℤ pos 256; line_range = 14; opcode_base = 13; standard_opcode_lengths = standard_counts; directories = directories; files = files_written 5 files; program = u }

  -- And its directory 0 is the one that was given.
  pub path-own-read : (s : LineSource) (place unit_size : ℕ) (is : List Instruction) (rest : List ℕ) → (size ≡ 4) ⊎ (size ≡ 8) → FitsPaths texts → Holds s texts → AreAmong texts (names_in own directories files)
      → length (path_table_body order size texts own directories files is) < 0xFFFFFFF0
      → own_directory_at s unit_size (unread_at order place (path_table_bytes order size texts own directories files is ++ rest)) ≡ Ok (record { directory = 0; name = own })
  unfolding own_directory_at
  path-own-read s place unit_size is rest known paths holds among small =
      let fields = path_fields_bytes order texts own directories files in
      let program = program_bytes order size is in
      let short = short-of is small in
      let first = All-head (λ name. list_any (bytes_eq name) texts ≡ true) own _ among in
      let some : eqb (length (own ∷ directories)) 0 ≡ false = ne_eqb _ _ (λ e. absurd (omega (arith, e))) in
      let names = path_bytes order texts own in
      let others = flat_map (path_bytes order texts) directories in
      let behind_it = path_files_bytes order texts (files_written 5 files) in
      let count = uleb_bytes (length (own ∷ directories)) in
      then_read _ (sized-reads order place (path_table_body order size texts own directories files is) small)
      (then_read _ (here _ (Spells-number_bytes order 2 5 (lit< tt)))
      (then_read _ {bs = size ∷ 0 ∷ []} (here _ (size-read unit_size known))
      (rw (append_assoc (number_bytes order 4 (length fields)) fields program)
      (then_read _ (here _ (Spells-number_bytes order 4 (length fields) short.fields_short))
      (then_read _ (part-reads order _ fields)
      (then_read _ {bs = 1 ∷ 1 ∷ 1 ∷ 251 ∷ 14 ∷ []} (here _ (Spells-bytes order (1 ∷ 1 ∷ 1 ∷ 251 ∷ 14 ∷ [])))
      (then_read _ {bs = 13 ∷ []} (here _ (Spells-byte order 13))
      (then_read _ {bs = standard_counts} (here _ (Spells-counted order standard_counts))
      (rw (grouped directory_formats count names others behind_it)
      (then_read _ (here _ (Spells-directory_formats order))
      (then_read _ (here _ (Spells-uleb_bytes order (length (own ∷ directories)) short.few.directories_few))
      (rw (some) (then_read _ (own-read s size order texts paths holds _ own first) refl)))))))))))))
    where
      grouped : (a b c d r : List ℕ) → (a ++ (b ++ (c ++ d))) ++ r ≡ a ++ (b ++ (c ++ (d ++ r)))
      grouped a b c d r = simp append_assoc

-- ---- the table

abbrev with_files : LineHeader → List LineFile → List LineStep → LineTable
with_files h files steps = record { header = h; files = files; steps = steps }

module _ (s : Sections) (size : ℕ) (texts : List (List ℕ)) (own : List ℕ) (directories : List (List ℕ)) (files : List LineFile) (qs : List WrittenSequence) (fits : FitsPathTable s.order size texts own directories files qs) (holds : s.bytes LineStr ≡ texts_ended texts) where
  -- A line table that a section holds at an offset, whatever stands around it, is read as it was given.
  pub path-table-read : (base offset : ℕ) (rest : List ℕ)
      → All (IsHeld (s.relocations Line)) (path_table_fields s.order size offset texts own directories files qs)
      → drop offset (s.bytes Line) ≡ path_table_bytes s.order size texts own directories files (sequences_instructions qs) ++ rest
      → line_table s size base offset ≡ Ok (read_path_table s.order size offset texts own directories files qs)
  unfolding line_table line_table_at
  path-table-read base offset rest held stands =
      let is = sequences_instructions qs in
      let h = read_path_header s.order size offset texts own directories files is in
      let written = files_written 5 files in
      let fit = sequences-fit size qs (size-short size fits.size_known) fits.sequences in
      let none = fit.plain in
      let header = path-header-read s.order size texts own directories files (line_source s base) offset size is rest fits.size_known fits.paths holds fits.names fits.each_file fits.short in
      let program = plain-program-read (s.relocations Line) h refl s.order is (offset + path_program_place s.order texts own directories files) fit.all (all-plain is none) held in
      let shown = sequences-show h refl refl size qs fits.sequences in
      let steps : map step_of (effects h (at_sequence_start h) is) ≡ flat_map sequence_steps qs = ap (map step_of) shown ∙ sequences-steps size qs fits.sequences in
      let all : written ++ filter_map file_defined is ≡ written = ap (λ xs. written ++ xs) none ∙ append-nil written in
      let whole : table_of h is ≡ read_path_table s.order size offset texts own directories files qs =
      ap (λ xs. with_files h xs (map step_of (effects h (at_sequence_start h) is))) all ∙ ap (λ xs. with_files h written xs) steps in
      let near : list_all is_in_range (effects h (at_sequence_start h) is) ≡ true = ap (list_all is_in_range) shown ∙ sequences-in_range size qs fits.sequences in
      let checked : checked_table h (record { items = is; fault = None }) ≡ Ok (read_path_table s.order size offset texts own directories files qs) = rw (near, checked_table) (ap Ok whole) in
      rw (stands, header, program, checked) refl
    where
      size-short : (size : ℕ) → (size ≡ 4) ⊎ (size ≡ 8) → size < 2 ^ 63
      size-short size (inl e) = omega (arith, e)
      size-short size (inr e) = omega (arith, e)

  -- The compilation directory that it names.
  pub path-own-directory : (base offset unit_size : ℕ) (rest : List ℕ)
      → drop offset (s.bytes Line) ≡ path_table_bytes s.order size texts own directories files (sequences_instructions qs) ++ rest
      → own_directory_at (line_source s base) unit_size (section_from s Line offset) ≡ Ok (record { directory = 0; name = own })
  path-own-directory base offset unit_size rest stands =
      ap (λ bytes. own_directory_at (line_source s base) unit_size (unread_at s.order offset bytes)) stands
      ∙ path-own-read s.order size texts own directories files (line_source s base) offset unit_size (sequences_instructions qs) rest fits.size_known fits.paths holds fits.names fits.short

-- Its segments are the sequences.
pub path-table-segments : (order : Endian) (size offset : ℕ) (texts : List (List ℕ)) (own : List ℕ) (directories : List (List ℕ)) (files : List LineFile) (qs : List WrittenSequence) → All (FitsSequence size) qs
    → segments (read_path_table order size offset texts own directories files qs) ≡ map (read_segment (read_path_table order size offset texts own directories files qs)) qs
path-table-segments order size offset texts own directories files qs fits = sequences-segments size (read_path_table order size offset texts own directories files qs) qs fits

-- ---- what a row names

-- The file of a number above 0 is the same as in version 4, wherever the tables stand.
pub path-file-named : (order : Endian) (size offset place : ℕ) (texts : List (List ℕ)) (own : List ℕ) (directories : List (List ℕ)) (files : List LineFile) (qs : List WrittenSequence) (n : ℕ) → 0 < n
    → source_file (read_path_table order size offset texts own directories files qs) n ≡ source_file (read_line_table order size place directories files qs) n
path-file-named order size offset place texts own directories files qs zero some = absurd (omega arith)
path-file-named order size offset place texts own directories [] qs (suc n) some = refl
path-file-named order size offset place texts own directories (f ∷ fs) qs (suc n) some = refl

-- a row has a file by its number
abbrev pub HasFile : LineRow → Type 0
HasFile r = 0 < r.file

pub path-rows-named : (order : Endian) (size offset place : ℕ) (texts : List (List ℕ)) (own : List ℕ) (directories : List (List ℕ)) (files : List LineFile) (qs : List WrittenSequence) (rows : List LineRow) → All HasFile rows
    → map (named_row (read_path_table order size offset texts own directories files qs)) rows ≡ map (named_row (read_line_table order size place directories files qs)) rows
path-rows-named order size offset place texts own directories files qs [] some = refl
path-rows-named order size offset place texts own directories files qs (r ∷ rows) some =
    let named = path-file-named order size offset place texts own directories files qs r.file (All-head HasFile r rows some) in
    let others = path-rows-named order size offset place texts own directories files qs rows (All-tail HasFile r rows some) in
    rw (named, others) refl

-- Segments say the same as in version 4.
pub path-segments-named : (order : Endian) (size offset place : ℕ) (texts : List (List ℕ)) (own : List ℕ) (directories : List (List ℕ)) (files : List LineFile) (all qs : List WrittenSequence) → All (λ q. All HasFile q.rows) qs
    → map (read_segment (read_path_table order size offset texts own directories files all)) qs ≡ map (read_segment (read_line_table order size place directories files all)) qs
path-segments-named order size offset place texts own directories files all [] some = refl
path-segments-named order size offset place texts own directories files all (q ∷ qs) some =
    let rows = path-rows-named order size offset place texts own directories files all q.rows (All-head (λ q. All HasFile q.rows) q qs some) in
    let others = path-segments-named order size offset place texts own directories files all qs (All-tail (λ q. All HasFile q.rows) q qs some) in
    rw (rows, others) refl
