-- The fields of a line table of version 5 that is spelled are found where they stand, and their relocations are those that are spelled with
-- it. `path-fields-found`: those of names, `path-table-found`: all, `path-names-related` and `path-table-related`: their relocations.
use Rattle.std.proofs.Common.{◌≡◌, ℕ, ◌+◌, ◌-◌, ◌^◌, ◌<◌, ◌⊎◌, refl, ap, ◌∙◌, arith, lit<, List, [], ◌∷◌, ◌++◌, append_assoc, length, length-append, get_or, map, drop, Ok}
use Rattle.std.specs.List.{All, flat_map}
use Rattle.std.proofs.lemmas.List.Elements.{All-head, All-cons, filter_map-append}
use Rattle.dwc_base.specs.declared.records.Endian.{Endian}
use Rattle.dwc_base.specs.declared.section_name.SectionName.TheVariants.{Line, LineStr}
use Rattle.dwc_base.specs.Reading.{◌>>=◌}
use Rattle.dwc_base.specs.Sections.{Sections}
use Rattle.dwc_base.specs.Spelling.{unread_at}
use Rattle.dwc_base.specs.NumberBytes.{number_bytes, uleb_bytes}
use Rattle.dwc_dwarf.specs.LineHeaders.{LineFile, LineSource, line_source, Instruction}
use Rattle.dwc_dwarf.specs.TreeLaws.{texts_ended}
use Rattle.dwc_output.specs.Fields.{Field, offset_in, fields_of_line_table, relocation_of, relocations_of_fields}
use Rattle.dwc_output.specs.PathFields.{entry_paths_at, list_paths_at, header_paths_at, paths_of_line_table}
use Rattle.dwc_output.specs.Versions.{files_written}
use Rattle.dwc_section.specs.Spelled.{SpellsAt, at_places}
use Rattle.dwc_section.specs.SpelledAddresses.{IsHeld}
use Rattle.dwc_unit.specs.SpelledLines.{standard_counts, FitsFile, program_bytes, WrittenSequence, sequences_instructions}
use Rattle.dwc_write.specs.PathTables.{place_of_path, path_bytes, path_file_bytes, directory_formats, file_formats, path_directories_bytes, path_files_bytes, path_fields_bytes, path_table_body, path_table_bytes, path_directories_place, path_files_place, path_program_place, read_path_header, FitsPaths, FitsPathTable, path_table_fields, path_relocations, path_directories_relocations, names_relocations, path_table_relocations}
use Rattle.dwc_base.proofs.Spellings.{Spells-bytes}
use Rattle.dwc_section.proofs.ReadNumbers.{number_bytes-length}
use Rattle.dwc_unit.proofs.ReadParts.{here, behind, last, then_read, end_read, part-reads, Spells-number_bytes, Spells-byte, Spells-uleb_bytes, Spells-counted}
use Rattle.dwc_unit.proofs.ReadEntries.{sized-reads}
use Rattle.dwc_unit.proofs.ReadLines.{sequences-fit}
use Rattle.dwc_write.proofs.ReadFields.{places-related}
use Rattle.dwc_write.proofs.InstructionFields.{field_held, instructions-found, sequences-related}
use Rattle.dwc_write.proofs.ReadPaths.{Holds, path_format, directory_format, Spells-directory_formats, Spells-file_formats, counted-reads, path-value, directory-value}
use Rattle.dwc_write.proofs.ReadPathProgram.{all-plain, plain-program-read}
use Rattle.dwc_write.proofs.ReadPathTables.{size-read, short-of, path-header-read}

-- ---- the fields of names

abbrev pub path_field : List (List ℕ) → ℕ → List ℕ → List Field
path_field texts place name = record { offset = place; size = 4; held = offset_in LineStr (place_of_path 0 texts name) } ∷ []

abbrev pub directories_fields : Endian → List (List ℕ) → ℕ → List (List ℕ) → List Field
directories_fields order texts place names = at_places (path_bytes order texts) (path_field texts) place names

abbrev pub files_fields : Endian → List (List ℕ) → ℕ → List LineFile → List Field
files_fields order texts place files = at_places (path_file_bytes order texts) (λ p f. path_field texts p f.name) place files

-- those of a table at a place
abbrev pub names_fields : Endian → List (List ℕ) → ℕ → List ℕ → List (List ℕ) → List LineFile → List Field
names_fields order texts place own directories files =
    directories_fields order texts (place + path_directories_place directories) (own ∷ directories)
    ++ files_fields order texts (place + path_files_place order texts own directories files) (files_written 5 files)

-- ---- reading them

flattened : {A X : Type 0} (spell : A → List ℕ) (at : ℕ → A → List X) (xs : List A) (place : ℕ) → flat_map (λ fs. fs) (at_places spell (λ p x. at p x ∷ []) place xs) ≡ at_places spell at place xs
flattened spell at [] place = refl
flattened spell at (x ∷ xs) place = ap (λ ys. at place x ++ ys) (flattened spell at xs (place + length (spell x)))

module _ (s : LineSource) (size : ℕ) (order : Endian) (texts : List (List ℕ)) (fits : FitsPaths texts) (holds : Holds s texts) where
  directory-paths : (place : ℕ) (name : List ℕ) → SpellsAt order place (entry_paths_at s size (path_format ∷ [])) (path_bytes order texts name) (path_field texts place name)
  unfolding entry_paths_at
  directory-paths place name = record { reads = λ rest. let read = (path-value s size order texts fits holds place name).reads rest in rw (read) refl }

  file-paths : (place : ℕ) (f : LineFile) → f.directory < 2 ^ 64 → SpellsAt order place (entry_paths_at s size (path_format ∷ directory_format ∷ [])) (path_file_bytes order texts f) (path_field texts place f.name)
  unfolding entry_paths_at
  file-paths place f small = record {
    reads = λ rest.
        let name = path_bytes order texts f.name in
        let number = uleb_bytes f.directory in
        let first = (path-value s size order texts fits holds place f.name).reads (number ++ rest) in
        let second = (directory-value s size order texts fits holds (place + length name) f.directory small).reads rest in
        rw (append_assoc name number rest, first, second) (ap (λ p. Ok (path_field texts place f.name, unread_at order p rest)) (omega (arith, length-append name number)));
  }

  directories-paths : (place : ℕ) (names : List (List ℕ)) → length names < 2 ^ 64
      → SpellsAt order place (list_paths_at s size) (path_directories_bytes order texts names) (directories_fields order texts ((place + length directory_formats) + length (uleb_bytes (length names))) names)
  unfolding list_paths_at
  directories-paths place names few =
      behind _ (here place (Spells-directory_formats order))
      (behind _ (here _ (Spells-uleb_bytes order (length names) few))
      (last _ (counted-reads order (entry_paths_at s size (path_format ∷ [])) (path_bytes order texts) (path_field texts) names _ (λ k d within. λ p. directory-paths p (get_or names k d)))
      (λ u. ap (λ fs. Ok (fs, u)) (flattened (path_bytes order texts) (path_field texts) names _))))

  files-paths : (place : ℕ) (files : List LineFile) → All FitsFile files → length files < 2 ^ 64
      → SpellsAt order place (list_paths_at s size) (path_files_bytes order texts files) (files_fields order texts ((place + length file_formats) + length (uleb_bytes (length files))) files)
  unfolding list_paths_at
  files-paths place files given few =
      behind _ (here place (Spells-file_formats order))
      (behind _ (here _ (Spells-uleb_bytes order (length files) few))
      (last _ (counted-reads order (entry_paths_at s size (path_format ∷ directory_format ∷ [])) (path_file_bytes order texts) (λ p f. path_field texts p f.name) files _ (λ k d within. λ p. file-paths p (get_or files k d) (given k d within).directory))
      (λ u. ap (λ fs. Ok (fs, u)) (flattened (path_file_bytes order texts) (λ p f. path_field texts p f.name) files _))))

  -- The fields of the names in a header that is spelled.
  pub path-fields-found : (place unit_size : ℕ) (own : List ℕ) (directories : List (List ℕ)) (files : List LineFile) (is : List Instruction) (rest : List ℕ) → (size ≡ 4) ⊎ (size ≡ 8) → All FitsFile (files_written 5 files)
      → length (path_table_body order size texts own directories files is) < 0xFFFFFFF0
      → header_paths_at s unit_size (unread_at order place (path_table_bytes order size texts own directories files is ++ rest)) ≡ Ok (names_fields order texts place own directories files)
  unfolding header_paths_at
  path-fields-found place unit_size own directories files is rest known given small =
      let fields = path_fields_bytes order texts own directories files in
      let program = program_bytes order size is in
      let short = short-of order size texts own directories files is small in
      let written = files_written 5 files in
      let long = number_bytes-length order 4 (length fields) in
      let version = number_bytes-length order 2 5 in
      let begin : ℕ = ((((((place + 4) + length (number_bytes order 2 5)) + 2) + length (number_bytes order 4 (length fields))) + 5) + 1) + 12 in
      let p : ℕ = (begin + 3) + length (uleb_bytes (length (own ∷ directories))) in
      let q : ℕ = ((begin + length (path_directories_bytes order texts (own ∷ directories))) + 5) + length (uleb_bytes (length written)) in
      let first : p ≡ place + path_directories_place directories = omega (arith, long, version) in
      let second : q ≡ place + path_files_place order texts own directories files = omega (arith, long, version) in
      then_read _ (sized-reads order place (path_table_body order size texts own directories files is) small)
      (then_read _ (here _ (Spells-number_bytes order 2 5 (lit< tt)))
      (then_read _ {bs = size ∷ 0 ∷ []} (here _ (size-read order size texts own directories files unit_size known))
      (rw (append_assoc (number_bytes order 4 (length fields)) fields program)
      (then_read _ (here _ (Spells-number_bytes order 4 (length fields) short.fields_short))
      (then_read _ (part-reads order _ fields)
      (then_read _ {bs = 1 ∷ 1 ∷ 1 ∷ 251 ∷ 14 ∷ []} (here _ (Spells-bytes order (1 ∷ 1 ∷ 1 ∷ 251 ∷ 14 ∷ [])))
      (then_read _ {bs = 13 ∷ []} (here _ (Spells-byte order 13))
      (then_read _ {bs = standard_counts} (here _ (Spells-counted order standard_counts))
      (then_read _ (directories-paths _ (own ∷ directories) short.few.directories_few)
      (end_read _ (files-paths _ written given short.few.files_few)
      (ap (λ r. Ok (directories_fields order texts r (own ∷ directories) ++ files_fields order texts q written)) first
      ∙ ap (λ r. Ok (directories_fields order texts (place + path_directories_place directories) (own ∷ directories) ++ files_fields order texts r written)) second)))))))))))

-- ---- a table

module _ (s : Sections) (size : ℕ) (texts : List (List ℕ)) (own : List ℕ) (directories : List (List ℕ)) (files : List LineFile) (qs : List WrittenSequence) (fits : FitsPathTable s.order size texts own directories files qs) (holds : s.bytes LineStr ≡ texts_ended texts) where
  written-fit : All FitsFile (files_written 5 files)
  written-fit = go files fits.each_file
    where
      go : (fs : List LineFile) → All FitsFile fs → All FitsFile (files_written 5 fs)
      go [] each = each
      go (f ∷ fs) each = All-cons FitsFile f (f ∷ fs) (All-head FitsFile f fs each) each

  -- The fields of names in the table that a section holds at an offset.
  pub path-names-found : (base offset unit_size : ℕ) (rest : List ℕ)
      → drop offset (s.bytes Line) ≡ path_table_bytes s.order size texts own directories files (sequences_instructions qs) ++ rest
      → paths_of_line_table s unit_size base offset ≡ Ok (names_fields s.order texts offset own directories files)
  path-names-found base offset unit_size rest stands =
      ap (λ bytes. header_paths_at (line_source s base) unit_size (unread_at s.order offset bytes)) stands
      ∙ path-fields-found (line_source s base) size s.order texts fits.paths holds offset unit_size own directories files (sequences_instructions qs) rest fits.size_known written-fit fits.short

  -- All its fields.
  pub path-table-found : (base offset : ℕ) (rest : List ℕ) → size < 2 ^ 63
      → All (IsHeld (s.relocations Line)) (path_table_fields s.order size offset texts own directories files qs)
      → drop offset (s.bytes Line) ≡ path_table_bytes s.order size texts own directories files (sequences_instructions qs) ++ rest
      → fields_of_line_table s size base offset ≡ Ok (names_fields s.order texts offset own directories files ++ map field_held (path_table_fields s.order size offset texts own directories files qs))
  unfolding fields_of_line_table
  path-table-found base offset rest short held stands =
      let is = sequences_instructions qs in
      let h = read_path_header s.order size offset texts own directories files is in
      let fit = sequences-fit size qs short fits.sequences in
      let plain = all-plain is fit.plain in
      let at = offset + path_program_place s.order texts own directories files in
      let header = path-header-read s.order size texts own directories files (line_source s base) offset size is rest fits.size_known fits.paths holds fits.names fits.each_file fits.short in
      let names = path-names-found base offset size rest stands in
      let program = plain-program-read (s.relocations Line) h refl s.order is at fit.all plain held in
      let found = instructions-found (s.relocations Line) h refl s.order is at fit.all plain held in
      rw (names, stands, header, ◌>>=◌, program) (ap (λ fs. Ok (names_fields s.order texts offset own directories files ++ fs)) found)

-- ---- their relocations

-- Those of names.
pub path-names-related : (order : Endian) (texts : List (List ℕ)) (place : ℕ) (own : List ℕ) (directories : List (List ℕ)) (files : List LineFile)
    → relocations_of_fields (names_fields order texts place own directories files) ≡ names_relocations order texts place own directories files
path-names-related order texts place own directories files =
    let p = place + path_directories_place directories in
    let q = place + path_files_place order texts own directories files in
    let first = places-related (path_bytes order texts) (path_field texts) (path_relocations texts) (own ∷ directories) p (λ k d within. λ r. refl) in
    let second = places-related (path_file_bytes order texts) (λ r f. path_field texts r f.name) (λ r f. path_relocations texts r f.name) (files_written 5 files) q (λ k d within. λ r. refl) in
    filter_map-append (λ f. relocation_of f.offset f.size f.held) (directories_fields order texts p (own ∷ directories)) (files_fields order texts q (files_written 5 files))
    ∙ ap (λ rs. rs ++ relocations_of_fields (files_fields order texts q (files_written 5 files))) first
    ∙ ap (λ rs. path_directories_relocations order texts p (own ∷ directories) ++ rs) second

-- And all.
pub path-table-related : (order : Endian) (size place : ℕ) (texts : List (List ℕ)) (own : List ℕ) (directories : List (List ℕ)) (files : List LineFile) (qs : List WrittenSequence)
    → relocations_of_fields (names_fields order texts place own directories files ++ map field_held (path_table_fields order size place texts own directories files qs)) ≡ path_table_relocations order size place texts own directories files qs
path-table-related order size place texts own directories files qs =
    let at = place + path_program_place order texts own directories files in
    let fields = map field_held (path_table_fields order size place texts own directories files qs) in
    filter_map-append (λ f. relocation_of f.offset f.size f.held) (names_fields order texts place own directories files) fields
    ∙ ap (λ rs. rs ++ relocations_of_fields fields) (path-names-related order texts place own directories files)
    ∙ ap (λ rs. names_relocations order texts place own directories files ++ rs) (sequences-related order size qs at)
