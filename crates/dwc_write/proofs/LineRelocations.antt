-- The relocations of line tables that are spelled rise and lie within them (`sequences-rise`, `lines-rise`), and those of functions are the ones of
-- their address fields (`lines-functions`), in both versions.
use Rattle.std.proofs.Common.{◌≡◌, ℕ, ◌+◌, ◌≤◌, refl, sym, ap, subst, ◌∙◌, arith, List, [], ◌∷◌, ◌++◌, append_assoc, append-nil, length, length-append, Bool, true, false}
use Rattle.std.specs.Prelude.{if◌then◌else◌}
use Rattle.std.specs.List.{flat_map, filter_map}
use Rattle.std.proofs.lemmas.List.Elements.{filter_map-append}
use Rattle.dwc_base.specs.declared.records.Endian.{Endian}
use Rattle.dwc_base.specs.NumberBytes.{uleb_bytes}
use Rattle.dwc_base.specs.Outputs.{OutputRelocation, function_relocation}
use Rattle.dwc_dwarf.specs.LineHeaders.{LineFile, set_address}
use Rattle.dwc_output.specs.Versions.{files_written, is_old}
use Rattle.dwc_section.specs.RisingRelocations.{RelocationsRise}
use Rattle.dwc_section.specs.SpelledAddresses.{address_bytes, stored, relocation_for, relocations_of}
use Rattle.dwc_unit.specs.SpelledLines.{instruction_bytes, instruction_fields, line_table_bytes, program_bytes, program_fields, program_place, WrittenSequence, first_row, rows_instructions, sequence_instructions, sequences_instructions}
use Rattle.dwc_write.specs.PathTables.{place_of_path, path_bytes, path_file_bytes, path_directories_bytes, path_files_bytes, path_table_bytes, path_directories_place, path_files_place, path_program_place, path_relocations, path_directories_relocations, path_files_relocations, names_relocations, path_table_relocations, path_fields_bytes}
use Rattle.dwc_write.specs.PathViews.{fields_relocations_at}
use Rattle.dwc_write.specs.SequenceRelocations.{sequence_bytes, sequence_relocations, sequences_relocations}
use Rattle.dwc_write.specs.SpelledSections.{WrittenTable, one_table_bytes, lines_bytes, one_table_fields, lines_fields}
use Rattle.dwc_write.specs.SpelledRelocations.{one_table_relocations, lines_relocations}
use Rattle.dwc_section.proofs.ReadNumbers.{number_bytes-length}
use Rattle.dwc_unit.proofs.RowFields.{at_places-append, rows-none}
use Rattle.dwc_write.proofs.ReadRelocations.{rise-below, rise-above, rise-append, rise-places, address-rise, places-functions, address-functions}
use Rattle.dwc_write.proofs.ReadLineTables.{old-end, path-end}

into : (lower low high higher : ℕ) (rs : List OutputRelocation) → lower ≤ low → high ≤ higher → RelocationsRise low high rs → RelocationsRise lower higher rs
into lower low high higher rs before behind rise = rise-below lower low higher rs before (rise-above low high higher rs behind rise)

-- ---- sequences

sequence-rise : (order : Endian) (size place : ℕ) (q : WrittenSequence) → RelocationsRise place (place + length (sequence_bytes order size q)) (sequence_relocations order size place q)
sequence-rise order size place q =
    let address = address_bytes order size q.start_address in
    let sized = uleb_bytes (length (2 ∷ address)) in
    let rows = program_bytes order size (rows_instructions first_row q.rows q.end_offset) in
    let at = ((place + 1) + length sized) + 1 in
    into place at (at + size) _ (sequence_relocations order size place q) (omega arith)
    (omega (arith, number_bytes-length order size (stored q.start_address), length-append sized (2 ∷ address), length-append (0 ∷ (sized ++ 2 ∷ address)) rows)) (address-rise at size q.start_address)

pub sequences-rise : (order : Endian) (size place : ℕ) (qs : List WrittenSequence) → RelocationsRise place (place + length (flat_map (sequence_bytes order size) qs)) (sequences_relocations order size place qs)
sequences-rise order size place qs = rise-places (sequence_bytes order size) (sequence_relocations order size) qs place (sequence-rise order size)

-- the bytes of all sequences are those of their instructions
pub sequences-bytes : (order : Endian) (size : ℕ) (qs : List WrittenSequence) → flat_map (sequence_bytes order size) qs ≡ program_bytes order size (sequences_instructions qs)
sequences-bytes order size [] = refl
sequences-bytes order size (q ∷ qs) = ap (λ bytes. sequence_bytes order size q ++ bytes) (sequences-bytes order size qs) ∙ sym (flat_map-both (instruction_bytes order size) (sequence_instructions q) (sequences_instructions qs))
  where
    flat_map-both : {A : Type 0} (f : A → List ℕ) (xs ys : List A) → flat_map f (xs ++ ys) ≡ flat_map f xs ++ flat_map f ys
    flat_map-both f [] ys = refl
    flat_map-both f (x ∷ xs) ys = ap (λ bytes. f x ++ bytes) (flat_map-both f xs ys) ∙ sym (append_assoc (f x) (flat_map f xs) (flat_map f ys))

sequence-functions : (order : Endian) (size place : ℕ) (q : WrittenSequence) → filter_map function_relocation (sequence_relocations order size place q) ≡ relocations_of (program_fields order size place (sequence_instructions q))
sequence-functions order size place q =
    let start = instruction_fields order size place (set_address q.start_address) in
    let none = rows-none order size first_row q.rows q.end_offset (place + length (instruction_bytes order size (set_address q.start_address))) in
    let alone : program_fields order size place (sequence_instructions q) ≡ start = ap (λ fs. start ++ fs) none ∙ append-nil start in
    address-functions _ size q.start_address ∙ ap relocations_of (sym alone)

pub sequences-functions : (order : Endian) (size : ℕ) (qs : List WrittenSequence) (place : ℕ) → filter_map function_relocation (sequences_relocations order size place qs) ≡ relocations_of (program_fields order size place (sequences_instructions qs))
sequences-functions order size [] place = refl
sequences-functions order size (q ∷ qs) place =
    filter_map-append function_relocation (sequence_relocations order size place q) (sequences_relocations order size (place + length (sequence_bytes order size q)) qs)
    ∙ ap (λ rs. rs ++ filter_map function_relocation (sequences_relocations order size (place + length (sequence_bytes order size q)) qs)) (sequence-functions order size place q)
    ∙ ap (λ rs. relocations_of (program_fields order size place (sequence_instructions q)) ++ rs) (sequences-functions order size qs (place + length (sequence_bytes order size q)))
    ∙ sym (filter_map-append relocation_for (program_fields order size place (sequence_instructions q)) (program_fields order size (place + length (sequence_bytes order size q)) (sequences_instructions qs)))
    ∙ ap relocations_of (sym (at_places-append (instruction_bytes order size) (instruction_fields order size) (sequence_instructions q) (sequences_instructions qs) place))

-- ---- the names of a table of version 5

path-rise : (order : Endian) (texts : List (List ℕ)) (place : ℕ) (name : List ℕ) → RelocationsRise place (place + length (path_bytes order texts name)) (path_relocations texts place name)
path-rise order texts place name = (omega arith, omega (arith, number_bytes-length order 4 (place_of_path 0 texts name)))

file-rise : (order : Endian) (texts : List (List ℕ)) (place : ℕ) (f : LineFile) → RelocationsRise place (place + length (path_file_bytes order texts f)) (path_relocations texts place f.name)
file-rise order texts place f =
    rise-above place (place + length (path_bytes order texts f.name)) _ (path_relocations texts place f.name) (omega (arith, length-append (path_bytes order texts f.name) (uleb_bytes f.directory))) (path-rise order texts place f.name)

-- those of the fields of a header rise within them
pub fields-rise : (order : Endian) (texts : List (List ℕ)) (place : ℕ) (own : List ℕ) (directories : List (List ℕ)) (files : List LineFile)
    → RelocationsRise place (place + length (path_fields_bytes order texts own directories files)) (fields_relocations_at order texts place own directories files)
fields-rise order texts place own directories files =
    let names = own ∷ directories in
    let written = files_written 5 files in
    let first = path_directories_bytes order texts names in
    let p : ℕ = (place + 18) + (3 + length (uleb_bytes (length names))) in
    let middle : ℕ = place + (18 + length first) in
    let q : ℕ = middle + (5 + length (uleb_bytes (length written))) in
    let end : ℕ = place + length (path_fields_bytes order texts own directories files) in
    let before = length-append (uleb_bytes (length names)) (flat_map (path_bytes order texts) names) in
    let behind = length-append (uleb_bytes (length written)) (flat_map (path_file_bytes order texts) written) in
    let both = length-append first (path_files_bytes order texts written) in
    rise-append place middle end (path_directories_relocations order texts p names) (path_files_relocations order texts q written)
    (into place p _ middle (path_directories_relocations order texts p names) (omega arith) (omega (arith, before)) (rise-places (path_bytes order texts) (path_relocations texts) names p (path-rise order texts)))
    (into middle q _ end (path_files_relocations order texts q written) (omega arith) (omega (arith, behind, both)) (rise-places (path_file_bytes order texts) (λ r f. path_relocations texts r f.name) written q (file-rise order texts)))

-- they are those of the names in a table that begins 12 bytes before
pub fields-at : (order : Endian) (texts : List (List ℕ)) (place start : ℕ) (own : List ℕ) (directories : List (List ℕ)) (files : List LineFile) → place ≡ start + 12
    → fields_relocations_at order texts place own directories files ≡ names_relocations order texts start own directories files
fields-at order texts place start own directories files is =
    let names = own ∷ directories in
    let written = files_written 5 files in
    let p : ℕ = (place + 18) + (3 + length (uleb_bytes (length names))) in
    let q : ℕ = (place + (18 + length (path_directories_bytes order texts names))) + (5 + length (uleb_bytes (length written))) in
    let first : p ≡ start + path_directories_place directories = omega (arith, is) in
    let second : q ≡ start + path_files_place order texts own directories files = omega (arith, is) in
    ap (λ k. path_directories_relocations order texts k names ++ path_files_relocations order texts q written) first
    ∙ ap (λ k. path_directories_relocations order texts (start + path_directories_place directories) names ++ path_files_relocations order texts k written) second

-- Those of a table begin behind the lengths, those of names first.
pub path-table-rise : (order : Endian) (size place : ℕ) (texts : List (List ℕ)) (own : List ℕ) (directories : List (List ℕ)) (files : List LineFile) (qs : List WrittenSequence)
    → RelocationsRise (place + 12) ((place + path_program_place order texts own directories files) + length (program_bytes order size (sequences_instructions qs))) (path_table_relocations order size place texts own directories files qs)
path-table-rise order size place texts own directories files qs =
    let start = place + 12 in
    let at = place + path_program_place order texts own directories files in
    let names : RelocationsRise start (start + length (path_fields_bytes order texts own directories files)) (names_relocations order texts place own directories files) =
    subst (RelocationsRise start (start + length (path_fields_bytes order texts own directories files))) (fields-at order texts start place own directories files refl) (fields-rise order texts start own directories files) in
    rise-append start at _ (names_relocations order texts place own directories files) (sequences_relocations order size at qs)
    (rise-above start _ at (names_relocations order texts place own directories files) (omega arith) names)
    (rise-above at _ _ (sequences_relocations order size at qs) (omega (arith, ap length (sequences-bytes order size qs))) (sequences-rise order size at qs))

-- none of them is that of a function
paths-functions : (order : Endian) (texts : List (List ℕ)) (names : List (List ℕ)) (place : ℕ) → filter_map function_relocation (path_directories_relocations order texts place names) ≡ []
paths-functions order texts [] place = refl
paths-functions order texts (n ∷ ns) place = paths-functions order texts ns (place + length (path_bytes order texts n))

files-functions : (order : Endian) (texts : List (List ℕ)) (files : List LineFile) (place : ℕ) → filter_map function_relocation (path_files_relocations order texts place files) ≡ []
files-functions order texts [] place = refl
files-functions order texts (f ∷ fs) place = files-functions order texts fs (place + length (path_file_bytes order texts f))

names-functions : (order : Endian) (texts : List (List ℕ)) (place : ℕ) (own : List ℕ) (directories : List (List ℕ)) (files : List LineFile) → filter_map function_relocation (names_relocations order texts place own directories files) ≡ []
names-functions order texts place own directories files =
    let p = place + path_directories_place directories in
    let q = place + path_files_place order texts own directories files in
    filter_map-append function_relocation (path_directories_relocations order texts p (own ∷ directories)) (path_files_relocations order texts q (files_written 5 files))
    ∙ ap (λ rs. rs ++ filter_map function_relocation (path_files_relocations order texts q (files_written 5 files))) (paths-functions order texts (own ∷ directories) p)
    ∙ files-functions order texts (files_written 5 files) q

-- ---- tables

module _ (order : Endian) (size : ℕ) (place : ℕ) (t : WrittenTable) where
  old-rise : RelocationsRise place ((place + program_place t.directories t.files) + length (program_bytes order size (sequences_instructions t.sequences))) (sequences_relocations order size (place + program_place t.directories t.files) t.sequences)
  old-rise =
      let at = place + program_place t.directories t.files in
      into place at _ _ (sequences_relocations order size at t.sequences) (omega arith) (omega (arith, ap length (sequences-bytes order size t.sequences))) (sequences-rise order size at t.sequences)

  table-rise : RelocationsRise place (place + length (one_table_bytes order size t)) (one_table_relocations order size place t)
  table-rise = go (is_old t.version)
    where
      go : (b : Bool) → RelocationsRise place (place + length (if b then line_table_bytes order size t.directories t.files (sequences_instructions t.sequences) else path_table_bytes order size t.texts t.own t.directories t.files (sequences_instructions t.sequences)))
          (if b then sequences_relocations order size (place + program_place t.directories t.files) t.sequences else path_table_relocations order size place t.texts t.own t.directories t.files t.sequences)
      go true = rw (old-end order size place t) at old-rise
      go false =
          let all = path_table_relocations order size place t.texts t.own t.directories t.files t.sequences in
          rw (path-end order size place t) at (rise-below place (place + 12) _ all (omega arith) (path-table-rise order size place t.texts t.own t.directories t.files t.sequences))

  path-functions : filter_map function_relocation (path_table_relocations order size place t.texts t.own t.directories t.files t.sequences) ≡ relocations_of (program_fields order size (place + path_program_place order t.texts t.own t.directories t.files) (sequences_instructions t.sequences))
  path-functions =
      let at = place + path_program_place order t.texts t.own t.directories t.files in
      filter_map-append function_relocation (names_relocations order t.texts place t.own t.directories t.files) (sequences_relocations order size at t.sequences)
      ∙ ap (λ rs. rs ++ filter_map function_relocation (sequences_relocations order size at t.sequences)) (names-functions order t.texts place t.own t.directories t.files)
      ∙ sequences-functions order size t.sequences at

  table-functions : filter_map function_relocation (one_table_relocations order size place t) ≡ relocations_of (one_table_fields order size place t)
  table-functions = go (is_old t.version)
    where
      go : (b : Bool) → filter_map function_relocation (if b then sequences_relocations order size (place + program_place t.directories t.files) t.sequences else path_table_relocations order size place t.texts t.own t.directories t.files t.sequences)
          ≡ relocations_of (program_fields order size (place + (if b then program_place t.directories t.files else path_program_place order t.texts t.own t.directories t.files)) (sequences_instructions t.sequences))
      go true = sequences-functions order size t.sequences (place + program_place t.directories t.files)
      go false = path-functions

pub lines-rise : (order : Endian) (size place : ℕ) (ts : List WrittenTable) → RelocationsRise place (place + length (lines_bytes order size ts)) (lines_relocations order size place ts)
lines-rise order size place ts = rise-places (one_table_bytes order size) (one_table_relocations order size) ts place (table-rise order size)

pub lines-functions : (order : Endian) (size place : ℕ) (ts : List WrittenTable) → filter_map function_relocation (lines_relocations order size place ts) ≡ relocations_of (lines_fields order size place ts)
lines-functions order size place ts = places-functions (one_table_bytes order size) (one_table_relocations order size) (one_table_fields order size) (table-functions order size) ts place
