-- The bytes of a line table of version 5, whose names stand in `.debug_line_str`, what its readers answer on them, and its relocations.
-- Its program is that of version 4. (DWARF 5, sections 6.2.4 and 6.2.4.1; the choice among forms is this project's own.) The laws are in
-- `ReadPaths` (names), `ReadPathTables` (header, table and segments), `ReadPathFields` (fields and relocations) and `ReadPathSections`
-- (tables one behind another).
use Rattle.std.specs.Prelude.{◌≡◌, ℕ, suc, ◌+◌, ◌-◌, ◌<◌, ◌≤◌, ◌⊎◌, pos, ◌-ℤ◌, List, [], ◌∷◌, ◌++◌, map, length, fold, if◌then◌else◌, true}
use Rattle.std.specs.List.{All, flat_map, list_any}
use Rattle.std.specs.Str.{bytes_eq}
use Rattle.dwc_base.specs.declared.records.Endian.{Endian}
use Rattle.dwc_base.specs.declared.section_name.SectionName.TheVariants.{LineStr}
use Rattle.dwc_base.specs.Outputs.{OutputRelocation}
use Rattle.dwc_base.specs.Spelling.{unread_at}
use Rattle.dwc_base.specs.NumberBytes.{number_bytes, uleb_bytes}
use Rattle.dwc_dwarf.specs.LineHeaders.{LineFile, LineHeader, Instruction}
use Rattle.dwc_dwarf.specs.LineRows.{LineTable}
use Rattle.dwc_dwarf.specs.TreeLaws.{texts_ended, with_new_text}
use Rattle.dwc_output.specs.NewWidest.{names_in}
use Rattle.dwc_output.specs.Versions.{files_written}
use Rattle.dwc_section.specs.Spelled.{sized_bytes, at_places}
use Rattle.dwc_section.specs.SpelledAddresses.{AddressField}
use Rattle.dwc_section.specs.Writers.{most_bytes, offset_relocation}
use Rattle.dwc_unit.specs.TextTables.{IsText}
use Rattle.dwc_unit.specs.SpelledLines.{standard_counts, FitsFile, program_bytes, program_fields, WrittenSequence, FitsSequence, sequence_steps, sequences_instructions}
use Rattle.dwc_write.specs.SequenceRelocations.{sequences_relocations}

-- ---- names

-- names behind others, each once, in the order of first use
abbrev pub with_paths : List (List ℕ) → List (List ℕ) → List (List ℕ)
with_paths before names = fold with_new_text before names

-- where a name stands among texts that stand from a place on, each ended by a zero
abbrev pub place_of_path : ℕ → List (List ℕ) → List ℕ → ℕ
place_of_path place [] name = place
place_of_path place (t ∷ ts) name = if bytes_eq name t then place else place_of_path (place + length (t ++ 0 ∷ [])) ts name

-- Each name is one of some texts.
abbrev pub AreAmong : List (List ℕ) → List (List ℕ) → Type 0
AreAmong texts names = All (λ name. list_any (bytes_eq name) texts ≡ true) names

-- a name: its offset
abbrev pub path_bytes : Endian → List (List ℕ) → List ℕ → List ℕ
path_bytes order texts name = number_bytes order 4 (place_of_path 0 texts name)

-- a file: its name and the number of its directory
abbrev pub path_file_bytes : Endian → List (List ℕ) → LineFile → List ℕ
path_file_bytes order texts f = path_bytes order texts f.name ++ uleb_bytes f.directory

-- ---- the header

-- a path, by an offset in `.debug_line_str`
abbrev pub directory_formats : List ℕ
directory_formats = 1 ∷ 1 ∷ 31 ∷ []

-- the same, and the number of a directory
abbrev pub file_formats : List ℕ
file_formats = 2 ∷ 1 ∷ 31 ∷ 2 ∷ 15 ∷ []

-- directories and files, behind what they are made of and how many there are
abbrev pub path_directories_bytes : Endian → List (List ℕ) → List (List ℕ) → List ℕ
path_directories_bytes order texts names = directory_formats ++ (uleb_bytes (length names) ++ flat_map (path_bytes order texts) names)

abbrev pub path_files_bytes : Endian → List (List ℕ) → List LineFile → List ℕ
path_files_bytes order texts files = file_formats ++ (uleb_bytes (length files) ++ flat_map (path_file_bytes order texts) files)

-- minimum length 1, operations 1, default_is_stmt 1, line_base -5, line_range 14, opcode_base 13; directories and files
abbrev pub path_fields_bytes : Endian → List (List ℕ) → List ℕ → List (List ℕ) → List LineFile → List ℕ
path_fields_bytes order texts own directories files =
    (1 ∷ 1 ∷ 1 ∷ 251 ∷ 14 ∷ 13 ∷ []) ++ (standard_counts ++ (path_directories_bytes order texts (own ∷ directories) ++ path_files_bytes order texts (files_written 5 files)))

-- ---- the table

-- version, the size of an address, no segment selector, the header's length and fields, the program
abbrev pub path_table_body : Endian → ℕ → List (List ℕ) → List ℕ → List (List ℕ) → List LineFile → List Instruction → List ℕ
path_table_body order size texts own directories files is =
    number_bytes order 2 5 ++ ((size ∷ 0 ∷ []) ++ (sized_bytes order (path_fields_bytes order texts own directories files) ++ program_bytes order size is))

abbrev pub path_table_bytes : Endian → ℕ → List (List ℕ) → List ℕ → List (List ℕ) → List LineFile → List Instruction → List ℕ
path_table_bytes order size texts own directories files is = sized_bytes order (path_table_body order size texts own directories files is)

-- where directories, files and the program stand in their table
abbrev pub path_directories_place : List (List ℕ) → ℕ
path_directories_place directories = 12 + (18 + (length directory_formats + length (uleb_bytes (suc (length directories)))))

abbrev pub path_files_place : Endian → List (List ℕ) → List ℕ → List (List ℕ) → List LineFile → ℕ
path_files_place order texts own directories files = 12 + (18 + (length (path_directories_bytes order texts (own ∷ directories)) + (length file_formats + length (uleb_bytes (length (files_written 5 files))))))

abbrev pub path_program_place : Endian → List (List ℕ) → List ℕ → List (List ℕ) → List LineFile → ℕ
path_program_place order texts own directories files = 12 + length (path_fields_bytes order texts own directories files)

-- What is read. The directories of a header are those from number 1 on.
abbrev pub read_path_header : Endian → ℕ → ℕ → List (List ℕ) → List ℕ → List (List ℕ) → List LineFile → List Instruction → LineHeader
read_path_header order size place texts own directories files is = record {
  version = 5;
  address_size = size;
  minimum_instruction_length = 1;
  default_is_stmt = true;
  line_base = pos 251 -ℤ pos 256;
  line_range = 14;
  opcode_base = 13;
  standard_opcode_lengths = standard_counts;
  directories = directories;
  files = files_written 5 files;
  program = unread_at order (place + path_program_place order texts own directories files) (program_bytes order size is);
}

abbrev pub read_path_table : Endian → ℕ → ℕ → List (List ℕ) → List ℕ → List (List ℕ) → List LineFile → List WrittenSequence → LineTable
read_path_table order size place texts own directories files qs = record {
  header = read_path_header order size place texts own directories files (sequences_instructions qs);
  files = files_written 5 files;
  steps = flat_map sequence_steps qs;
}

-- ---- what fits

-- Texts have no zero, and stand in no more bytes than a section holds.
pub record FitsPaths (texts : List (List ℕ)) : Type 0 where
  pub plain : All IsText texts
  pub short : length (texts_ended texts) ≤ most_bytes

pub record FitsPathTable (order : Endian) (size : ℕ) (texts : List (List ℕ)) (own : List ℕ) (directories : List (List ℕ)) (files : List LineFile) (qs : List WrittenSequence) : Type 0 where
  pub size_known : (size ≡ 4) ⊎ (size ≡ 8)
  pub paths : FitsPaths texts
  pub names : AreAmong texts (names_in own directories files)
  pub each_file : All FitsFile files
  pub sequences : All (FitsSequence size) qs
  pub short : length (path_table_body order size texts own directories files (sequences_instructions qs)) < 0xFFFFFFF0

-- ---- addresses and relocations

-- the addresses in a table at a place
abbrev pub path_table_fields : Endian → ℕ → ℕ → List (List ℕ) → List ℕ → List (List ℕ) → List LineFile → List WrittenSequence → List AddressField
path_table_fields order size place texts own directories files qs = program_fields order size (place + path_program_place order texts own directories files) (sequences_instructions qs)

-- that of a name
abbrev pub path_relocations : List (List ℕ) → ℕ → List ℕ → List OutputRelocation
path_relocations texts place name = offset_relocation place 4 LineStr (place_of_path 0 texts name) ∷ []

abbrev pub path_directories_relocations : Endian → List (List ℕ) → ℕ → List (List ℕ) → List OutputRelocation
path_directories_relocations order texts place names = at_places (path_bytes order texts) (path_relocations texts) place names

abbrev pub path_files_relocations : Endian → List (List ℕ) → ℕ → List LineFile → List OutputRelocation
path_files_relocations order texts place files = at_places (path_file_bytes order texts) (λ p f. path_relocations texts p f.name) place files

-- those of the names in a table at a place
abbrev pub names_relocations : Endian → List (List ℕ) → ℕ → List ℕ → List (List ℕ) → List LineFile → List OutputRelocation
names_relocations order texts place own directories files =
    path_directories_relocations order texts (place + path_directories_place directories) (own ∷ directories)
    ++ path_files_relocations order texts (place + path_files_place order texts own directories files) (files_written 5 files)

-- and those of its sequences behind them
abbrev pub path_table_relocations : Endian → ℕ → ℕ → List (List ℕ) → List ℕ → List (List ℕ) → List LineFile → List WrittenSequence → List OutputRelocation
path_table_relocations order size place texts own directories files qs =
    names_relocations order texts place own directories files
    ++ sequences_relocations order size (place + path_program_place order texts own directories files) qs
