-- Names of line tables of version 5 that are laid out, as a writer keeps them.
use Rattle.std.specs.Prelude.{◌≡◌, ℕ, ◌+◌, ◌≤◌, List, [], ◌∷◌, ◌++◌, length, Result, Ok, Err}
use Rattle.dwc_base.specs.declared.records.Endian.{Endian}
use Rattle.dwc_base.specs.declared.section_name.SectionName.TheVariants.{LineStr}
use Rattle.dwc_base.specs.NumberBytes.{number_bytes, uleb_bytes}
use Rattle.dwc_base.specs.Outputs.{OutputRelocation}
use Rattle.dwc_dwarf.specs.LineHeaders.{LineFile}
use Rattle.dwc_dwarf.specs.TreeLaws.{texts_ended}
use Rattle.dwc_output.specs.Versions.{files_written}
use Rattle.dwc_section.specs.Spelled.{sized_bytes}
use Rattle.dwc_section.specs.declared.error.WriteError.{WriteError}
use Rattle.dwc_section.specs.Writers.{IsPast, IsSizeRefusal, most_bytes}
use Rattle.dwc_write.specs.declared.line_names.LineNames.{LineNames}
use Rattle.dwc_write.specs.PathTables.{with_paths, directory_formats, file_formats, path_directories_bytes, path_directories_relocations, path_files_relocations}

-- where texts stand from a place on, each ended by a zero
abbrev pub places_of_paths : ℕ → List (List ℕ) → List ℕ
places_of_paths place [] = []
places_of_paths place (t ∷ ts) = place ∷ places_of_paths (place + length (t ++ 0 ∷ [])) ts

-- Names stand one behind another, within the most bytes of a section.
pub record IsPathLayout (l : LineNames) : Type 0 where
  pub places : l.offsets.items ≡ places_of_paths 0 l.texts
  pub long : l.length ≡ length (texts_ended l.texts)
  pub short : l.length ≤ most_bytes

-- A refusal of names that are so long, or want of memory.
abbrev pub IsPathRefusal : WriteError → ℕ → Type 0
IsPathRefusal e size = IsSizeRefusal (IsPast LineStr size) e

-- Names are used behind those that are, or are too long.
abbrev pub UsesPaths : LineNames → LineNames → Result (Unit {0}) WriteError → List (List ℕ) → Type 0
UsesPaths old new (Ok done) names = (new.texts ≡ with_paths old.texts names) × IsPathLayout new
UsesPaths old new (Err e) names = IsPathRefusal e (length (texts_ended (with_paths old.texts names)))

-- ---- as a table is written

-- the relocations of directories and of files, behind what they are made of and how many there are
abbrev pub directories_relocations_at : Endian → List (List ℕ) → ℕ → List (List ℕ) → List OutputRelocation
directories_relocations_at order texts place names = path_directories_relocations order texts (place + (length directory_formats + length (uleb_bytes (length names)))) names

abbrev pub files_relocations_at : Endian → List (List ℕ) → ℕ → List LineFile → List OutputRelocation
files_relocations_at order texts place files = path_files_relocations order texts (place + (length file_formats + length (uleb_bytes (length files)))) files

-- those of the fields of a header at a place
abbrev pub fields_relocations_at : Endian → List (List ℕ) → ℕ → List ℕ → List (List ℕ) → List LineFile → List OutputRelocation
fields_relocations_at order texts place own directories files =
    directories_relocations_at order texts (place + 18) (own ∷ directories)
    ++ files_relocations_at order texts (place + (18 + length (path_directories_bytes order texts (own ∷ directories)))) (files_written 5 files)

-- the header of a table, with room for the length
abbrev pub path_front : Endian → ℕ → List ℕ → List ℕ
path_front order size fields = (0 ∷ 0 ∷ 0 ∷ 0 ∷ []) ++ (number_bytes order 2 5 ++ ((size ∷ 0 ∷ []) ++ sized_bytes order fields))
