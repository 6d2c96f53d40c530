-- What is computed of two outputs of one input, in version 4 and in version 5.
use Rattle.std.proofs.Common.{ℕ, List, [], ◌∷◌, Some, None, Ok, Err, false, map}
use Rattle.std.specs.Prelude.{Bool, Option, Result, ◌==◌, ◌||◌, ◌&&◌, not, if◌then◌else◌}
use Rattle.std.specs.List.{filter, flat_map}
use Rattle.std.specs.Str.{bytes_eq}
use Rattle.dwc_base.specs.declared.records.Endian.{Endian}
use Rattle.dwc_base.specs.declared.section_name.SectionName.{SectionName}
use Rattle.dwc_base.specs.declared.section_name.SectionName.TheVariants.{Abbrev, Frame, Info, Line, LineStr, Loc, Loclists, Ranges, Rnglists, Str}
use Rattle.dwc_base.specs.declared.constants.TheConstants.{DW_AT_call_file, DW_AT_decl_file, DW_AT_stmt_list}
use Rattle.dwc_base.specs.Sections.{Sections, Fault, section_from, section_text}
use Rattle.dwc_base.specs.Outputs.{OutputSection, OutputRelocation, output_sections}
use Rattle.dwc_dwarf.specs.Indexed.{text_base}
use Rattle.dwc_dwarf.specs.Entries.{Entry, attribute}
use Rattle.dwc_dwarf.specs.LineHeaders.{LineFile, line_source}
use Rattle.dwc_dwarf.specs.LineRows.{LineTable, Segment, segments}
use Rattle.dwc_dwarf.specs.ReadUnits.{Unit, units, root, line_offset, table_of_unit}
use Rattle.dwc_dwarf.specs.Trees.{TreeValue, constant, Tree, TreeEntry}
use Rattle.dwc_output.specs.TreeReading.{trees, output_lists}
use Rattle.dwc_output.specs.Fields.{fields_of_section, relocations_of_fields}
use Rattle.dwc_output.specs.Versions.{files_written}
use Rattle.dwc_output.specs.OwnDirectories.{own_directory_at, directory_of_root}

-- the names of all sections
abbrev all_names : List SectionName
all_names = Abbrev ∷ Info ∷ Line ∷ LineStr ∷ Ranges ∷ Rnglists ∷ Loc ∷ Loclists ∷ Str ∷ Frame ∷ []

-- the relocations that the section of a name has by its fields
abbrev pub wanted_relocations : Sections → List ℕ → List OutputRelocation
wanted_relocations s name = flat_map (λ n. if bytes_eq (section_text n) name then relocations_of_fields (fields_of_section s n) else []) all_names

abbrev pub relocations_wanted : Endian → List OutputSection → List (List OutputRelocation)
relocations_wanted order ss = map (λ t. wanted_relocations (output_sections order ss) t.name) ss

abbrev pub relocations_there : List OutputSection → List (List OutputRelocation)
relocations_there ss = map (λ t. t.relocations) ss

-- the version, the size of addresses and the type of each unit
abbrev pub forms : Endian → List OutputSection → List (ℕ × (ℕ × ℕ))
forms order ss = map (λ u. (u.header.version, (u.header.address_size, u.header.unit_type))) (units (output_sections order ss)).items

-- trees without attributes that name no file
abbrev names_none : ℕ × TreeValue → Bool
names_none (name, constant form bits) = ((name == DW_AT_decl_file) || (name == DW_AT_call_file)) && (bits == 0)
names_none _ = false

abbrev with_all_files : TreeEntry → TreeEntry
with_all_files e = record { depth = e.depth; tag = e.tag; attributes = filter (λ a. not (names_none a)) e.attributes }

abbrev in_version_5 : Result (List Tree) Fault → Result (List Tree) Fault
in_version_5 (Ok ts) = Ok (map (map with_all_files) ts)
in_version_5 (Err fault) = Err fault

abbrev pub trees_said : Endian → List OutputSection → Result (List Tree) Fault
trees_said order ss = trees (output_lists (output_sections order ss)) (output_sections order ss)

abbrev pub trees_wanted : Endian → List OutputSection → Result (List Tree) Fault
trees_wanted order ss = in_version_5 (trees_said order ss)

-- the directories and files of tables, and their segments
abbrev pub Lines : Type 0
Lines = Option (List (List ℕ) × (List LineFile × List Segment))

abbrev lines_of : (List LineFile → List LineFile) → Result (Option LineTable) Fault → Lines
lines_of f (Ok (Some t)) = Some (t.header.directories, (f t.files, segments t))
lines_of f _ = None

abbrev pub lines_said : Endian → List OutputSection → List Lines
lines_said order ss = map (λ u. lines_of (λ fs. fs) (table_of_unit (output_sections order ss) u)) (units (output_sections order ss)).items

abbrev pub lines_wanted : Endian → List OutputSection → List Lines
lines_wanted order ss = map (λ u. lines_of (files_written 5) (table_of_unit (output_sections order ss) u)) (units (output_sections order ss)).items

-- the compilation directories of tables, and of their roots
abbrev named_at : Sections → Unit → Option ℕ → Option (List ℕ)
named_at s u None = None
named_at s u (Some offset) = elim (own_directory_at (line_source s (text_base s u.header)) u.header.address_size (section_from s Line offset)) [ Ok d ↦ Some d.name | Err flaw ↦ Some (1 ∷ []) ]

abbrev wanted_at : Sections → Unit → Option ℕ → Option (List ℕ)
wanted_at s u None = None
wanted_at s u (Some offset) = Some (directory_of_root s u)

abbrev offset_of : Unit → Option ℕ
offset_of u = go (root u)
  where
    go : Option Entry → Option ℕ
    go None = None
    go (Some e) = line_offset (attribute DW_AT_stmt_list e)

abbrev pub directories_said : Endian → List OutputSection → List (Option (List ℕ))
directories_said order ss = map (λ u. named_at (output_sections order ss) u (offset_of u)) (units (output_sections order ss)).items

abbrev pub directories_wanted : Endian → List OutputSection → List (Option (List ℕ))
directories_wanted order ss = map (λ u. wanted_at (output_sections order ss) u (offset_of u)) (units (output_sections order ss)).items
