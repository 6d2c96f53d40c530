-- The relocations of what is spelled: one at each address of a function, and one at each offset in a section. The laws are in
-- `ReadRelocations`.
use Rattle.std.specs.Prelude.{ℕ, ◌+◌, List, [], ◌∷◌, length, if◌then◌else◌}
use Rattle.dwc_base.specs.declared.records.Endian.{Endian}
use Rattle.dwc_base.specs.declared.section_name.SectionName.TheVariants.{Abbrev, Info, Str}
use Rattle.dwc_base.specs.Outputs.{OutputRelocation}
use Rattle.dwc_base.specs.NumberBytes.{uleb_bytes}
use Rattle.dwc_section.specs.Spelled.{at_places}
use Rattle.dwc_unit.specs.SpelledUnits.{Written, as_addr, as_strp, as_ref_addr, as_sec_offset, WrittenAttribute, attribute_bytes, Shaped, shaped, entry_bytes, header_length, table_place}
use Rattle.dwc_unit.specs.SpelledLines.{program_place}
use Rattle.dwc_output.specs.Versions.{is_old}
use Rattle.dwc_write.specs.PathTables.{path_table_relocations}
pub use Rattle.dwc_write.specs.SequenceRelocations.{sequence_bytes, sequence_relocations, sequences_relocations}
use Rattle.dwc_write.specs.SpelledSections.{WrittenUnit, placed_unit_bytes, WrittenTable, one_table_bytes}
use Rattle.dwc_section.specs.Writers.{address_relocations, offset_relocation}

-- ---- units

abbrev pub value_relocations : ℕ → ℕ → Written → List OutputRelocation
value_relocations size place (as_addr a) = address_relocations place size a
value_relocations size place (as_strp n) = offset_relocation place 4 Str n ∷ []
value_relocations size place (as_ref_addr n) = offset_relocation place 4 Info n ∷ []
value_relocations size place (as_sec_offset name n) = offset_relocation place 4 name n ∷ []
value_relocations size place _ = []

abbrev pub values_relocations : Endian → ℕ → ℕ → List WrittenAttribute → List OutputRelocation
values_relocations order size place xs = at_places (attribute_bytes order size) (λ p a. value_relocations size p a.value) place xs

abbrev pub entry_relocations : Endian → ℕ → ℕ → Shaped → List OutputRelocation
entry_relocations order size place x = values_relocations order size (place + length (uleb_bytes x.entry.code)) x.entry.attributes

abbrev pub entries_relocations : Endian → ℕ → ℕ → List Shaped → List OutputRelocation
entries_relocations order size place xs = at_places (entry_bytes order size) (entry_relocations order size) place xs

-- that of the abbreviation table, in the header, and those of the entries
abbrev pub unit_relocations : Endian → ℕ → ℕ → WrittenUnit → List OutputRelocation
unit_relocations order size place u = offset_relocation (place + table_place u.version) 4 Abbrev u.table_offset ∷ entries_relocations order size (place + header_length u.version) (shaped u.entries)

abbrev pub info_relocations : Endian → ℕ → ℕ → List WrittenUnit → List OutputRelocation
info_relocations order size place us = at_places (placed_unit_bytes order size) (unit_relocations order size) place us

-- ---- line tables

abbrev pub one_table_relocations : Endian → ℕ → ℕ → WrittenTable → List OutputRelocation
one_table_relocations order size place t =
    if is_old t.version then sequences_relocations order size (place + program_place t.directories t.files) t.sequences
    else path_table_relocations order size place t.texts t.own t.directories t.files t.sequences

abbrev pub lines_relocations : Endian → ℕ → ℕ → List WrittenTable → List OutputRelocation
lines_relocations order size place ts = at_places (one_table_bytes order size) (one_table_relocations order size) place ts
