-- The definitions that stay shut, in sets: a proof that computes on literals names a set on its `unfolding` line.
use Rattle.std.proofs.Common.{ℕ}
use Rattle.std.specs.Str.{is_utf8, chars}
use lib.Utf8.{encode}
use Rattle.dwc_base.specs.Reading.{uleb_at, sleb_at, text_at, number_at, bytes_at, part_at, items_up_to, items_at, counted_at}
use Rattle.dwc_base.specs.Listing.{walk, walk_up_to}
use Rattle.dwc_base.specs.Sections.{address_at}
use Rattle.dwc_base.specs.Abbreviations.{implicit_at, attribute_spec_at, declaration_behind, declaration_at, abbreviation_table}
use Rattle.dwc_base.specs.Units.{sized_part_at, header_to_4, header_of_5, dwo_id_at, unit_header_at, next_unit_header, unit_headers_from}
use Rattle.dwc_dwarf.specs.Values.{sized_number_at, block_at, formed_value_at, form_behind, form_code_at, encoded_value_at, value_at}
use Rattle.dwc_dwarf.specs.Entries.{attributes_at, declared_entry_at, entry_at, next_entry, entries_from, entries}
use Rattle.dwc_dwarf.specs.LineHeaders.{directory_at, file_behind, file_at, operations_at, entry_format_at, entry_formats_at, entry_count_at, entry_field_at, entry_fields_at, directories_of_5_at, files_of_5_at, line_names_at, line_fields_at, line_address_size_at, line_header_at, operand_at, passed_operands_at, extended_at, extended_instruction_at, instruction_at, next_instruction, instructions}
use Rattle.dwc_dwarf.specs.LineRows.{line_table_at, line_table}
use Rattle.dwc_dwarf.specs.ReadUnits.{units, table_of_unit, segments_of_unit}
use Rattle.dwc_dwarf.specs.Texts.{text_elsewhere, text_named, path_text}
use Rattle.dwc_dwarf.specs.Indexed.{root_offsets, offset_of_root, index_base, address_from, address_named, texts_of_unit}
use Rattle.dwc_output.specs.TreeReading.{value_said, unit_said, trees}
use Rattle.dwc_base.specs.Wasm.{name_at, u32_at, byte_at, limits_at, import_of_kind, import_at, imports_at, type_numbers_at, contents_of, section_bytes_at, wasm_section_at, next_wasm_section, wasm_sections, sections_of_file, custom_section, module_from_sections, wasm_module}

unfoldable pub reading_on_literals : ℕ
unfolding uleb_at sleb_at text_at number_at bytes_at part_at items_up_to items_at counted_at
reading_on_literals = 0

unfoldable pub units_on_literals : ℕ
unfolding reading_on_literals walk walk_up_to address_at implicit_at attribute_spec_at declaration_behind declaration_at abbreviation_table sized_part_at header_to_4 header_of_5 dwo_id_at unit_header_at next_unit_header unit_headers_from sized_number_at block_at formed_value_at form_behind form_code_at encoded_value_at value_at attributes_at declared_entry_at entry_at next_entry entries_from entries
units_on_literals = 0

unfoldable pub files_on_literals : ℕ
unfolding reading_on_literals walk walk_up_to is_utf8 chars encode name_at u32_at byte_at limits_at import_of_kind import_at imports_at type_numbers_at contents_of section_bytes_at wasm_section_at next_wasm_section wasm_sections sections_of_file custom_section module_from_sections wasm_module
files_on_literals = 0

unfoldable pub lines_on_literals : ℕ
unfolding units_on_literals text_elsewhere path_text root_offsets offset_of_root index_base directory_at file_behind file_at operations_at entry_format_at entry_formats_at entry_count_at entry_field_at entry_fields_at directories_of_5_at files_of_5_at line_names_at line_fields_at line_address_size_at line_header_at operand_at passed_operands_at extended_at extended_instruction_at instruction_at next_instruction instructions line_table_at line_table units table_of_unit segments_of_unit
lines_on_literals = 0

unfoldable pub trees_on_literals : ℕ
unfolding lines_on_literals text_named address_from address_named texts_of_unit value_said unit_said trees
trees_on_literals = 0
