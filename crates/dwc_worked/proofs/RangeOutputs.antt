-- An output with a range list: what it says, its fields, their relocations, and how long its section can be.
use Rattle.std.proofs.Common.{◌≡◌, ◌+◌, List, pos, negsuc, [], ◌∷◌, Err, refl}
use Rattle.std.specs.Prelude.{codes}
use Rattle.dwc_worked.proofs.OnLists.{lists_on_literals}
use Rattle.dwc_base.specs.declared.records.Endian.TheVariants.{Little}
use Rattle.dwc_base.specs.declared.records.Address.TheVariants.{Symbol}
use Rattle.dwc_base.specs.declared.faults.What.TheVariants.{RangeList}
use Rattle.dwc_base.specs.declared.section_name.SectionName.TheVariants.{Info, Abbrev, Ranges}
use Rattle.dwc_base.specs.Sections.{unreadable}
use Rattle.dwc_base.specs.Outputs.{OutputRelocation, OutputSection, function, section, output_sections}
use Rattle.dwc_dwarf.specs.Trees.{Tree, ranges}
use Rattle.dwc_output.specs.TreeReading.{trees, ranges_read, output_lists, CarriesTrees}
use Rattle.dwc_output.specs.Fields.{an_address, offset_in, fields_at, fields_of_entry, fields_of_named, fields_of_section, relocations_of_fields}
use Rattle.dwc_output.specs.WidestTrees.{widest_of_trees}

-- a compile unit of addresses of 4 bytes with its ranges, and a block with an empty list
abbrev pub abbrev_ranges : OutputSection
abbrev_ranges = record { name = codes ".debug_abbrev"; body = 0x01 ∷ 0x11 ∷ 0x01 ∷ 0x55 ∷ 0x17 ∷ 0x00 ∷ 0x00 ∷ 0x02 ∷ 0x0B ∷ 0x00 ∷ 0x55 ∷ 0x17 ∷ 0x00 ∷ 0x00 ∷ 0x00 ∷ []; relocations = [] }

abbrev pub info_ranges : OutputSection
info_ranges = record {
  name = codes ".debug_info";
  body = 0x12 ∷ 0x00 ∷ 0x00 ∷ 0x00 ∷ 0x04 ∷ 0x00 ∷ 0x00 ∷ 0x00 ∷ 0x00 ∷ 0x00 ∷ 0x04 ∷ 0x01 ∷ 0x00 ∷ 0x00 ∷ 0x00 ∷ 0x00 ∷ 0x02 ∷ 0x18 ∷ 0x00 ∷ 0x00 ∷ 0x00 ∷ 0x00 ∷ [];
  relocations =
      record { offset = 6; size = 4; target = section (codes ".debug_abbrev"); addend = pos 0 }
      ∷ record { offset = 12; size = 4; target = section (codes ".debug_ranges"); addend = pos 0 }
      ∷ record { offset = 17; size = 4; target = section (codes ".debug_ranges"); addend = pos 24 } ∷ [];
}

-- the relocations of the ends of two intervals, one behind the other
abbrev pub relocations_ranges : List OutputRelocation
relocations_ranges =
    record { offset = 0; size = 4; target = function 3; addend = pos 0 } ∷ record { offset = 4; size = 4; target = function 3; addend = pos 7 }
    ∷ record { offset = 8; size = 4; target = function 6; addend = negsuc 0 } ∷ record { offset = 12; size = 4; target = function 6; addend = pos 2 } ∷ []

-- two lists: two intervals with their end, and an end alone
abbrev pub lists_ranges : OutputSection
lists_ranges = record {
  name = codes ".debug_ranges";
  body =
      0x00 ∷ 0x00 ∷ 0x00 ∷ 0x00 ∷ 0x07 ∷ 0x00 ∷ 0x00 ∷ 0x00 ∷ 0xFF ∷ 0xFF ∷ 0xFF ∷ 0xFF ∷ 0x02 ∷ 0x00 ∷ 0x00 ∷ 0x00 ∷ 0x00 ∷ 0x00 ∷ 0x00 ∷ 0x00 ∷ 0x00 ∷ 0x00 ∷ 0x00 ∷ 0x00
      ∷ 0x00 ∷ 0x00 ∷ 0x00 ∷ 0x00 ∷ 0x00 ∷ 0x00 ∷ 0x00 ∷ 0x00 ∷ [];
  relocations = relocations_ranges;
}

abbrev pub output_ranges : List OutputSection
output_ranges = abbrev_ranges ∷ info_ranges ∷ lists_ranges ∷ []

abbrev pub tree_ranges : Tree
tree_ranges =
    record { depth = 0; tag = 0x11; attributes = (0x55, ranges (record { begin = Symbol 3 (pos 0); end = Symbol 3 (pos 7) } ∷ record { begin = Symbol 6 (negsuc 0); end = Symbol 6 (pos 2) } ∷ [])) ∷ [] }
    ∷ record { depth = 1; tag = 0x0B; attributes = (0x55, ranges []) ∷ [] } ∷ []

carries-ranges : CarriesTrees Little (tree_ranges ∷ []) output_ranges
unfolding lists_on_literals ranges_read
carries-ranges = refl

-- the section is missing
cut-ranges : trees (output_lists (output_sections Little (abbrev_ranges ∷ info_ranges ∷ []))) (output_sections Little (abbrev_ranges ∷ info_ranges ∷ [])) ≡ Err (unreadable RangeList Ranges 0)
unfolding lists_on_literals ranges_read
cut-ranges = refl

-- Each address of a list is a field, but the zeros that end it have no relocation.
fields-ranges : fields_of_section (output_sections Little output_ranges) Ranges ≡
    record { offset = 0; size = 4; held = an_address (Symbol 3 (pos 0)) } ∷ record { offset = 4; size = 4; held = an_address (Symbol 3 (pos 7)) }
    ∷ record { offset = 8; size = 4; held = an_address (Symbol 6 (negsuc 0)) } ∷ record { offset = 12; size = 4; held = an_address (Symbol 6 (pos 2)) } ∷ []
unfolding lists_on_literals fields_of_section fields_of_named
fields-ranges = refl

related-ranges : relocations_of_fields (fields_of_section (output_sections Little output_ranges) Ranges) ≡ relocations_ranges
unfolding lists_on_literals fields_of_section fields_of_named
related-ranges = refl

fields-of_info : fields_of_section (output_sections Little output_ranges) Info ≡
    record { offset = 6; size = 4; held = offset_in Abbrev 0 } ∷ record { offset = 12; size = 4; held = offset_in Ranges 0 } ∷ record { offset = 17; size = 4; held = offset_in Ranges 24 } ∷ []
unfolding lists_on_literals fields_of_section fields_at fields_of_entry
fields-of_info = refl

-- two intervals and an end, and an end, of 16 bytes each
widest-ranges : widest_of_trees Ranges (tree_ranges ∷ []) ≡ 48 + 16
widest-ranges = refl
