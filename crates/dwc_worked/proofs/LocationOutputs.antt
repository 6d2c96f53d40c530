-- An output with location lists: what it says, its fields, their relocations, and how long its section can be.
use Rattle.std.proofs.Common.{◌≡◌, ℕ, ◌+◌, List, length, pos, negsuc, [], ◌∷◌, Err, true, false, refl}
use Rattle.std.specs.Prelude.{codes}
use Rattle.dwc_worked.proofs.OnLists.{lists_on_literals}
use Rattle.dwc_base.specs.declared.records.Endian.TheVariants.{Little}
use Rattle.dwc_base.specs.declared.records.Address.TheVariants.{Symbol}
use Rattle.dwc_base.specs.declared.faults.What.TheVariants.{LocationList}
use Rattle.dwc_base.specs.declared.section_name.SectionName.TheVariants.{Info, Abbrev, Loc, Ranges}
use Rattle.dwc_base.specs.Sections.{unreadable}
use Rattle.dwc_base.specs.Outputs.{OutputRelocation, OutputSection, function, section, output_sections}
use Rattle.dwc_dwarf.specs.Trees.{Tree, locations}
use Rattle.dwc_dwarf.specs.TreeLaws.{have_short_expressions}
use Rattle.dwc_output.specs.TreeReading.{trees, locations_read, output_lists, CarriesTrees}
use Rattle.dwc_output.specs.Fields.{an_address, offset_in, fields_at, fields_of_entry, fields_of_named, fields_of_section, relocations_of_fields}
use Rattle.dwc_output.specs.WidestTrees.{widest_of_trees}

-- a compile unit of addresses of 4 bytes, and in it a variable with two places and one with an empty list
abbrev pub abbrev_locations : OutputSection
abbrev_locations = record { name = codes ".debug_abbrev"; body = 0x01 ∷ 0x11 ∷ 0x01 ∷ 0x00 ∷ 0x00 ∷ 0x02 ∷ 0x34 ∷ 0x00 ∷ 0x02 ∷ 0x17 ∷ 0x00 ∷ 0x00 ∷ 0x00 ∷ []; relocations = [] }

abbrev pub info_locations : OutputSection
info_locations = record {
  name = codes ".debug_info";
  body = 0x13 ∷ 0x00 ∷ 0x00 ∷ 0x00 ∷ 0x04 ∷ 0x00 ∷ 0x00 ∷ 0x00 ∷ 0x00 ∷ 0x00 ∷ 0x04 ∷ 0x01 ∷ 0x02 ∷ 0x00 ∷ 0x00 ∷ 0x00 ∷ 0x00 ∷ 0x02 ∷ 0x1F ∷ 0x00 ∷ 0x00 ∷ 0x00 ∷ 0x00 ∷ [];
  relocations =
      record { offset = 6; size = 4; target = section (codes ".debug_abbrev"); addend = pos 0 }
      ∷ record { offset = 13; size = 4; target = section (codes ".debug_loc"); addend = pos 0 }
      ∷ record { offset = 18; size = 4; target = section (codes ".debug_loc"); addend = pos 31 } ∷ [];
}

-- the relocations of the ends of two intervals, between which an expression stands
abbrev pub relocations_locations : List OutputRelocation
relocations_locations =
    record { offset = 0; size = 4; target = function 3; addend = pos 0 } ∷ record { offset = 4; size = 4; target = function 3; addend = pos 7 }
    ∷ record { offset = 12; size = 4; target = function 6; addend = negsuc 0 } ∷ record { offset = 16; size = 4; target = function 6; addend = pos 2 } ∷ []

-- two lists: two intervals with expressions of two bytes and of one, with their end, and an end alone
abbrev pub lists_locations : OutputSection
lists_locations = record {
  name = codes ".debug_loc";
  body =
      0x00 ∷ 0x00 ∷ 0x00 ∷ 0x00 ∷ 0x07 ∷ 0x00 ∷ 0x00 ∷ 0x00 ∷ 0x02 ∷ 0x00 ∷ 0x91 ∷ 0x12 ∷ 0xFF ∷ 0xFF ∷ 0xFF ∷ 0xFF ∷ 0x02 ∷ 0x00 ∷ 0x00 ∷ 0x00 ∷ 0x01 ∷ 0x00 ∷ 0x9C
      ∷ 0x00 ∷ 0x00 ∷ 0x00 ∷ 0x00 ∷ 0x00 ∷ 0x00 ∷ 0x00 ∷ 0x00 ∷ 0x00 ∷ 0x00 ∷ 0x00 ∷ 0x00 ∷ 0x00 ∷ 0x00 ∷ 0x00 ∷ 0x00 ∷ [];
  relocations = relocations_locations;
}

abbrev pub output_locations : List OutputSection
output_locations = abbrev_locations ∷ info_locations ∷ lists_locations ∷ []

-- the same with another expression behind the first interval
abbrev pub tree_with : List ℕ → Tree
tree_with bytes =
    record { depth = 0; tag = 0x11; attributes = [] }
    ∷ record {
      depth = 1;
      tag = 0x34;
      attributes =
          (0x02, locations (record { over = record { begin = Symbol 3 (pos 0); end = Symbol 3 (pos 7) }; bytes = bytes } ∷ record { over = record { begin = Symbol 6 (negsuc 0); end = Symbol 6 (pos 2) }; bytes = 0x9C ∷ [] } ∷ []))
          ∷ [];
    }
    ∷ record { depth = 1; tag = 0x34; attributes = (0x02, locations []) ∷ [] } ∷ []

abbrev pub tree_locations : Tree
tree_locations = tree_with (0x91 ∷ 0x12 ∷ [])

carries-locations : CarriesTrees Little (tree_locations ∷ []) output_locations
unfolding lists_on_literals locations_read
carries-locations = refl

-- the section is missing
cut-locations : trees (output_lists (output_sections Little (abbrev_locations ∷ info_locations ∷ []))) (output_sections Little (abbrev_locations ∷ info_locations ∷ [])) ≡ Err (unreadable LocationList Loc 0)
unfolding lists_on_literals locations_read
cut-locations = refl

-- Each address of a list is a field; the next one stands behind the expression, and the zeros at the end have no relocation.
fields-locations : fields_of_section (output_sections Little output_locations) Loc ≡
    record { offset = 0; size = 4; held = an_address (Symbol 3 (pos 0)) } ∷ record { offset = 4; size = 4; held = an_address (Symbol 3 (pos 7)) }
    ∷ record { offset = 12; size = 4; held = an_address (Symbol 6 (negsuc 0)) } ∷ record { offset = 16; size = 4; held = an_address (Symbol 6 (pos 2)) } ∷ []
unfolding lists_on_literals fields_of_section fields_of_named
fields-locations = refl

related-locations : relocations_of_fields (fields_of_section (output_sections Little output_locations) Loc) ≡ relocations_locations
unfolding lists_on_literals fields_of_section fields_of_named
related-locations = refl

-- a location list is no range list
no-ranges : fields_of_section (output_sections Little output_locations) Ranges ≡ []
unfolding lists_on_literals fields_of_section fields_of_named
no-ranges = refl

fields-of_info : fields_of_section (output_sections Little output_locations) Info ≡
    record { offset = 6; size = 4; held = offset_in Abbrev 0 } ∷ record { offset = 13; size = 4; held = offset_in Loc 0 } ∷ record { offset = 18; size = 4; held = offset_in Loc 31 } ∷ []
unfolding lists_on_literals fields_of_section fields_at fields_of_entry
fields-of_info = refl

-- two intervals of 16 bytes with lengths and expressions, an end, and an end
widest-locations : widest_of_trees Loc (tree_locations ∷ []) ≡ ((16 + 2 + 2) + (16 + 2 + 1) + 16) + 16
widest-locations = refl

-- an expression of 65,535 bytes is short, and one of a byte more is not
short-locations : (bytes : List ℕ) → length bytes ≡ 65535 → have_short_expressions (tree_with bytes ∷ []) ≡ true
short-locations bytes long = rw (long) refl

long-locations : (bytes : List ℕ) → length bytes ≡ 65536 → have_short_expressions (tree_with bytes ∷ []) ≡ false
long-locations bytes long = rw (long) refl
