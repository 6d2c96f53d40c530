-- An example: two units of version 4 or 5 whose entries name one another, and a number that is only reserved. Where the entries stand, the
-- bytes and the relocations are those that are written down here by hand.
use Rattle.std.proofs.Common.{◌≡◌, ℕ, refl, List, [], ◌∷◌, Some, None, pos}
use Rattle.std.specs.Prelude.{codes}
use Rattle.dwc_base.specs.declared.records.Endian.TheVariants.{Little}
use Rattle.dwc_dwarf.specs.Trees.{entry, nothing, Tree}
use Rattle.dwc_base.specs.Outputs.{OutputRelocation, section}
use Rattle.dwc_base.specs.NumberBytes.{uleb_bytes, uleb_bytes_within}
use Rattle.dwc_write.specs.SpelledRelocations.{info_relocations}
use Rattle.dwc_unit.specs.declared.attributes.AttributeValue.TheVariants.{UnitRef, DebugInfoRef}
use Rattle.dwc_unit.specs.declared.attributes.DebugInfoRef.TheVariants.{Entry}
use Rattle.dwc_unit.specs.GivenLines.{GivenLines}
use Rattle.dwc_unit.specs.GivenUnits.{OrderedUnit}
use Rattle.dwc_unit.specs.GivenTrees.{given_trees}
use Rattle.dwc_write.specs.Layouts.{entry_offsets, unit_length, offsets_by_number}
use Rattle.dwc_write.specs.SpelledOutput.{units_placed, abbrev_bytes, all_info_bytes, all_places}

abbrev pub no_lines : GivenLines
no_lines = record { address_size = None; directories = []; files = []; sequences = []; begun = None }

-- a root that names its child, which names the other unit's root and, by a number that is only reserved, nothing; the child has
-- the last number
abbrev pub first_unit : ℕ → OrderedUnit
first_unit version = record {
  version = version;
  address_size = 4;
  lines = no_lines;
  places = Some 0 ∷ None ∷ Some 1 ∷ [];
  entries = record { place = 0; depth = 0; tag = 0x11; attributes = record { name = 0x49; value = UnitRef (record { index = 2 }) } ∷ [] }
      ∷ record {
        place = 1;
        depth = 1;
        tag = 0x34;
        attributes = record { name = 0x49; value = DebugInfoRef (Entry (record { index = 1 }) (record { index = 0 })) } ∷ record { name = 0x01; value = UnitRef (record { index = 1 }) } ∷ [];
      } ∷ [];
}

abbrev pub second_unit : ℕ → OrderedUnit
second_unit version = record { version = version; address_size = 4; lines = no_lines; places = Some 0 ∷ []; entries = record { place = 0; depth = 0; tag = 0x11; attributes = [] } ∷ [] }

abbrev pub two_units : ℕ → List OrderedUnit
two_units version = first_unit version ∷ second_unit version ∷ []

-- behind the header of 11 or 12 bytes a code and a reference of four bytes
offsets-small : entry_offsets Little 4 (first_unit 4) ≡ 11 ∷ 16 ∷ []
unfolding uleb_bytes uleb_bytes_within
offsets-small = refl

new-offsets-small : entry_offsets Little 4 (first_unit 5) ≡ 12 ∷ 17 ∷ []
unfolding uleb_bytes uleb_bytes_within
new-offsets-small = refl

numbers-small : offsets_by_number Little 4 (first_unit 4) ≡ 11 ∷ 0 ∷ 16 ∷ []
unfolding uleb_bytes uleb_bytes_within
numbers-small = refl

length-small : unit_length Little 4 (first_unit 4) ≡ 26
unfolding uleb_bytes uleb_bytes_within
length-small = refl

new-length-small : unit_length Little 4 (first_unit 5) ≡ 27
unfolding uleb_bytes uleb_bytes_within
new-length-small = refl

-- The second unit begins at 26, and its root at 37.
info-small : all_info_bytes Little (all_places Little [] (two_units 4)) (two_units 4) ≡
    22 ∷ 0 ∷ 0 ∷ 0 ∷ 4 ∷ 0 ∷ 0 ∷ 0 ∷ 0 ∷ 0 ∷ 4 ∷ 1 ∷ 16 ∷ 0 ∷ 0 ∷ 0 ∷ 2 ∷ 37 ∷ 0 ∷ 0 ∷ 0 ∷ 0 ∷ 0 ∷ 0 ∷ 0 ∷ 0
    ∷ 8 ∷ 0 ∷ 0 ∷ 0 ∷ 4 ∷ 0 ∷ 17 ∷ 0 ∷ 0 ∷ 0 ∷ 4 ∷ 1 ∷ []
unfolding uleb_bytes uleb_bytes_within
info-small = refl

-- In version 5 it begins at 27, and its root at 39.
new-info-small : all_info_bytes Little (all_places Little [] (two_units 5)) (two_units 5) ≡
    23 ∷ 0 ∷ 0 ∷ 0 ∷ 5 ∷ 0 ∷ 1 ∷ 4 ∷ 0 ∷ 0 ∷ 0 ∷ 0 ∷ 1 ∷ 17 ∷ 0 ∷ 0 ∷ 0 ∷ 2 ∷ 39 ∷ 0 ∷ 0 ∷ 0 ∷ 0 ∷ 0 ∷ 0 ∷ 0 ∷ 0
    ∷ 9 ∷ 0 ∷ 0 ∷ 0 ∷ 5 ∷ 0 ∷ 1 ∷ 4 ∷ 17 ∷ 0 ∷ 0 ∷ 0 ∷ 1 ∷ []
unfolding uleb_bytes uleb_bytes_within
new-info-small = refl

abbrev-small : abbrev_bytes Little (all_places Little [] (two_units 4)) (two_units 4) ≡
    1 ∷ 0x11 ∷ 1 ∷ 0x49 ∷ 0x13 ∷ 0 ∷ 0 ∷ 2 ∷ 0x34 ∷ 0 ∷ 0x49 ∷ 0x10 ∷ 1 ∷ 0x13 ∷ 0 ∷ 0 ∷ 0
    ∷ 1 ∷ 0x11 ∷ 0 ∷ 0 ∷ 0 ∷ 0 ∷ []
unfolding uleb_bytes uleb_bytes_within
abbrev-small = refl

-- each table's offset, and the reference to another unit
abbrev pub relocations_written : List OutputRelocation
relocations_written =
    record { offset = 6; size = 4; target = section (codes ".debug_abbrev"); addend = pos 0 }
    ∷ record { offset = 17; size = 4; target = section (codes ".debug_info"); addend = pos 37 }
    ∷ record { offset = 32; size = 4; target = section (codes ".debug_abbrev"); addend = pos 17 } ∷ []

relocations-small : info_relocations Little 4 0 (units_placed Little (all_places Little [] (two_units 4)) (two_units 4)) ≡ relocations_written
unfolding uleb_bytes uleb_bytes_within
relocations-small = refl

abbrev pub new_relocations_written : List OutputRelocation
new_relocations_written =
    record { offset = 8; size = 4; target = section (codes ".debug_abbrev"); addend = pos 0 }
    ∷ record { offset = 18; size = 4; target = section (codes ".debug_info"); addend = pos 39 }
    ∷ record { offset = 35; size = 4; target = section (codes ".debug_abbrev"); addend = pos 17 } ∷ []

new-relocations-small : info_relocations Little 4 0 (units_placed Little (all_places Little [] (two_units 5)) (two_units 5)) ≡ new_relocations_written
unfolding uleb_bytes uleb_bytes_within
new-relocations-small = refl

-- what the units say
abbrev pub trees_written : List Tree
trees_written =
    (record { depth = 0; tag = 0x11; attributes = (0x49, entry 0 1) ∷ [] } ∷ record { depth = 1; tag = 0x34; attributes = (0x49, entry 1 0) ∷ (0x01, nothing) ∷ [] } ∷ [])
    ∷ (record { depth = 0; tag = 0x11; attributes = [] } ∷ []) ∷ []

trees-small : given_trees [] (two_units 4) ≡ trees_written
trees-small = refl
