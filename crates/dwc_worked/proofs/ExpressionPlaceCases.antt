-- Where expressions of attributes stand, counted by hand.
use Rattle.std.proofs.Common.{◌≡◌, ℕ, ◌+◌, List, [], ◌∷◌, ◌++◌, drop, None, refl}
use Rattle.dwc_base.specs.Sections.{Sections}
use Rattle.dwc_base.specs.Units.{UnitHeader, unit_headers}
use Rattle.dwc_dwarf.specs.Values.{expression, text}
use Rattle.dwc_dwarf.specs.Entries.{entries}
use Rattle.dwc_dwarf.specs.ExpressionPlaces.{attribute_ends, entry_ends, value_ends, expression_place}
use Rattle.dwc_worked.proofs.Numbers.{at_place}
use Rattle.dwc_worked.proofs.OnLiterals.{units_on_literals}
use Rattle.dwc_worked.proofs.Readings.{three_sections}

unfoldable places_on_literals : ℕ
unfolding units_on_literals attribute_ends entry_ends value_ends
places_on_literals = 0

-- A root without attributes (1), and below it entries with location and data_location as expressions (2), with a name in place
-- and location as an expression (3), with location as a block (4), with location in a form that stands in the entry (5), and with
-- a form of a supplementary file between two expressions (6).
abbrev abbreviations : List ℕ
abbreviations =
    0x01 ∷ 0x11 ∷ 0x01 ∷ 0x00 ∷ 0x00
    ∷ 0x02 ∷ 0x34 ∷ 0x00 ∷ 0x02 ∷ 0x18 ∷ 0x50 ∷ 0x18 ∷ 0x00 ∷ 0x00
    ∷ 0x03 ∷ 0x34 ∷ 0x00 ∷ 0x03 ∷ 0x08 ∷ 0x02 ∷ 0x18 ∷ 0x00 ∷ 0x00
    ∷ 0x04 ∷ 0x34 ∷ 0x00 ∷ 0x02 ∷ 0x0A ∷ 0x00 ∷ 0x00
    ∷ 0x05 ∷ 0x34 ∷ 0x00 ∷ 0x02 ∷ 0x16 ∷ 0x00 ∷ 0x00
    ∷ 0x06 ∷ 0x34 ∷ 0x00 ∷ 0x02 ∷ 0x18 ∷ 0x49 ∷ 0x1C ∷ 0x50 ∷ 0x18 ∷ 0x00 ∷ 0x00
    ∷ 0x00 ∷ []

-- a unit of 34 bytes: its header up to 11, its root at 11, entries at 12, 18, 24 and 28, and the end of the siblings at 33
abbrev a_unit : List ℕ
a_unit =
    0x1E ∷ 0x00 ∷ 0x00 ∷ 0x00 ∷ 0x04 ∷ 0x00 ∷ 0x00 ∷ 0x00 ∷ 0x00 ∷ 0x00 ∷ 0x04
    ∷ 0x01
    ∷ 0x02 ∷ 0x02 ∷ 0x91 ∷ 0x12 ∷ 0x01 ∷ 0x9C
    ∷ 0x03 ∷ 0x61 ∷ 0x62 ∷ 0x00 ∷ 0x01 ∷ 0x9C
    ∷ 0x04 ∷ 0x02 ∷ 0x50 ∷ 0x9F
    ∷ 0x05 ∷ 0x18 ∷ 0x81 ∷ 0x00 ∷ 0x9C
    ∷ 0x00 ∷ []

-- a unit of 20 bytes: its header, and an entry at 11 whose first expression is at 13
abbrev a_broken_unit : List ℕ
a_broken_unit = 0x10 ∷ 0x00 ∷ 0x00 ∷ 0x00 ∷ 0x04 ∷ 0x00 ∷ 0x00 ∷ 0x00 ∷ 0x00 ∷ 0x00 ∷ 0x04 ∷ 0x06 ∷ 0x01 ∷ 0x9C ∷ 0x00 ∷ 0x00 ∷ 0x00 ∷ 0x00 ∷ 0x01 ∷ 0x9C ∷ []

-- the unit twice, and behind it the broken one
abbrev some_sections : Sections
some_sections = three_sections abbreviations (a_unit ++ (a_unit ++ a_broken_unit)) []

abbrev a_header : ℕ → ℕ → List ℕ → UnitHeader
a_header offset end content = record { offset = offset; end = end; version = 4; address_size = 4; unit_type = 1; abbreviations = 0; dwo_id = None; content = at_place (offset + 11) content }

abbrev first_header : UnitHeader
first_header = a_header 0 34 (drop 11 a_unit)

abbrev second_header : UnitHeader
second_header = a_header 34 68 (drop 11 a_unit)

abbrev broken_header : UnitHeader
broken_header = a_header 68 88 (drop 11 a_broken_unit)

headers : unit_headers some_sections ≡ record { items = first_header ∷ second_header ∷ broken_header ∷ []; fault = None }
unfolding places_on_literals
headers = refl

-- what their entries say
entries_read : entries some_sections first_header ≡ record {
  items = record { offset = 11; depth = 0; tag = 0x11; attributes = [] }
      ∷ record { offset = 12; depth = 1; tag = 0x34; attributes = (0x02, expression (0x91 ∷ 0x12 ∷ [])) ∷ (0x50, expression (0x9C ∷ [])) ∷ [] }
      ∷ record { offset = 18; depth = 1; tag = 0x34; attributes = (0x03, text (0x61 ∷ 0x62 ∷ [])) ∷ (0x02, expression (0x9C ∷ [])) ∷ [] }
      ∷ record { offset = 24; depth = 1; tag = 0x34; attributes = (0x02, expression (0x50 ∷ 0x9F ∷ [])) ∷ [] }
      ∷ record { offset = 28; depth = 1; tag = 0x34; attributes = (0x02, expression (0x9C ∷ [])) ∷ [] } ∷ [];
  fault = None;
}
unfolding places_on_literals
entries_read = refl

-- the values of an entry end where the next one begins, or the next entry
ends-two : value_ends some_sections first_header 12 ≡ 16 ∷ 18 ∷ []
unfolding places_on_literals
ends-two = refl

-- the first attribute: behind the code at 12 and the length at 13
first : expression_place some_sections first_header 12 0 (0x91 ∷ 0x12 ∷ []) ≡ 14
unfolding places_on_literals
first = refl

-- the second: its length is at 16
second : expression_place some_sections first_header 12 1 (0x9C ∷ []) ≡ 17
unfolding places_on_literals
second = refl

-- behind a text in place, which ends at 22
behind_text : expression_place some_sections first_header 18 1 (0x9C ∷ []) ≡ 23
unfolding places_on_literals
behind_text = refl

-- a block of one byte of length, under the name of an expression
of_block : expression_place some_sections first_header 24 0 (0x50 ∷ 0x9F ∷ []) ≡ 26
unfolding places_on_literals
of_block = refl

-- a form that stands in front of its value, and a length of two bytes
of_indirect : expression_place some_sections first_header 28 0 (0x9C ∷ []) ≡ 32
unfolding places_on_literals
of_indirect = refl

-- places count from the section's begin, and not from the unit's
in_second : expression_place some_sections second_header 46 0 (0x91 ∷ 0x12 ∷ []) ≡ 48
unfolding places_on_literals
in_second = refl

-- an expression in front of a value that cannot be read, and one behind it
before_broken : expression_place some_sections broken_header 79 0 (0x9C ∷ []) ≡ 81
unfolding places_on_literals
before_broken = refl

behind_broken : expression_place some_sections broken_header 79 2 (0x9C ∷ []) ≡ 0
unfolding places_on_literals
behind_broken = refl

-- no attribute of that number, no entry at that offset, and none of the unit
past_last : expression_place some_sections first_header 12 2 (0x9C ∷ []) ≡ 0
unfolding places_on_literals
past_last = refl

at_siblings : value_ends some_sections first_header 33 ≡ []
unfolding places_on_literals
at_siblings = refl

past_unit : value_ends some_sections first_header 46 ≡ []
unfolding places_on_literals
past_unit = refl
