-- Given units as trees: what their entries say with the texts of a table, without the spelling of a section.
use Rattle.std.specs.Prelude.{ℕ, suc, ◌==◌, List, [], ◌∷◌, map, position, slice_get, Option, option_map, option_and_then}
use Rattle.dwc_dwarf.specs.Trees.{TreeValue, address, constant, flag, block, expression, text, line_table, ranges, locations, TreeEntry, Tree}
use Rattle.dwc_output.specs.TreeReading.{entry_or_nothing}
use Rattle.dwc_unit.specs.declared.attributes.Attribute.{Attribute}
use Rattle.dwc_unit.specs.declared.attributes.AttributeValue.{AttributeValue}
use Rattle.dwc_unit.specs.declared.attributes.AttributeValue.TheVariants.{Address, Constant, Flag, Block, Exprloc, StringRef, LineProgramRef, RangeListRef, LocationListRef, UnitRef, DebugInfoRef}
use Rattle.dwc_unit.specs.declared.attributes.DebugInfoRef.TheVariants.{Entry}
use Rattle.dwc_unit.specs.GivenUnits.{GivenEntry, OrderedUnit, place_of}
use Rattle.dwc_unit.specs.RangeLists.{interval_of}
use Rattle.dwc_unit.specs.Lists.{location_of}
use Rattle.dwc_unit.specs.UsedTexts.{text_numbered}

-- the place of the entry of a number among the entries of its unit in file order; none where the number is only reserved
abbrev pub place_in_order : OrderedUnit → ℕ → Option ℕ
place_in_order u id = option_and_then (λ place. position (λ e. e.place == place) u.entries) (place_of id u.places)

-- the same in the unit of a number
abbrev pub place_in_units : List OrderedUnit → ℕ → ℕ → Option (ℕ × ℕ)
place_in_units us number id = option_map (λ place. (number, place)) (option_and_then (λ u. place_in_order u id) (slice_get us number))

-- What a value says in a unit of a number among units. A reference to an entry that was not added says nothing.
abbrev pub given_said : List (List ℕ) → List OrderedUnit → ℕ → OrderedUnit → AttributeValue → TreeValue
given_said texts us number u (Address a) = address a
given_said texts us number u (Constant form bits) = constant form bits
given_said texts us number u (Flag b) = flag b
given_said texts us number u (Block bytes) = block bytes.items
given_said texts us number u (Exprloc e) = expression e
given_said texts us number u (StringRef id) = text (text_numbered texts id.index)
given_said texts us number u LineProgramRef = line_table
given_said texts us number u (RangeListRef list) = ranges (map interval_of list.ranges.items)
given_said texts us number u (LocationListRef list) = locations (map location_of list.locations.items)
given_said texts us number u (UnitRef id) = entry_or_nothing (option_map (λ place. (number, place)) (place_in_order u id.index))
given_said texts us number u (DebugInfoRef (Entry unit id)) = entry_or_nothing (place_in_units us unit.index id.index)

abbrev pub attribute_said : List (List ℕ) → List OrderedUnit → ℕ → OrderedUnit → Attribute → ℕ × TreeValue
attribute_said texts us number u a = (a.name, given_said texts us number u a.value)

abbrev pub tree_entry : List (List ℕ) → List OrderedUnit → ℕ → OrderedUnit → GivenEntry → TreeEntry
tree_entry texts us number u e = record { depth = e.depth; tag = e.tag; attributes = map (attribute_said texts us number u) e.attributes }

-- a given unit as a tree
abbrev pub given_tree : List (List ℕ) → List OrderedUnit → ℕ → OrderedUnit → Tree
given_tree texts us number u = map (tree_entry texts us number u) u.entries

-- units among others, of which the first has a number
abbrev pub trees_from : List (List ℕ) → List OrderedUnit → ℕ → List OrderedUnit → List Tree
trees_from texts all number [] = []
trees_from texts all number (u ∷ us) = given_tree texts all number u ∷ trees_from texts all (suc number) us

-- given units as trees
abbrev pub given_trees : List (List ℕ) → List OrderedUnit → List Tree
given_trees texts us = trees_from texts us 0 us
