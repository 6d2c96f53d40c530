-- Units whose entries were added in file order: what they are to be, and what they say. (DWARF 4, section 2.3)
use Rattle.std.specs.Prelude.{◌≡◌, ℕ, suc, ◌<◌, ◌≤◌, List, [], ◌∷◌, ◌++◌, map, length, get_or}
use Rattle.dwc_dwarf.specs.Trees.{TreeValue, address, constant, flag, block, expression, text, line_table, ranges, locations, entry, TreeEntry, Tree}
use Rattle.dwc_unit.specs.declared.attributes.Attribute.{Attribute}
use Rattle.dwc_unit.specs.declared.attributes.AttributeValue.{AttributeValue}
use Rattle.dwc_unit.specs.declared.attributes.AttributeValue.TheVariants.{Address, Constant, Flag, Block, Exprloc, StringRef, LineProgramRef, RangeListRef, LocationListRef, UnitRef, DebugInfoRef}
use Rattle.dwc_unit.specs.declared.attributes.DebugInfoRef.TheVariants.{Entry}
use Rattle.dwc_unit.specs.GivenUnits.{Addition, GivenEntry, GivenUnit, entry_at, places_from, with_additions, with_next}
use Rattle.dwc_unit.specs.FileOrders.{no_addition}
use Rattle.dwc_unit.specs.RangeLists.{interval_of}
use Rattle.dwc_unit.specs.Lists.{location_of}
use Rattle.dwc_unit.specs.UsedTexts.{text_numbered}

-- ---- file order

-- An entry is the parent of another: it stands before it, its depth is one less, and all between them are at the other's depth or
-- below.
pub record IsParent (depths : List ℕ) (parent place : ℕ) : Type 0 where
  pub before : parent < place
  pub depth : get_or depths place 0 ≡ suc (get_or depths parent 0)
  pub between : (j : ℕ) → parent < j → j < place → get_or depths place 0 ≤ get_or depths j 0

-- Entries were added in file order, at some depths: the root first, and each other one below its parent.
pub record AreInOrder (depths : List ℕ) (es : List Addition) : Type 0 where
  pub counted : length depths ≡ length es
  pub some : 0 < length es
  pub root : get_or depths 0 0 ≡ 0
  pub parents : (place : ℕ) → 0 < place → place < length es → IsParent depths (get_or es place no_addition).parent place

-- A unit's entries were added in file order, whatever their numbers are.
abbrev pub IsInOrder : List ℕ → GivenUnit → Type 0
IsInOrder depths u = AreInOrder depths u.additions

-- The number of each entry of a unit is its place: none was reserved before.
abbrev pub IsNumberedByPlaces : GivenUnit → Type 0
IsNumberedByPlaces u = u.places ≡ places_from 0 u.additions

-- a unit with a further entry, which has its number already
abbrev pub with_last : Addition → GivenUnit → GivenUnit
with_last e u = with_additions (u.additions ++ e ∷ []) u

-- a unit with a further entry, whose number is the next one
abbrev pub with_entry : Addition → GivenUnit → GivenUnit
with_entry e u = with_last e (with_next u)

-- entries in the order of addition with their depths, of which the first stands at a place
abbrev pub entries_with : ℕ → List ℕ → List Addition → List GivenEntry
entries_with place [] es = []
entries_with place (d ∷ ds) [] = []
entries_with place (d ∷ ds) (e ∷ es) = entry_at d place e ∷ entries_with (suc place) ds es

-- ---- what such units say

-- What a value says in a unit of a number, where entries are told by their numbers.
abbrev pub value_meant : List (List ℕ) → ℕ → AttributeValue → TreeValue
value_meant texts number (Address a) = address a
value_meant texts number (Constant form bits) = constant form bits
value_meant texts number (Flag b) = flag b
value_meant texts number (Block bytes) = block bytes.items
value_meant texts number (Exprloc e) = expression e
value_meant texts number (StringRef id) = text (text_numbered texts id.index)
value_meant texts number LineProgramRef = line_table
value_meant texts number (RangeListRef list) = ranges (map interval_of list.ranges.items)
value_meant texts number (LocationListRef list) = locations (map location_of list.locations.items)
value_meant texts number (UnitRef id) = entry number id.index
value_meant texts number (DebugInfoRef (Entry unit id)) = entry unit.index id.index

abbrev pub attribute_meant : List (List ℕ) → ℕ → Attribute → ℕ × TreeValue
attribute_meant texts number a = (a.name, value_meant texts number a.value)

abbrev pub entry_meant : List (List ℕ) → ℕ → ℕ → Addition → TreeEntry
entry_meant texts number depth e = record { depth = depth; tag = e.tag; attributes = map (attribute_meant texts number) e.attributes }

-- the entries of a unit with their depths
abbrev pub tree_meant : List (List ℕ) → ℕ → List ℕ → List Addition → Tree
tree_meant texts number [] es = []
tree_meant texts number (d ∷ ds) [] = []
tree_meant texts number (d ∷ ds) (e ∷ es) = entry_meant texts number d e ∷ tree_meant texts number ds es

-- units with the depths of their entries, of which the first has a number
abbrev pub trees_meant : List (List ℕ) → ℕ → List (List ℕ) → List GivenUnit → List Tree
trees_meant texts number [] us = []
trees_meant texts number (ds ∷ dss) [] = []
trees_meant texts number (ds ∷ dss) (u ∷ us) = tree_meant texts number ds u.additions ∷ trees_meant texts (suc number) dss us
