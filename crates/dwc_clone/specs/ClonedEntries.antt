-- The entries of the output that kept entries become, added one behind another to a unit.
use Rattle.std.specs.Prelude.{◌≡◌, ℕ, suc, ◌<◌, ◌-◌, List, [], ◌∷◌, map, length, take, fold, get_or, slice_get, All, Option, Some, None, option_map, option_and_then, Result, Ok, Err, filter_map}
use Rattle.dwc_base.specs.declared.constants.TheConstants.{DW_TAG_compile_unit}
use Rattle.dwc_dwarf.specs.Values.{Value}
use Rattle.dwc_dwarf.specs.Entries as Entries
use Rattle.dwc_rules.specs.Kept.{Placed}
use Rattle.dwc_rules.specs.Refusals.{Refusal}
use Rattle.dwc_dwarf.specs.Trees.{TreeValue, set_attribute}
use Rattle.dwc_rules.specs.Clones.{UnitSource, attributes_become, if_made, if_refused}
use Rattle.dwc_rules.specs.Drafts.{Goal, DraftValue}
use Rattle.dwc_rules.specs.DraftForests.{settled}
use Rattle.dwc_isa.specs.Registers.{Registers}
use Rattle.dwc_kept.specs.KeptUnits.{AreBelow}
use Rattle.dwc_unit.specs.declared.attributes.AttributeValue.{AttributeValue}
use Rattle.dwc_unit.specs.declared.units.UnitEntryId.{UnitEntryId}
use Rattle.dwc_unit.specs.GivenUnits.{Addition, GivenUnit, IsAdded, IsReserved, place_of, with_child, with_known, with_value}
use Rattle.dwc_unit.specs.UsedTexts.{texts_of_attributes}
use Rattle.dwc_unit.specs.AddedInOrder.{attribute_meant, with_last}
use Rattle.dwc_clone.specs.declared.entry.PlacedEntry.{PlacedEntry}
use Rattle.dwc_source.specs.declared.error.CloneError.{CloneError}
use Rattle.dwc_source.specs.declared.source.CloneSource.{CloneSource}
use Rattle.dwc_source.specs.Errors.{refusal_told}
use Rattle.dwc_source.specs.MadeValues.{Grows}
use Rattle.dwc_clone.specs.ClonedUnits.{depths_of, TellsFirst}
use Rattle.dwc_extents.specs.CodeSources.{clone_rules}

-- ---- values of the entry that was added last

-- A unit's last entry, which is added to a base, has a number that is known there; the texts that it names are those of a table.
pub record IsLast (texts : List (List ℕ)) (id : UnitEntryId) (base : GivenUnit) (e : Addition) (u : GivenUnit) : Type 0 where
  pub number : place_of id.index base.places ≡ Some (length base.additions)
  pub is : u ≡ with_last e base
  pub names : All (λ n. n < length texts) (texts_of_attributes e.attributes)

-- values that are set one behind another in what an entry says
abbrev pub set_behind : List (ℕ × TreeValue) → List (ℕ × TreeValue) → List (ℕ × TreeValue)
set_behind said values = fold (λ before a. set_attribute a before) said values

-- A unit's last entry was given values, in the unit of a number, and nothing else of it has changed; the table of texts has grown.
pub record IsGiven (number : ℕ) (old new : List (List ℕ)) (values : List (ℕ × TreeValue)) (base : GivenUnit) (e : Addition) (u : GivenUnit) : Type 0 where
  pub grows : Grows old new
  pub given : Addition
  pub is : u ≡ with_last given base
  pub parent : given.parent ≡ e.parent
  pub tag : given.tag ≡ e.tag
  pub means : map (attribute_meant new number) given.attributes ≡ set_behind (map (attribute_meant old number) e.attributes) values
  pub texts : All (λ n. n < length new) (texts_of_attributes given.attributes)

-- a value, if there is one, in the entry of a number
abbrev pub with_made : ℕ → ℕ → Option AttributeValue → GivenUnit → GivenUnit
with_made id name None u = u
with_made id name (Some value) u = with_value id name value u

-- ---- what attributes become

-- How an attribute is told that was made: it goes, or has another value.
abbrev pub Tell : Type 0
Tell = ℕ × DraftValue → Option (ℕ × DraftValue)

-- It keeps its name.
abbrev pub KeepsNames : Tell → Type 0
KeepsNames tell = (a y : ℕ × DraftValue) → tell a ≡ Some y → y.0 ≡ a.0

-- what becomes of what was made under a name, as it is told
abbrev pub told_draft : Tell → ℕ → Option DraftValue → Option DraftValue
told_draft tell name draft = option_and_then (λ v. option_map (λ y. y.1) (tell (name, v))) draft

-- what attributes of an entry are to say, behind some others, as they are told
abbrev pub values_wanted : (Goal → Option (ℕ × ℕ)) → Tell → Registers → CloneSource → UnitSource → Placed → List (ℕ × Value) → List (ℕ × Value) → List (ℕ × TreeValue)
values_wanted goals tell registers c s e before as' = filter_map (settled goals) (filter_map tell (filter_map (λ a. if_made a.0 a.1) (attributes_become (clone_rules registers c s) s e before as')))

-- what is refused of them
abbrev pub values_refused : Registers → CloneSource → UnitSource → Placed → List (ℕ × Value) → List (ℕ × Value) → List Refusal
values_refused registers c s e before as' = filter_map (λ a. if_refused a.1) (attributes_become (clone_rules registers c s) s e before as')

-- A unit's last entry has what the attributes of an entry are to say, of which nothing is refused.
pub record AreSet (goals : Goal → Option (ℕ × ℕ)) (tell : Tell) (registers : Registers) (c : CloneSource) (number : ℕ) (s : UnitSource) (p : Placed) (old new : List (List ℕ)) (base : GivenUnit) (e : Addition) (u : GivenUnit) : Type 0 where
  pub given : IsGiven number old new (values_wanted goals tell registers c s p [] p.entry.attributes) base e u
  pub accepted : values_refused registers c s p [] p.entry.attributes ≡ []

-- That, or the first refusal.
abbrev pub GivesSet : (Goal → Option (ℕ × ℕ)) → Tell → Registers → CloneSource → ℕ → UnitSource → Placed → List (List ℕ) → List (List ℕ) → GivenUnit → Addition → GivenUnit → Result (Unit {0}) CloneError → Type 0
GivesSet goals tell registers c number s p old new base e u (Ok done) = AreSet goals tell registers c number s p old new base e u
GivesSet goals tell registers c number s p old new base e u (Err error) = TellsFirst (values_refused registers c s p [] p.entry.attributes) (refusal_told error)

-- ---- entries below their parents (DWARF 4 and 5, section 2.3)

-- The root, and the entries that others may be added below, were added.
pub record AreKnown (parents : List UnitEntryId) (u : GivenUnit) : Type 0 where
  pub root : IsAdded 0 u
  pub others : All (λ p. IsAdded p.index u) parents

-- the last of some entries that are the parents of a depth
abbrev pub last_parent : ℕ → List UnitEntryId → Option UnitEntryId
last_parent depth parents = slice_get (take depth parents) (length (take depth parents) - 1)

-- An entry was added below a parent, under a number that was reserved; without a parent it is the root, which is there already.
abbrev pub AddsBelow : Option UnitEntryId → UnitEntryId → ℕ → GivenUnit → GivenUnit → PlacedEntry → Type 0
AddsBelow None id tag old new placed = (new ≡ old) × (placed ≡ record { id = record { index = 0 }; parent = record { index = 0 } })
AddsBelow (Some parent) id tag old new placed = (new ≡ with_child parent.index tag (with_known id.index old)) × (placed ≡ record { id = id; parent = parent })

-- A number that was reserved is asked for, unless the entry is the first.
abbrev pub CanAdd : UnitEntryId → List UnitEntryId → GivenUnit → Type 0
CanAdd id [] u = Unit {0}
CanAdd id (p ∷ ps) u = IsReserved id.index u

-- The entry at a place is the last one of a depth: all behind it are deeper.
pub record IsLastOf (depths : List ℕ) (depth place : ℕ) : Type 0 where
  pub within : place < length depths
  pub here : get_or depths place 0 ≡ depth
  pub behind : (j : ℕ) → place < j → j < length depths → depth < get_or depths j 0

-- An entry of a unit, by its number, is.
pub record IsLastAt (depths : List ℕ) (depth : ℕ) (u : GivenUnit) (id : UnitEntryId) : Type 0 where
  pub place : ℕ
  pub at : place_of id.index u.places ≡ Some place
  pub last : IsLastOf depths depth place

-- Entries are the last one of each depth, of which the first has a depth.
abbrev pub ArePath : List ℕ → ℕ → GivenUnit → List UnitEntryId → Type 0
ArePath depths depth u [] = Unit {0}
ArePath depths depth u (p ∷ ps) = IsLastAt depths depth u p × ArePath depths (suc depth) u ps

-- Entries can follow those that were cloned, of which the last one of each depth is known: the first is a compile unit's root, and
-- the depths are those of a tree.
abbrev pub CanFollow : List UnitEntryId → List Entries.Entry → Type 0
CanFollow [] [] = Unit {0}
CanFollow [] (root ∷ others) = (root.depth ≡ 0) × (root.tag ≡ DW_TAG_compile_unit) × AreBelow 0 (depths_of others)
CanFollow (p ∷ ps) es = AreBelow (length ps) (depths_of es)
