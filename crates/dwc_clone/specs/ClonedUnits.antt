-- The unit of the output that is made of the kept entries of a unit.
use Rattle.dwc_extents.specs.CodeSources.{clone_rules, source_with}
use Rattle.std.specs.Prelude.{◌≡◌, ℕ, ◌<◌, ◌==◌, List, [], ◌∷◌, map, length, get_or, if◌then◌else◌, All, Option, Some, None, option_map, IfSome, Result, Ok, Err}
use Rattle.std.specs.List.{flat_map, AllZip}
use Rattle.dwc_base.specs.declared.constants.TheConstants.{DW_TAG_compile_unit}
use Rattle.dwc_dwarf.specs.Entries.{Entry}
use Rattle.dwc_dwarf.specs.ReadValues.{IsReadEntry}
use Rattle.dwc_rules.specs.Kept.{Placed}
use Rattle.dwc_rules.specs.Refusals.{Refusal}
use Rattle.dwc_base.specs.Listing.{first_of}
use Rattle.dwc_rules.specs.Drafts.{Role, itself, pointer_to_wrapper, reference_to_target, pointer_to_target, Goal, made_of, synthetic_entry, Draft}
use Rattle.dwc_rules.specs.Clones.{UnitSource, entry_refusals}
use Rattle.dwc_rules.specs.CarriedDrafts.{unit_drafts}
use Rattle.dwc_rules.specs.DraftForests.{settled_unit}
use Rattle.dwc_isa.specs.Registers.{Registers}
use Rattle.dwc_kept.specs.KeptUnits.{IsTree}
use Rattle.dwc_unit.specs.GivenUnits.{GivenUnit}
use Rattle.dwc_unit.specs.GivenUnits.{place_of as place_of_number}
use Rattle.dwc_unit.specs.UsedTexts.{texts_of_attributes}
use Rattle.dwc_unit.specs.AddedInOrder.{IsInOrder, tree_meant}
use Rattle.dwc_unit.specs.Renumbered.{LeadsToEntries}
use Rattle.dwc_source.specs.declared.error.CloneError.{CloneError}
use Rattle.dwc_source.specs.declared.source.CloneSource.{CloneSource}
use Rattle.dwc_source.specs.Errors.{refusal_told}
use Rattle.dwc_source.specs.OutputPlaces.{place_of}
use Rattle.dwc_source.specs.Sources.{synthetic_unit_of}
use Rattle.dwc_source.specs.MadeValues.{Grows}

-- the entries at some offsets, both in file order
abbrev pub picked : List ℕ → List Entry → List Entry
picked [] es = []
picked (k ∷ ks) [] = []
picked (k ∷ ks) (e ∷ es) = if e.offset == k then e ∷ picked ks es else picked (k ∷ ks) es

-- entries of a unit with the offset of the unit
abbrev pub placed_in : ℕ → List Entry → List Placed
placed_in unit es = map (λ e. record { unit = unit; entry = e }) es

abbrev pub depths_of : List Entry → List ℕ
depths_of es = map (λ e. e.depth) es

-- what is refused of some entries of the unit, in order
abbrev pub clone_refusals : Registers → CloneSource → UnitSource → List Entry → List Refusal
clone_refusals registers c s es = flat_map (entry_refusals (clone_rules registers c s) s) (placed_in c.unit.now.header.offset es)

-- what they become, in file order
abbrev pub clone_drafts : Registers → CloneSource → UnitSource → List Entry → List Draft
clone_drafts registers c s es = unit_drafts (source_with registers c s) s c.big_endian (placed_in c.unit.now.header.offset es)

abbrev pub draft_depths : List Draft → List ℕ
draft_depths ds = map (λ d. d.depth) ds

-- Entries that can be cloned: they were read, they are a tree in file order, and the root is a compile unit.
pub record AreClonable (es : List Entry) : Type 0 where
  pub root : Entry
  pub others : List Entry
  pub are : es ≡ root ∷ others
  pub tag : root.tag ≡ DW_TAG_compile_unit
  pub tree : IsTree (depths_of es)
  pub read : All IsReadEntry es

-- ---- numbers

-- Where goals are, by the numbers of entries: what is made of an entry itself where that stands, what else is made of it in the unit of
-- a number, where it has the number of its role, and entries of the module's own unit in the unit that the source refers to.
abbrev pub goal_number : CloneSource → ℕ → (ℕ → Role → Option ℕ) → Goal → Option (ℕ × ℕ)
goal_number c number roles (made_of offset itself) = place_of c.places.now offset
goal_number c number roles (made_of offset pointer_to_wrapper) = option_map (λ n. (number, n)) (roles offset pointer_to_wrapper)
goal_number c number roles (made_of offset reference_to_target) = option_map (λ n. (number, n)) (roles offset reference_to_target)
goal_number c number roles (made_of offset pointer_to_target) = option_map (λ n. (number, n)) (roles offset pointer_to_target)
goal_number c number roles (synthetic_entry place) = Some (synthetic_unit_of c, place)

-- An entry that is made of one of the input in a role has the number that is told of it.
abbrev pub HasNumber : (Goal → Option (ℕ × ℕ)) → ℕ → Draft → ℕ → Type 0
HasNumber goals number d n = IfSome d.origin (λ o. goals (made_of o.0 o.1) ≡ Some (number, n))

-- Entries have some numbers, each leading to its place.
pub record AreNumbered (goals : Goal → Option (ℕ × ℕ)) (number : ℕ) (ds : List Draft) (numbers : List ℕ) (u : GivenUnit) : Type 0 where
  pub counted : length numbers ≡ length u.additions
  pub places : (place : ℕ) → place < length numbers → place_of_number (get_or numbers place 0) u.places ≡ Some place
  pub told : AllZip (HasNumber goals number) ds numbers

-- A unit of the output, of a number, is made of some entries: nothing of them is refused; what they become was added in file order, under
-- some numbers, and says what it is to say, with a table of texts that has grown; and the version, the address size and the line program
-- are those of the unit that was begun.
pub record IsCloned (registers : Registers) (c : CloneSource) (number : ℕ) (s : UnitSource) (es : List Entry) (old new : List (List ℕ)) (begun u : GivenUnit) : Type 0 where
  pub grows : Grows old new
  pub accepted : clone_refusals registers c s es ≡ []
  pub version : u.version ≡ begun.version
  pub size : u.address_size ≡ begun.address_size
  pub lines : u.lines ≡ begun.lines
  pub order : IsInOrder (draft_depths (clone_drafts registers c s es)) u
  pub leads : LeadsToEntries u
  pub numbers : List ℕ
  pub roles : ℕ → Role → Option ℕ
  pub numbered : AreNumbered (goal_number c number roles) number (clone_drafts registers c s es) numbers u
  pub says : tree_meant new number (draft_depths (clone_drafts registers c s es)) u.additions ≡ settled_unit (goal_number c number roles) (clone_drafts registers c s es)
  pub texts : All (λ e. All (λ n. n < length new) (texts_of_attributes e.attributes)) u.additions

-- A refusal is for want of memory, or is the first of some.
abbrev pub TellsFirst : List Refusal → Option Refusal → Type 0
TellsFirst refusals None = Prim.Unit {0}
TellsFirst refusals (Some refusal) = first_of refusals ≡ Some refusal

-- That unit, or the first refusal.
abbrev pub GivesCloned : Registers → CloneSource → ℕ → UnitSource → List Entry → List (List ℕ) → List (List ℕ) → GivenUnit → Result GivenUnit CloneError → Type 0
GivesCloned registers c number s es old new begun (Ok u) = IsCloned registers c number s es old new begun u
GivesCloned registers c number s es old new begun (Err e) = TellsFirst (clone_refusals registers c s es) (refusal_told e)
