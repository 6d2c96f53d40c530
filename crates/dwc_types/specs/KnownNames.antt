-- The types that were read of a unit and the names of wrappers that were made, and what is known by them.
use Rattle.std.specs.Prelude.{◌≡◌, ℕ, ◌==◌, ◌≤◌, ◌≢◌, Bool, true, false, List, ◌∷◌, ◌++◌, slice_get, Option, Some, None, IfSome, Result, Ok, Err}
use Rattle.std.specs.Ordering.{nat_cmp}
use Rattle.std.specs.BTreeMap.{BTreeMap, get}
use Rattle.dwc_base.specs.declared.constants.TheConstants.{DW_AT_type, DW_TAG_const_type, DW_TAG_pointer_type}
use Rattle.dwc_dwarf.specs.Entries.{attribute}
use Rattle.dwc_rules.specs.Kept.{Placed}
use Rattle.dwc_rules.specs.Clones.{UnitSource}
use Rattle.dwc_rules.specs.TypeNames.{type_name}
use Rattle.dwc_rules.specs.Wrappers.{wrapper_name}
use Rattle.dwc_unit.specs.declared.strings.StringId.{StringId}
use Rattle.dwc_source.specs.declared.error.CloneError.{CloneError}
use Rattle.dwc_source.specs.declared.source.CloneSource.{CloneSource}
use Rattle.dwc_types.specs.declared.known_type.DerivedType.{DerivedType}
use Rattle.dwc_types.specs.declared.known_type.KnownTypes.{KnownTypes}
use Rattle.dwc_types.specs.declared.type_name.NotedName.{NotedName}
use Rattle.dwc_types.specs.declared.type_name.TypeNames.{TypeNames}
use Rattle.dwc_types.specs.DerivedTypes.{is_at, met_in}
use Rattle.dwc_source.specs.KnownTexts.{IsNumbered}
use Rattle.dwc_source.specs.Sources.{IsEmitted}
use Rattle.dwc_types.specs.TypeChains.{GivesRead, offset_in_unit}
use Rattle.dwc_types.specs.TypeReads.{EndsSo, IsRead}
use Rattle.dwc_types.specs.TypeRings.{spelt_of}
use Rattle.dwc_types.specs.KeyedTypes.{KnowsKeys}

-- A derived type is kept at a place.
pub record IsKept (c : CloneSource) (s : UnitSource) (types : KnownTypes) (place : ℕ) (t : DerivedType) : Type 0 where
  pub read : IsRead c s t.offset t.tag t.next
  pub stands : get nat_cmp types.places t.offset ≡ Some place
  pub walk : t.walk ≤ types.walks

-- All types that are kept were read of the unit's entries.
pub record KnowsTypes (c : CloneSource) (s : UnitSource) (types : KnownTypes) : Type 0 where
  pub derived : (place : ℕ) (t : DerivedType) → slice_get types.derived.items place ≡ Some t → IsKept c s types place t
  pub ends : (offset : ℕ) → IfSome (get nat_cmp types.ends offset) (λ name. EndsSo c s offset name.items)

-- The name of the type of an entry can be read, and that of its wrapper has a number in a table of texts.
pub record IsWrapperName (s : UnitSource) (texts : List (List ℕ)) (e : Placed) (id : StringId) : Type 0 where
  pub name : List ℕ
  pub read : type_name s.texts s.entries e ≡ Ok name
  pub number : IsNumbered texts (wrapper_name e.entry.tag name) id

-- A call gives that number; or it wants memory, or tells the fault that reading the name meets.
abbrev pub GivesNumber : UnitSource → List (List ℕ) → Placed → Result StringId CloneError → Type 0
GivesNumber s texts e (Ok id) = IsWrapperName s texts e id
GivesNumber s texts e (Err error) = GivesRead {X = List ℕ} (λ name. name) (type_name s.texts s.entries e) (Err error)

-- A number is that of the name of the wrapper of each entry in the output that is a pointer, or is none, and has the type at an offset, but
-- for the one at an offset.
abbrev pub NamesWrappers : CloneSource → UnitSource → List (List ℕ) → Bool → ℕ → ℕ → StringId → Type 0
NamesWrappers c s texts pointer offset but id = (e : Placed) → IsEmitted c s e → (e.entry.tag == DW_TAG_pointer_type) ≡ pointer → offset_in_unit c (attribute DW_AT_type e.entry) ≡ Some offset → e.entry.offset ≢ but → IsWrapperName s texts e id

-- It is so for the entry at an offset.
abbrev pub NamesWrapper : CloneSource → UnitSource → List (List ℕ) → Bool → ℕ → ℕ → StringId → Type 0
NamesWrapper c s texts pointer offset own id = (e : Placed) → IsEmitted c s e → (e.entry.tag == DW_TAG_pointer_type) ≡ pointer → offset_in_unit c (attribute DW_AT_type e.entry) ≡ Some offset → e.entry.offset ≡ own → IsWrapperName s texts e id

-- So is each number of a map, by the offsets of the types.
pub record AreWrapperNames (c : CloneSource) (s : UnitSource) (texts : List (List ℕ)) (pointer : Bool) (noted : BTreeMap ℕ NotedName) : Type 0 where
  pub each : (offset : ℕ) → IfSome (get nat_cmp noted offset) (λ n. NamesWrappers c s texts pointer offset n.but n.name)

-- A number is that of the name of the wrapper of the entry at an offset.
abbrev pub IsOwnName : CloneSource → UnitSource → List (List ℕ) → ℕ → StringId → Type 0
IsOwnName c s texts offset id = (e : Placed) → IsEmitted c s e → e.entry.offset ≡ offset → IsWrapperName s texts e id

-- So is each number of a map, by the offsets of the entries.
pub record AreOwnNames (c : CloneSource) (s : UnitSource) (texts : List (List ℕ)) (noted : BTreeMap ℕ StringId) : Type 0 where
  pub each : (offset : ℕ) → IfSome (get nat_cmp noted offset) (λ id. IsOwnName c s texts offset id)

-- A number is that of the name of the wrapper of each type of a ring from which on the tags of the ring are the same.
abbrev pub NamesRing : CloneSource → UnitSource → List (List ℕ) → List DerivedType → StringId → Type 0
NamesRing c s texts ring id = (front left : List DerivedType) (t : DerivedType) → ring ≡ front ++ t ∷ left → (t.tag == DW_TAG_const_type) ≡ false → spelt_of (t ∷ (left ++ front)) ≡ spelt_of ring → IsOwnName c s texts t.offset id

-- So are those that are noted, of pointers and of references, and of entries in rings, in a table of texts; and the types and their keys are known.
pub record KnowsNames (c : CloneSource) (s : UnitSource) (texts : List (List ℕ)) (names : TypeNames) : Type 0 where
  pub types : KnowsTypes c s names.types
  pub pointers : AreWrapperNames c s texts true names.pointers
  pub references : AreWrapperNames c s texts false names.references
  pub rings : AreOwnNames c s texts names.rings
  pub keys : KnowsKeys c s texts names.keys

-- None is the one at an offset.
abbrev pub IsAway : List DerivedType → ℕ → Type 0
IsAway types offset = (place : ℕ) → is_at types place offset ≡ false

-- None was met on the chain of a number.
abbrev pub IsFresh : ℕ → List DerivedType → Type 0
IsFresh walk types = (offset : ℕ) → met_in walk types offset ≡ false

-- something holds unless a derived type is found
abbrev pub IfAway : Result (Option ℕ) CloneError → Type 0 → Type 0
IfAway (Ok (Some place)) P = Unit {0}
IfAway (Ok None) P = P
IfAway (Err e) P = P

-- and where a type is found that ends a chain
abbrev pub IfEnds : Result (Option ℕ) CloneError → Type 0 → Type 0
IfEnds (Ok None) P = P
IfEnds (Ok (Some place)) P = Unit {0}
IfEnds (Err e) P = Unit {0}
