-- Types that are read one after another, each derived from the next.
use Rattle.std.specs.Prelude.{◌≡◌, ℕ, List, [], is_some, true, IfSome, Option, Some, None, option_map, Result, Ok, Err}
use Rattle.std.specs.Ordering.{nat_cmp}
use Rattle.std.specs.BTreeMap.{get}
use Rattle.dwc_dwarf.specs.Entries.{Entry}
use Rattle.dwc_rules.specs.Kept.{Placed}
use Rattle.dwc_rules.specs.Clones.{UnitSource}
use Rattle.dwc_rules.specs.TypeNames.{derived_name, name_of}
use Rattle.dwc_read.specs.declared.entry.Entry.{Entry as ReadEntry}
use Rattle.dwc_read.specs.EntriesSeen.{entry_view}
use Rattle.dwc_unit.specs.TextTables.{IsText}
use Rattle.dwc_source.specs.declared.error.CloneError.{CloneError}
use Rattle.dwc_source.specs.declared.source.CloneSource.{CloneSource}
use Rattle.dwc_types.specs.declared.type_entry.TypeEntry.{TypeEntry}
use Rattle.dwc_types.specs.declared.known_type.KnownTypes.{KnownTypes}
use Rattle.dwc_types.specs.declared.type_name.TypeNames.{TypeNames}
use Rattle.dwc_types.specs.declared.known_type.TypeStep.{TypeStep}
use Rattle.dwc_types.specs.declared.known_type.TypeStep.TheVariants.{Named, Last, Derived}
use Rattle.dwc_source.specs.Errors.{refusal_told}
use Rattle.dwc_source.specs.Sources.{IsEmitted, IsSource}
use Rattle.dwc_types.specs.TypeChains.{GivesRead, type_found, type_view}

-- ---- the entry of a type

-- Two entries are alike, but for their depths.
pub record IsAlike (a b : Entry) : Type 0 where
  pub offset : a.offset ≡ b.offset
  pub tag : a.tag ≡ b.tag
  pub attributes : a.attributes ≡ b.attributes

-- An entry that is alike is read; or a refusal is for want of memory.
abbrev pub GivesAlike : Entry → Result ReadEntry CloneError → Type 0
GivesAlike e (Ok read) = IsAlike (entry_view read) e
GivesAlike e (Err error) = refusal_told error ≡ None

-- ---- one type

-- What is read of an entry: its name; or that it has none, and is derived from no other type; or its tag, and the type that it is derived
-- from.
abbrev pub GivesStep : CloneSource → UnitSource → Placed → Result TypeStep CloneError → Type 0
GivesStep c s f (Ok (Named text)) = name_of s.texts f ≡ Ok (Some text.now)
GivesStep c s f (Ok Last) = (name_of s.texts f ≡ Ok None) × (derived_name f.entry.tag ≡ None)
GivesStep c s f (Ok (Derived tag next)) = (name_of s.texts f ≡ Ok None) × (tag ≡ f.entry.tag) × (is_some (derived_name f.entry.tag) ≡ true) × (type_found c f.entry ≡ option_map type_view next)
GivesStep c s f (Err error) = GivesRead {X = Option (List ℕ)} (λ name. name) (name_of s.texts f) (Err error)

-- the same of the entry in the output that is at an offset
abbrev pub ReadsStep : CloneSource → ℕ → Result TypeStep CloneError → Type 0
ReadsStep c offset step = (number : ℕ) (s : UnitSource) (f : Placed) → IsSource c number s → IsEmitted c s f → f.entry.offset ≡ offset → GivesStep c s f step

-- the name of an entry
abbrev pub step_name : TypeStep → List ℕ
step_name (Named text) = text.now
step_name _ = []

-- ---- a chain of types

-- An entry in the output has a type.
pub record IsOfType (c : CloneSource) (s : UnitSource) (e : Placed) (first : TypeEntry) : Type 0 where
  pub number : ℕ
  pub source : IsSource c number s
  pub emitted : IsEmitted c s e
  pub type_is : type_found c e.entry ≡ Some (type_view first)

-- ---- names that are kept

-- Those of the types at the ends of chains have no zero byte.
pub record HaveTexts (types : KnownTypes) : Type 0 where
  pub each : (offset : ℕ) → IfSome (get nat_cmp types.ends offset) (λ name. IsText name.items)

-- So it is of the types that names were made of.
abbrev pub AreNames : TypeNames → Type 0
AreNames names = HaveTexts names.types
