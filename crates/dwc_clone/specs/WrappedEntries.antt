-- What is made of an entry that is wrapped, when its wrapper is opened.
use Rattle.std.specs.Prelude.{◌≡◌, ℕ, List, [], ◌∷◌, ◌++◌, length, take, Option, option_map, Result, Ok, Err}
use Rattle.dwc_base.specs.declared.constants.TheConstants.{DW_TAG_structure_type}
use Rattle.dwc_rules.specs.Kept.{Placed}
use Rattle.dwc_rules.specs.Clones.{UnitSource, entry_refusals}
use Rattle.dwc_rules.specs.TypeNames.{type_name}
use Rattle.dwc_rules.specs.Wrappers.{name_or_unknown, wrapper_name}
use Rattle.dwc_isa.specs.Registers.{Registers}
use Rattle.dwc_unit.specs.declared.strings.StringId.{StringId}
use Rattle.dwc_unit.specs.declared.units.UnitEntryId.{UnitEntryId}
use Rattle.dwc_unit.specs.GivenUnits.{GivenUnit}
use Rattle.dwc_clone.specs.declared.entry.PlacedEntry.{PlacedEntry}
use Rattle.dwc_source.specs.declared.error.CloneError.{CloneError}
use Rattle.dwc_source.specs.declared.source.CloneSource.{CloneSource}
use Rattle.dwc_clone.specs.declared.wrapper.OpenWrapper.{OpenWrapper}
use Rattle.dwc_clone.specs.declared.wrapper.WrapperTexts.{WrapperTexts}
use Rattle.dwc_source.specs.Errors.{refusal_told}
use Rattle.dwc_source.specs.KnownTexts.{IsNumbered}
use Rattle.dwc_source.specs.MadeValues.{Grows}
use Rattle.dwc_clone.specs.ClonedUnits.{TellsFirst}
use Rattle.dwc_extents.specs.CodeSources.{clone_rules}
use Rattle.dwc_clone.specs.ClonedEntries.{AddsBelow, last_parent, values_refused}
use Rattle.dwc_types.specs.TypeChains.{type_found}
use Rattle.dwc_clone.specs.OpenWrappers.{HasWrapperTexts, IsOpened, wrapper_added}

-- The attributes of an entry were read, of which nothing is refused; or the first refusal.
pub record AreChecked (registers : Registers) (c : CloneSource) (s : UnitSource) (p : Placed) (old new : List (List ℕ)) : Type 0 where
  pub grows : Grows old new
  pub accepted : values_refused registers c s p [] p.entry.attributes ≡ []

abbrev pub GivesChecked : Registers → CloneSource → UnitSource → Placed → List (List ℕ) → List (List ℕ) → Result (Unit {0}) CloneError → Type 0
GivesChecked registers c s p old new (Ok done) = AreChecked registers c s p old new
GivesChecked registers c s p old new (Err e) = TellsFirst (values_refused registers c s p [] p.entry.attributes) (refusal_told e)

-- the entry of the output that the type of an entry becomes
abbrev pub target_id : CloneSource → Placed → Option UnitEntryId
target_id c p = option_map (λ t. record { index = t.1 }) (type_found c p.entry)

-- The name of the wrapper of an entry was read behind its attributes, of which nothing is refused, and has a number in the table of texts.
pub record IsWrapperNamed (registers : Registers) (c : CloneSource) (s : UnitSource) (p : Placed) (old new : List (List ℕ)) (name : StringId) : Type 0 where
  pub grows : Grows old new
  pub accepted : entry_refusals (clone_rules registers c s) s p ≡ []
  pub is : IsNumbered new (wrapper_name p.entry.tag (name_or_unknown (type_name s.texts s.entries p))) name

abbrev pub GivesWrapperName : Registers → CloneSource → UnitSource → Placed → List (List ℕ) → List (List ℕ) → Result StringId CloneError → Type 0
GivesWrapperName registers c s p old new (Ok name) = IsWrapperNamed registers c s p old new name
GivesWrapperName registers c s p old new (Err e) = TellsFirst (entry_refusals (clone_rules registers c s) s p) (refusal_told e)

-- A structure was added for an entry, below the last of some entries that are the parents of its depth, and was given what a wrapper
-- with some texts has; it is then the last one of its depth, and the innermost wrapper that is open.
pub record AddsWrapper (c : CloneSource) (p : Placed) (texts : WrapperTexts) (parents path : List UnitEntryId) (id : UnitEntryId) (before behind : List OpenWrapper) (u0 u : GivenUnit) : Type 0 where
  pub placed : PlacedEntry
  pub bare : GivenUnit
  pub added : AddsBelow (last_parent p.entry.depth parents) id DW_TAG_structure_type u0 bare placed
  pub wrapper : OpenWrapper
  pub opened : IsOpened p.entry.depth placed.parent placed.id (target_id c p) (length bare.places) wrapper
  pub is : u ≡ wrapper_added wrapper texts c.wasm_ptr bare
  pub path_is : path ≡ take p.entry.depth parents ++ placed.id ∷ []
  pub opens : behind ≡ before ++ wrapper ∷ []

-- A wrapper was opened for an entry of which nothing is refused: its structure was added under a number below the last of some entries
-- that are the parents of its depth, and given what a wrapper has; it is then the last one of its depth.
pub record IsWrapped (registers : Registers) (c : CloneSource) (s : UnitSource) (p : Placed) (old new : List (List ℕ)) (parents path : List UnitEntryId) (id : UnitEntryId) (before behind : List OpenWrapper) (u0 u : GivenUnit) : Type 0 where
  pub grows : Grows old new
  pub accepted : entry_refusals (clone_rules registers c s) s p ≡ []
  pub placed : PlacedEntry
  pub bare : GivenUnit
  pub added : AddsBelow (last_parent p.entry.depth parents) id DW_TAG_structure_type u0 bare placed
  pub texts : WrapperTexts
  pub named : HasWrapperTexts new c.module.names.resolve_memory.now (wrapper_name p.entry.tag (name_or_unknown (type_name s.texts s.entries p))) texts
  pub wrapper : OpenWrapper
  pub opened : IsOpened p.entry.depth placed.parent placed.id (target_id c p) (length bare.places) wrapper
  pub is : u ≡ wrapper_added wrapper texts c.wasm_ptr bare
  pub path_is : path ≡ take p.entry.depth parents ++ placed.id ∷ []
  pub opens : behind ≡ before ++ wrapper ∷ []

-- That, or the first refusal.
abbrev pub GivesWrapped : Registers → CloneSource → UnitSource → Placed → List (List ℕ) → List (List ℕ) → List UnitEntryId → List UnitEntryId → UnitEntryId → List OpenWrapper → List OpenWrapper → GivenUnit → GivenUnit → Result (Unit {0}) CloneError → Type 0
GivesWrapped registers c s p old new parents path id before behind u0 u (Ok done) = IsWrapped registers c s p old new parents path id before behind u0 u
GivesWrapped registers c s p old new parents path id before behind u0 u (Err e) = TellsFirst (entry_refusals (clone_rules registers c s) s p) (refusal_told e)
