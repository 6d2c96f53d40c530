-- Where the context of a module lies, as calls answer it.
use Rattle.std.specs.Prelude.{◌≡◌, ◌⊎◌, ℕ, List, [], ◌∷◌, map, take, length, Option, Some, None, OnOk, Result, Ok, Err, codes}
use Rattle.dwc_base.specs.declared.constants.TheConstants.{DW_AT_location, DW_AT_name, DW_AT_type, DW_TAG_variable}
use Rattle.dwc_native.specs.BuiltExpressions.{BuildRefusal}
use Rattle.dwc_dwarf.specs.Trees.{Location}
use Rattle.dwc_rules.specs.EntryRules.{of_build}
use Rattle.dwc_rules.specs.ContextVariable.{location_refusals}
use Rattle.dwc_unit.specs.declared.attributes.AttributeValue.TheVariants.{LocationListRef, StringRef, DebugInfoRef as Reference}
use Rattle.dwc_unit.specs.declared.attributes.DebugInfoRef.{DebugInfoRef}
use Rattle.dwc_section.specs.declared.error.WriteError.{WriteError}
use Rattle.dwc_unit.specs.declared.strings.StringId.{StringId}
use Rattle.dwc_unit.specs.GivenUnits.{FitsValue, GivenUnit, with_child, with_next, with_value}
use Rattle.dwc_source.specs.declared.error.CloneError.{CloneError}
use Rattle.dwc_source.specs.Errors as refusals
use Rattle.dwc_source.specs.KnownTexts.{IsNumbered}
use Rattle.dwc_clone.specs.declared.made.MadeValue.TheVariants.{AnyEntry, Text}
use Rattle.dwc_clone.specs.ClonedUnits.{TellsFirst}
use Rattle.dwc_clone.specs.MadeAttributes.{with_made_entry}
use Rattle.dwc_expr.specs.declared.error.ExprError.{ExprError}
use Rattle.dwc_expr.specs.declared.error.ExprError.TheVariants.{OutOfMemory}
use Rattle.dwc_expr.specs.Builds.{location_view}
use Rattle.dwc_expr.specs.Errors.{refusal_told}
use Rattle.dwc_unit.specs.LocationLists.{LocationList}

-- An error is the refusal that it tells; one that tells nothing is want of memory.
abbrev pub IsRefused : Result (List Location) BuildRefusal → ExprError → Option BuildRefusal → Type 0
IsRefused expected e (Some refusal) = expected ≡ Err refusal
IsRefused expected e None = e ≡ OutOfMemory

-- A call answers a list of where it lies; or it wants memory, or tells why that is refused.
abbrev pub LiesOver : Result (List Location) BuildRefusal → Result LocationList ExprError → Type 0
LiesOver expected (Ok list) = expected ≡ Ok (map location_view list.locations.items)
LiesOver expected (Err e) = IsRefused expected e (refusal_told e)

-- a unit with the variable of the context below the entry of a number
abbrev pub with_variable : ℕ → StringId → DebugInfoRef → LocationList → GivenUnit → GivenUnit
with_variable parent name type list u =
    with_value (length u.places) DW_AT_location (LocationListRef list)
    (with_value (length u.places) DW_AT_type (Reference type)
    (with_value (length u.places) DW_AT_name (StringRef name)
    (with_child parent DW_TAG_variable (with_next u))))

-- A unit has the variable of the context below an entry, with a type and a list of where it lies.
pub record IsVariable (list : LocationList) (parent : ℕ) (type : DebugInfoRef) (texts : List (List ℕ)) (u0 u : GivenUnit) : Type 0 where
  pub name : StringId
  pub named : IsNumbered texts (codes "__vmctx") name
  pub is : u ≡ with_variable parent name type list u0

-- A unit as it was, or with a part of the variable of the context below an entry: with none of its attributes, its name, or its type too.
abbrev pub HasPartOfVariable : ℕ → DebugInfoRef → GivenUnit → GivenUnit → Type 0
HasPartOfVariable parent type u0 u = (u ≡ u0) ⊎ ((name : StringId) × (count : ℕ) × (u ≡ with_made_entry parent DW_TAG_variable (take count ((DW_AT_name, Text name) ∷ (DW_AT_type, AnyEntry type) ∷ [])) u0))

-- A call answers what a call of the writer answered; a refusal is one of the writer, for want of memory.
abbrev pub OfWritten : {T : Type 0} → Result T WriteError → Result T ExprError → Type 0
OfWritten written (Ok x) = written ≡ Ok x
OfWritten written (Err e) = (e ≡ OutOfMemory) × OnOk written ⊥

-- A unit has the variable of the context below an entry, with a type, and where it lies, as is expected.
pub record HasContext (expected : Result (List Location) BuildRefusal) (parent : ℕ) (type : DebugInfoRef) (texts : List (List ℕ)) (u0 u : GivenUnit) : Type 0 where
  pub list : LocationList
  pub located : expected ≡ Ok (map location_view list.locations.items)
  pub fits : (size : ℕ) → FitsValue size DW_AT_location (LocationListRef list)
  pub name : StringId
  pub named : IsNumbered texts (codes "__vmctx") name
  pub is : u ≡ with_variable parent name type list u0

-- That; or a call wants memory, or tells why it is refused.
abbrev pub AddsContext : Result (List Location) BuildRefusal → ℕ → DebugInfoRef → List (List ℕ) → GivenUnit → GivenUnit → Result (Unit {0}) ExprError → Type 0
AddsContext expected parent type texts u0 u (Ok done) = HasContext expected parent type texts u0 u
AddsContext expected parent type texts u0 u (Err e) = IsRefused expected e (refusal_told e)

-- A unit has the variable, where one is expected, and else is as it was.
abbrev pub HasVariable : Option (Result (List Location) BuildRefusal) → ℕ → DebugInfoRef → List (List ℕ) → GivenUnit → GivenUnit → Type 0
HasVariable None parent type texts u0 u = u ≡ u0
HasVariable (Some expected) parent type texts u0 u = HasContext expected parent type texts u0 u

-- That; or a call wants memory, or tells why it is refused, in the module at a place.
abbrev pub AddsVariable : ℕ → Option (Result (List Location) BuildRefusal) → ℕ → DebugInfoRef → List (List ℕ) → GivenUnit → GivenUnit → Result (Unit {0}) CloneError → Type 0
AddsVariable place expected parent type texts u0 u (Ok done) = HasVariable expected parent type texts u0 u
AddsVariable place expected parent type texts u0 u (Err e) = TellsFirst (map (of_build place) (location_refusals expected)) (refusals.refusal_told e)
