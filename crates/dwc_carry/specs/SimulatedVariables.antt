-- The parameters and variables of a simulated function, as they are added below it.
use Rattle.std.specs.Prelude.{◌≡◌, ℕ, ◌≤◌, List, [], map, length, if◌then◌else◌, Option, Some, Result, Ok, Err}
use Rattle.std.specs.List.{flat_map}
use Rattle.dwc_base.specs.declared.records.Encoding.{Encoding}
use Rattle.dwc_base.specs.declared.constants.TheConstants.{DW_TAG_formal_parameter, DW_TAG_variable}
use Rattle.dwc_base.specs.declared.faults.Limit.TheVariants.{Jump}
use Rattle.dwc_native.specs.BuiltExpressions.{BuildRefusal}
use Rattle.dwc_rules.specs.Carried.{Module}
use Rattle.dwc_rules.specs.ContextVariable.{location_refusals}
use Rattle.dwc_carried.specs.DefinedFunctions.{DefinedFunction, types_at}
use Rattle.dwc_rules.specs.Drafts.{Draft}
use Rattle.dwc_rules.specs.EntryRules.{of_build}
use Rattle.dwc_rules.specs.Refusals.{Refusal}
use Rattle.dwc_rules.specs.Scopes.{source_end}
use Rattle.dwc_base.specs.Listing.{first_of}
use Rattle.dwc_carried.specs.SimulatedUnit.{function_index, has_entry, label_locations, surroundings_of}
use Rattle.dwc_base.specs.ToldFiles.{is_parameter}
use Rattle.dwc_base.specs.TranslationNames.{told_file}
use Rattle.dwc_dwarf.specs.Trees.{Location, TreeValue}
use Rattle.dwc_base.specs.WasmFunctions.{LocalTypes}
use Rattle.dwc_isa.specs.Registers.{Registers}
use Rattle.dwc_expr.specs.declared.error.ExprError.{ExprError}
use Rattle.dwc_expr.specs.declared.error.ExprError.TheVariants as expr
use Rattle.dwc_expr.specs.Builds.{location_view, surroundings}
use Rattle.dwc_unit.specs.declared.attributes.DebugInfoRef.{DebugInfoRef}
use Rattle.dwc_unit.specs.LocationLists.{LocationList}
use Rattle.dwc_unit.specs.GivenLines.{GivenLines}
use Rattle.dwc_unit.specs.GivenUnits.{Addition, GivenUnit}
use Rattle.dwc_clone.specs.ContextPlaces.{HasContext}
use Rattle.dwc_carry.specs.declared.error.DebugError.{DebugError}
use Rattle.dwc_carry.specs.declared.error.DebugError.TheVariants.{Read, BadLabelRange, InvalidAttributeValue, UnmappedRegister, TooLarge, OutOfMemory}
use Rattle.dwc_carry.specs.declared.simulated_variables.SimulatedFunction.{SimulatedFunction}
use Rattle.dwc_carry.specs.declared.simulated_functions.SimulatedModule.{SimulatedModule}
use Rattle.dwc_carry.specs.MadeEntries.{IsDense}
use Rattle.dwc_carry.specs.Refusals.{ReadsOr, RefusesReading}
use Rattle.dwc_carry.specs.SimulatedDrafts.{BeginsWith, HasVariables}

-- ---- what is given

-- What is given of a simulated function of a module tells that function.
pub record IsSimulatedFunction (registers : Registers) (m : Module) (d : DefinedFunction) (l : SimulatedModule) (f : SimulatedFunction) : Type 0 where
  pub file : m.file ≡ told_file l.translation.now
  pub index : function_index m d ≡ f.index
  pub locals : f.locals.now ≡ types_at m d
  pub surrounded : surroundings l.transform.now (Some f.frame) registers ≡ surroundings_of m d.function
  pub scope : f.scope ≡ (d.function.start, source_end d.function)
  pub place : l.compiled.now.place ≡ m.told.place

-- ---- refusals

-- what an error of a label tells, in the module at a place
abbrev pub of_label : ℕ → ExprError → DebugError
of_label place (expr.Read what section offset) = Read what section offset
of_label place expr.TooLarge = TooLarge Jump
of_label place (expr.BadLabelRange label) = BadLabelRange label
of_label place expr.InvalidAttributeValue = InvalidAttributeValue place
of_label place (expr.UnmappedRegister register) = UnmappedRegister register
of_label place expr.OutOfMemory = OutOfMemory

-- why a value has no locations, in the module at a place
abbrev pub refused_in : ℕ → Result (List Location) BuildRefusal → List Refusal
refused_in place located = map (of_build place) (location_refusals (Some located))

-- why a label of a function is refused, if it has an entry
abbrev pub label_refusals : Module → DefinedFunction → ℕ → List Refusal
label_refusals m d label = if has_entry m d label then refused_in m.told.place (label_locations m d.function label) else []

-- ---- what is answered

-- A call answers a list of where a value lies, or why that is refused in the module at a place.
abbrev pub LocatesOr : ℕ → Result (List Location) BuildRefusal → Result LocationList DebugError → Type 0
LocatesOr place expected (Ok list) = expected ≡ Ok (map location_view list.locations.items)
LocatesOr place expected (Err e) = RefusesReading (first_of (refused_in place expected)) e

-- A unit has the variable of the context, or why that is refused is answered.
abbrev pub AddsContextOr : ℕ → Result (List Location) BuildRefusal → ℕ → DebugInfoRef → List (List ℕ) → GivenUnit → GivenUnit → Result (Unit {0}) DebugError → Type 0
AddsContextOr place expected parent type texts u0 u (Ok done) = HasContext expected parent type texts u0 u
AddsContextOr place expected parent type texts u0 u (Err e) = RefusesReading (first_of (refused_in place expected)) e

-- the tag of a local, by the types of all of its function
abbrev pub local_tag_of : LocalTypes → ℕ → ℕ
local_tag_of locals n = if is_parameter locals n then DW_TAG_formal_parameter else DW_TAG_variable

-- ---- what is added

-- A unit has further entries, or none, and begins as before.
pub record Extends (old new : GivenUnit) : Type 0 where
  pub dense : IsDense new
  pub longer : length old.additions ≤ length new.additions
  pub begins : (encoding : Encoding) (lines : GivenLines) (root : Addition) → BeginsWith encoding lines root old → BeginsWith encoding lines root new

-- The entries of some labels are added, of which none is refused, and others are left: with these, what is refused first is that of all.
pub record LeftVariables (number : ℕ) (pointer : TreeValue) (m : Module) (d : DefinedFunction) (before : List Draft) (left : List ℕ) (place : ℕ) (total : Option Refusal) (texts : List (List ℕ)) (u : GivenUnit) : Type 0 where
  pub made : HasVariables number pointer m d texts before left place u
  pub first : first_of (flat_map (label_refusals m d) left) ≡ total

-- A call adds the entry of a label, so that others are left, or answers what is refused first.
abbrev pub GivesVariable : ℕ → TreeValue → Module → DefinedFunction → List Draft → List ℕ → ℕ → Option Refusal → List (List ℕ) → GivenUnit → Result (Unit {0}) DebugError → Type 0
GivesVariable number pointer m d before left place total after new (Ok done) = LeftVariables number pointer m d before left place total after new
GivesVariable number pointer m d before left place total after new (Err e) = RefusesReading total e

-- A call adds the entries of all labels, or answers what is refused first.
abbrev pub GivesVariables : ℕ → TreeValue → Module → DefinedFunction → List Draft → ℕ → Option Refusal → List (List ℕ) → GivenUnit → Result (Unit {0}) DebugError → Type 0
GivesVariables number pointer m d before place total after new result = ReadsOr (λ done. HasVariables number pointer m d after before [] place new) total result
