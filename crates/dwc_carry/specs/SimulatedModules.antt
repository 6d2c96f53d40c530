-- The simulated functions of a module, as they are added to the unit for functions without debugging information.
use Rattle.std.specs.Prelude.{◌≡◌, ℕ, List, [], drop, Bool, Option, Result, Ok, Err}
use Rattle.std.specs.List.{flat_map}
use Rattle.dwc_rules.specs.Carried.{Module}
use Rattle.dwc_carried.specs.DefinedFunctions.{DefinedFunction}
use Rattle.dwc_rules.specs.Drafts.{Draft}
use Rattle.dwc_carried.specs.SimulatedFunctions.{defined_from, simulated_among, simulated_functions}
use Rattle.dwc_rules.specs.Refusals.{Refusal}
use Rattle.dwc_base.specs.Listing.{first_of}
use Rattle.dwc_carried.specs.SimulatedUnit.{variable_refusals}
use Rattle.dwc_base.specs.TranslationNames.{told_file}
use Rattle.dwc_dwarf.specs.Trees.{TreeValue}
use Rattle.dwc_isa.specs.Registers.{Registers}
use Rattle.dwc_unit.specs.GivenUnits.{GivenUnit}
use Rattle.dwc_source.specs.CompiledModules.{told_by, HasFrames}
use Rattle.dwc_carry.specs.declared.error.DebugError.{DebugError}
use Rattle.dwc_carry.specs.declared.simulated_functions.SimulatedModule.{SimulatedModule}
use Rattle.dwc_carry.specs.Refusals.{ReadsOr, RefusesReading}
use Rattle.dwc_carry.specs.SimulatedDrafts.{HasFunctions}

-- What is given of a module tells that module.
pub record IsSimulatedModule (registers : Registers) (m : Module) (l : SimulatedModule) : Type 0 where
  pub file : m.file ≡ told_file l.translation.now
  pub functions : m.functions ≡ l.transform.now
  pub told : m.told ≡ told_by registers l.compiled.now
  pub frames : HasFrames l.compiled.now m.functions

-- The entries of its simulated functions are added, or the first refusal of their variables is answered.
abbrev pub GivesFunctions : (ℕ → Bool) → ℕ → TreeValue → Module → List Draft → List Draft → List (List ℕ) → GivenUnit → Result (Unit {0}) DebugError → Type 0
GivesFunctions translated number pointer m behind whole after new result = ReadsOr (λ done. HasFunctions number pointer m after behind whole [] new) (first_of (flat_map (variable_refusals m) (simulated_functions translated m))) result

-- ---- one function after another

-- the simulated functions of a module from a place on
abbrev pub simulated_from : (ℕ → Bool) → Module → ℕ → List DefinedFunction
simulated_from translated m place = simulated_among translated (defined_from place (drop place m.functions))

-- The entries of some simulated functions are added, of whose variables none is refused, and others are left: with these, what is refused
-- first is that of all.
pub record LeftFunctions (number : ℕ) (pointer : TreeValue) (m : Module) (behind whole : List Draft) (left : List DefinedFunction) (total : Option Refusal) (texts : List (List ℕ)) (u : GivenUnit) : Type 0 where
  pub made : HasFunctions number pointer m texts behind whole left u
  pub first : first_of (flat_map (variable_refusals m) left) ≡ total

-- A call adds the entries of a function, so that others are left, or answers what is refused first.
abbrev pub GivesFunction : ℕ → TreeValue → Module → List Draft → List Draft → List DefinedFunction → Option Refusal → List (List ℕ) → GivenUnit → Result (Unit {0}) DebugError → Type 0
GivesFunction number pointer m behind whole left total after new (Ok done) = LeftFunctions number pointer m behind whole left total after new
GivesFunction number pointer m behind whole left total after new (Err e) = RefusesReading total e
