-- The parts of a module whose functions are simulated.
use Rattle.std.specs.Prelude.{◌≡◌, ℕ, List, Bool, Result}
use Rattle.dwc_base.specs.declared.translation.ModuleTranslation.{ModuleTranslation}
use Rattle.dwc_rules.specs.Carried.{Module}
use Rattle.dwc_rules.specs.Drafts.{Draft}
use Rattle.dwc_native.specs.Functions.{Function}
use Rattle.dwc_carried.specs.SimulatedFunctions.{simulated_functions}
use Rattle.dwc_base.specs.TranslationNames.{told_file}
use Rattle.dwc_isa.specs.Registers.{Registers}
use Rattle.dwc_unit.specs.declared.attributes.DebugInfoRef.{DebugInfoRef}
use Rattle.dwc_unit.specs.GivenUnits.{GivenUnit}
use Rattle.dwc_source.specs.declared.compiled_module.CompiledModule.{CompiledModule}
use Rattle.dwc_source.specs.CompiledModules.{HasFrames, told_by}
use Rattle.dwc_carry.specs.declared.error.DebugError.{DebugError}
use Rattle.dwc_carry.specs.SimulatedModules.{GivesFunctions}
use Rattle.dwc_carry.specs.SyntheticUnits.{reference_meant}
use Rattle.dwc_carry.specs.SimulatedDrafts.{HasFunctions}

-- The parts of a module tell it.
pub record ArePartsOf (registers : Registers) (m : Module) (t : ModuleTranslation) (fs : List Function) (compiled : CompiledModule) : Type 0 where
  pub file : m.file ≡ told_file t
  pub functions : m.functions ≡ fs
  pub told : m.told ≡ told_by registers compiled
  pub frames : HasFrames compiled m.functions

-- The entries of the simulated functions of each such module are added, or the first refusal of their variables is answered.
abbrev pub AddsModule : Registers → (ℕ → Bool) → ModuleTranslation → List Function → CompiledModule → DebugInfoRef → List (List ℕ) → List (List ℕ) → GivenUnit → GivenUnit → Result (Unit {0}) DebugError → Type 0
AddsModule registers translated t fs compiled context before after old new result =
    (m : Module) (number : ℕ) (behind whole : List Draft) → ArePartsOf registers m t fs compiled → HasFunctions number (reference_meant context) m before behind whole (simulated_functions translated m) old → GivesFunctions translated number (reference_meant context) m behind whole after new result
