use Rattle.std.proofs.Common.{ℕ, List}
use Rattle.std.specs.List.{flat_map}
use Rattle.dwc_rules.specs.Carried.{Module}
use Rattle.dwc_rules.specs.Drafts.{Draft}
use Rattle.dwc_carried.specs.SimulatedFunctions.{simulated_functions}
use Rattle.dwc_base.specs.Listing.{first_of}
use Rattle.dwc_carried.specs.SimulatedUnit.{variable_refusals}
use Rattle.dwc_clone.specs.BegunNumbers.{is_noted}
use Rattle.dwc_source.specs.MadeValues.{Grows}
use Rattle.dwc_carry.specs.SimulatedModules.{IsSimulatedModule, LeftFunctions, simulated_from}
use Rattle.dwc_carry.specs.SimulatedVariables.{Extends}
use Rattle.dwc_carry.specs.SyntheticUnits.{reference_meant}
use Rattle.dwc_carry.specs.SimulatedDrafts.{HasFunctions}
use Rattle.dwc_carry.proofs.simulated_functions.add_functions.Given as goal

-- the simulated functions from a place on are left
abbrev pub invariant-loop-place : goal.invariant-loop-place
invariant-loop-place g l = record {
  grows : Grows l.fn.strings l.strings;
  extends : Extends l.fn.unit l.unit;
  left : (m : Module) (number : ℕ) (behind whole : List Draft) → IsSimulatedModule ((goal.TargetIsa-dyn g l.isa.now).dwarf_registers l.isa.now.1) m l.module
      → HasFunctions number (reference_meant l.module.vmctx_ptr) m l.fn.strings behind whole (simulated_functions (is_noted l.translated) m) l.fn.unit
      → LeftFunctions number (reference_meant l.module.vmctx_ptr) m behind whole (simulated_from (is_noted l.translated) m l.place) (first_of (flat_map (variable_refusals m) (simulated_functions (is_noted l.translated) m))) l.strings l.unit;
}
