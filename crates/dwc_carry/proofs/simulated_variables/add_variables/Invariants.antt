use Rattle.std.proofs.Common.{ℕ, List}
use Rattle.std.specs.FinMap as finite
use Rattle.std.specs.List.{flat_map}
use Rattle.dwc_rules.specs.Carried.{Module}
use Rattle.dwc_carried.specs.DefinedFunctions.{DefinedFunction}
use Rattle.dwc_rules.specs.Drafts.{Draft}
use Rattle.dwc_base.specs.Listing.{first_of}
use Rattle.dwc_source.specs.MadeValues.{Grows}
use Rattle.dwc_carry.specs.SimulatedVariables.{Extends, IsSimulatedFunction, LeftVariables, label_refusals}
use Rattle.dwc_carry.specs.SyntheticUnits.{reference_meant}
use Rattle.dwc_carry.specs.SimulatedDrafts.{HasVariables}
use Rattle.dwc_carry.proofs.simulated_variables.add_variables.Given as goal

-- the labels that the iterator has yet to give are left
abbrev pub invariant-loop-label : goal.invariant-loop-label
invariant-loop-label g l = record {
  grows : Grows l.fn.strings l.strings;
  extends : Extends l.fn.unit l.unit;
  left : (number : ℕ) (m : Module) (d : DefinedFunction) (before : List Draft) → IsSimulatedFunction ((goal.TargetIsa-dyn g l.isa.now).dwarf_registers l.isa.now.1) m d l.module l.function
      → HasVariables number (reference_meant l.module.vmctx_ptr) m d l.fn.strings before (finite.keys l.function.frame.value_ranges.now) l.function.entry.index l.fn.unit
      → LeftVariables number (reference_meant l.module.vmctx_ptr) m d before l.label-iterator l.function.entry.index (first_of (flat_map (label_refusals m d) (finite.keys l.function.frame.value_ranges.now))) l.strings l.unit;
}
