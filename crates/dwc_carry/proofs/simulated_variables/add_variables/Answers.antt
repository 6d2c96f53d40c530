use Rattle.std.proofs.lemmas.Result.{err_from_is_err_and}
use Rattle.dwc_base.specs.Listing.{first_of}
use Rattle.std.specs.List.{flat_map}
use Rattle.std.specs.FinMap as finite
use Rattle.dwc_carry.specs.SimulatedVariables.{label_refusals}
use Rattle.dwc_carry.specs.SyntheticUnits.{reference_meant}
use Rattle.dwc_carry.proofs.MadeLaws.{grows-twice}
use Rattle.dwc_carry.proofs.VariableLaws.{extends-on}
use Rattle.dwc_carry.proofs.VariableSteps.{labels-end, labels-next, left-done, left-first}
use Rattle.dwc_carry.proofs.simulated_variables.add_variables.Goals as goal

pub loop-label-preserved : goal.loop-label-preserved
loop-label-preserved g c =
    let next = labels-next c.loop-label.label-iterator c.next.new.self c.in-Some.label c.in-Some.ensures.steps in
    record {
      grows = grows-twice c.args.strings.now c.loop-label.strings c.add_variable.new.strings c.loop-label.invariant.grows c.add_variable.ensures.grows;
      extends = extends-on c.args.unit.now c.loop-label.unit c.add_variable.new.unit c.loop-label.invariant.extends c.in_ok-add_variable.ensures.extends;
      left = λ number m d before simulated has.
          let total = first_of (flat_map (label_refusals m d) (finite.keys c.args.function.now.frame.value_ranges.now)) in
          c.in_ok-add_variable.ensures.variable number m d before c.next.new.self total simulated
          (left-first number (reference_meant c.args.module.now.vmctx_ptr) m d before c.args.function.now.entry.index total c.loop-label.strings c.loop-label.unit c.loop-label.label-iterator c.in-Some.label.0 c.next.new.self next (c.loop-label.invariant.left number m d before simulated has));
    }

pub returns-in_err-add_variable-clause-variables : goal.returns-in_err-add_variable-clause-variables
returns-in_err-add_variable-clause-variables g c =
    let next = labels-next c.loop-label.label-iterator c.next.new.self c.in-Some.label c.in-Some.ensures.steps in
    let p = err_from_is_err_and c.from_residual.result c.from_residual.ensures.1 in
    rw (p.1, p.2)
    (λ number m d before simulated has.
    let total = first_of (flat_map (label_refusals m d) (finite.keys c.args.function.now.frame.value_ranges.now)) in
    c.in_err-add_variable.ensures.variable number m d before c.next.new.self total simulated
    (left-first number (reference_meant c.args.module.now.vmctx_ptr) m d before c.args.function.now.entry.index total c.loop-label.strings c.loop-label.unit c.loop-label.label-iterator c.in-Some.label.0 c.next.new.self next (c.loop-label.invariant.left number m d before simulated has)))

pub returns-clause-variables : goal.returns-clause-variables
returns-clause-variables g c =
    let none = labels-end c.loop-label.label-iterator c.in-None.ensures.steps.0 in
    λ number m d before simulated has.
    let total = first_of (flat_map (label_refusals m d) (finite.keys c.args.function.now.frame.value_ranges.now)) in
    left-done number (reference_meant c.args.module.now.vmctx_ptr) m d before c.args.function.now.entry.index total c.loop-label.strings c.loop-label.unit c.loop-label.label-iterator none (c.loop-label.invariant.left number m d before simulated has)
