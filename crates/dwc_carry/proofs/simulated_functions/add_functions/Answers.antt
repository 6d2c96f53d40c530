use Rattle.std.proofs.lemmas.Result.{err_from_is_err_and}
use Rattle.std.specs.List.{flat_map}
use Rattle.dwc_carried.specs.SimulatedFunctions.{simulated_functions}
use Rattle.dwc_base.specs.Listing.{first_of}
use Rattle.dwc_carried.specs.SimulatedUnit.{variable_refusals}
use Rattle.dwc_clone.specs.BegunNumbers.{is_noted}
use Rattle.dwc_carry.specs.SyntheticUnits.{reference_meant}
use Rattle.dwc_carry.proofs.FunctionSteps.{functions-left, functions-past, past-kept}
use Rattle.dwc_carry.proofs.MadeLaws.{grows-same, grows-twice}
use Rattle.dwc_carry.proofs.VariableLaws.{extends-not, extends-on}
use Rattle.dwc_carry.proofs.simulated_functions.add_functions.Goals as goal

pub loop-place-init : goal.loop-place-init
loop-place-init g c = record {
  grows = grows-same c.args.strings.now;
  extends = extends-not c.args.unit.now c.requires.dense;
  left = λ m number behind whole lm has. functions-left (is_noted c.args.translated.now) number (reference_meant c.args.module.now.vmctx_ptr) m behind whole c.args.strings.now c.args.unit.now has;
}

pub returns-in_err-add_if_simulated-clause-functions : goal.returns-in_err-add_if_simulated-clause-functions
returns-in_err-add_if_simulated-clause-functions g c = λ m number behind whole lm has.
    let p = err_from_is_err_and c.from_residual.result c.from_residual.ensures.1 in
    let total = first_of (flat_map (variable_refusals m) (simulated_functions (is_noted c.args.translated.now) m)) in
    rw (p.1, p.2) (c.in_err-add_if_simulated.ensures.functions m number behind whole total lm (c.loop-place.invariant.left m number behind whole lm has))

pub loop-place-preserved : goal.loop-place-preserved
loop-place-preserved g c = record {
  grows = grows-twice c.args.strings.now c.loop-place.strings c.add_if_simulated.new.strings c.loop-place.invariant.grows c.in_ok-add_if_simulated.ensures.grows;
  extends = extends-on c.args.unit.now c.loop-place.unit c.add_if_simulated.new.unit c.loop-place.invariant.extends c.in_ok-add_if_simulated.ensures.extends;
  left = λ m number behind whole lm has.
      c.in_ok-add_if_simulated.ensures.functions m number behind whole (first_of (flat_map (variable_refusals m) (simulated_functions (is_noted c.args.translated.now) m))) lm (c.loop-place.invariant.left m number behind whole lm has);
}

pub returns-clause-functions : goal.returns-clause-functions
returns-clause-functions g c = λ m number behind whole lm has.
    let l = c.args.module.now in
    let total = first_of (flat_map (variable_refusals m) (simulated_functions (is_noted c.args.translated.now) m)) in
    functions-past (is_noted c.args.translated.now) number (reference_meant c.args.module.now.vmctx_ptr) m behind whole c.loop-place.strings c.loop-place.unit c.loop-place.place total
    (past-kept c.map-place-end.result.now l.transform.now m c.loop-place.place c.map-place-end.ensures lm.functions c.loop-place-test.false)
    (c.loop-place.invariant.left m number behind whole lm has)
