use Rattle.std.proofs.Common.{◌+◌, ap, ◌∙◌, sym, true, false, slice_get}
use Rattle.std.specs.Option.{unwrap_or}
use Rattle.dwc_addr.specs.Transforms.{function_view}
use Rattle.dwc_clone.specs.BegunNumbers.{is_noted}
use Rattle.dwc_carry.specs.SimulatedModules.{simulated_from}
use Rattle.dwc_carry.specs.SyntheticUnits.{reference_meant}
use Rattle.dwc_carry.proofs.FunctionSteps.{function-gives, kept-at, kept-inside, left-simulated, left-passed, left-unnamed, simulated-unless}
use Rattle.dwc_carry.proofs.simulated_functions.add_if_simulated.Goals as goal

pub returns-then-contains-clause-functions : goal.returns-then-contains-clause-functions
returns-then-contains-clause-functions g c = λ m n behind whole total lm left.
    let registers = (goal.TargetIsa-dyn g c.args.isa.now).dwarf_registers c.args.isa.now.1 in
    let l = c.args.module.now in
    let place = c.args.place in
    let f = c.index-map-place.result in
    let inside = kept-inside c.map.result.now l.transform.now place c.map.ensures c.requires.inside in
    let found = ap (λ fs. slice_get fs place) lm.functions ∙ kept-at c.map.result.now l.transform.now place c.map.ensures f inside c.index-map-place.is in
    let passed = simulated-unless (is_noted c.args.translated.now) (function_view f) c.in-Some.number true c.in-Some.is (ap (λ o. unwrap_or o 0) c.in-Some.is) (sym c.contains.ensures ∙ c.if-contains.true) in
    left-passed (is_noted c.args.translated.now) n (reference_meant c.args.module.now.vmctx_ptr) m behind whole place (function_view f) total found c.args.strings.now c.args.unit.now passed left

pub returns-else-contains-clause-functions : goal.returns-else-contains-clause-functions
returns-else-contains-clause-functions g c = λ m n behind whole total lm left.
    let registers = (goal.TargetIsa-dyn g c.args.isa.now).dwarf_registers c.args.isa.now.1 in
    let l = c.args.module.now in
    let place = c.args.place in
    let f = c.index-map-place.result in
    let inside = kept-inside c.map.result.now l.transform.now place c.map.ensures c.requires.inside in
    let found = ap (λ fs. slice_get fs place) lm.functions ∙ kept-at c.map.result.now l.transform.now place c.map.ensures f inside c.index-map-place.is in
    let simulated = simulated-unless (is_noted c.args.translated.now) (function_view f) c.in-Some.number false c.in-Some.is (ap (λ o. unwrap_or o 0) c.in-Some.is) (sym c.contains.ensures ∙ c.if-contains.false) in
    let first = left-simulated (is_noted c.args.translated.now) n (reference_meant c.args.module.now.vmctx_ptr) m behind whole place (function_view f) total found c.args.strings.now c.args.unit.now simulated left in
    function-gives n (reference_meant c.args.module.now.vmctx_ptr) m behind whole (record { place = place; function = function_view f }) (simulated_from (is_noted c.args.translated.now) m (place + 1)) total c.args.strings.now c.add_function.new.strings c.args.unit.now c.add_function.new.unit first c.add_function.result
    (c.add_function.ensures.functions m n (function_view f) first.made.ds lm found c.in-Some.is first.made.made)

pub returns-in-None-clause-functions : goal.returns-in-None-clause-functions
returns-in-None-clause-functions g c = λ m n behind whole total lm left.
    let l = c.args.module.now in
    let place = c.args.place in
    let f = c.index-map-place.result in
    let inside = kept-inside c.map.result.now l.transform.now place c.map.ensures c.requires.inside in
    let found = ap (λ fs. slice_get fs place) lm.functions ∙ kept-at c.map.result.now l.transform.now place c.map.ensures f inside c.index-map-place.is in
    left-unnamed (is_noted c.args.translated.now) n (reference_meant c.args.module.now.vmctx_ptr) m behind whole place (function_view f) total found c.args.strings.now c.args.unit.now c.in-None.is left
