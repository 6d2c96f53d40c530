use Rattle.std.proofs.Common.{ℕ, ap, ◌∙◌, sym, subst, refl}
use Rattle.dwc_native.specs.Functions.{Function}
use Rattle.dwc_rules.specs.Scopes.{source_end}
use Rattle.dwc_carried.specs.DefinedFunctions.{DefinedFunction}
use Rattle.dwc_carry.specs.SimulatedCode.{HasFirstLine}
use Rattle.dwc_carry.specs.SyntheticUnits.{reference_meant}
use Rattle.dwc_carry.proofs.FunctionSteps.{function-added, function-simulated, kept-holds, kept-inside, kept-is, labels-told, never-none, numbered-at}
use Rattle.dwc_carry.proofs.simulated_functions.add_function.Goals as goal

pub begin_function-requires-clause-line : goal.begin_function-requires-clause-line
begin_function-requires-clause-line g c =
    let l = c.args.module.now in
    let inside = kept-inside c.map.result.now l.transform.now c.args.place c.map.ensures c.requires.inside in
    kept-holds c.map.result.now l.transform.now c.args.place c.map.ensures (HasFirstLine l.translation.now.code_section_offset) c.index-map-place.result inside c.index-map-place.is c.requires.lines

pub returns-in-None-clause-functions : goal.returns-in-None-clause-functions
returns-in-None-clause-functions g c = λ m n f before lm found symbol so.
    let registers = (goal.TargetIsa-dyn g c.args.isa.now).dwarf_registers c.args.isa.now.1 in
    let compiled = c.args.module.now.compiled.now in
    let at = numbered-at compiled.first_number _ m.functions c.args.place c.args.number f lm.frames found symbol in
    absurd (never-none _ (c.in-None.ensures.frame registers f at.0 symbol at.1 at.2))

pub returns-in_ok-locals-in-Some-clause-functions : goal.returns-in_ok-locals-in-Some-clause-functions
returns-in_ok-locals-in-Some-clause-functions g c = λ m n f before lm found symbol so.
    let registers = (goal.TargetIsa-dyn g c.args.isa.now).dwarf_registers c.args.isa.now.1 in
    let l = c.args.module.now in
    let d : DefinedFunction = record { place = c.args.place; function = f } in
    let at = numbered-at l.compiled.now.first_number _ m.functions c.args.place c.args.number f lm.frames found symbol in
    let inside = kept-inside c.map.result.now l.transform.now c.args.place c.map.ensures c.requires.inside in
    let same = kept-is c.map.result.now l.transform.now c.args.place c.map.ensures c.index-map-place.result f inside c.index-map-place.is (ap (λ fs. Rattle.std.specs.Prelude.slice_get fs c.args.place) (sym lm.functions) ∙ found) in
    let labels = labels-told registers m l lm c.args.place f c.args.number _ at.0 (c.in-Some.ensures.labels registers) in
    let begun = c.in_ok-index.ensures.begun n (reference_meant l.vmctx_ptr) m d before lm.file (ap (λ x. record { place = c.args.place; function = x }) same) at.0 so in
    let scope =
    ap (λ (end : ℕ). (c.index-map-place.result.wasm_start, end)) c.source_end.ensures
    ∙ ap (λ (x : Function). (x.start, source_end x)) (sym same) in
    let simulated = function-simulated registers m l lm c.args.place f _ (sym c.in_ok-index.ensures.index) (c.in_ok-locals-in-Some.ensures m d lm.file refl) (c.in-Some.ensures.frame registers f at.0 symbol at.1 at.2) scope in
    function-added registers m l lm c.args.place f n before _ c.in_ok-index.entry.index c.add_variables.new.strings c.add_variables.new.unit c.add_variables.result labels
    (c.add_variables.ensures.variables n m d before simulated (subst (λ keys. Rattle.dwc_carry.specs.SimulatedDrafts.HasVariables n (reference_meant l.vmctx_ptr) m d c.begin_function.new.strings before keys c.in_ok-index.entry.index c.begin_function.new.unit) labels begun))
