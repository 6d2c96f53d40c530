use Rattle.std.proofs.Common.{◌+◌, ap, ◌∙◌}
use Rattle.dwc_carry.specs.SimulatedAdditions.{subprogram_addition}
use Rattle.dwc_carry.proofs.FunctionSteps.{function-begun}
use Rattle.dwc_carry.proofs.VariableLaws.{extends-entry}
use Rattle.dwc_carry.proofs.simulated_functions.begin_function.Goals as goal

pub returns-clause-extends : goal.returns-clause-extends
returns-clause-extends c =
    let line = c.args.translation.now.code_section_offset + c.first_source.result in
    extends-entry (subprogram_addition c.in_ok-name-2.name c.args.number c.args.function.now.len line) c.args.unit.now c.add_subprogram.new.unit c.requires.dense c.in_ok-entry.ensures.added

pub returns-clause-begun : goal.returns-clause-begun
returns-clause-begun c = λ n pointer m d before file drawn numbered so.
    let t = c.args.translation.now in
    let index = c.from.result + c.args.place in
    let line = t.code_section_offset + c.first_source.result in
    let named = c.deref.ensures.value ∙ c.in_ok-name.ensures.name m file in
    function-begun n pointer m d before t c.args.function.now c.args.place c.args.number index line c.args.strings.now c.add_text.new.strings c.args.unit.now c.add_subprogram.new.unit c.deref.result.now c.in_ok-name-2.name c.in_ok-entry.entry.index
    file drawn numbered so (ap (λ s. s + c.args.place) c.from.ensures) (ap (λ s. t.code_section_offset + s) c.first_source.ensures) named c.in_ok-name-2.ensures.grows c.in_ok-name-2.ensures.number c.in_ok-entry.ensures.added c.in_ok-entry.ensures.number
