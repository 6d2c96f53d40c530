use Rattle.std.proofs.lemmas.Result.{err_from_is_err_and}
use Rattle.dwc_rules.specs.Clones.{value_becomes}
use Rattle.dwc_read.specs.ValuesSeen.{value_view}
use Rattle.dwc_extents.specs.CodeSources.{clone_rules}
use Rattle.dwc_source.specs.Errors.{refusal_told}
use Rattle.dwc_clone.proofs.ValueLaws.{gone-made, gone-refused}
use Rattle.dwc_clone.proofs.attribute.gone_value.Goals as goal

pub returns-in_err-output_value-clause-made : goal.returns-in_err-output_value-clause-made
returns-in_err-output_value-clause-made g c = λ unit s e before source at entry count force.
    let registers = (goal.TargetIsa-dyn g c.args.isa.now).dwarf_registers c.args.isa.now.1 in
    let read = value_becomes (clone_rules registers c.args.source.now s) s e before c.args.name (value_view c.args.value) in
    let p = err_from_is_err_and c.from_residual.result c.from_residual.ensures.1 in
    rw (p.1, p.2) (gone-refused read (refusal_told c.in_err-output_value.field-0.0) (c.in_err-output_value.ensures.made unit s e before source at entry count force))

pub returns-clause-made : goal.returns-clause-made
returns-clause-made g c = λ unit s e before source at entry count force.
    let registers = (goal.TargetIsa-dyn g c.args.isa.now).dwarf_registers c.args.isa.now.1 in
    let read = value_becomes (clone_rules registers c.args.source.now s) s e before c.args.name (value_view c.args.value) in
    gone-made c.args.source.now.places.now unit c.args.name c.args.strings.now c.output_value.new.strings read c.in_ok-output_value.field-0 (c.in_ok-output_value.ensures.made unit s e before source at entry count force)
