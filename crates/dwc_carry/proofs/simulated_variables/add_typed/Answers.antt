use Rattle.std.proofs.Common.{◌∙◌}
use Rattle.std.proofs.lemmas.Result.{err_from_is_err_and}
use Rattle.dwc_carry.proofs.VariableLaws.{simulated-refused, typed-refusals}
use Rattle.dwc_carry.proofs.VariableSteps.{left-typed}
use Rattle.dwc_carry.proofs.simulated_variables.add_typed.Goals as goal

pub returns-in_err-locations-clause-variable : goal.returns-in_err-locations-clause-variable
returns-in_err-locations-clause-variable g c =
    let registers = (goal.TargetIsa-dyn g c.args.isa.now).dwarf_registers c.args.isa.now.1 in
    let p = err_from_is_err_and c.from_residual.result c.from_residual.ensures.1 in
    rw (p.1, p.2) (λ number m d before left total simulated other type has. simulated-refused registers m d c.args.module.now c.args.function.now simulated c.args.label.0 left total c.in_err-locations.field-0.0 (typed-refusals m d c.args.label.0 other c.args.type_place type) has.first c.in_err-locations.ensures.lies)

pub returns-clause-variable : goal.returns-clause-variable
returns-clause-variable g c =
    let registers = (goal.TargetIsa-dyn g c.args.isa.now).dwarf_registers c.args.isa.now.1 in
    λ number m d before left total simulated other type has.
    left-typed registers m d c.args.module.now c.args.function.now simulated number before left total c.args.strings.now c.add_text.new.strings c.args.label.0 c.args.type_place c.args.unit.now c.add_local.new.unit c.deref.result.now c.local_tag-tag.result c.in_ok-name-2.name c.in_ok-locations.locations
    c.in_ok-name-2.ensures.grows other type has (c.deref.ensures.value ∙ c.in_ok-name.ensures.name m d simulated.file simulated.index) c.in_ok-name-2.ensures.number c.local_tag-tag.ensures c.in_ok-locations.ensures.lies c.in_ok-add_local.ensures.added
