use Rattle.std.proofs.Common.{◌≡◌, true, false, sym, ◌∙◌}
use Rattle.std.proofs.lemmas.Bool.{eq-eqb, ne_eqb}
use Rattle.std.specs.Prelude.{◌==◌}
use Rattle.dwc_native.specs.Parts.{context_label}
use Rattle.dwc_carry.proofs.VariableLaws.{typed-there}
use Rattle.dwc_carry.proofs.VariableSteps.{context-gives}
use Rattle.dwc_carry.proofs.simulated_variables.add_variable.Goals as goal

pub returns-then-label-get_vmctx_value_label-clause-variable : goal.returns-then-label-get_vmctx_value_label-clause-variable
returns-then-label-get_vmctx_value_label-clause-variable g c =
    let registers = (goal.TargetIsa-dyn g c.args.isa.now).dwarf_registers c.args.isa.now.1 in
    let is : (c.args.label.0 == context_label) ≡ true = eq-eqb c.args.label.0 context_label (rw c.get_vmctx_value_label.ensures at c.if-label-get_vmctx_value_label.true) in
    λ number m d before left total simulated has.
    context-gives registers m d c.args.module.now c.args.function.now simulated number before left total c.args.strings.now c.add_context.new.strings c.args.label.0 c.args.unit.now c.add_context.new.unit c.add_context.result c.add_context.ensures.grows is has c.add_context.ensures.context

pub returns-in-Some-clause-variable : goal.returns-in-Some-clause-variable
returns-in-Some-clause-variable g c =
    let registers = (goal.TargetIsa-dyn g c.args.isa.now).dwarf_registers c.args.isa.now.1 in
    let other : (c.args.label.0 == context_label) ≡ false = ne_eqb c.args.label.0 context_label (rw c.get_vmctx_value_label.ensures at c.if-label-get_vmctx_value_label.false) in
    λ number m d before left total simulated has.
    c.add_typed.ensures.variable number m d before left total simulated other (typed-there registers m d c.args.module.now c.args.function.now simulated c.args.label.0 _ (sym c.in-Some.is ∙ c.type_place.ensures)) has
