use Rattle.std.proofs.Common.{◌∷◌, [], Some}
use Rattle.dwc_native.specs.BuiltExpressions.{label_over}
use Rattle.dwc_native.specs.Parts.{context_label}
use Rattle.dwc_expr.specs.Builds.{surroundings}
use Rattle.dwc_carry.proofs.MadeAdditions.{parent-known}
use Rattle.dwc_carry.proofs.VariableLaws.{extends-context}
use Rattle.dwc_carry.proofs.simulated_variables.add_context.Goals as goal

pub append_vmctx_info-requires-clause-parent : goal.append_vmctx_info-requires-clause-parent
append_vmctx_info-requires-clause-parent g c = parent-known c.args.unit.now c.args.function.now.entry.index c.requires.dense c.requires.parent

pub returns-in-Ok-clause-extends : goal.returns-in-Ok-clause-extends
returns-in-Ok-clause-extends g c =
    let registers = (goal.TargetIsa-dyn g c.args.isa.now).dwarf_registers c.args.isa.now.1 in
    let f = c.args.function.now in
    let l = c.args.module.now in
    extends-context (label_over (surroundings l.transform.now (Some f.frame) registers) (f.scope ∷ []) context_label) f.entry.index l.vmctx_ptr c.append_vmctx_info.new.out_strings c.args.unit.now c.append_vmctx_info.new.unit c.requires.dense c.requires.parent c.in-Ok.ensures.variable
