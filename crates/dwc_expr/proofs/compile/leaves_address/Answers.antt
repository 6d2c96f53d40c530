use Rattle.std.proofs.Common.{not, ◌==◌, ◌∙◌, ap, sym}
use Rattle.dwc_base.specs.declared.constants.TheConstants.{DW_OP_stack_value}
use Rattle.dwc_expr.proofs.CompileLaws.{leaves-by-last}
use Rattle.dwc_expr.proofs.compile.leaves_address.Goals as goal

pub returns-in-Some : goal.returns-in-Some
returns-in-Some c =
    ap (λ opcode. not (opcode == DW_OP_stack_value)) c.opcode.ensures ∙ sym (leaves-by-last c.args.steps.now c.in-Some.last.now c.in-Some.ensures.item.3.0 c.in-Some.ensures.item.1)
