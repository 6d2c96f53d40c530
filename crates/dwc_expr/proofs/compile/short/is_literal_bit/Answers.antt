use Rattle.std.proofs.Common.{◌≡◌, ◌∷◌, [], Ok, Some, subst, sym}
use Rattle.dwc_native.specs.Parts.{compiled}
use Rattle.dwc_base.specs.declared.constants.TheConstants.{DW_OP_lit0}
use Rattle.dwc_expr.specs.OverIntervals.{constant}
use Rattle.dwc_expr.proofs.ShortLaws.{literal-compiled}
use Rattle.dwc_expr.proofs.compile.short.is_literal_bit.Goals as goal

pub returns-then-end-eq-DW_OP_stack_value : goal.returns-then-end-eq-DW_OP_stack_value
returns-then-end-eq-DW_OP_stack_value c = λ so base free.
    subst (λ n. compiled base (n ∷ c.args.end ∷ []) ≡ Ok (Some (constant (n ∷ c.args.end ∷ [])))) (sym c.if-opcode-eq-DW_OP_lit0.true)
    (subst (λ n. compiled base (DW_OP_lit0 ∷ n ∷ []) ≡ Ok (Some (constant (DW_OP_lit0 ∷ n ∷ [])))) (sym c.if-end-eq-DW_OP_stack_value.true) (literal-compiled base free))
