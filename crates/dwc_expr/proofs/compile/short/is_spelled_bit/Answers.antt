use Rattle.std.proofs.Common.{◌≡◌, ◌∷◌, [], Ok, Some, subst, sym}
use Rattle.dwc_native.specs.Parts.{compiled}
use Rattle.dwc_base.specs.declared.constants.TheConstants.{DW_OP_consts}
use Rattle.dwc_expr.specs.OverIntervals.{constant}
use Rattle.dwc_expr.proofs.ShortLaws.{spelled-compiled}
use Rattle.dwc_expr.proofs.compile.short.is_spelled_bit.Goals as goal

pub returns-then-end-eq-DW_OP_stack_value : goal.returns-then-end-eq-DW_OP_stack_value
returns-then-end-eq-DW_OP_stack_value c = λ so base free.
    let number = c.args.number in
    subst (λ n. compiled base (n ∷ number ∷ c.args.end ∷ []) ≡ Ok (Some (constant (n ∷ number ∷ c.args.end ∷ [])))) (sym c.if-opcode-eq-DW_OP_consts.true)
    (subst (λ n. compiled base (DW_OP_consts ∷ number ∷ n ∷ []) ≡ Ok (Some (constant (DW_OP_consts ∷ number ∷ n ∷ [])))) (sym c.if-end-eq-DW_OP_stack_value.true) (spelled-compiled number c.if-number-lt-BITS.true base free))
