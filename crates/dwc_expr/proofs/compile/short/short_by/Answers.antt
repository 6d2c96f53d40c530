use Rattle.std.proofs.Common.{◌∷◌, ◌∙◌, [], Ok, Some, ap, sym}
use Rattle.dwc_native.specs.Parts.{compiled, label_alone}
use Rattle.dwc_base.specs.declared.constants.TheConstants.{DW_OP_WASM_location}
use Rattle.dwc_expr.proofs.ShortLaws.{short-compiled}
use Rattle.dwc_expr.proofs.compile.short.short_by.Goals as goal

pub returns-then-end-eq-DW_OP_stack_value : goal.returns-then-end-eq-DW_OP_stack_value
returns-then-end-eq-DW_OP_stack_value c = λ base free.
    let i = c.args.index in
    ap (λ opcode. compiled base (opcode ∷ c.args.kind ∷ i ∷ c.args.end ∷ [])) c.if-opcode-eq-DW_OP_WASM_location.true
    ∙ ap (λ kind. compiled base (DW_OP_WASM_location ∷ kind ∷ i ∷ c.args.end ∷ [])) c.if-kind-eq0.true
    ∙ ap (λ end. compiled base (DW_OP_WASM_location ∷ 0 ∷ i ∷ end ∷ [])) c.if-end-eq-DW_OP_stack_value.true
    ∙ short-compiled i c.if-index-lt-SHORT_INDEXES.true base free
    ∙ ap (λ n. Ok (Some (label_alone n))) (sym c.from.ensures)
