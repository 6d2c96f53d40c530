use Rattle.std.proofs.Common.{◌∷◌, ◌∙◌, [], ap}
use Rattle.dwc_native.specs.Parts.{compiled}
use Rattle.dwc_base.specs.declared.constants.TheConstants.{DW_OP_WASM_location}
use Rattle.dwc_expr.proofs.ShortLaws.{stack-compiled}
use Rattle.dwc_expr.proofs.compile.short.begins_on_stack.Goals as goal

pub returns-then-index-lt-SHORT_INDEXES : goal.returns-then-index-lt-SHORT_INDEXES
returns-then-index-lt-SHORT_INDEXES c = λ so base.
    let i = c.args.index in
    ap (λ opcode. compiled base (opcode ∷ c.args.kind ∷ i ∷ c.args.end ∷ [])) c.if-opcode-eq-DW_OP_WASM_location.true
    ∙ ap (λ kind. compiled base (DW_OP_WASM_location ∷ kind ∷ i ∷ c.args.end ∷ [])) c.if-kind-eq-ON_STACK.true
    ∙ stack-compiled i c.if-index-lt-SHORT_INDEXES.true c.args.end base
