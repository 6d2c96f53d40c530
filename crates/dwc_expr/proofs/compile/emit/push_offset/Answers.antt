use Rattle.std.proofs.Common.{◌≡◌, ℕ, List, [], ◌∷◌, ◌++◌, ◌∙◌, ap, option_map}
use Rattle.std.proofs.lemmas.Result.{on_ok_weaker}
use Rattle.dwc_base.specs.NumberBytes.{uleb_bytes}
use Rattle.dwc_base.specs.declared.constants.TheConstants.{DW_OP_plus_uconst}
use Rattle.dwc_native.specs.Parts.{base_values, code, joined}
use Rattle.dwc_expr.proofs.JoinedLaws.{joined-both}
use Rattle.dwc_expr.proofs.compile.emit.push_offset.Goals as goal

pub returns : goal.returns
returns c =
    let spelled : c.deref.result.now ≡ DW_OP_plus_uconst ∷ uleb_bytes c.args.offset =
    c.deref.ensures.value ∙ c.in_ok-put_uleb.ensures ∙ ap (λ (bytes : List ℕ). bytes ++ uleb_bytes c.args.offset) (c.in_ok-push.ensures.items ∙ ap (λ (bytes : List ℕ). bytes ++ DW_OP_plus_uconst ∷ []) c.new-sum.ensures.items) in
    on_ok_weaker c.push_code.result
    (λ put. joined-both c.args.parts.now c.push_base.new.parts c.push_code.new.self (base_values (option_map (λ x. x.now) c.args.frame_base)) (code (DW_OP_plus_uconst ∷ uleb_bytes c.args.offset) ∷ []) c.in_ok-push_base.ensures
    (put ∙ ap (λ bytes. joined (c.push_base.new.parts ++ code bytes ∷ [])) spelled)) c.push_code.ensures
