use Rattle.std.proofs.Common.{[], ◌∷◌, ◌++◌, ◌∙◌, ap, option_map}
use Rattle.std.proofs.lemmas.Result.{on_ok_weaker}
use Rattle.dwc_native.specs.Parts.{code, joined}
use Rattle.dwc_expr.proofs.EmitLaws.{memory-put, shift-put}
use Rattle.dwc_expr.proofs.compile.emit.push_step.Goals as goal

pub returns-in_ok-push-in-ReadMemory : goal.returns-in_ok-push-in-ReadMemory
returns-in_ok-push-in-ReadMemory c =
    on_ok_weaker c.push_code.result
    (λ put. memory-put (option_map (λ x. x.now) c.args.frame_base) c.args.step.now c.args.parts.now c.push-in-ReadMemory.new.self c.push_code.new.self c.in-ReadMemory.ensures c.in_ok-push-in-ReadMemory.ensures
    (put ∙ ap (λ bytes. joined (c.push-in-ReadMemory.new.self ++ code bytes ∷ [])) c.bytes.ensures)) c.push_code.ensures

pub returns-in_ok-push_code-in-ShiftRight : goal.returns-in_ok-push_code-in-ShiftRight
returns-in_ok-push_code-in-ShiftRight c =
    on_ok_weaker c.push_code-in-ShiftRight-2.result
    (λ put. shift-put (option_map (λ x. x.now) c.args.frame_base) c.args.step.now c.args.parts.now c.push_code-in-ShiftRight.new.self c.push_code-in-ShiftRight-2.new.self c.in-ShiftRight.ensures c.in_ok-push_code-in-ShiftRight.ensures
    (put ∙ ap (λ bytes. joined (c.push_code-in-ShiftRight.new.self ++ code bytes ∷ [])) c.bytes-in-ShiftRight.ensures)) c.push_code-in-ShiftRight-2.ensures
