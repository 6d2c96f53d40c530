use Rattle.std.proofs.Common.{◌≡◌, ◌∙◌, All, List, Ok, Some, ap, is_some, length, option_map, subst, sym, ◌≤◌}
use Rattle.std.specs.Prelude.{false}
use Rattle.std.proofs.lemmas.Result.{err_from_is_err_and}
use Rattle.dwc_dwarf.specs.Operations.{Operation}
use Rattle.dwc_native.specs.Parts.{compiled, holds_jump, targets}
use Rattle.dwc_expr.specs.Compiles.{Compiles}
use Rattle.dwc_expr.specs.Steps.{held, supported_operations}
use Rattle.dwc_expr.specs.Supported.{compiled_supported}
use Rattle.dwc_expr.proofs.CompileLaws.{base-given, compiled-none, compiled-some, compiled-told, supported-within, told-too}
use Rattle.dwc_expr.proofs.Meaning.CompiledWhole.{compiled-parts-are-whole, compiles-whole}
use Rattle.dwc_expr.proofs.WholeLaws.{compiles-land}
use Rattle.dwc_expr.proofs.compile.compile_operations.Goals as goal

pub returns-in_err-steps-clause-parts : goal.returns-in_err-steps-clause-parts
returns-in_err-steps-clause-parts c =
    let base = option_map (λ x. x.now) c.args.frame_base in
    let bytes = c.args.bytes.now in
    let free : holds_jump base ≡ false = c.requires.free in
    let given : c.is_some.result ≡ is_some base = c.is_some.ensures ∙ base-given (λ x. x.now) c.args.frame_base in
    let p = err_from_is_err_and c.from_residual.result c.from_residual.ensures.1 in
    rw (p.1, p.2) (told-too (supported_operations c.is_some.result bytes) (compiled base bytes) c.in_err-steps.field-0.0 (λ place e. compiled-told base bytes free place (ap (λ b. supported_operations b bytes) (sym given) ∙ e)) c.in_err-steps.ensures)

pub compile_steps-requires-clause-inside : goal.compile_steps-requires-clause-inside
compile_steps-requires-clause-inside c =
    let bytes = c.args.bytes.now in
    let is : supported_operations c.is_some.result bytes ≡ Ok (Some c.in-Some.steps.items) = c.in_ok-steps.ensures ∙ ap (λ x. Ok (held x)) c.in-Some.is in
    subst (λ (os : List Operation). All (λ place. place ≤ length bytes) (targets os)) (sym c.deref.ensures.value) (supported-within c.is_some.result bytes c.in-Some.steps.items is)

pub returns-in-Some-clause-parts : goal.returns-in-Some-clause-parts
returns-in-Some-clause-parts c =
    let base = option_map (λ x. x.now) c.args.frame_base in
    let bytes = c.args.bytes.now in
    let free : holds_jump base ≡ false = c.requires.free in
    let given : c.is_some.result ≡ is_some base = c.is_some.ensures ∙ base-given (λ x. x.now) c.args.frame_base in
    let is : supported_operations c.is_some.result bytes ≡ Ok (Some c.in-Some.steps.items) = c.in_ok-steps.ensures ∙ ap (λ x. Ok (held x)) c.in-Some.is in
    let same = compiled-some base bytes free c.in-Some.steps.items (ap (λ b. supported_operations b bytes) (sym given) ∙ is) ∙ ap (λ (os : List Operation). compiled_supported base (length bytes) os) (sym c.deref.ensures.value) in
    subst (λ r. Compiles r c.compile_steps.result) (sym same) c.compile_steps.ensures

pub returns-in-Some-clause-lands : goal.returns-in-Some-clause-lands
returns-in-Some-clause-lands c = compiles-land (option_map (λ x. x.now) c.args.frame_base) c.args.bytes.now c.compile_steps.result (returns-in-Some-clause-parts c)

pub returns-in-Some-clause-whole : goal.returns-in-Some-clause-whole
returns-in-Some-clause-whole c = compiles-whole (option_map (λ x. x.now) c.args.frame_base) c.args.bytes.now c.compile_steps.result c.requires.whole (returns-in-Some-clause-parts c)

pub compile_steps-requires-clause-whole : goal.compile_steps-requires-clause-whole
compile_steps-requires-clause-whole c = λ x is.
    let base = option_map (λ x. x.now) c.args.frame_base in
    let bytes = c.args.bytes.now in
    let free : holds_jump base ≡ false = c.requires.free in
    let given : c.is_some.result ≡ is_some base = c.is_some.ensures ∙ base-given (λ x. x.now) c.args.frame_base in
    let are : supported_operations c.is_some.result bytes ≡ Ok (Some c.in-Some.steps.items) = c.in_ok-steps.ensures ∙ ap (λ x. Ok (held x)) c.in-Some.is in
    let same = compiled-some base bytes free c.in-Some.steps.items (ap (λ b. supported_operations b bytes) (sym given) ∙ are) ∙ ap (λ (os : List Operation). compiled_supported base (length bytes) os) (sym c.deref.ensures.value) in
    compiled-parts-are-whole base bytes x c.requires.whole (same ∙ is)

pub returns-in-None-clause-parts : goal.returns-in-None-clause-parts
returns-in-None-clause-parts c =
    let base = option_map (λ x. x.now) c.args.frame_base in
    let bytes = c.args.bytes.now in
    let free : holds_jump base ≡ false = c.requires.free in
    let given : c.is_some.result ≡ is_some base = c.is_some.ensures ∙ base-given (λ x. x.now) c.args.frame_base in
    compiled-none base bytes free (ap (λ b. supported_operations b bytes) (sym given) ∙ c.in_ok-steps.ensures ∙ ap (λ x. Ok (held x)) c.in-None.is)
