use Rattle.std.proofs.Common.{refl}
use Rattle.std.proofs.lemmas.Bool.{false_from_ne_true}
use Rattle.std.proofs.lemmas.Str.{is_utf8-from_IsUtf8, IsUtf8-from_is_utf8}
use Rattle.dwc_base.specs.Wasm.{name_at}
use Rattle.dwc_wasm.proofs.fields.name.Goals as goal

pub returns-in_default : goal.returns-in_default
unfolding name_at
returns-in_default c =
    let no_text = false_from_ne_true _ (λ is. c.in_default.ensures.cases.0 (IsUtf8-from_is_utf8 _ is)) in
    rw (c.in_ok-size.ensures, c.in_ok-bytes.ensures.read, no_text) refl

pub returns : goal.returns
unfolding name_at
returns c =
    let is_text = is_utf8-from_IsUtf8 _ c.in-Ok.ensures.cases.1 in
    rw (c.in_ok-size.ensures, c.in_ok-bytes.ensures.read, is_text, c.in-Ok.ensures.cases.0) refl
