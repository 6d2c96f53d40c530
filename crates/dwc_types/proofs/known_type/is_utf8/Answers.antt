use Rattle.std.proofs.Common.{◌≡◌, Bool, true, false, refl, sym}
use Rattle.std.specs.Str.{is_utf8}
use Rattle.std.proofs.lemmas.Str.{IsUtf8-from_is_utf8, is_utf8-from_IsUtf8}
use Rattle.dwc_types.proofs.known_type.is_utf8.Goals as goal

pub returns-in-Ok : goal.returns-in-Ok
returns-in-Ok c = sym (is_utf8-from_IsUtf8 c.args.text.now c.in-Ok.ensures.cases.1)

pub returns-in-Err : goal.returns-in-Err
returns-in-Err c = go (is_utf8 c.args.text.now) refl
  where
    go : (b : Bool) → is_utf8 c.args.text.now ≡ b → false ≡ b
    go true is = absurd (c.in-Err.ensures.cases.0 (IsUtf8-from_is_utf8 c.args.text.now is))
    go false is = refl
