use Rattle.std.proofs.Common.{◌≡◌, ℕ, ◌+◌, ◌<◌, ◌++◌, ◌∷◌, [], List, refl, ap, sym, ◌∙◌, true, false, arith, length}
use Rattle.std.proofs.lemmas.Result.{err_from_is_err_and}
use Rattle.std.specs.Prelude.{is_some}
use Rattle.dwc_unit.specs.GivenUnits.{place_of}
use Rattle.dwc_unit.specs.UsedTexts.{text_numbered}
use Rattle.dwc_unit.proofs.UnitLaws.{place_get}
use Rattle.dwc_write.proofs.TextLaws.{behind-refused, number-known, text-placed, text-refused, using-exit}
use Rattle.dwc_unit.proofs.TextSets.{text-found}
use Rattle.dwc_write.proofs.text_layout.use_text.Goals as goal

pub returns-then-is_some : goal.returns-then-is_some
returns-then-is_some c =
    let texts = c.args.texts.now in
    let laid = c.requires.texts in
    let within : c.args.index < length c.args.layout.now.offsets.items = let many = laid.many in omega (arith, many, c.requires.known) in
    let some : is_some (place_of c.args.index c.args.layout.now.offsets.items) ≡ true = ap is_some (place_get c.args.index c.args.layout.now.offsets.items c.index.result.now within ∙ sym c.index.ensures) ∙ sym c.is_some.ensures ∙ c.if-is_some.true in
    (number-known texts c.args.layout.now.used.items c.args.index (ap is_some (sym (laid.places c.args.index)) ∙ some), laid)

pub returns-in_err-behind : goal.returns-in_err-behind
returns-in_err-behind c =
    let texts = c.args.texts.now in
    let laid = c.requires.texts in
    let p = err_from_is_err_and c.from_residual.result c.from_residual.ensures.1 in
    let within : c.args.index < length c.args.layout.now.offsets.items = let many = laid.many in omega (arith, many, c.requires.known) in
    let none : is_some (place_of c.args.index c.args.layout.now.offsets.items) ≡ false = ap is_some (place_get c.args.index c.args.layout.now.offsets.items c.index.result.now within ∙ sym c.index.ensures) ∙ sym c.is_some.ensures ∙ c.if-is_some.false in
    let found : c.as_bytes.result.now ≡ text_numbered texts c.args.index = c.as_bytes.ensures ∙ text-found c.args.texts.now c.args.index c.index-texts-index.result c.requires.known c.index-texts-index.is in
    using-exit texts _ _ c.args.layout.now _ _ p (behind-refused texts _ c.args.layout.now.length _ _ c.in_err-behind.ensures (ap (λ (t : List ℕ). c.args.layout.now.length + length (t ++ 0 ∷ [])) found ∙ sym (text-refused texts c.args.layout.now c.args.index laid none)))

pub returns : goal.returns
returns c =
    let texts = c.args.texts.now in
    let laid = c.requires.texts in
    let within : c.args.index < length c.args.layout.now.offsets.items = let many = laid.many in omega (arith, many, c.requires.known) in
    let none : is_some (place_of c.args.index c.args.layout.now.offsets.items) ≡ false = ap is_some (place_get c.args.index c.args.layout.now.offsets.items c.index.result.now within ∙ sym c.index.ensures) ∙ sym c.is_some.ensures ∙ c.if-is_some.false in
    let found : c.as_bytes.result.now ≡ text_numbered texts c.args.index = c.as_bytes.ensures ∙ text-found c.args.texts.now c.args.index c.index-texts-index.result c.requires.known c.index-texts-index.is in
    text-placed texts c.args.layout.now _ c.args.index c.in_ok-behind.behind laid (omega (arith, c.requires.known)) none refl c.in_ok-push.ensures.items refl
    (c.in_ok-behind.ensures.0 ∙ ap (λ (t : List ℕ). c.args.layout.now.length + length (t ++ 0 ∷ [])) found) c.in_ok-behind.ensures.1
