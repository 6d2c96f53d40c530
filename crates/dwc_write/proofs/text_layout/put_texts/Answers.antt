use Rattle.std.proofs.Common.{◌≡◌, ℕ, ◌++◌, ◌∷◌, [], List, ap, subst, ◌∙◌, add-one, map, length, get_or}
use Rattle.std.proofs.lemmas.Result.{err_from_is_err_and}
use Rattle.dwc_unit.specs.UsedTexts.{text_numbered, texts_bytes}
use Rattle.dwc_section.specs.Writers.{Refuses, appended}
use Rattle.dwc_write.proofs.TextLaws.{nothing-there}
use Rattle.dwc_unit.proofs.TextSets.{text-found}
use Rattle.dwc_section.proofs.WritesLaws.{loop-more, loop-refused, loop-done}
use Rattle.dwc_write.proofs.text_layout.put_texts.Goals as goal

pub loop-i-preserved : goal.loop-i-preserved
loop-i-preserved c =
    let texts = c.args.texts.now in
    let found : c.as_bytes.result.now ≡ text_numbered texts (get_or c.args.used.now c.loop-i.i 0) = c.as_bytes.ensures ∙ text-found c.args.texts.now _ c.index-texts-used.result (c.requires c.loop-i.i 0 c.loop-i-test.true) c.index-texts-used.is in
    rw add-one
    (loop-more (λ o t. t ++ 0 ∷ []) (λ o p t. []) (text_numbered texts) c.args.used.now c.loop-i.i 0 c.args.section.now c.loop-i.section c.put_text.new.section c.loop-i-test.true c.loop-i.invariant
    (c.in_ok-put_text.ensures ∙ ap (λ (t : List ℕ). appended (t ++ 0 ∷ []) [] c.loop-i.section) found))

pub returns-in_err-put_text : goal.returns-in_err-put_text
returns-in_err-put_text c =
    let texts = c.args.texts.now in
    let found : c.as_bytes.result.now ≡ text_numbered texts (get_or c.args.used.now c.loop-i.i 0) = c.as_bytes.ensures ∙ text-found c.args.texts.now _ c.index-texts-used.result (c.requires c.loop-i.i 0 c.loop-i-test.true) c.index-texts-used.is in
    let p = err_from_is_err_and c.from_residual.result c.from_residual.ensures.1 in
    let P : List ℕ → Type 0 = λ t. Refuses c.in_err-put_text.field-0.0 c.loop-i.section (length (t ++ 0 ∷ [])) in
    loop-refused (λ o t. t ++ 0 ∷ []) (λ o p t. []) (text_numbered texts) c.args.used.now c.loop-i.i 0 c.args.section.now c.loop-i.section _ _ _ _ c.loop-i-test.true c.loop-i.invariant p (subst P found c.in_err-put_text.ensures)

pub returns : goal.returns
returns c =
    let texts = c.args.texts.now in
    loop-done (λ t. t ++ 0 ∷ []) (λ p t. []) (text_numbered texts) c.args.used.now c.loop-i.i c.loop-i.section _ c.loop-i-test.false c.loop-i.invariant
    ∙ ap (λ rs. appended (texts_bytes texts c.args.used.now) rs c.args.section.now) (nothing-there (λ t. t ++ 0 ∷ []) (length c.args.section.now.body) (map (text_numbered texts) c.args.used.now))
