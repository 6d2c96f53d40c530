use Rattle.std.proofs.Common.{◌≡◌, subst, ℕ, List, [], ◌∷◌}
use Rattle.std.proofs.lemmas.Result.{err_from_is_err_and}
use Rattle.dwc_write.specs.TextViews.{IsTextLayout, UsesTexts}
use Rattle.dwc_unit.specs.UsedTexts.{with_numbers}
use Rattle.dwc_write.proofs.TextLaws.{one-by-one, using-done, using-exit, using-refused}
use Rattle.dwc_write.proofs.text_layout.use_texts.Goals as goal

pub returns-in_err-use_text : goal.returns-in_err-use_text
returns-in_err-use_text c =
    let texts = c.args.texts.now in
    let p = err_from_is_err_and c.from_residual.result c.from_residual.ensures.1 in
    let P : List ℕ → Type 0 = λ ns. UsesTexts texts c.args.layout.now c.use_text.new.layout c.from_residual.result ns in
    subst P (one-by-one c.args.named.now) (using-exit texts _ _ c.args.layout.now _ _ p (using-refused texts (λ (n : ℕ). n ∷ []) c.args.named.now c.loop-i.i 0 c.args.layout.now c.loop-i.layout _ c.loop-i.invariant c.loop-i-test.true c.in_err-use_text.ensures))

pub returns : goal.returns
returns c =
    let P : List ℕ → Type 0 = λ ns. (c.loop-i.layout.used.items ≡ with_numbers c.args.layout.now.used.items ns) × IsTextLayout c.args.texts.now c.loop-i.layout in
    subst P (one-by-one c.args.named.now) (using-done c.args.texts.now (λ (n : ℕ). n ∷ []) c.args.named.now c.loop-i.i c.args.layout.now c.loop-i.layout c.loop-i-test.false c.loop-i.invariant)
