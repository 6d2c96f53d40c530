use Rattle.std.proofs.Common.{◌≡◌, ℕ, ◌+◌, ◌∙◌, ◌++◌, ◌∷◌, [], List, Err, ap, subst, sym, drop, get_or, length}
use Rattle.std.proofs.lemmas.List.{drop_all}
use Rattle.std.proofs.lemmas.Result.{err_from_is_err_and}
use Rattle.dwc_base.specs.Outputs.{OutputRelocation}
use Rattle.dwc_dwarf.specs.TreeLaws.{texts_ended}
use Rattle.dwc_section.specs.Writers.{Refuses, appended}
use Rattle.dwc_section.proofs.WritesLaws.{whole, whole-more, whole-refused, whole-done}
use Rattle.dwc_write.proofs.PathLaws.{directory-there}
use Rattle.dwc_write.proofs.TextLaws.{nothing-there}
use Rattle.dwc_write.proofs.line_names.put_names.Goals as goal

abbrev spell : List ℕ → List ℕ
spell t = t ++ 0 ∷ []

abbrev at : ℕ → List ℕ → List OutputRelocation
at place t = []

pub loop-i-preserved : goal.loop-i-preserved
loop-i-preserved c =
    let names : List (List ℕ) = c.args.names.now in
    let name : List ℕ = c.index-names-i.result in
    let there = directory-there names c.loop-i.i name c.loop-i-test.true in
    let found : c.as_bytes.result.now ≡ get_or names c.loop-i.i name = c.as_bytes.ensures ∙ c.index-names-i.is in
    whole-more spell at (get_or names c.loop-i.i name) (drop (c.loop-i.i + 1) names) c.loop-i.section c.put_text.new.section _
    (ap (λ ts. whole spell at ts c.loop-i.section) (sym there) ∙ c.loop-i.invariant)
    (c.in_ok-put_text.ensures ∙ ap (λ (t : List ℕ). appended (t ++ 0 ∷ []) [] c.loop-i.section) found)

pub returns-in_err-put_text : goal.returns-in_err-put_text
returns-in_err-put_text c =
    let names : List (List ℕ) = c.args.names.now in
    let name : List ℕ = c.index-names-i.result in
    let there = directory-there names c.loop-i.i name c.loop-i-test.true in
    let found : c.as_bytes.result.now ≡ get_or names c.loop-i.i name = c.as_bytes.ensures ∙ c.index-names-i.is in
    let p = err_from_is_err_and c.from_residual.result c.from_residual.ensures.1 in
    let P : List ℕ → Type 0 = λ t. Refuses c.in_err-put_text.field-0.0 c.loop-i.section (length (t ++ 0 ∷ [])) in
    let refused = whole-refused spell at (get_or names c.loop-i.i name) (drop (c.loop-i.i + 1) names) names c.loop-i.section c.args.section.now _ (ap (λ ts. whole spell at ts c.loop-i.section) (sym there) ∙ c.loop-i.invariant) (subst P found c.in_err-put_text.ensures) in
    let is = p.1 ∙ ap Err p.2 in
    rw (is) refused

pub returns : goal.returns
returns c =
    let names : List (List ℕ) = c.args.names.now in
    let none = drop_all c.loop-i.i names c.loop-i-test.false in
    whole-done spell at c.loop-i.section _ (ap (λ ts. whole spell at ts c.loop-i.section) (sym none) ∙ c.loop-i.invariant)
    ∙ ap (λ rs. appended (texts_ended c.args.names.now) rs c.args.section.now) (nothing-there spell (length c.args.section.now.body) names)
