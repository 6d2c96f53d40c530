use Rattle.std.proofs.Common.{ℕ, ap, sym, ◌∙◌, Option}
use Rattle.std.specs.Option.{unwrap_or}
use Rattle.std.proofs.lemmas.Bool.{ltb-true, ltb-false}
use Rattle.dwc_write.proofs.ReadTexts.{place-past}
use Rattle.dwc_unit.proofs.UnitLaws.{place_get}
use Rattle.dwc_write.proofs.entries.Spelling.text_offset_of.Goals as goal

pub returns-in-Some : goal.returns-in-Some
returns-in-Some c =
    let found = c.in-Some.ensures.lookup in
    let texts = c.args.self.now.texts.now in
    let at = place_get c.args.id.index texts c.in-Some.offset.now (ltb-true _ _ (sym found.0)) in
    c.unwrap_or.ensures ∙ ap (λ (o : Option ℕ). unwrap_or o 0) (found.1 ∙ sym at)

pub returns-in-None : goal.returns-in-None
returns-in-None c =
    let found = c.in-None.ensures.lookup in
    ap (λ (o : Option ℕ). unwrap_or o 0) (sym (place-past c.args.id.index c.args.self.now.texts.now (ltb-false _ _ (sym found.0))))
