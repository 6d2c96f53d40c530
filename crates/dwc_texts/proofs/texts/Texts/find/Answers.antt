use Rattle.std.proofs.Common.{◌≡◌, ◌∙◌, subst}
use Rattle.dwc_texts.specs.TextIndexes.{known_place, place_behind, place_by_bytes}
use Rattle.dwc_texts.proofs.SlotLaws.{found-known}
use Rattle.dwc_texts.proofs.texts.Texts.find.Goals as goal

pub returns : goal.returns
returns c =
    let ts = c.self.inside.texts.items in
    let leads = found-known c.self.inside.index ts c.args.text.now c.number_of-number.result c.known-known.result c.self.invariant c.number_of-number.ensures c.known-known.ensures in
    let found = subst (λ xs. c.find.result ≡ place_behind (place_by_bytes c.self.inside.index.others) xs c.args.text.now (known_place c.known-known.result)) c.deref.ensures.value c.find.ensures in
    rw (← c.self.view_is) (found ∙ leads)
