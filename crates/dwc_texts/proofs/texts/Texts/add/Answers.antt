use Rattle.std.proofs.Common.{◌≡◌, ◌∙◌, ◌++◌, ◌∷◌, [], None, Some, ap, length, rules, subst, sym}
use Rattle.dwc_texts.specs.TextIndexes.{known_place, place_behind, place_by_bytes}
use Rattle.dwc_texts.proofs.SlotLaws.{found-known}
use Rattle.dwc_texts.proofs.TextSets.{found-text, known-text, new-place, new-use}
use Rattle.dwc_texts.proofs.texts.Texts.add.Goals as goal

pub returns-in-Some-clause-ok : goal.returns-in-Some-clause-ok
returns-in-Some-clause-ok c =
    let ts = c.self.inside.texts.items in
    let leads = found-known c.self.inside.index ts c.args.text.now c.number_of-number.result c.known-known.result c.self.invariant c.number_of-number.ensures c.known-known.ensures in
    let found = subst (λ xs. Some c.in-Some.place ≡ place_behind (place_by_bytes c.self.inside.index.others) xs c.args.text.now (known_place c.known-known.result)) c.deref.ensures.value c.in-Some.ensures ∙ leads in
    rw (← c.self.view_is) (known-text c.args.text.now ts c.in-Some.place found)

pub returns-in-Some-clause-place : goal.returns-in-Some-clause-place
returns-in-Some-clause-place c =
    let ts = c.self.inside.texts.items in
    let leads = found-known c.self.inside.index ts c.args.text.now c.number_of-number.result c.known-known.result c.self.invariant c.number_of-number.ensures c.known-known.ensures in
    let found = subst (λ xs. Some c.in-Some.place ≡ place_behind (place_by_bytes c.self.inside.index.others) xs c.args.text.now (known_place c.known-known.result)) c.deref.ensures.value c.in-Some.ensures ∙ leads in
    rw (← c.self.view_is) (sym (found-text c.args.text.now ts c.in-Some.place found))

pub returns-clause-ok : goal.returns-clause-ok
returns-clause-ok c =
    let ts = c.self.inside.texts.items in
    let t = c.args.text.now in
    let leads = found-known c.self.inside.index ts t c.number_of-number.result c.known-known.result c.self.invariant c.number_of-number.ensures c.known-known.ensures in
    let none = subst (λ xs. None ≡ place_behind (place_by_bytes c.self.inside.index.others) xs c.args.text.now (known_place c.known-known.result)) c.deref.ensures.value c.in_default.ensures ∙ leads in
    let behind : c.push_reserved.new.self.items ≡ ts ++ t ∷ [] = c.push_reserved.ensures.items ∙ (λ i. c.in_ok-reserve.ensures.items i ++ c.in_ok-owned.ensures.same i ∷ []) in
    rw (← c.self.view_is) (behind ∙ new-use t ts none)

pub returns-clause-place : goal.returns-clause-place
returns-clause-place c =
    let ts = c.self.inside.texts.items in
    let t = c.args.text.now in
    let leads = found-known c.self.inside.index ts t c.number_of-number.result c.known-known.result c.self.invariant c.number_of-number.ensures c.known-known.ensures in
    let none = subst (λ xs. None ≡ place_behind (place_by_bytes c.self.inside.index.others) xs c.args.text.now (known_place c.known-known.result)) c.deref.ensures.value c.in_default.ensures ∙ leads in
    let count : c.len-place.result ≡ length c.reserve.new.self.items = search rules in
    rw (← c.self.view_is) (count ∙ ap length c.in_ok-reserve.ensures.items ∙ sym (new-place t ts none))
