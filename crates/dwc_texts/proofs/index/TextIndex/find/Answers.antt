use Rattle.std.proofs.Common.{◌≡◌, ◌∙◌, ◌<◌, [], Some, ap, false, get_or, length, subst, sym}
use Rattle.std.specs.Prelude.{if◌then◌else◌, IfSome}
use Rattle.std.specs.Str.{bytes_eq}
use Rattle.dwc_texts.specs.TextIndexes.{known_place, place_behind, place_by_bytes}
use Rattle.dwc_texts.proofs.index.TextIndex.find.Goals as goal

pub returns : goal.returns
returns c =
    let ts = c.args.texts.now in
    let t = c.args.text.now in
    let first = c.in_ok-first.first in
    let others = place_by_bytes c.args.self.now.others in
    let placed = c.place.ensures in
    let was = c.in_ok-first.was in
    let is : known_place c.args.known ≡ Some first = cc in
    let within : first < length ts = subst (λ o. IfSome o (λ place. place < length c.args.texts.now)) is c.requires in
    let apart : bytes_eq (get_or ts first []) t ≡ false = sym (c.stands_at.ensures.same within) ∙ c.if-stands_at.false in
    c.copied.ensures ∙ c.get.ensures.value ∙ sym (ap (place_behind others ts t) is ∙ ap (λ b. if b then Some c.in_ok-first.first else place_by_bytes c.args.self.now.others c.args.text.now) apart)
