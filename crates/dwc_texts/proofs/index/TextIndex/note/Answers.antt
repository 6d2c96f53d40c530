use Rattle.std.proofs.Common.{◌≡◌, ◌∙◌, ap, eqb, subst, None, Some}
use Rattle.std.specs.Prelude.{if◌then◌else◌}
use Rattle.std.specs.BTreeMap.{get}
use Rattle.std.specs.Ordering.{nat_cmp}
use Rattle.std.specs.Str.{bytes_eq}
use Rattle.std.proofs.lemmas.Result.{on_ok_weaker}
use Rattle.dwc_texts.specs.declared.index.Known.TheVariants.{Nothing, First, Elsewhere}
use Rattle.dwc_texts.specs.TextIndexes.{IsKnown, first_in, place_by_bytes}
use Rattle.dwc_texts.proofs.TextIndexLaws.{noted-first, with-other}
use Rattle.dwc_texts.proofs.SlotLaws.{known-first, slot-noted, spare-kept, spare-noted, spare-still}
use Rattle.dwc_texts.proofs.index.TextIndex.note.Goals as goal

pub returns-in-Nothing-clause-ok : goal.returns-in-Nothing-clause-ok
returns-in-Nothing-clause-ok c = λ ts indexed known number place new.
    let slots = c.args.self.now.slots.items in
    let now = c.keep_slot.new.slots.items in
    let spare = get nat_cmp c.args.self.now.spare in
    let arm = c.in-Nothing.is in
    let is : c.args.known ≡ Nothing = cc in
    let free = subst (IsKnown slots spare c.args.number) is known in
    let unknown = subst (λ m. first_in slots spare m ≡ None) number (known-first slots spare c.args.number Nothing free) in
    on_ok_weaker c.keep_slot.result
    (λ noted. record {
      places = noted-first (first_in slots spare) (first_in now spare) (place_by_bytes c.args.self.now.others) ts c.args.text.now c.args.number indexed.places number unknown (λ n. slot-noted slots now spare c.args.number c.args.place indexed.spare free noted n ∙ ap (λ p. if eqb c.args.number n then Some p else first_in slots spare n) place);
      spare = spare-kept slots now spare c.args.number c.args.place indexed.spare free noted;
      sized = c.keep_slot.ensures.sized;
    })
    c.keep_slot.ensures.ok

pub returns-in-First-clause-ok : goal.returns-in-First-clause-ok
returns-in-First-clause-ok c = λ ts indexed known number place new.
    let slots = c.args.self.now.slots.items in
    let spare = get nat_cmp c.args.self.now.spare in
    let arm = c.in-First.is in
    let is : c.args.known ≡ First c.in-First.field-0 = cc in
    let first = subst (λ m. first_in slots spare m ≡ Some c.in-First.field-0) number (subst (IsKnown slots spare c.args.number) is known) in
    on_ok_weaker c.keep_other.result
    (λ noted. record {
      places = with-other (first_in slots spare) (place_by_bytes c.args.self.now.others) (place_by_bytes c.keep_other.new.others) ts c.args.text.now indexed.places new c.in-First.field-0 first (λ s. noted s ∙ ap (λ p. if bytes_eq c.args.text.now s then Some p else place_by_bytes c.args.self.now.others s) place);
      spare = indexed.spare;
      sized = indexed.sized;
    })
    c.keep_other.ensures.ok

pub returns-in-Elsewhere-clause-ok : goal.returns-in-Elsewhere-clause-ok
returns-in-Elsewhere-clause-ok c = λ ts indexed known number place new.
    let slots = c.args.self.now.slots.items in
    let spare = get nat_cmp c.args.self.now.spare in
    let now = get nat_cmp c.keep_spare.new.spare in
    let arm = c.in-Elsewhere.is in
    let is : c.args.known ≡ Elsewhere = cc in
    let elsewhere = subst (IsKnown slots spare c.args.number) is known in
    let unknown = subst (λ m. first_in slots spare m ≡ None) number (known-first slots spare c.args.number Elsewhere elsewhere) in
    on_ok_weaker c.keep_spare.result
    (λ noted. record {
      places = noted-first (first_in slots spare) (first_in slots now) (place_by_bytes c.args.self.now.others) ts c.args.text.now c.args.number indexed.places number unknown (λ n. spare-noted slots spare now c.args.number c.args.place indexed.spare elsewhere noted n ∙ ap (λ p. if eqb c.args.number n then Some p else first_in slots spare n) place);
      spare = spare-still slots spare now c.args.number c.args.place indexed.spare elsewhere noted;
      sized = indexed.sized;
    })
    c.keep_spare.ensures.ok
