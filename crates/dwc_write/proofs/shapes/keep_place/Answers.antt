use Rattle.std.proofs.Common.{◌≡◌, ◌∙◌, ap, rules, sym, Some}
use Rattle.std.specs.Prelude.{if◌then◌else◌}
use Rattle.std.specs.BTreeMap.{get}
use Rattle.std.specs.Cmp.Lexicographic.{texts_ties}
use Rattle.std.specs.Str.{bytes_eq}
use Rattle.dwc_write.specs.ShapeViews.{words_cmp}
use Rattle.dwc_write.proofs.shapes.keep_place.Goals as goal

pub returns : goal.returns
returns c = λ q.
    let same : c.in_ok-to_vec.field-0.items ≡ c.args.words.now = search rules in
    c.in_ok-insert.ensures.updates.0 q ∙ ap (λ b. if b then Some c.args.place else get words_cmp c.args.places.now q) (sym (texts_ties c.in_ok-to_vec.field-0.items q.items) ∙ ap (λ ws. bytes_eq ws q.items) same)
