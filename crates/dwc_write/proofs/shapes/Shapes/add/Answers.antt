use Rattle.std.proofs.Common.{◌≡◌, ◌∙◌, ◌++◌, ◌∷◌, [], ap, arith, length, map, rules, sym, Some}
use Rattle.std.specs.Prelude.{if◌then◌else◌}
use Rattle.std.specs.BTreeMap.{get}
use Rattle.std.specs.Str.{bytes_eq}
use Rattle.std.proofs.lemmas.List.{length-map, map-append}
use Rattle.dwc_unit.specs.GivenUnits.{EntryShape, forms_of}
use Rattle.dwc_write.specs.ShapeViews.{place_among, shape_view, words_cmp}
use Rattle.dwc_write.proofs.ShapeWords.{found-more}
use Rattle.dwc_write.proofs.shapes.Shapes.add.Goals as goal

pub returns-clause-found : goal.returns-clause-found
returns-clause-found c =
    let old = c.args.self.now in
    let ks = map shape_view old.shapes.items in
    let s : EntryShape = record { tag = c.args.tag; has_children = c.args.has_children; attributes = forms_of c.args.attributes.now } in
    let now : map shape_view c.push.new.self.items ≡ ks ++ s ∷ [] = rw (c.in_ok-push.ensures.items, map-append) (ap (λ x. ks ++ x ∷ []) c.in_ok-shape.ensures) in
    let many : c.len-place.result ≡ length old.shapes.items = search rules in
    let count : c.len-place.result ≡ length ks = many ∙ sym (length-map old.shapes.items shape_view) in
    record {
      each = λ words t is.
          found-more (get words_cmp old.places) (get words_cmp c.keep_place.new.places) ks s c.args.words.now.items c.requires.words (omega (arith, c.requires.new, length-map old.shapes.items shape_view)) c.requires.found.each
          (λ q. c.in_ok-keep_place.ensures q ∙ ap (λ ws. if bytes_eq ws q.items then Some c.len-place.result else get words_cmp old.places q) c.deref.ensures.value ∙ ap (λ n. if bytes_eq c.args.words.now.items q.items then Some n else get words_cmp old.places q) count) words t is
          ∙ ap (place_among t) (sym now);
    }
