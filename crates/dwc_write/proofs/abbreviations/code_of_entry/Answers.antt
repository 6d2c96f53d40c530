use Rattle.std.proofs.Common.{◌≡◌, ◌∙◌, ◌<◌, arith, length, map, subst, sym, List, get_or}
use Rattle.std.proofs.lemmas.List.{length-map}
use Rattle.dwc_write.specs.declared.shapes.Shape.{Shape}
use Rattle.dwc_unit.specs.GivenUnits.{EntryShape, forms_of}
use Rattle.dwc_write.specs.ShapeViews.{shape_view}
use Rattle.dwc_write.proofs.ShapeLaws.{with_use-known}
use Rattle.dwc_write.proofs.ShapePlaces.{guessed}
use Rattle.dwc_write.proofs.abbreviations.code_of_entry.Goals as goal

pub returns-then-is_shape_of-clause-shapes : goal.returns-then-is_shape_of-clause-shapes
returns-then-is_shape_of-clause-shapes c =
    let ks = c.args.shapes.now.shapes.items in
    let s : EntryShape = record { tag = c.args.tag; has_children = c.args.has_children; attributes = forms_of c.args.attributes.now } in
    let within : c.args.guess < length ks = omega (arith, c.if-guess-len.true, c.len.ensures) in
    let K : List Shape → Type 0 = λ xs. c.index-as_slice-guess.result ≡ get_or xs c.args.guess c.index-as_slice-guess.result in
    let at = guessed s ks c.index-as_slice-guess.result c.args.guess c.requires.own within (subst K c.as_slice.ensures c.index-as_slice-guess.is) (sym c.is_shape_of.ensures ∙ c.if-is_shape_of.true) in
    sym (with_use-known s (map shape_view ks) (omega (arith, at, within, length-map ks shape_view)))

pub returns-then-is_shape_of-clause-code : goal.returns-then-is_shape_of-clause-code
returns-then-is_shape_of-clause-code c =
    let ks = c.args.shapes.now.shapes.items in
    let s : EntryShape = record { tag = c.args.tag; has_children = c.args.has_children; attributes = forms_of c.args.attributes.now } in
    let within : c.args.guess < length ks = omega (arith, c.if-guess-len.true, c.len.ensures) in
    let K : List Shape → Type 0 = λ xs. c.index-as_slice-guess.result ≡ get_or xs c.args.guess c.index-as_slice-guess.result in
    let at = guessed s ks c.index-as_slice-guess.result c.args.guess c.requires.own within (subst K c.as_slice.ensures c.index-as_slice-guess.is) (sym c.is_shape_of.ensures ∙ c.if-is_shape_of.true) in
    omega (arith, at)
