use Rattle.std.proofs.Common.{◌≡◌, ◌∙◌, ◌<◌, arith, get_or, length, subst, sym, List}
use Rattle.dwc_unit.specs.GivenUnits.{EntryShape, forms_of}
use Rattle.dwc_write.specs.declared.shapes.Shape.{Shape}
use Rattle.dwc_write.proofs.ShapePlaces.{guessed-stands}
use Rattle.dwc_write.proofs.abbreviations.is_at.Goals as goal

pub returns : goal.returns
returns c = λ same.
    let ks = c.args.shapes.now.shapes.items in
    let k = c.index-known-place.result in
    let s : EntryShape = record { tag = c.args.tag; has_children = c.args.has_children; attributes = forms_of c.args.attributes.now } in
    let within : c.args.place < length ks = subst (λ (xs : List Shape). c.args.place < length xs) c.as_slice-known.ensures (omega (arith, c.if-place-known.false)) in
    let K : List Shape → Type 0 = λ xs. k ≡ get_or xs c.args.place k in
    guessed-stands s ks k c.args.place c.requires within (subst K c.as_slice-known.ensures c.index-known-place.is) (sym c.is_shape_of.ensures ∙ same)
