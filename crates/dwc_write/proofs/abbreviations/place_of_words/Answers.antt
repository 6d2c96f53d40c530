use Rattle.std.proofs.Common.{◌∙◌, arith, map, sym}
use Rattle.std.proofs.lemmas.List.{length-map}
use Rattle.std.proofs.lemmas.Result.{on_ok_weaker}
use Rattle.dwc_unit.specs.GivenUnits.{EntryShape, forms_of}
use Rattle.dwc_write.specs.ShapeViews.{shape_view}
use Rattle.dwc_write.proofs.ShapeWords.{among-none, among-some, known-use, new-placed, new-use}
use Rattle.dwc_write.proofs.abbreviations.place_of_words.Goals as goal

pub add-requires-clause-new : goal.add-requires-clause-new
add-requires-clause-new c =
    let ks = c.args.shapes.now.shapes.items in
    let s : EntryShape = record { tag = c.args.tag; has_children = c.args.has_children; attributes = forms_of c.args.attributes.now } in
    let past = among-none s (map shape_view ks) (c.in-None.ensures ∙ c.requires.found.each c.args.words.now s c.requires.words) in
    omega (arith, past, length-map ks shape_view)

pub returns-in-Some-clause-shapes : goal.returns-in-Some-clause-shapes
returns-in-Some-clause-shapes c =
    let ks = c.args.shapes.now.shapes.items in
    let s : EntryShape = record { tag = c.args.tag; has_children = c.args.has_children; attributes = forms_of c.args.attributes.now } in
    sym (known-use s (map shape_view ks) c.in-Some.place (c.in-Some.ensures ∙ c.requires.found.each c.args.words.now s c.requires.words))

pub returns-in-Some-clause-place : goal.returns-in-Some-clause-place
returns-in-Some-clause-place c =
    let ks = c.args.shapes.now.shapes.items in
    let s : EntryShape = record { tag = c.args.tag; has_children = c.args.has_children; attributes = forms_of c.args.attributes.now } in
    sym ((among-some s (map shape_view ks) c.in-Some.place (c.in-Some.ensures ∙ c.requires.found.each c.args.words.now s c.requires.words)).0)

pub returns-in-Some-clause-inside : goal.returns-in-Some-clause-inside
returns-in-Some-clause-inside c =
    let ks = c.args.shapes.now.shapes.items in
    let s : EntryShape = record { tag = c.args.tag; has_children = c.args.has_children; attributes = forms_of c.args.attributes.now } in
    let within = (among-some s (map shape_view ks) c.in-Some.place (c.in-Some.ensures ∙ c.requires.found.each c.args.words.now s c.requires.words)).1 in
    omega (arith, within, length-map ks shape_view)

pub returns-in-None-clause-shapes : goal.returns-in-None-clause-shapes
returns-in-None-clause-shapes c =
    let ks = c.args.shapes.now.shapes.items in
    let s : EntryShape = record { tag = c.args.tag; has_children = c.args.has_children; attributes = forms_of c.args.attributes.now } in
    let new = new-use s (map shape_view ks) (c.in-None.ensures ∙ c.requires.found.each c.args.words.now s c.requires.words) in
    on_ok_weaker c.add.result (λ is. is ∙ new) c.add.ensures.shapes

pub returns-in-None-clause-place : goal.returns-in-None-clause-place
returns-in-None-clause-place c =
    let ks = c.args.shapes.now.shapes.items in
    let s : EntryShape = record { tag = c.args.tag; has_children = c.args.has_children; attributes = forms_of c.args.attributes.now } in
    new-placed s ks (c.in-None.ensures ∙ c.requires.found.each c.args.words.now s c.requires.words) c.add.result c.add.ensures.place
