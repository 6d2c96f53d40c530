use Rattle.std.proofs.Common.{ap, sym, ◌∙◌, Some}
use Rattle.std.specs.Prelude.{option_and_then}
use Rattle.std.proofs.lemmas.Option.{slice_get-get_or, slice_get_past}
use Rattle.dwc_source.specs.OutputPlaces.{place_at}
use Rattle.dwc_source.proofs.PlaceLaws.{offsets-rise, place-behind}
use Rattle.dwc_source.proofs.places.found_behind.Goals as goal

pub returns-in-None : goal.returns-in-None
returns-in-None c =
    let es = c.args.entries.now in
    let none = slice_get_past es _ (c.in-None.ensures.lookup).3 in
    ap (option_and_then (place_at c.args.offset)) (sym none)
    ∙ place-behind c.args.offset es c.loop-place.place (offsets-rise es c.requires.rising) c.loop-place.invariant (c.is_before.ensures.behind c.loop-place-test.false)

pub returns-in-Some : goal.returns-in-Some
returns-in-Some c =
    let es = c.args.entries.now in
    let some = slice_get-get_or es _ c.in-Some.entry.now (c.in-Some.ensures.lookup).3.0 ∙ ap Some (sym (c.in-Some.ensures.lookup).1) in
    c.place_if.ensures
    ∙ (ap (option_and_then (place_at c.args.offset)) (sym some)
    ∙ place-behind c.args.offset es c.loop-place.place (offsets-rise es c.requires.rising) c.loop-place.invariant (c.is_before.ensures.behind c.loop-place-test.false))
