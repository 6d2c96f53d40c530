use Rattle.std.proofs.Common.{◌∙◌, sym}
use Rattle.dwc_unit.proofs.UnitLaws.{none-added, place_get, place_here}
use Rattle.dwc_unit.proofs.units.known_place.Goals as goal

pub bounds-places-id : goal.bounds-places-id
bounds-places-id c = place_here c.args.id.index c.args.places.now c.requires

pub unreachable-requires : goal.unreachable-requires
unreachable-requires c =
    none-added _ (place_get c.args.id.index c.args.places.now c.index-places-id.result (place_here c.args.id.index c.args.places.now c.requires) ∙ sym c.index-places-id.is ∙ sym c.get.ensures ∙ c.in-None.is) c.requires

pub returns : goal.returns
returns c = place_get c.args.id.index c.args.places.now c.index-places-id.result (place_here c.args.id.index c.args.places.now c.requires) ∙ sym c.index-places-id.is ∙ sym c.get.ensures ∙ c.in-Some.is
