use Rattle.dwc_unit.proofs.UnitLaws.{place-below}
use Rattle.dwc_unit.proofs.units.Unit.make_room_in.Goals as goal

pub make_room_in-requires : goal.make_room_in-requires
make_room_in-requires c =
    let place = rw (c.deref.ensures.value) at c.known_place-place.ensures in
    place-below _ c.args.id.index c.known_place-place.result c.self.inside.places.items c.self.invariant.known place
