use Rattle.std.proofs.Common.{sym, ap, ◌∙◌}
use Rattle.dwc_unit.specs.GivenUnits.{tag_of}
use Rattle.dwc_unit.proofs.UnitLaws.{place-below, tag-of, tag-placed}
use Rattle.dwc_unit.proofs.units.Unit.tag.Goals as goal

pub tag-requires : goal.tag-requires
tag-requires c =
    let place = rw (c.deref.ensures.value) at c.known_place.ensures in
    place-below _ c.args.id.index c.known_place.result c.self.inside.places.items c.self.invariant.known place

pub returns : goal.returns
returns c =
    let place = rw (c.deref.ensures.value) at c.known_place.ensures in
    c.tag.ensures ∙ sym (tag-of c.known_place.result c.self.inside.additions)
    ∙ sym (tag-placed (record { version = c.self.inside.version; address_size = c.self.inside.address_size; lines = c.self.inside.lines.value; places = c.self.inside.places.items; additions = c.self.inside.additions }) c.args.id.index c.known_place.result place) ∙ ap (tag_of c.args.id.index) c.self.view_is
