use Rattle.std.proofs.Common.{ap, ◌∙◌, arith}
use Rattle.dwc_unit.specs.GivenUnits.{with_child, with_next}
use Rattle.dwc_unit.proofs.UnitLaws.{added-next}
use Rattle.dwc_unit.proofs.units.Unit.add.Goals as goal

pub invariant_of-self-2 : goal.invariant_of-self-2
invariant_of-self-2 c =
    let parent = rw (c.deref.ensures.value) at c.known_place-parent_place.ensures in
    let places = rw (c.unwrap.ensures, c.in_ok-reserve.ensures.items, c.in_ok-known.ensures) at c.push-2.ensures.items in
    (added-next _ c.args.parent.index c.known_place-parent_place.result c.args.tag c.len-place.result _ _ c.self.invariant parent (omega (arith, c.ranges.tag)) c.len-place.ensures (omega (arith, c.len-place.ensures, c.in_ok-push.ensures.few)) c.in_ok-push.ensures.ok places).kept

pub returns-clause-ok : goal.returns-clause-ok
returns-clause-ok c =
    let parent = rw (c.deref.ensures.value) at c.known_place-parent_place.ensures in
    let places = rw (c.unwrap.ensures, c.in_ok-reserve.ensures.items, c.in_ok-known.ensures) at c.push-2.ensures.items in
    (added-next _ c.args.parent.index c.known_place-parent_place.result c.args.tag c.len-place.result _ _ c.self.invariant parent (omega (arith, c.ranges.tag)) c.len-place.ensures (omega (arith, c.len-place.ensures, c.in_ok-push.ensures.few)) c.in_ok-push.ensures.ok places).is
    ∙ ap (λ u. with_child c.args.parent.index c.args.tag (with_next u)) c.self.view_is
