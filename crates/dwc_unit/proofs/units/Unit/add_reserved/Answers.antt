use Rattle.std.proofs.Common.{refl, ap, ◌∙◌, arith}
use Rattle.dwc_unit.specs.GivenUnits.{with_child, with_known}
use Rattle.dwc_unit.proofs.UnitLaws.{added-known}
use Rattle.dwc_unit.proofs.units.Unit.add_reserved.Goals as goal

pub invariant_of-self-2 : goal.invariant_of-self-2
invariant_of-self-2 c =
    let parent = rw (c.deref.ensures.value) at c.known_place-parent_place.ensures in
    let reserved = rw (← c.self.view_is) at c.requires.reserved in
    (added-known _ c.args.id.index c.args.parent.index c.known_place-parent_place.result c.args.tag c.len-place.result _ _ c.self.invariant parent reserved.1 (omega (arith, c.ranges.tag)) c.len-place.ensures (omega (arith, c.len-place.ensures, c.in_ok-push.ensures.few)) c.in_ok-push.ensures.ok (rw (c.in_ok-known.ensures) refl)).kept

pub returns-clause-ok : goal.returns-clause-ok
returns-clause-ok c =
    let parent = rw (c.deref.ensures.value) at c.known_place-parent_place.ensures in
    let reserved = rw (← c.self.view_is) at c.requires.reserved in
    (added-known _ c.args.id.index c.args.parent.index c.known_place-parent_place.result c.args.tag c.len-place.result _ _ c.self.invariant parent reserved.1 (omega (arith, c.ranges.tag)) c.len-place.ensures (omega (arith, c.len-place.ensures, c.in_ok-push.ensures.few)) c.in_ok-push.ensures.ok (rw (c.in_ok-known.ensures) refl)).is
    ∙ ap (λ u. with_child c.args.parent.index c.args.tag (with_known c.args.id.index u)) c.self.view_is
