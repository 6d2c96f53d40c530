use Rattle.std.proofs.Common.{refl, sym, ap, ◌∙◌, arith}
use Rattle.std.proofs.lemmas.Result.{err_from_is_err_and}
use Rattle.dwc_unit.specs.GivenUnits.{GivenUnit, with_additions, with_value}
use Rattle.dwc_unit.proofs.UnitLaws.{place-below, set-kept, value-placed}
use Rattle.dwc_unit.proofs.units.Unit.set.Goals as goal

pub set-requires : goal.set-requires
set-requires c =
    let place = rw (c.deref.ensures.value) at c.known_place-place.ensures in
    place-below _ c.args.id.index c.known_place-place.result c.self.inside.places.items c.self.invariant.known place

pub invariant_of-self : goal.invariant_of-self
invariant_of-self c = rw (c.in_err-set.ensures.err) c.self.invariant

pub returns-in_err-set-clause-err : goal.returns-in_err-set-clause-err
returns-in_err-set-clause-err c =
    let p = err_from_is_err_and c.from_residual.result c.from_residual.ensures.1 in
    rw (p.1, ← c.self.view_is, c.in_err-set.ensures.err) refl

pub invariant_of-self-2 : goal.invariant_of-self-2
invariant_of-self-2 c =
    rw (c.in_ok-set.ensures.ok) (set-kept _ c.known_place-place.result c.args.name c.args.value c.self.invariant (omega (arith, c.ranges.name)) (rw (← c.self.view_is) at c.requires.fits) c.know_length.ensures)

pub returns-clause-ok : goal.returns-clause-ok
returns-clause-ok c =
    let place = rw (c.deref.ensures.value) at c.known_place-place.ensures in
    let given : GivenUnit = record { version = c.self.inside.version; address_size = c.self.inside.address_size; lines = c.self.inside.lines.value; places = c.self.inside.places.items; additions = c.self.inside.additions } in
    ap (λ es. with_additions es given) c.in_ok-set.ensures.ok
    ∙ sym (value-placed given c.args.id.index c.known_place-place.result c.args.name c.args.value place) ∙ ap (with_value c.args.id.index c.args.name c.args.value) c.self.view_is
