use Rattle.std.proofs.Common.{subst, sym}
use Rattle.dwc_unit.specs.GivenUnits.{IsAdded, with_child, with_next}
use Rattle.dwc_unit.proofs.NumberLaws.{added-on-child, added-on-next}
use Rattle.dwc_unit.specs.declared.units.UnitEntryId.{UnitEntryId}
use Rattle.dwc_clone.proofs.EntryPaths.{added-next}
use Rattle.dwc_clone.proofs.MadeEntryLaws.{values-kept}
use Rattle.dwc_clone.proofs.made.add_made.Goals as goal

pub set_values-requires-clause-known : goal.set_values-requires-clause-known
set_values-requires-clause-known c =
    let u = c.args.unit.now in
    let there = subst (λ (id : UnitEntryId). IsAdded id.index (with_child c.args.parent.index c.args.tag (with_next u))) (sym c.in_ok-id.ensures.id) (added-next c.args.parent.index c.args.tag u) in
    subst (λ v. IsAdded c.in_ok-id.id.index v) (sym c.in_ok-id.ensures.ok) there

pub returns-clause-here : goal.returns-clause-here
returns-clause-here c = subst (IsAdded c.in_ok-id.id.index) (sym c.in_ok-set_values.ensures.set) (values-kept c.in_ok-id.id.index c.in_ok-id.id.index c.args.attributes.now c.add.new.self there)
  where
    there : IsAdded c.in_ok-id.id.index c.add.new.self
    there =
        let u = c.args.unit.now in
        let at = subst (λ (id : UnitEntryId). IsAdded id.index (with_child c.args.parent.index c.args.tag (with_next u))) (sym c.in_ok-id.ensures.id) (added-next c.args.parent.index c.args.tag u) in
        subst (λ v. IsAdded c.in_ok-id.id.index v) (sym c.in_ok-id.ensures.ok) at

pub returns-clause-kept : goal.returns-clause-kept
returns-clause-kept c other added =
    let u = c.args.unit.now in
    let there = added-on-child (with_next u) other c.args.parent.index c.args.tag (added-on-next u other added) in
    subst (IsAdded other) (sym c.in_ok-set_values.ensures.set) (values-kept c.in_ok-id.id.index other c.args.attributes.now c.add.new.self (subst (IsAdded other) (sym c.in_ok-id.ensures.ok) there))
