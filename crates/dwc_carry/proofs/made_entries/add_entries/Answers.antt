use Rattle.std.proofs.Common.{◌+◌, ◌∙◌, [], ap, arith, drop, length, slice_index_or, subst, sym}
use Rattle.dwc_unit.specs.GivenUnits.{IsAdded}
use Rattle.dwc_unit.specs.declared.units.UnitEntryId.{UnitEntryId}
use Rattle.dwc_carry.specs.declared.made_entries.MadeEntry.{MadeEntry}
use Rattle.dwc_carry.specs.MadeEntries.{AreBehind, IsDense, addition_of}
use Rattle.dwc_carry.proofs.MadeAdditions.{child-known, entry-added, entry-dense, next-added, next-behind, next-counted, next-entry, parent-known}
use Rattle.dwc_carry.proofs.made_entries.add_entries.Goals as goal

pub add-requires : goal.add-requires
add-requires c =
    let es = c.args.entries.now in
    let i = c.loop-i.i in
    let none : MadeEntry = record { parent = 0; tag = 0; attributes = record { ref_ptr = (0, 0); now = [] } } in
    let e = slice_index_or es i none in
    let first = next-entry es i none (omega (arith, c.loop-i-test.true)) in
    parent-known c.loop-i.unit _ c.loop-i.invariant.dense (next-behind _ (drop i es) (drop (i + 1) es) _ first c.loop-i.invariant.behind).0

pub set_attributes-requires-clause-known : goal.set_attributes-requires-clause-known
set_attributes-requires-clause-known c =
    let es = c.args.entries.now in
    let i = c.loop-i.i in
    let none : MadeEntry = record { parent = 0; tag = 0; attributes = record { ref_ptr = (0, 0); now = [] } } in
    let e = slice_index_or es i none in
    let first = next-entry es i none (omega (arith, c.loop-i-test.true)) in
    let within = (next-behind _ (drop i es) (drop (i + 1) es) _ first c.loop-i.invariant.behind).0 in
    subst (λ u. IsAdded c.in_ok-id.id.index u) (sym c.in_ok-id.ensures.ok) (child-known c.loop-i.unit _ _ c.in_ok-id.id.index c.loop-i.invariant.dense within (ap (λ (id : UnitEntryId). id.index) c.in_ok-id.ensures.id))

pub loop-i-preserved : goal.loop-i-preserved
loop-i-preserved c =
    let es = c.args.entries.now in
    let i = c.loop-i.i in
    let u = c.loop-i.unit in
    let rest = drop (i + 1) es in
    let none : MadeEntry = record { parent = 0; tag = 0; attributes = record { ref_ptr = (0, 0); now = [] } } in
    let e = slice_index_or es i none in
    let first = next-entry es i none (omega (arith, c.loop-i-test.true)) in
    let behind = next-behind (length u.additions) (drop i es) rest e first c.loop-i.invariant.behind in
    let index = ap (λ (id : UnitEntryId). id.index) c.in_ok-id.ensures.id in
    let same = c.in_ok-set_attributes.ensures.set ∙ ap (λ v. Rattle.dwc_carry.specs.MadeEntries.with_attributes c.in_ok-id.id.index e.attributes.now v) c.in_ok-id.ensures.ok ∙ entry-added u e c.in_ok-id.id.index c.loop-i.invariant.dense behind.0 index in
    record {
      dense = subst (λ v. IsDense v) (sym same) (entry-dense u (addition_of e) c.loop-i.invariant.dense);
      behind = subst (λ n. AreBehind n rest) (sym (next-counted u c.set_attributes.new.unit (addition_of e) same)) behind.1;
      left = next-added u c.set_attributes.new.unit (drop i es) rest e first same ∙ c.loop-i.invariant.left;
    }
