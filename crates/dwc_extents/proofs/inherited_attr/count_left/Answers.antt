use Rattle.std.proofs.Common.{◌≡◌, suc, ◌-◌, ap, arith, subst, sym, to_z, of_z, w64, ◌∙◌, take, int_le}
use Rattle.std.proofs.lemmas.Int.{to_z-of_z}
use Rattle.dwc_rules.specs.Scopes.{left_for}
use Rattle.dwc_extents.proofs.StackPlaces.{Counts, counts-all, counts-less}
use Rattle.dwc_extents.proofs.inherited_attr.count_left.Goals as goal

pub loop-left-preserved : goal.loop-left-preserved
loop-left-preserved g c =
    let place : c.loop-left.left ≡ suc (c.loop-left.left - 1) = omega (arith, c.loop-left-test.true) in
    counts-less (to_z w64 (of_z w64 c.args.depth)) c.args.items.now (c.loop-left.left - 1) c.index-items-left.result (ap (λ g. int_le (to_z w64 (of_z w64 c.args.depth)) g.0) (sym c.index-items-left.is) ∙ sym c.is_from.ensures ∙ c.if-is_from.true) (subst (Counts _ _) place c.loop-left.invariant)

pub returns-else-is_from : goal.returns-else-is_from
returns-else-is_from g c =
    let place : c.loop-left.left ≡ suc (c.loop-left.left - 1) = omega (arith, c.loop-left-test.true) in
    ap (λ n. take n c.args.items.now) place
    ∙ counts-all (to_z w64 (of_z w64 c.args.depth)) c.args.items.now (c.loop-left.left - 1) c.index-items-left.result (ap (λ g. int_le (to_z w64 (of_z w64 c.args.depth)) g.0) (sym c.index-items-left.is) ∙ sym c.is_from.ensures ∙ c.if-is_from.false) (subst (Counts _ _) place c.loop-left.invariant)
    ∙ ap (λ depth. left_for depth c.args.items.now) (to_z-of_z w64 c.args.depth c.ranges.depth)
