use Rattle.std.proofs.Common.{◌≡◌, ap, subst, sym, ◌∙◌, w64}
use Rattle.std.proofs.lemmas.Int.{to_z-of_z}
use Rattle.dwc_rules.specs.Scopes.{left_for}
use Rattle.dwc_rules.proofs.StackLaws.{IsBelow, left-below}
use Rattle.dwc_extents.proofs.inherited_attr.InheritedAttr.update.Goals as goal

pub returns-then-not-has_top_from-clause-below : goal.returns-then-not-has_top_from-clause-below
returns-then-not-has_top_from-clause-below g c rise =
    let whole : c.args.self.now ≡ left_for c.args.depth c.args.self.now =
    sym (c.has_top_from.ensures c.if-not-has_top_from.true)
    ∙ ap (λ depth. left_for depth c.args.self.now) (to_z-of_z w64 c.args.depth c.ranges.depth)
    in
    subst (IsBelow c.args.depth) (sym whole) (left-below c.args.self.now rise c.args.depth)

pub returns-clause-below : goal.returns-clause-below
returns-clause-below g c rise =
    let left : c.leave.new.self ≡ left_for c.args.depth c.args.self.now = c.leave.ensures ∙ ap (λ depth. left_for depth c.args.self.now) (to_z-of_z w64 c.args.depth c.ranges.depth) in
    subst (IsBelow c.args.depth) (sym left) (left-below c.args.self.now rise c.args.depth)
