use Rattle.std.proofs.Common.{refl}
use Rattle.dwc_expr.proofs.GatherLaws.{gives-maximal, given-labels}
use Rattle.dwc_expr.proofs.ranges.label_ranges.ValueLabelRangesBuilder.process_label.Goals as goal

pub narrowed-requires-clause-ordered : goal.narrowed-requires-clause-ordered
narrowed-requires-clause-ordered c = (gives-maximal _ c.self.inside.built.ranges.items c.self.inside.built.covers_entire_scope c.self.invariant).whole.ordered

pub narrowed-requires-clause-nonempty : goal.narrowed-requires-clause-nonempty
narrowed-requires-clause-nonempty c = (gives-maximal _ c.self.inside.built.ranges.items c.self.inside.built.covers_entire_scope c.self.invariant).whole.nonempty

pub invariant_of-self-2 : goal.invariant_of-self-2
invariant_of-self-2 c = given-labels _ _ _ _ _ _ _ c.in_ok-push.ensures.items (c.in_ok-built.ensures.1 _ refl c.self.invariant)
