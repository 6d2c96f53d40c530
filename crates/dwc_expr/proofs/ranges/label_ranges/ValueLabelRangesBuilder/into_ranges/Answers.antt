use Rattle.std.proofs.Common.{subst}
use Rattle.dwc_expr.specs.LabelRanges.{Gathered, GivesRanges}
use Rattle.dwc_expr.proofs.GatherLaws.{gives-maximal, gives-places}
use Rattle.dwc_expr.proofs.ranges.label_ranges.ValueLabelRangesBuilder.into_ranges.Goals as goal

pub returns-clause-placed : goal.returns-clause-placed
returns-clause-placed c =
    let built = c.self.inside.built in
    gives-places c.args.self built.ranges.items built.covers_entire_scope (subst (λ (g : Gathered). GivesRanges g built.ranges.items built.covers_entire_scope) c.self.view_is c.self.invariant)

pub returns-clause-whole : goal.returns-clause-whole
returns-clause-whole c =
    let built = c.self.inside.built in
    gives-maximal c.args.self built.ranges.items built.covers_entire_scope (subst (λ (g : Gathered). GivesRanges g built.ranges.items built.covers_entire_scope) c.self.view_is c.self.invariant)
