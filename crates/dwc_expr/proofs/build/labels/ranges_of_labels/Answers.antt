use Rattle.std.proofs.Common.{◌∙◌, All, List, ℕ, option_map, refl, subst, sym, take}
use Rattle.std.proofs.lemmas.List.{map_more, take_all}
use Rattle.dwc_isa.specs.declared.value_label.ValueLabel.{ValueLabel}
use Rattle.dwc_expr.specs.Frames.{told_frame}
use Rattle.dwc_expr.specs.LabelRanges.{Gathered, gathered_frame, gathered_of, HasPlaces}
use Rattle.dwc_expr.specs.NarrowedRanges.{Gives}
use Rattle.dwc_expr.specs.NeededLabels.{numbers, with_labels}
use Rattle.dwc_expr.proofs.GatherLaws.{gives-maximal, gives-places}
use Rattle.dwc_expr.proofs.LabelLaws.{refusals-more}
use Rattle.dwc_expr.proofs.build.labels.ranges_of_labels.Goals as goal

pub loop-label-init : goal.loop-label-init
loop-label-init c = record { given = c.in_ok-built.ensures.given (option_map (λ f. told_frame f.now) c.args.frame_info); refusals = refl }

pub narrowed-requires-clause-ordered : goal.narrowed-requires-clause-ordered
narrowed-requires-clause-ordered c = (gives-maximal _ c.loop-label.built.ranges.items c.loop-label.built.covers_entire_scope c.loop-label.invariant.given).whole.ordered

pub narrowed-requires-clause-nonempty : goal.narrowed-requires-clause-nonempty
narrowed-requires-clause-nonempty c = (gives-maximal _ c.loop-label.built.ranges.items c.loop-label.built.covers_entire_scope c.loop-label.invariant.given).whole.nonempty

pub loop-label-preserved : goal.loop-label-preserved
loop-label-preserved c =
    let g : Gathered = gathered_of c.args.addr_tr.now (option_map (λ f. told_frame f.now) c.args.frame_info) c.args.scope.now in
    let labels = c.args.labels.now in
    let i = c.loop-label.label-index in
    let none : ValueLabel = record { 0 = 0 } in
    let next = c.in_ok-built-2.ensures in
    record {
      given = subst (λ (ls : List ℕ). Gives (with_labels ls g) c.in_ok-built-2.built) (sym (map_more (λ (l : ValueLabel). l.0) labels i none c.loop-label-test.true)) (next.1 (with_labels (numbers (take i labels)) g) refl c.loop-label.invariant.given);
      refusals = sym (refusals-more (gathered_frame g) labels i none c.loop-label-test.true next.0) ∙ c.loop-label.invariant.refusals;
    }

pub returns-clause-placed : goal.returns-clause-placed
returns-clause-placed c =
    subst (λ (ls : List ValueLabel). All (HasPlaces (numbers ls)) c.loop-label.built.ranges.items) (take_all c.loop-label.label-index c.args.labels.now c.loop-label-test.false)
    (gives-places _ c.loop-label.built.ranges.items c.loop-label.built.covers_entire_scope c.loop-label.invariant.given)
