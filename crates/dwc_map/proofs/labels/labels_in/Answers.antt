use Rattle.std.proofs.Common.{Some, map, option_map, ◌∙◌, sym, ap, arith}
use Rattle.std.specs.Prelude.{is_some}
use Rattle.dwc_isa.specs.ValueLabels.{range_view}
use Rattle.dwc_map.specs.MapFile.{label_range_of}
use Rattle.dwc_map.specs.MapValues.{list_of}
use Rattle.dwc_map.specs.MapViews.{label_view}
use Rattle.dwc_map.proofs.Tables.{values-unread, values-twice, values-more, is_some-map}
use Rattle.dwc_map.proofs.labels.labels_in.Goals as goal

pub returns-in_default : goal.returns-in_default
returns-in_default c =
    values-unread (list_of label_range_of) c.args.values.now c.loop-k.k c.index-values-k.result c.loop-k-test.true c.loop-k.invariant.inside c.index-values-k.is label_view c.in_ok-label.field-0 c.in_ok-label.ensures c.in_default.not-Some

pub returns-then-is_some : goal.returns-then-is_some
returns-then-is_some c =
    let row = label_view (c.in-Some.label, c.in-Some.ranges) in
    let read = sym c.in_ok-label.ensures ∙ ap (option_map label_view) c.in-Some.is in
    let there = ap is_some (sym c.get.ensures) ∙ is_some-map (λ x. map range_view x.now) c.get.result ∙ sym c.if-is_some.ensures in
    values-twice (list_of label_range_of) c.args.values.now c.loop-k.k c.index-values-k.result c.loop-k-test.true c.loop-k.invariant.inside c.index-values-k.is row c.loop-k.labels read c.loop-k.invariant.table there

pub loop-k-preserved : goal.loop-k-preserved
loop-k-preserved c = record {
  inside = omega (arith, c.loop-k.invariant.inside);
  table =
      let row = label_view (c.in-Some.label, c.in-Some.ranges) in
      let read = sym c.in_ok-label.ensures ∙ ap (option_map label_view) c.in-Some.is in
      let there = ap is_some (sym c.get.ensures) ∙ is_some-map (λ x. map range_view x.now) c.get.result ∙ sym c.if-is_some.ensures in
      values-more (list_of label_range_of) c.args.values.now c.loop-k.k c.index-values-k.result c.loop-k-test.true c.loop-k.invariant.inside c.index-values-k.is row c.loop-k.labels read c.loop-k.invariant.table there
      ∙ ap Some (sym c.in_ok-insert.ensures.ok);
}
