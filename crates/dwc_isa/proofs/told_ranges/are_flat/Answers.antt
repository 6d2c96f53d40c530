use Rattle.std.proofs.Common.{◌∙◌, get_or, map, subst, sym, take}
use Rattle.std.proofs.lemmas.List.{map_more}
use Rattle.dwc_isa.specs.ValueLabels.{range_view}
use Rattle.dwc_isa.specs.FlatRanges.{IsFlatTo}
use Rattle.dwc_isa.proofs.FlatLaws.{flat-more}
use Rattle.dwc_isa.proofs.FlatLaws.{no_range}
use Rattle.dwc_isa.proofs.told_ranges.are_flat.Goals as goal

pub loop-i-preserved : goal.loop-i-preserved
loop-i-preserved c =
    let rs = c.args.ranges.now in
    let i = c.loop-i.i in
    let r = range_view (get_or rs i no_range) in
    subst (IsFlatTo r.end) (sym (map_more range_view rs i no_range c.loop-i-test.true))
    (flat-more c.loop-i.end r (map range_view (take i rs)) c.loop-i.invariant c.if-range-end.false c.if-range.false (sym c.goes_on_last.ensures ∙ c.if-goes_on_last.false))
