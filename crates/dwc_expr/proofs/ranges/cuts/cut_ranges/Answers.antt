use Rattle.std.proofs.Common.{◌≡◌, ◌+◌, List, [], arith, drop, map, refl, subst, sym, ap}
use Rattle.std.specs.List.{AllZip}
use Rattle.std.proofs.lemmas.List.{drop_all, get_or_read, length-map}
use Rattle.dwc_native.specs.Placed.{NativeRange}
use Rattle.dwc_isa.specs.ValueLabels.{range_view}
use Rattle.dwc_expr.specs.declared.ranges.cached_range.CachedValueLabelRange.{CachedValueLabelRange}
use Rattle.dwc_expr.specs.LabelRanges.{bounds_of}
use Rattle.dwc_expr.specs.NarrowedRanges.{Appends, IsMadeBy, IsMadeIn}
use Rattle.dwc_expr.specs.PlacedParts.{PlacedPart, cuts_from, cuts_of}
use Rattle.dwc_expr.proofs.CutLaws.{cut-index, cuts-passed, part-in}
use Rattle.dwc_expr.proofs.CutWalkLaws.{IsAt, seen-at, range-step, passed-here, all-passed-go}
use Rattle.dwc_expr.proofs.MadeLaws.{Leads, appends-in, leads-end, leads-more}
use Rattle.dwc_expr.proofs.ranges.cuts.cut_ranges.Goals as goal

pub loop-i-init : goal.loop-i-init
loop-i-init c =
    let all = cuts_from c.args.own (map range_view c.args.pieces.now) 0 (map bounds_of c.args.ranges.now) in
    record {
      cut = subst (λ (now : List CachedValueLabelRange). Leads (IsMadeIn c.args.label.0 c.args.ranges.now) all all now []) (sym c.new-made.ensures.items) (λ new a. a);
      inside = c.requires.inside;
      passed = c.requires.passed;
    }

pub loop-i-preserved : goal.loop-i-preserved
loop-i-preserved c =
    let ps = map range_view c.args.pieces.now in
    let ranges = c.args.ranges.now in
    let rs = map bounds_of ranges in
    let own = c.args.own in
    let i = c.loop-i.i in
    let x = c.index-ranges-i.result in
    let r : NativeRange = bounds_of x in
    let at : IsAt rs i r = seen-at bounds_of ranges i x r c.loop-i-test.true c.index-ranges-i.is refl in
    let now = c.loop-i.made.items in
    let new = c.cut_range.new.made.items in
    let put = subst (λ (parts : List PlacedPart). Appends (IsMadeBy c.args.label.0 x) parts now new) (cuts-passed own ps i c.loop-i.next r (passed-here own ps rs i c.loop-i.next r at c.loop-i.invariant.passed)) (c.in_ok-next.ensures.cut i) in
    record {
      cut = leads-more (IsMadeIn c.args.label.0 ranges) (cuts_of own ps i r) (cuts_from own ps (i + 1) (drop (i + 1) rs)) (cuts_from own ps i (drop i rs)) (cuts_from own ps 0 rs) [] now new (range-step own ps rs i r at)
          (appends-in c.args.label.0 ranges i x (cuts_of own ps i r) now new (get_or_read ranges i x c.loop-i-test.true c.index-ranges-i.is) (λ y j. let part = part-in own ps i r y j in cut-index i r part.piece y part.cut) put) c.loop-i.invariant.cut;
      inside = c.in_ok-next.ensures.inside;
      passed = all-passed-go own ps rs i c.loop-i.next c.in_ok-next.next r c.requires.ordered at c.in_ok-next.ensures.passed c.loop-i.invariant.passed;
    }

pub returns : goal.returns
returns c =
    let ps = map range_view c.args.pieces.now in
    let rs = map bounds_of c.args.ranges.now in
    let i = c.loop-i.i in
    let all = cuts_from c.args.own ps 0 rs in
    let past : cuts_from c.args.own ps i (drop i rs) ≡ [] = ap (cuts_from c.args.own ps i) (drop_all i rs (omega (arith, c.loop-i-test.false, length-map c.args.ranges.now bounds_of))) in
    let made = leads-end (IsMadeIn c.args.label.0 c.args.ranges.now) (cuts_from c.args.own ps i (drop i rs)) all [] c.loop-i.made.items past c.loop-i.invariant.cut in
    subst (AllZip (IsMadeIn c.args.label.0 c.args.ranges.now) all) (sym made.is) made.zip
