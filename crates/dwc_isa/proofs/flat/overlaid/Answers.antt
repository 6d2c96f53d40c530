use Rattle.std.proofs.Common.{◌+◌, ◌≤◌, map, drop, get_or, refl, subst, ap, arith}
use Rattle.std.proofs.lemmas.List.Elements.{All-head}
use Rattle.dwc_isa.specs.ValueLabels.{range_view}
use Rattle.dwc_isa.proofs.ListEnds.{map-next, map-past}
use Rattle.dwc_isa.proofs.FlatLaws.{no_range}
use Rattle.dwc_isa.proofs.OverlayLaws.{IsOverlaid, overlaid-more, overlaid-all}
use Rattle.dwc_isa.proofs.flat.overlaid.Goals as goal

pub put_between-requires-clause-ends : goal.put_between-requires-clause-ends
put_between-requires-clause-ends c =
    let above = c.args.above.now in
    let i = c.loop-range.range-index in
    let r = range_view (get_or above i no_range) in
    let left = map range_view (drop (i + 1) above) in
    let o = subst (λ ls. IsOverlaid c.loop-range.at (map range_view c.args.below.now) (map range_view above) (map range_view c.loop-range.rest.now) ls (map range_view c.loop-range.out.items)) (map-next range_view above i no_range c.loop-range-test.true) c.loop-range.invariant.overlaid in
    All-head (λ s. c.loop-range.at ≤ s.start) r left o.behind

pub loop-range-preserved : goal.loop-range-preserved
loop-range-preserved c =
    let above = c.args.above.now in
    let below = map range_view c.args.below.now in
    let i = c.loop-range.range-index in
    let r = range_view (get_or above i no_range) in
    let left = map range_view (drop (i + 1) above) in
    let rest = map range_view c.loop-range.rest.now in
    let out = map range_view c.loop-range.out.items in
    let o = subst (λ ls. IsOverlaid c.loop-range.at below (map range_view above) rest ls out) (map-next range_view above i no_range c.loop-range-test.true) c.loop-range.invariant.overlaid in
    record {
      overlaid = overlaid-more c.loop-range.at r below (map range_view above) rest left out (map range_view c.in_ok-rest.rest.now) (map range_view c.put_between.new.out.items) (map range_view c.put.new.out.items) o c.in_ok-rest.ensures.put c.in_ok-rest.ensures.rest c.in_ok-put.ensures;
      low = omega arith;
    }

pub returns : goal.returns
returns c =
    let above = c.args.above.now in
    let below = map range_view c.args.below.now in
    let rest = map range_view c.loop-range.rest.now in
    let out = map range_view c.loop-range.out.items in
    let o = subst (λ ls. IsOverlaid c.loop-range.at below (map range_view above) rest ls out) (map-past range_view above c.loop-range.range-index c.loop-range-test.false) c.loop-range.invariant.overlaid in
    overlaid-all c.loop-range.at 4294967295 below (map range_view above) rest out (map range_view c.in_ok-put_between.field-0.now) (map range_view c.put_between-2.new.out.items) o c.in_ok-put_between.ensures.put c.in_ok-put_between.ensures.rest
    (ap (map range_view) (c.in_ok-put_between.ensures.all refl)) (omega (arith, c.loop-range.invariant.low))
