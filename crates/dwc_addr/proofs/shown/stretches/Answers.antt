use Rattle.std.proofs.Common.{◌<◌, ◌+◌, ◌∷◌, ap, subst, arith, map, drop, length}
use Rattle.dwc_addr.specs.declared.address_map.AddressMap.{AddressMap}
use Rattle.dwc_addr.specs.Runs.{recorded_view}
use Rattle.dwc_addr.proofs.RisingLaws.{RisesFrom-map, RisesFrom-from_non_decreasing}
use Rattle.dwc_addr.proofs.StretchLaws.{SoFar, so_far-begin, so_far-later, so_far-same, so_far-kept, so_far-end, none-below, left-next, left-behind}
use Rattle.dwc_addr.proofs.shown.stretches.Goals.{then-source-last+then-last-source+in_ok-push, then-source-last+else-last-source, else-source-last}
use Rattle.dwc_addr.proofs.shown.stretches.Goals as goal

pub loop-place-init : goal.loop-place-init
loop-place-init c =
    let xs = c.args.sources.now in
    let order = RisesFrom-map (λ e. e.native) recorded_view 0 xs (RisesFrom-from_non_decreasing (λ e. e.generated) 0 xs c.requires.order (λ d some. omega arith)) in
    (omega (arith, c.if-len-eq0.false), rw c.in_ok-stretches.ensures.items (so_far-begin c.args.start (map recorded_view xs) c.first_source.result c.first_source.ensures order))

pub loop-place-preserved : goal.loop-place-preserved
loop-place-preserved c =
    let xs = c.args.sources.now in
    let es = map recorded_view xs in
    let place = c.loop-place.place in
    let e = c.at-source.result in
    let last = c.loop-place.last in
    let done = c.loop-place.stretches.items in
    let left = map recorded_view (drop (place + 1) xs) in
    let count = c.begun_below-count.ensures in
    let inside : place < length xs = omega (arith, c.loop-place-test.true, count.inside) in
    let below : e.generated < c.args.len = omega (arith, count.below place e c.loop-place-test.true, ap (λ (x : AddressMap). x.generated) (c.at-source.ensures e)) in
    let now : SoFar c.args.start es done last (recorded_view e ∷ left) = subst (SoFar c.args.start es done last) (left-next xs place e inside (c.at-source.ensures e)) c.loop-place.invariant.1 in
    elim c.if-source-last.branch [
      | then-source-last+then-last-source+in_ok-push w ↦
          rw (w.stretches-is, w.last-is, w.in_ok-push.ensures.items) (below, so_far-later c.args.start es done last (recorded_view e) left w.if-last-source.true now)
      | then-source-last+else-last-source w ↦ rw (w.stretches-is, w.last-is) (below, so_far-same c.args.start es done last (recorded_view e) left w.if-last-source.false now)
      | else-source-last w ↦ rw (w.stretches-is, w.last-is) (c.loop-place.invariant.0, so_far-kept c.args.start es done last (recorded_view e) left w.if-source-last.false now)
    ]

pub returns : goal.returns
returns c =
    let xs = c.args.sources.now in
    let es = map recorded_view xs in
    let place = c.loop-place.place in
    let left = map recorded_view (drop place xs) in
    let h = c.loop-place.invariant.1 in
    let order = left-behind xs c.begun_below-count.result place c.args.len c.loop-place.last.start c.begun_below-count.ensures (omega (arith, c.loop-place-test.false)) h.order in
    rw (c.in_ok-push-2.ensures.items) (so_far-end c.args.start es c.args.len c.loop-place.stretches.items c.loop-place.last left c.loop-place.invariant.0 (λ byte less. none-below c.args.start es c.args.len byte left order less) h)
