use Rattle.std.proofs.Common.{refl}
use Rattle.dwc_unit.proofs.FileOrderLaws.{walk-step}
use Rattle.dwc_unit.proofs.file_order.file_order.Goals as goal

pub loop-place-smaller : goal.loop-place-smaller
loop-place-smaller c =
    let step = walk-step c.args.additions.now c.in_ok-links.links.first_children.items c.in_ok-links.links.next_siblings.items _ c.in-Some.place c.loop-place.pending.items c.pop.new.self.items c.push_link-in-Some.new.pending.items c.push_link-in-Some-2.new.pending.items c.loop-place.order.items c.push-in-Some.new.self.items c.index-in-Some.result.now c.index-in-Some-2.result.now
    c.loop-place.invariant.linked c.loop-place.invariant.pending c.in-Some.ensures.items c.loop-place.invariant.order c.in_ok-push-2.ensures.items c.index-in-Some.ensures c.index-in-Some-2.ensures c.in_ok-push_link-2.ensures c.in_ok-push_link-3.ensures in
    step.smaller

pub loop-place-preserved : goal.loop-place-preserved
loop-place-preserved c =
    let step = walk-step c.args.additions.now c.in_ok-links.links.first_children.items c.in_ok-links.links.next_siblings.items _ c.in-Some.place c.loop-place.pending.items c.pop.new.self.items c.push_link-in-Some.new.pending.items c.push_link-in-Some-2.new.pending.items c.loop-place.order.items c.push-in-Some.new.self.items c.index-in-Some.result.now c.index-in-Some-2.result.now
    c.loop-place.invariant.linked c.loop-place.invariant.pending c.in-Some.ensures.items c.loop-place.invariant.order c.in_ok-push-2.ensures.items c.index-in-Some.ensures c.index-in-Some-2.ensures c.in_ok-push_link-2.ensures c.in_ok-push_link-3.ensures in
    record {
      linked = c.loop-place.invariant.linked;
      order = step.entries;
      known = step.known _ refl c.loop-place.invariant.known;
      pending = step.pending;
    }
