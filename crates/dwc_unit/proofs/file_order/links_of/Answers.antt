use Rattle.std.proofs.Common.{arith}
use Rattle.dwc_unit.proofs.FileOrderLaws.{entry-linked-more, parent-low}
use Rattle.dwc_unit.proofs.file_order.links_of.Goals as goal

pub index-requires : goal.index-requires
index-requires c =
    let firsts = c.loop-place.first_children in
    omega (arith, parent-low c.args.additions.now c.loop-place.place c.parent-parent.result firsts.items c.loop-place.next_siblings.items c.requires c.loop-place-test.true c.parent-parent.ensures c.loop-place.invariant.within c.loop-place.invariant.linked, firsts.ok.0, firsts.ok.1)

pub index_mut-requires-in-loop-place : goal.index_mut-requires-in-loop-place
index_mut-requires-in-loop-place c =
    let firsts = c.loop-place.first_children in
    omega (arith, parent-low c.args.additions.now c.loop-place.place c.parent-parent.result firsts.items c.loop-place.next_siblings.items c.requires c.loop-place-test.true c.parent-parent.ensures c.loop-place.invariant.within c.loop-place.invariant.linked, firsts.ok.0, firsts.ok.1)

pub loop-place-preserved : goal.loop-place-preserved
loop-place-preserved c = record {
  some = omega (arith, c.loop-place-test.true);
  within = omega (arith, c.loop-place.invariant.within);
  linked = entry-linked-more c.args.additions.now c.loop-place.place c.parent-parent.result c.loop-place.first_children.items c.loop-place.next_siblings.items c.index.result.now c.requires c.loop-place-test.true c.parent-parent.ensures c.loop-place.invariant.within c.loop-place.invariant.linked c.index.ensures;
}
