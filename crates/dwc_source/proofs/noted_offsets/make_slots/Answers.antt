use Rattle.std.proofs.Common.{◌≤◌, arith, length}
use Rattle.dwc_source.specs.NotedOffsets.{slot_count}
use Rattle.dwc_source.proofs.NotedLaws.{slots-made}
use Rattle.dwc_source.proofs.noted_offsets.make_slots.Goals as goal

pub returns-in_ok-resize-clause-same : goal.returns-in_ok-resize-clause-same
returns-in_ok-resize-clause-same c = λ n.
    let less : length c.args.slots.now.items ≤ slot_count = omega (arith, c.if-len-lt-SLOTS.true, c.len.ensures) in
    slots-made c.args.slots.now.items c.resize.new.self.items _ n less c.in_ok-resize.ensures.items
