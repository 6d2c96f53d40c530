use Rattle.dwc_isa.specs.LabelRegisters.{register_numbers, registers_of}
use Rattle.dwc_isa.specs.ValueLabels.{range_view}
use Rattle.std.proofs.Common.{map}
use Rattle.dwc_isa.proofs.FlatLaws.{no_range}
use Rattle.dwc_isa.proofs.LabelRegisterLaws.{range-more}
use Rattle.dwc_isa.proofs.label_registers.distinct_registers.Goals as goal

pub loop-range-preserved : goal.loop-range-preserved
loop-range-preserved c = record {
  set = c.in_ok-add_register_of.ensures.set;
  same = range-more c.args.ranges.now c.loop-range.range-index no_range (register_numbers c.loop-range.registers.items) _ (registers_of (map range_view c.args.ranges.now)) c.loop-range-test.true c.in_ok-add_register_of.ensures.registers c.loop-range.invariant.same;
}
