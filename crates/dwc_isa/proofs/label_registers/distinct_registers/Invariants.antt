use Rattle.std.proofs.Common.{◌++◌, drop, map}
use Rattle.dwc_isa.specs.LabelRegisters.{HaveSame, IsSetOf, register_numbers, registers_of}
use Rattle.dwc_isa.specs.ValueLabels.{range_view}
use Rattle.dwc_isa.proofs.label_registers.distinct_registers.Given as goal

-- the set has the registers so far; and these, with those of the ranges that are left, are those of all
abbrev pub invariant-loop-range : goal.invariant-loop-range
invariant-loop-range l = record {
  set : IsSetOf l.registers.items l.seen;
  same : HaveSame (register_numbers l.registers.items ++ registers_of (map range_view (drop l.range-index l.ranges))) (registers_of (map range_view l.ranges));
}
