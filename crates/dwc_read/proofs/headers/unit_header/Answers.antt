use Rattle.std.proofs.Common.{◌<◌, arith, length, lit<}
use Rattle.dwc_base.proofs.Takes.{Leaves-at, number_at-leaves}
use Rattle.dwc_read.proofs.headers.unit_header.Goals as goal

pub fields_of_5-requires : goal.fields_of_5-requires
fields_of_5-requires c =
    let fewer : length c.u16.new.self.left < length c.in_ok-unit.unit.left = Leaves-at c.in_ok-version.ensures (number_at-leaves 2 _ (lit< tt)) in
    omega (arith, c.in_ok-unit.ensures.short)

pub fields_to_4-requires : goal.fields_to_4-requires
fields_to_4-requires c =
    let fewer : length c.u16.new.self.left < length c.in_ok-unit.unit.left = Leaves-at c.in_ok-version.ensures (number_at-leaves 2 _ (lit< tt)) in
    omega (arith, c.in_ok-unit.ensures.short)
