use Rattle.std.proofs.Common.{◌<◌, arith, length, lit<}
use Rattle.dwc_base.proofs.Takes.{Leaves-at, number_at-leaves}
use Rattle.dwc_read.proofs.headers.fields_of_5.Goals as goal

pub invariant_of-result-clause-short : goal.invariant_of-result-clause-short
invariant_of-result-clause-short c =
    let first : length c.u8.new.self.left < length c.args.cursor.left = Leaves-at c.in_ok-unit_type.ensures (number_at-leaves 1 _ (lit< tt)) in
    let second : length c.u8-2.new.self.left < length c.u8.new.self.left = Leaves-at c.in_ok-address_size.ensures (number_at-leaves 1 _ (lit< tt)) in
    let third : length c.u32.new.self.left < length c.u8-2.new.self.left = Leaves-at c.in_ok-abbreviations.ensures (number_at-leaves 4 _ (lit< tt)) in
    omega (arith, c.in_ok-dwo_id.ensures.no_longer)
