use Rattle.std.proofs.Common.{◌<◌, arith, length, lit<}
use Rattle.dwc_base.proofs.Takes.{Leaves-at, number_at-leaves}
use Rattle.dwc_read.proofs.headers.dwo_id.Goals as goal

pub returns-in_ok-id-clause-no_longer : goal.returns-in_ok-id-clause-no_longer
returns-in_ok-id-clause-no_longer c =
    let u = c.args.cursor.now in
    let fewer : length c.u64.new.self.left < length u.left = Leaves-at c.in_ok-id.ensures (number_at-leaves 8 u (lit< tt)) in
    omega arith
