use Rattle.std.proofs.Common.{take, arith, length-append}
use Rattle.dwc_cli.proofs.Loads.{IsFrontOf-read, IsLongFile-front}
use Rattle.dwc_cli.proofs.loading.load.Goals as goal

pub returns-then-len-count-gt-MOST-clause-long_file :
    goal.returns-then-len-count-gt-MOST-clause-long_file
returns-then-len-count-gt-MOST-clause-long_file g c =
    let piece = take c.in_ok-count.count c.read.new.buf in
    let front = IsFrontOf-read (g.S.Source.files c.args.source.now) (g.S.Source.left c.loop.source) (g.S.Source.left c.read.new.self) c.args.path.now c.loop.bytes.items piece c.loop.invariant.front c.in_ok-count.ensures.bytes.0 in
    λ _. IsLongFile-front _ _ _ _ front (omega (arith, length-append c.loop.bytes.items piece, c.in_ok-count.ensures.bound))
