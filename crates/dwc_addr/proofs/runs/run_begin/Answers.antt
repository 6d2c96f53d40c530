use Rattle.std.proofs.Common.{arith}
use Rattle.dwc_addr.proofs.RunLaws.{begin-inside, begin-is}
use Rattle.dwc_addr.proofs.runs.run_begin.Goals as goal

pub at-source-requires : goal.at-source-requires
at-source-requires c =
    let m = c.args.function.now in
    omega (arith, begin-inside m c.args.number c.index-first.result.now c.if-number-eq0.false c.requires c.index-first.ensures)

pub returns-clause-begin : goal.returns-clause-begin
returns-clause-begin c = rw c.from.ensures (begin-is c.args.function.now c.args.number c.index-first.result.now c.at-source.result c.if-number-eq0.false c.requires c.index-first.ensures (c.at-source.ensures c.at-source.result))
