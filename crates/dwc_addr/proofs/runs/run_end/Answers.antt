use Rattle.std.proofs.Common.{◌<◌, arith, length}
use Rattle.dwc_addr.proofs.RunLaws.{end-inside, end-is}
use Rattle.dwc_addr.proofs.runs.run_end.Goals as goal

pub overflow_sub-behind : goal.overflow_sub-behind
overflow_sub-behind c =
    let m = c.args.function.now in
    let less : c.args.number < length m.later_runs.items = omega (arith, m.later_runs.ok, c.requires, c.len.ensures, c.if-number-len.false) in
    omega (arith, (end-inside m c.args.number c.index-behind.result.now less c.index-behind.ensures).0)

pub at-last-requires : goal.at-last-requires
at-last-requires c =
    let m = c.args.function.now in
    let less : c.args.number < length m.later_runs.items = omega (arith, m.later_runs.ok, c.requires, c.len.ensures, c.if-number-len.false) in
    omega (arith, (end-inside m c.args.number c.index-behind.result.now less c.index-behind.ensures).1)

pub at-native-requires : goal.at-native-requires
at-native-requires c =
    let m = c.args.function.now in
    let less : c.args.number < length m.later_runs.items = omega (arith, m.later_runs.ok, c.requires, c.len.ensures, c.if-number-len.false) in
    omega (arith, (end-inside m c.args.number c.index-behind.result.now less c.index-behind.ensures).1)

pub returns-clause-end : goal.returns-clause-end
returns-clause-end c =
    let m = c.args.function.now in
    let less : c.args.number < length m.later_runs.items = omega (arith, m.later_runs.ok, c.requires, c.len.ensures, c.if-number-len.false) in
    rw c.from.ensures (end-is m c.args.number c.index-behind.result.now c.at-last.result c.at-native.result less c.index-behind.ensures (c.at-last.ensures c.at-last.result) (c.at-native.ensures c.at-native.result))
