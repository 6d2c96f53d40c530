use Rattle.std.proofs.Common.{ap, arith, length}
use Rattle.dwc_types.proofs.RingTextLaws.{consts-and-spelt}
use Rattle.dwc_types.proofs.ring_key.consts_in.Goals as goal

pub overflow_sub-result : goal.overflow_sub-result
overflow_sub-result c =
    let all = consts-and-spelt c.args.types.now in
    let many = ap (λ ns. length ns) c.requires in
    omega (arith, all, many)

pub returns : goal.returns
returns c =
    let all = consts-and-spelt c.args.types.now in
    let many = ap (λ ns. length ns) c.requires in
    omega (arith, all, many)
