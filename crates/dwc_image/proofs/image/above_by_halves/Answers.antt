use Rattle.std.proofs.Common.{◌+◌, rules, arith}
use Rattle.std.specs.Prelude.{nat_lt}
use Rattle.std.proofs.lemmas.List.Sorted.{IsPartitionPoint-from_clause}
use Rattle.dwc_image.specs.RunRows.{RisesBetween}
use Rattle.dwc_image.proofs.RunLaws.{part-split, first-behind}
use Rattle.dwc_image.proofs.image.above_by_halves.Goals as goal

pub returns : goal.returns
returns c =
    let rows = c.args.rows.now in
    let limit = c.args.offset + 1 in
    let rises : RisesBetween (λ r. r.offset) rows c.args.from c.args.end = record { rises = λ i j d a b less. c.requires.order i j d b (omega (arith, c.requires.high)) } in
    let at = IsPartitionPoint-from_clause (λ r. nat_lt r.offset limit) _ _ c.partition_point.ensures.partitioned (part-split (λ r. r.offset) rows c.args.from c.args.end limit c.requires.high rises) (λ a r q k. search rules) in
    first-behind (λ r. r.offset) rows c.args.from c.args.end limit _ c.requires.low c.requires.high c.partition_point.ensures.bound at
