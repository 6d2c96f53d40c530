use Rattle.std.proofs.Common.{rules, arith}
use Rattle.std.specs.Prelude.{nat_lt}
use Rattle.std.proofs.lemmas.Bool.{ltb-true, ltb-false}
use Rattle.std.proofs.lemmas.List.Sorted.{IsPartitionPoint-from_clause, IsPartitionedBy-ltb}
use Rattle.dwc_addr.proofs.NativeLaws.{tested-below}
use Rattle.dwc_addr.proofs.near.gaps_before.Goals as goal

pub returns-then-not-is_gap_before : goal.returns-then-not-is_gap_before
returns-then-not-is_gap_before c =
    tested-below (λ g. g.before) c.args.gaps.now c.gaps_near-count.result c.args.before c.requires (c.are_gaps_before.ensures c.if-are_gaps_before.true) (c.is_gap_before.ensures.above c.if-not-is_gap_before.true)

pub returns : goal.returns
returns c =
    let at = IsPartitionPoint-from_clause (λ g. nat_lt g.before c.args.before) _ _ c.partition_point.ensures.partitioned (IsPartitionedBy-ltb (λ g. g.before) c.args.gaps.now c.args.before c.requires) (λ a r q k. search rules) in
    record { inside = c.partition_point.ensures.bound; below = λ i d less. ltb-true _ _ (at.0 i d (omega arith) less); above = λ i d past less. ltb-false _ _ (at.1 i d past less) }
