use Rattle.std.proofs.Common.{rules, arith}
use Rattle.std.specs.Prelude.{nat_lt}
use Rattle.std.proofs.lemmas.Bool.{ltb-true, ltb-false}
use Rattle.std.proofs.lemmas.List.Sorted.{IsPartitionPoint-from_clause, IsPartitionedBy-ltb}
use Rattle.dwc_addr.proofs.shown.keys_below.Goals as goal

pub returns : goal.returns
returns c =
    let at = IsPartitionPoint-from_clause (λ key. nat_lt key c.args.low) _ _ c.partition_point.ensures.partitioned (IsPartitionedBy-ltb (λ key. key) c.args.keys.now c.args.low c.requires) (λ a r q k. search rules) in
    record { inside = c.partition_point.ensures.bound; below = λ i d less. ltb-true _ _ (at.0 i d (omega arith) less); above = λ i d past less. ltb-false _ _ (at.1 i d past less) }
