use Rattle.std.proofs.Common.{rules}
use Rattle.std.specs.Prelude.{nat_lt}
use Rattle.std.proofs.lemmas.Bool.{le-ltb}
use Rattle.std.proofs.lemmas.List.Sorted.{IsPartitionPoint-from_clause, IsPartitionedBy-ltb}
use Rattle.dwc_kept.proofs.OffsetLaws.{holds-at, holds-none}
use Rattle.dwc_kept.proofs.kept.holds.Goals as goal

pub returns-then-place-offsets : goal.returns-then-place-offsets
returns-then-place-offsets c =
    let at = IsPartitionPoint-from_clause (λ x. nat_lt x c.args.offset) _ _ c.partition_point-place.ensures.partitioned (IsPartitionedBy-ltb (λ x. x) c.args.offsets.now c.args.offset c.requires) (λ a r q k. search rules) in
    holds-at c.args.offsets.now c.args.offset c.partition_point-place.result c.requires at c.from.result c.if-place-offsets.true c.from.ensures

pub returns-else-place-offsets : goal.returns-else-place-offsets
returns-else-place-offsets c =
    let at = IsPartitionPoint-from_clause (λ x. nat_lt x c.args.offset) _ _ c.partition_point-place.ensures.partitioned (IsPartitionedBy-ltb (λ x. x) c.args.offsets.now c.args.offset c.requires) (λ a r q k. search rules) in
    holds-none c.args.offsets.now c.args.offset c.partition_point-place.result c.requires at _ (le-ltb _ _ c.if-place-offsets.false) c.if-place-offsets.false
