use Rattle.std.proofs.Common.{◌/◌, ◌^◌, ◌+◌, rules, arith}
use Rattle.std.specs.Prelude.{nat_le}
use Rattle.std.proofs.lemmas.Bool.{leb-true, leb-false}
use Rattle.std.proofs.lemmas.List.Sorted.{IsPartitionPoint-from_clause, IsPartitionedBy-leb}
use Rattle.dwc_addr.proofs.NativeLaws.{tested-below, below_up_to}
use Rattle.dwc_addr.proofs.by_start.begun_count.Goals as goal

pub returns-then-not-is_begun-clause-count : goal.returns-then-not-is_begun-clause-count
returns-then-not-is_begun-clause-count c = λ order.
    below_up_to (λ key. key / 2 ^ 32) c.args.keys.now _ c.args.addr
    (tested-below (λ key. key / 2 ^ 32) c.args.keys.now _ (c.args.addr + 1) order (c.are_begun.ensures.below c.if-are_begun.true) (c.is_begun-then-are_begun.ensures.above c.if-not-is_begun.true))

pub returns-then-not-is_begun-clause-inside : goal.returns-then-not-is_begun-clause-inside
returns-then-not-is_begun-clause-inside c = c.are_begun.ensures.inside c.if-are_begun.true

pub returns-clause-count : goal.returns-clause-count
returns-clause-count c = λ order.
    let at = IsPartitionPoint-from_clause (λ key. nat_le (key / 2 ^ 32) c.args.addr) _ _ c.partition_point.ensures.partitioned (IsPartitionedBy-leb (λ key. key / 2 ^ 32) c.args.keys.now c.args.addr order) (λ a r q k. search rules) in
    record { inside = c.partition_point.ensures.bound; below = λ i d less. leb-true _ _ (at.0 i d (omega arith) less); above = λ i d past less. leb-false _ _ (at.1 i d past less) }

pub returns-clause-inside : goal.returns-clause-inside
returns-clause-inside c = c.partition_point.ensures.bound
