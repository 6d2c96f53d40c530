use Rattle.std.proofs.Common.{◌∙◌, sym, subst, rules}
use Rattle.std.specs.Prelude.{nat_lt}
use Rattle.std.specs.List.Sorted.{IsNonDecreasingBy}
use Rattle.std.proofs.lemmas.List.Sorted.{IsPartitionPoint-from_clause, IsPartitionedBy-ltb}
use Rattle.dwc_kept.proofs.OffsetLaws.{front-order, between-is}
use Rattle.dwc_kept.proofs.kept.between.Goals as goal

pub returns : goal.returns
returns c =
    let xs = c.args.offsets.now in
    let ys = c.split_at.result.0.now in
    let last = c.partition_point-last.result in
    let order = subst (IsNonDecreasingBy (λ x. x)) (sym c.split_at.ensures.front) (front-order xs last c.requires) in
    let high = IsPartitionPoint-from_clause (λ x. nat_lt x c.args.end) _ _ c.partition_point-last.ensures.partitioned (IsPartitionedBy-ltb (λ x. x) xs c.args.end c.requires) (λ a r q k. search rules) in
    let low = IsPartitionPoint-from_clause (λ x. nat_lt x c.args.start) _ _ c.partition_point-first.ensures.partitioned (IsPartitionedBy-ltb (λ x. x) ys c.args.start order) (λ a r q k. search rules) in
    c.split_at-2.ensures.back ∙ between-is xs ys c.args.start c.args.end last c.partition_point-first.result high c.split_at.ensures.front low
