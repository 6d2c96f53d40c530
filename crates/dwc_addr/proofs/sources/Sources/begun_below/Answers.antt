use Rattle.std.proofs.Common.{rules, arith, subst, sym}
use Rattle.std.specs.Prelude.{nat_lt}
use Rattle.std.specs.List.Sorted.{IsNonDecreasingBy}
use Rattle.std.proofs.lemmas.Bool.{ltb-true, ltb-false}
use Rattle.std.proofs.lemmas.List.Sorted.{IsPartitionPoint-from_clause, IsPartitionedBy-ltb}
use Rattle.dwc_addr.specs.PositionPlaces.{IsCountBelow}
use Rattle.dwc_addr.specs.Sources.{counted_from}
use Rattle.dwc_addr.proofs.SourceCounts.{no_entry, rise-seen, below-seen}
use Rattle.dwc_addr.proofs.sources.Sources.begun_below.Goals as goal

pub returns : goal.returns
returns c =
    let i = c.self.inside in
    let f = counted_from i.code_offset in
    let rises = rise-seen f (λ e. e.generated) no_entry i.entries.now (subst (IsNonDecreasingBy (λ e. e.generated)) (sym c.self.view_is) c.requires) in
    let at = IsPartitionPoint-from_clause (λ e. nat_lt (f e).generated c.args.native) _ _ c.partition_point.ensures.partitioned (IsPartitionedBy-ltb (λ e. (f e).generated) i.entries.now c.args.native rises) (λ a r q k. search rules) in
    subst (λ xs. IsCountBelow (λ e. e.generated) xs c.args.native c.partition_point.result) c.self.view_is
    (below-seen f (λ e. e.generated) no_entry i.entries.now c.args.native c.partition_point.result
    (record { inside = c.partition_point.ensures.bound; below = λ k d less. ltb-true _ _ (at.0 k d (omega arith) less); above = λ k d past less. ltb-false _ _ (at.1 k d past less) }))
