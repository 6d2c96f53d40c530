use Rattle.std.proofs.Common.{rules, arith, subst, sym}
use Rattle.std.specs.Prelude.{nat_le}
use Rattle.std.specs.List.Sorted.{IsNonDecreasingBy}
use Rattle.std.proofs.lemmas.Bool.{leb-true, leb-false}
use Rattle.std.proofs.lemmas.List.Sorted.{IsPartitionPoint-from_clause, IsPartitionedBy-leb}
use Rattle.dwc_addr.specs.PositionPlaces.{IsCountUpTo}
use Rattle.dwc_addr.specs.Sources.{counted_from}
use Rattle.dwc_addr.proofs.SourceCounts.{no_entry, rise-seen, up_to-seen}
use Rattle.dwc_addr.proofs.sources.Sources.up_to.Goals as goal

pub returns : goal.returns
returns c =
    let i = c.self.inside in
    let f = counted_from i.code_offset in
    let rises = rise-seen f (λ e. e.wasm) no_entry i.entries.now (subst (IsNonDecreasingBy (λ e. e.wasm)) (sym c.self.view_is) c.requires) in
    let at = IsPartitionPoint-from_clause (λ e. nat_le (f e).wasm c.args.addr) _ _ c.partition_point.ensures.partitioned (IsPartitionedBy-leb (λ e. (f e).wasm) i.entries.now c.args.addr rises) (λ a r q k. search rules) in
    subst (λ xs. IsCountUpTo (λ e. e.wasm) xs c.args.addr c.partition_point.result) c.self.view_is
    (up_to-seen f (λ e. e.wasm) no_entry i.entries.now c.args.addr c.partition_point.result
    (record { inside = c.partition_point.ensures.bound; below = λ k d less. leb-true _ _ (at.0 k d (omega arith) less); above = λ k d past less. leb-false _ _ (at.1 k d past less) }))
