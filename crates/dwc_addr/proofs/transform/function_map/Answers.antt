use Rattle.std.proofs.Common.{◌∙◌, ap, sym, subst, rules, map}
use Rattle.dwc_compiled.specs.AddressMaps.{address_map_view}
use Rattle.dwc_addr.specs.Rising.{RisesFrom}
use Rattle.dwc_addr.specs.Runs.{recorded_view}
use Rattle.std.proofs.lemmas.List.{length-map}
use Rattle.dwc_addr.proofs.EntryLaws.{entries-merged, gaps-rise, good-entries, sources-counted}
use Rattle.dwc_addr.proofs.PieceLaws.{places-inside}
use Rattle.dwc_addr.proofs.RisingLaws.{RisesFrom-non_decreasing, RisesFrom-seen}
use Rattle.dwc_addr.proofs.StretchLaws.{recorded-rise}
use Rattle.dwc_addr.proofs.transform.function_map.Goals as goal

pub run_bounds-requires-clause-places : goal.run_bounds-requires-clause-places
run_bounds-requires-clause-places c =
    let sources = c.new-addresses.result in
    rw (c.deref.ensures.value, c.in_ok-later_runs.ensures) (rw (length-map sources recorded_view) at (places-inside (map recorded_view sources)))

pub shown_parts-requires-clause-order : goal.shown_parts-requires-clause-order
shown_parts-requires-clause-order c =
    let es = c.args.metadata.now.address_map.instructions in
    let offset = c.args.code_section_offset in
    let sources = c.new-addresses.result in
    let kept = ap (map recorded_view) c.new-addresses.ensures ∙ sources-counted offset es c.sources.result.now c.sources.ensures in
    let order = recorded-rise 0 _ (good-entries offset (address_map_view (c.args.symbol, c.args.metadata.now)) c.requires) in
    RisesFrom-non_decreasing (λ e. e.generated) 0 sources (RisesFrom-seen (λ e. e.native) recorded_view 0 sources (subst (RisesFrom (λ e. e.native) 0) (sym kept) order))

pub invariant_of-result-clause-rises : goal.invariant_of-result-clause-rises
invariant_of-result-clause-rises c =
    let es = c.args.metadata.now.address_map.instructions in
    let offset = c.args.code_section_offset in
    let kept = ap (map recorded_view) c.new-addresses.ensures ∙ sources-counted offset es c.sources.result.now c.sources.ensures in
    rw (entries-merged offset es _ _ c.gaps-gaps.ensures kept)
    (RisesFrom-non_decreasing (λ e. e.0) 0 _ (good-entries offset (address_map_view (c.args.symbol, c.args.metadata.now)) c.requires))

pub invariant_of-result-clause-apart : goal.invariant_of-result-clause-apart
invariant_of-result-clause-apart c = rw c.gaps-gaps.ensures (RisesFrom-non_decreasing (λ g. g.before) 0 _ (gaps-rise 0 c.args.metadata.now.address_map.instructions))

pub invariant_of-result-clause-bounded : goal.invariant_of-result-clause-bounded
invariant_of-result-clause-bounded c = rw c.deref.ensures.value at c.in_ok-run_bounds.ensures

pub invariant_of-result-clause-blocks_bounded : goal.invariant_of-result-clause-blocks_bounded
invariant_of-result-clause-blocks_bounded c = rw c.deref-2.ensures.value at c.in_ok-blocks.ensures

pub invariant_of-result-clause-outer_bounded : goal.invariant_of-result-clause-outer_bounded
invariant_of-result-clause-outer_bounded c = rw c.deref-3.ensures.value at c.in_ok-outer_bounds.ensures

pub invariant_of-result-clause-counted : goal.invariant_of-result-clause-counted
invariant_of-result-clause-counted c = c.len.ensures.few

pub returns : goal.returns
returns c =
    let es = c.args.metadata.now.address_map.instructions in
    let offset = c.args.code_section_offset in
    let kept = ap (map recorded_view) c.new-addresses.ensures ∙ sources-counted offset es c.sources.result.now c.sources.ensures in
    rw (entries-merged offset es _ _ c.gaps-gaps.ensures kept) (search rules)
