use Rattle.std.proofs.Common.{rules, ap, sym, ◌∙◌, Some}
use Rattle.std.specs.Prelude.{option_and_then}
use Rattle.std.proofs.lemmas.Option.{slice_get-get_or, slice_get_past}
use Rattle.std.proofs.lemmas.List.Sorted.{IsPartitionPoint-from_clause, IsPartitionedBy-ltb}
use Rattle.dwc_source.specs.declared.places.EmittedEntry.{EmittedEntry}
use Rattle.dwc_source.specs.OutputPlaces.{place_at}
use Rattle.dwc_source.proofs.PlaceLaws.{is_before, offsets-rise, place-found}
use Rattle.dwc_source.proofs.places.found.Goals as goal

pub returns-in-None : goal.returns-in-None
returns-in-None c =
    let es = c.args.entries.now in
    let rises = offsets-rise es c.requires in
    let at = IsPartitionPoint-from_clause (is_before c.args.offset) es _ c.partition_point-place.ensures.partitioned (IsPartitionedBy-ltb (λ (e : EmittedEntry). e.offset) es c.args.offset rises) (λ a r q k. search rules) in
    let none = slice_get_past es _ (c.in-None.ensures.lookup).3 in
    ap (option_and_then (place_at c.args.offset)) (sym none) ∙ place-found c.args.offset es _ c.partition_point-place.ensures.bound rises at

pub returns-in-Some : goal.returns-in-Some
returns-in-Some c =
    let es = c.args.entries.now in
    let rises = offsets-rise es c.requires in
    let at = IsPartitionPoint-from_clause (is_before c.args.offset) es _ c.partition_point-place.ensures.partitioned (IsPartitionedBy-ltb (λ (e : EmittedEntry). e.offset) es c.args.offset rises) (λ a r q k. search rules) in
    let entry = c.in-Some.entry.now in
    let some = slice_get-get_or es _ entry (c.in-Some.ensures.lookup).3.0 ∙ ap Some (sym (c.in-Some.ensures.lookup).1) in
    c.place_if.ensures ∙ (ap (option_and_then (place_at c.args.offset)) (sym some) ∙ place-found c.args.offset es _ c.partition_point-place.ensures.bound rises at)
