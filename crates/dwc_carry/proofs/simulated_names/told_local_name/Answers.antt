use Rattle.std.proofs.Common.{rules, ap, sym, ◌∙◌, Some, [], ◌∷◌}
use Rattle.std.specs.Prelude.{option_and_then}
use Rattle.std.proofs.lemmas.Option.{slice_get-get_or, slice_get_past}
use Rattle.std.proofs.lemmas.List.Sorted.{IsPartitionPoint-from_clause}
use Rattle.dwc_base.specs.TranslationNames.{local_name_view}
use Rattle.dwc_carry.specs.SimulatedNames.{is_before, name_among}
use Rattle.dwc_carry.proofs.NameSearch.{NamedLocal, locals-split, local-found}
use Rattle.dwc_carry.proofs.simulated_names.told_local_name.Goals as goal

pub returns-in-None : goal.returns-in-None
returns-in-None c =
    let names = c.args.names.now in
    let index = c.args.function in
    let n = c.args.local in
    let at = IsPartitionPoint-from_clause (λ (e : NamedLocal). is_before index n (e.0, e.1)) names _ c.partition_point-place.ensures.partitioned (locals-split names c.requires index n) (λ a r q k. search rules) in
    let none = slice_get_past names _ (c.in-None.ensures.lookup).3 in
    ap (option_and_then (λ (e : NamedLocal). name_among (local_name_view e ∷ []) index n)) (sym none) ∙ local-found names c.requires index n _ c.partition_point-place.ensures.bound at

pub returns-in-Some : goal.returns-in-Some
returns-in-Some c =
    let names = c.args.names.now in
    let index = c.args.function in
    let n = c.args.local in
    let at = IsPartitionPoint-from_clause (λ (e : NamedLocal). is_before index n (e.0, e.1)) names _ c.partition_point-place.ensures.partitioned (locals-split names c.requires index n) (λ a r q k. search rules) in
    let name = c.in-Some.name.now in
    let some = slice_get-get_or names _ name (c.in-Some.ensures.lookup).3.0 ∙ ap Some (sym (c.in-Some.ensures.lookup).1) in
    c.local_name_if.ensures ∙ (ap (option_and_then (λ (e : NamedLocal). name_among (local_name_view e ∷ []) index n)) (sym some) ∙ local-found names c.requires index n _ c.partition_point-place.ensures.bound at)
