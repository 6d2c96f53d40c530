use Rattle.std.proofs.Common.{rules, ap, sym, ◌∙◌, Some, [], ◌∷◌, nat_lt}
use Rattle.std.specs.Prelude.{option_and_then}
use Rattle.std.proofs.lemmas.Option.{slice_get-get_or, slice_get_past}
use Rattle.std.proofs.lemmas.List.Sorted.{IsPartitionPoint-from_clause}
use Rattle.dwc_base.specs.TranslationNames.{function_name_view}
use Rattle.dwc_base.specs.Reading.{coded}
use Rattle.dwc_carry.proofs.NameSearch.{Named, functions-split, function-found}
use Rattle.dwc_carry.proofs.simulated_names.told_function_name.Goals as goal

pub returns-in-None : goal.returns-in-None
returns-in-None c =
    let names = c.args.names.now in
    let index = c.args.index in
    let at = IsPartitionPoint-from_clause (λ (e : Named). nat_lt e.0 index) names _ c.partition_point-place.ensures.partitioned (functions-split names c.requires index) (λ a r q k. search rules) in
    let none = slice_get_past names _ (c.in-None.ensures.lookup).3 in
    ap (option_and_then (λ (e : Named). coded (function_name_view e ∷ []) index)) (sym none) ∙ function-found names c.requires index _ c.partition_point-place.ensures.bound at

pub returns-in-Some : goal.returns-in-Some
returns-in-Some c =
    let names = c.args.names.now in
    let index = c.args.index in
    let at = IsPartitionPoint-from_clause (λ (e : Named). nat_lt e.0 index) names _ c.partition_point-place.ensures.partitioned (functions-split names c.requires index) (λ a r q k. search rules) in
    let name = c.in-Some.name.now in
    let some = slice_get-get_or names _ name (c.in-Some.ensures.lookup).3.0 ∙ ap Some (sym (c.in-Some.ensures.lookup).1) in
    c.function_name_if.ensures ∙ (ap (option_and_then (λ (e : Named). coded (function_name_view e ∷ []) index)) (sym some) ∙ function-found names c.requires index _ c.partition_point-place.ensures.bound at)
