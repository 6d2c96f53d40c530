use Rattle.std.proofs.Common.{rules, arith, ap, sym, ◌∙◌, Some}
use Rattle.std.specs.Prelude.{nat_le, option_map}
use Rattle.std.proofs.lemmas.Option.{slice_get-get_or, slice_get_past}
use Rattle.std.proofs.lemmas.List.Sorted.{IsPartitionPoint-from_clause, IsPartitionedBy-leb}
use Rattle.dwc_carry.specs.declared.local_types.LocalGroup.{LocalGroup}
use Rattle.dwc_carry.proofs.GroupLaws.{group-found}
use Rattle.dwc_carry.proofs.local_types.type_in_groups.Goals as goal

pub returns-in-Some : goal.returns-in-Some
returns-in-Some c =
    let groups = c.args.groups.now in
    let n = c.args.local in
    let at = IsPartitionPoint-from_clause (λ (g : LocalGroup). nat_le g.end n) groups _ c.partition_point-place.ensures.partitioned (IsPartitionedBy-leb (λ (g : LocalGroup). g.end) groups n c.requires) (λ a r q k. search rules) in
    let group = c.in-Some.group.now in
    let some = slice_get-get_or groups _ group (c.in-Some.ensures.lookup).3.0 ∙ ap Some (sym (c.in-Some.ensures.lookup).1) in
    ap (option_map (λ (g : LocalGroup). g.value_type)) (sym some) ∙ group-found n groups 0 n _ (omega arith) c.partition_point-place.ensures.bound (λ i d less. omega arith) c.requires at

pub returns-in-None : goal.returns-in-None
returns-in-None c =
    let groups = c.args.groups.now in
    let n = c.args.local in
    let at = IsPartitionPoint-from_clause (λ (g : LocalGroup). nat_le g.end n) groups _ c.partition_point-place.ensures.partitioned (IsPartitionedBy-leb (λ (g : LocalGroup). g.end) groups n c.requires) (λ a r q k. search rules) in
    let none = slice_get_past groups _ (c.in-None.ensures.lookup).3 in
    ap (option_map (λ (g : LocalGroup). g.value_type)) (sym none) ∙ group-found n groups 0 n _ (omega arith) c.partition_point-place.ensures.bound (λ i d less. omega arith) c.requires at
