use Rattle.std.proofs.Common.{rules, ◌≡◌, ◌+◌, [], ◌∷◌, ◌++◌, subst, sym, refl}
use Rattle.std.specs.Prelude.{slice_index_or}
use Rattle.dwc_base.specs.declared.translation.ValType.TheVariants.{I32}
use Rattle.dwc_carry.specs.declared.local_types.LocalGroup.{LocalGroup}
use Rattle.dwc_carry.proofs.GroupLaws.{Ended, ended-more}
use Rattle.dwc_carry.proofs.local_types.ended_groups.Goals as goal

pub loop-group-preserved : goal.loop-group-preserved
loop-group-preserved c =
    let groups = c.args.groups.now in
    let i = c.loop-group.group-index in
    let group = slice_index_or groups i (0, I32) in
    let last : LocalGroup = record { end = c.in-Some.behind; value_type = group.1 } in
    let items : c.push.new.self.items ≡ c.loop-group.ended.items ++ last ∷ [] = search rules in
    let behind : c.in-Some.behind ≡ c.loop-group.end + group.0 = search rules in
    subst (Ended groups (i + 1) c.in-Some.behind) (sym items) (ended-more groups i c.loop-group.end c.loop-group.ended.items (0, I32) last c.loop-group.invariant c.loop-group-test.true behind refl)
