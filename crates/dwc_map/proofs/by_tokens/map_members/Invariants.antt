use Rattle.std.proofs.Common.{codes, map, length, option_map}
use Rattle.std.specs.Prelude.{IfSome}
use Rattle.serde_json.specs.View.{members_view}
use Rattle.dwc_map.proofs.TokenMembers.{MembersAlong}
use Rattle.dwc_map.specs.MapFile.{modules_of}
use Rattle.dwc_map.specs.MapViews.{module_view, ModulesAreConsistent}
use Rattle.dwc_map.proofs.by_tokens.map_members.Given as goal

-- the members so far, and those to come, are those of the object
abbrev pub invariant-members : goal.invariant-members
invariant-members l = record {
  along : MembersAlong (codes "modules") modules_of l.depth l.fn.reader l.reader (members_view l.fields.entries) (option_map (λ xs. map module_view xs.items) l.modules);
  records : IfSome l.modules (λ xs. ModulesAreConsistent xs.items);
}

abbrev pub decreases-members : goal.decreases-members
decreases-members l = length l.reader
