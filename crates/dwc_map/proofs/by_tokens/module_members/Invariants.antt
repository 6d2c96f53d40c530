use Rattle.std.proofs.Common.{codes, map, length, option_map}
use Rattle.std.specs.Prelude.{IfSome}
use Rattle.serde_json.specs.View.{members_view}
use Rattle.dwc_map.proofs.TokenMembers.{MembersAlong}
use Rattle.dwc_map.specs.MapFile.{functions_of}
use Rattle.dwc_map.specs.MapViews.{function_view, AreConsistent}
use Rattle.dwc_map.proofs.by_tokens.module_members.Given as goal

-- the members so far, and those to come, are those of the object
abbrev pub invariant-members : goal.invariant-members
invariant-members l = record {
  along : MembersAlong (codes "functions") functions_of l.depth l.fn.reader l.reader (members_view l.fields.entries) (option_map (λ xs. map function_view xs.items) l.functions);
  records : IfSome l.functions (λ xs. AreConsistent xs.items);
}

abbrev pub decreases-members : goal.decreases-members
decreases-members l = length l.reader
