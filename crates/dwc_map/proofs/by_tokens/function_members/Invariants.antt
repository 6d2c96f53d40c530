use Rattle.std.proofs.Common.{length, option_map}
use Rattle.serde_json.specs.View.{members_view}
use Rattle.dwc_isa.specs.CallFrames.{description_view}
use Rattle.dwc_map.proofs.TokenFunctions.{FunctionAlong}
use Rattle.dwc_map.proofs.by_tokens.function_members.Given as goal

-- the members so far, and those to come, are those of the object
abbrev pub invariant-members : goal.invariant-members
invariant-members l = FunctionAlong l.depth l.fn.reader l.reader (members_view l.fields.entries) l.entries l.labels (option_map description_view l.frame)

abbrev pub decreases-members : goal.decreases-members
decreases-members l = length l.reader
