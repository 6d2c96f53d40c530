use Rattle.std.proofs.Common.{ap, sym}
use Rattle.std.specs.Prelude.{option_and_then}
use Rattle.serde_json.specs.View.{items_view}
use Rattle.dwc_map.proofs.FrameKinds.{named_in-no_instruction}
use Rattle.dwc_map.proofs.frames.named_instruction.Goals as goal

pub returns-in_default : goal.returns-in_default
returns-in_default c =
    let no = c.in_default in
    sym (ap (option_and_then (λ kind. kind (items_view c.args.operands.now))) (named_in-no_instruction c.args.name.now no.not-cfa no.not-cfa_register no.not-cfa_offset no.not-restore no.not-undefined no.not-same_value no.not-offset no.not-remember no.not-restore_state))
