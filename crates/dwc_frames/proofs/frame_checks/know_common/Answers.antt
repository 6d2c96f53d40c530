use Rattle.std.proofs.Common.{List, rules, subst}
use Rattle.std.specs.List.{All}
use Rattle.std.proofs.lemmas.List.Elements.{All-map}
use Rattle.dwc_isa.specs.CallFrames.{instruction_view}
use Rattle.dwc_isa.specs.declared.frame_op.FrameOp.{FrameOp}
use Rattle.dwc_frames.specs.Frames.{FitsInstruction}
use Rattle.dwc_frames.proofs.frame_checks.know_common.Goals as goal

pub returns : goal.returns
returns c =
    let P : List FrameOp → Type 0 = λ ops. All (λ op. FitsInstruction (instruction_view op)) ops in
    record {
      code = search rules;
      signed = search rules;
      instructions = All-map FitsInstruction instruction_view c.args.cie.now.ops.items (subst P c.deref.ensures.value c.know_instructions.ensures);
    }
