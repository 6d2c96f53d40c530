use Rattle.std.proofs.Common.{[], ◌∷◌, ap}
use Rattle.dwc_output.specs.FrameSections.{one_byte, uleb}
use Rattle.dwc_frames.proofs.FrameNumbers.{put-then}
use Rattle.dwc_frames.proofs.frame_instructions.put_of_register.Goals as goal

pub returns : goal.returns
returns c = λ order size. put-then order size (one_byte c.args.opcode ∷ []) (uleb c.from.result ∷ []) _ _ _ _ _ (ap (λ n. one_byte c.args.opcode ∷ uleb n ∷ []) c.from.ensures) (c.in_ok-put_byte.ensures order size) (c.put_unsigned.ensures order size)
