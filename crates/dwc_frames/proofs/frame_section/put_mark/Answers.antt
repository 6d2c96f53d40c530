use Rattle.std.proofs.Common.{[], ◌∷◌, refl}
use Rattle.dwc_output.specs.FrameSections.{fixed, one_byte}
use Rattle.dwc_frames.proofs.FrameNumbers.{put-joined, put-then}
use Rattle.dwc_frames.proofs.frame_section.put_mark.Goals as goal

pub returns : goal.returns
returns c = λ size.
    let o = c.args.order in
    let front = put-joined o size (fixed 4 0xFFFFFFFF ∷ []) (one_byte 1 ∷ []) _ _ _ (c.in_ok-put_fixed.ensures size) (c.in_ok-put_byte.ensures o size) in
    put-then o size (fixed 4 0xFFFFFFFF ∷ one_byte 1 ∷ []) (one_byte 0 ∷ []) _ _ _ _ _ refl front (c.put_byte-2.ensures o size)
