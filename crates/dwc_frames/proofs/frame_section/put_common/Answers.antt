use Rattle.std.proofs.Common.{[], ◌∷◌, ◌++◌, ap, map, flat_map}
use Rattle.dwc_output.specs.FrameSections.{fixed, one_byte, sleb, uleb, instruction_numbers}
use Rattle.dwc_isa.specs.CallFrames.{instruction_view}
use Rattle.dwc_frames.proofs.FrameNumbers.{put-joined, put-then}
use Rattle.dwc_frames.proofs.frame_section.put_common.Goals as goal

pub returns : goal.returns
returns c = λ size.
    let o = c.args.order in
    let cie = c.args.cie.now in
    let mark = fixed 4 0xFFFFFFFF ∷ one_byte 1 ∷ one_byte 0 ∷ [] in
    let factors = uleb cie.code_factor ∷ sleb cie.data_factor ∷ one_byte cie.return_register ∷ [] in
    let front = put-joined o size mark factors _ _ _ (c.in_ok-put_mark.ensures size) (c.in_ok-put_factors.ensures o size) in
    let is = ap (λ ops. (mark ++ factors) ++ flat_map (instruction_numbers cie.data_factor) (map instruction_view ops)) c.deref.ensures.value in
    put-then o size (mark ++ factors) (flat_map (instruction_numbers cie.data_factor) (map instruction_view c.deref.result.now)) _ _ _ _ _ is front (c.put_instructions.ensures o size)
