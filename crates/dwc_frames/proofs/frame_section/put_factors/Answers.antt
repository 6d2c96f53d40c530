use Rattle.std.proofs.Common.{◌≡◌, [], ◌∷◌, ap, ◌∙◌, rules, to_z, of_z, w64}
use Rattle.dwc_output.specs.FrameSections.{one_byte, sleb, uleb}
use Rattle.dwc_frames.proofs.FrameNumbers.{put-joined, put-then}
use Rattle.dwc_frames.proofs.frame_section.put_factors.Goals as goal

pub returns : goal.returns
returns c = λ order size.
    let cie = c.args.cie.now in
    let z = to_z w64 (of_z w64 c.from-2.result) in
    let code : c.from.result ≡ cie.code_factor = search rules in
    let factored : z ≡ cie.data_factor = search rules in
    let front = put-joined order size (uleb c.from.result ∷ []) (sleb z ∷ []) _ _ _ (c.in_ok-put_unsigned.ensures order size) (c.in_ok-put_signed.ensures order size) in
    let is = ap (λ n. uleb n ∷ sleb z ∷ one_byte cie.return_register ∷ []) code ∙ ap (λ f. uleb cie.code_factor ∷ sleb f ∷ one_byte cie.return_register ∷ []) factored in
    put-then order size (uleb c.from.result ∷ sleb z ∷ []) (one_byte cie.return_register ∷ []) _ _ _ _ _ is front (c.put_byte.ensures order size)
