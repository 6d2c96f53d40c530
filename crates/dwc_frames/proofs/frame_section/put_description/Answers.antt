use Rattle.std.proofs.Common.{[], ◌∷◌, ◌++◌, ap, sym, ◌∙◌, map, append-nil}
use Rattle.dwc_output.specs.FrameSections.{address_sized, advancing_numbers}
use Rattle.dwc_base.specs.NumberBytes.{number_bytes}
use Rattle.dwc_isa.specs.CallFrames.{cie_view}
use Rattle.dwc_frames.specs.Frames.{advancing_view}
use Rattle.dwc_frames.proofs.FrameNumbers.{put-then}
use Rattle.dwc_frames.proofs.frame_section.put_description.Goals as goal

pub returns : goal.returns
returns c =
    let o = c.args.order in
    let size = c.args.size in
    let entry = cie_view c.args.cie.now in
    let first = c.in_ok-put_sized.ensures.ok ∙ ap (λ bytes. c.args.out.now.items ++ bytes) (sym (append-nil (number_bytes o size c.from.result))) in
    let is = ap (λ n. address_sized n ∷ advancing_numbers entry 0 (map advancing_view c.deref.result.now)) c.from.ensures ∙ ap (λ ops. address_sized c.args.info.now.len ∷ advancing_numbers entry 0 (map advancing_view ops)) c.deref.ensures.value in
    put-then o size (address_sized c.from.result ∷ []) (advancing_numbers entry 0 (map advancing_view c.deref.result.now)) _ _ _ _ _ is first (c.put_advancing.ensures size)
