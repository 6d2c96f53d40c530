use Rattle.std.proofs.Common.{◌≡◌, ◌<◌, ◌≤◌, ℕ, List, Err, Some, ap, subst, ◌∙◌, length, map, rules}
use Rattle.std.proofs.lemmas.Result.{err_from_is_err_and}
use Rattle.dwc_output.specs.FrameSections.{frame_section}
use Rattle.dwc_output.specs.FramesCarried.{widest_frames}
use Rattle.dwc_isa.specs.CallFrames.{cie_view}
use Rattle.dwc_isa.specs.declared.unwind_info.CfaUnwindInfo.{CfaUnwindInfo}
use Rattle.dwc_frames.specs.Frames.{function_view}
use Rattle.dwc_frames.proofs.FrameOutputs.{widely-refused}
use Rattle.dwc_frames.proofs.FrameWidths.{frames-within}
use Rattle.dwc_frames.proofs.frames.write_frames.Goals as goal

pub returns-in_err-section-clause-large : goal.returns-in_err-section-clause-large
returns-in_err-section-clause-large c =
    let p = err_from_is_err_and c.from_residual-in_err-section.result c.from_residual-in_err-section.ensures.1 in
    let is : c.from_residual-in_err-section.result ≡ Err c.in_err-section.field-0.0 = p.1 ∙ ap Err p.2 in
    let entry = cie_view c.args.table.now.cie in
    let fs = c.as_slice-functions.result.now in
    let some : 0 < length fs = search rules in
    let within = frames-within c.args.order c.args.address_size entry fs c.requires.size c.know_common.ensures c.know_functions.ensures some in
    let P : List (ℕ × CfaUnwindInfo) → Type 0 = λ x. length (frame_section c.args.order c.args.address_size entry (map function_view fs)).body ≤ widest_frames (Some entry) (map function_view x) in
    rw (is) (widely-refused _ _ _ (subst P c.as_slice-functions.ensures.value within) c.in_err-section.ensures.large)
