use Rattle.std.proofs.Common.{◌≡◌, add-one, ap, subst, ◌∙◌, ℕ, length}
use Rattle.std.proofs.lemmas.Result.{err_from_is_err_and}
use Rattle.dwc_native.specs.CallFrames.{FrameDescription}
use Rattle.dwc_output.specs.FrameSections.{description_bytes}
use Rattle.dwc_isa.specs.CallFrames.{cie_view}
use Rattle.dwc_frames.specs.Frames.{description_at, function_view}
use Rattle.dwc_section.specs.Writers.{Refuses, Writing, appended}
use Rattle.dwc_section.proofs.WritesLaws.{loop-done, loop-more, loop-refused}
use Rattle.dwc_frames.proofs.frame_section.write_functions.Goals as goal

pub write_function-requires-clause-name : goal.write_function-requires-clause-name
write_function-requires-clause-name c = ap (λ (w : Writing). w.name) c.loop-i.invariant ∙ c.requires.name

pub loop-i-preserved : goal.loop-i-preserved
loop-i-preserved c =
    let entry = cie_view c.args.cie.now in
    let w = c.loop-i.frames in
    let P : ℕ × FrameDescription → Type 0 = λ d. c.write_function.new.frames ≡ appended (description_bytes w.order c.args.size entry d) (description_at c.args.size (length w.body) d) w in
    rw add-one
    (loop-more (λ o. description_bytes o c.args.size entry) (λ o. description_at c.args.size) function_view c.args.functions.now c.loop-i.i c.index-functions-i.result c.args.frames.now w _ c.loop-i-test.true c.loop-i.invariant (subst P (ap function_view c.index-functions-i.is) c.in_ok-write_function.ensures))

pub returns-in_err-write_function : goal.returns-in_err-write_function
returns-in_err-write_function c =
    let p = err_from_is_err_and c.from_residual.result c.from_residual.ensures.1 in
    let entry = cie_view c.args.cie.now in
    let w = c.loop-i.frames in
    let P : ℕ × FrameDescription → Type 0 = λ d. Refuses c.in_err-write_function.field-0.0 w (length (description_bytes w.order c.args.size entry d)) in
    loop-refused (λ o. description_bytes o c.args.size entry) (λ o. description_at c.args.size) function_view c.args.functions.now c.loop-i.i c.index-functions-i.result c.args.frames.now w _ _ _ _ c.loop-i-test.true c.loop-i.invariant p (subst P (ap function_view c.index-functions-i.is) c.in_err-write_function.ensures)

pub returns : goal.returns
returns c = loop-done (description_bytes c.args.frames.now.order c.args.size (cie_view c.args.cie.now)) (description_at c.args.size) function_view c.args.functions.now c.loop-i.i c.loop-i.frames _ c.loop-i-test.false c.loop-i.invariant
