use Rattle.std.proofs.Common.{◌≡◌, ap, subst, sym, ◌∙◌, map, Err}
use Rattle.std.proofs.lemmas.Result.{err_from_is_err_and}
use Rattle.dwc_isa.specs.CallFrames.{cie_view}
use Rattle.dwc_frames.specs.Frames.{function_view}
use Rattle.dwc_section.specs.RisingRelocations.{DoRelocationsRise}
use Rattle.dwc_frames.proofs.FrameOutputs.{common-refused, functions-refused, section-rises, section-whole}
use Rattle.dwc_frames.proofs.frame_section.write_section.Goals as goal

pub returns-in_err-write_common-clause-large : goal.returns-in_err-write_common-clause-large
returns-in_err-write_common-clause-large c =
    let p = err_from_is_err_and c.from_residual-in_err-write_common.result c.from_residual-in_err-write_common.ensures.1 in
    let is : c.from_residual-in_err-write_common.result ≡ Err c.in_err-write_common.field-0.0 = p.1 ∙ ap Err p.2 in
    rw (is) (common-refused c.args.order c.args.size (cie_view c.args.cie.now) (map function_view c.args.functions.now) c.in_ok-frames.frames _ c.in_ok-frames.ensures.ok c.in_err-write_common.ensures)

pub returns-in_err-write_functions-clause-large : goal.returns-in_err-write_functions-clause-large
returns-in_err-write_functions-clause-large c =
    let p = err_from_is_err_and c.from_residual-in_err-write_functions.result c.from_residual-in_err-write_functions.ensures.1 in
    let is : c.from_residual-in_err-write_functions.result ≡ Err c.in_err-write_functions.field-0.0 = p.1 ∙ ap Err p.2 in
    rw (is) (functions-refused c.args.order c.args.size (cie_view c.args.cie.now) (map function_view c.args.functions.now) c.in_ok-frames.frames c.write_common.new.frames _ c.in_ok-frames.ensures.ok c.in_ok-write_common.ensures c.in_err-write_functions.ensures)

pub returns-clause-section : goal.returns-clause-section
returns-clause-section c =
    section-whole c.args.order c.args.size (cie_view c.args.cie.now) (map function_view c.args.functions.now) c.in_ok-frames.frames c.write_common.new.frames c.write_functions.new.frames _ c.in_ok-frames.ensures.ok c.in_ok-write_common.ensures c.in_ok-write_functions.ensures c.take.ensures.section

pub returns-clause-rise : goal.returns-clause-rise
returns-clause-rise c =
    let ds = map function_view c.args.functions.now in
    let is = section-whole c.args.order c.args.size (cie_view c.args.cie.now) ds c.in_ok-frames.frames c.write_common.new.frames c.write_functions.new.frames _ c.in_ok-frames.ensures.ok c.in_ok-write_common.ensures c.in_ok-write_functions.ensures c.take.ensures.section in
    subst DoRelocationsRise (sym is) (section-rises c.args.order c.args.size (cie_view c.args.cie.now) ds)
