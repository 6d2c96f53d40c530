use Rattle.std.proofs.Common.{◌≡◌, ◌-◌, ◌/◌, ◌+◌, ◌++◌, ℕ, List, ap, subst, rules, drop, map, slice_index_or, pos, to_z, of_z, w8}
use Rattle.std.proofs.lemmas.List.{drop_all, drop_more}
use Rattle.dwc_output.specs.FrameSections.{advancing_numbers}
use Rattle.dwc_isa.specs.CallFrames.{cie_view}
use Rattle.dwc_isa.specs.declared.frame_op.FrameOp.{FrameOp}
use Rattle.dwc_isa.specs.declared.frame_op.FrameOp.TheVariants.{Cfa}
use Rattle.dwc_frames.specs.Frames.{advancing_view, numbers_bytes}
use Rattle.dwc_frames.proofs.FrameNumbers.{advancing-more, put-done}
use Rattle.dwc_frames.proofs.frame_instructions.put_advancing.Goals as goal

pub loop-i-preserved : goal.loop-i-preserved
loop-i-preserved c = λ size.
    let d : ℕ × FrameOp = (0, Cfa 0 (pos 0)) in
    let ops = c.args.ops.now in
    let here = slice_index_or ops c.loop-i.i d in
    let entry = cie_view c.args.cie.now in
    let factored : to_z w8 (of_z w8 c.args.cie.now.data_factor) ≡ c.args.cie.now.data_factor = search rules in
    let counted : c.saturating_sub-advanced.result / c.from.result ≡ (here.0 - c.loop-i.before) / c.args.cie.now.code_factor = search rules in
    let whole = c.args.out.now.items ++ numbers_bytes c.args.order size (advancing_numbers entry 0 (map advancing_view ops)) in
    let P : List (ℕ × FrameOp) → Type 0 = λ t. c.loop-i.out.items ++ numbers_bytes c.args.order size (advancing_numbers entry c.loop-i.before (map advancing_view t)) ≡ whole in
    advancing-more c.args.order size entry c.loop-i.before _ _ (advancing_view here) (map advancing_view (drop (c.loop-i.i + 1) ops)) c.loop-i.out.items _ _ whole
    counted factored (c.in_ok-put_advance.ensures size) (c.in_ok-put_instruction.ensures c.args.order size)
    (subst P (drop_more ops c.loop-i.i d c.loop-i-test.true) (c.loop-i.invariant size))

pub returns : goal.returns
returns c = λ size.
    put-done c.args.order size _ c.loop-i.out.items _ (ap (λ t. advancing_numbers (cie_view c.args.cie.now) c.loop-i.before (map advancing_view t)) (drop_all c.loop-i.i c.args.ops.now c.loop-i-test.false)) (c.loop-i.invariant size)
