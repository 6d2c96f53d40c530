use Rattle.std.proofs.Common.{◌≡◌, ◌+◌, ◌++◌, List, ap, subst, rules, drop, map, flat_map, slice_index_or, pos, to_z, of_z, w8}
use Rattle.std.proofs.lemmas.List.{drop_all, drop_more}
use Rattle.dwc_output.specs.FrameSections.{instruction_numbers}
use Rattle.dwc_isa.specs.CallFrames.{instruction_view}
use Rattle.dwc_isa.specs.declared.frame_op.FrameOp.{FrameOp}
use Rattle.dwc_isa.specs.declared.frame_op.FrameOp.TheVariants.{Cfa}
use Rattle.dwc_frames.specs.Frames.{numbers_bytes}
use Rattle.dwc_frames.proofs.FrameNumbers.{instruction-more, put-done}
use Rattle.dwc_frames.proofs.frame_instructions.put_instructions.Goals as goal

pub loop-i-preserved : goal.loop-i-preserved
loop-i-preserved c = λ order size.
    let d : FrameOp = Cfa 0 (pos 0) in
    let ops = c.args.ops.now in
    let here = slice_index_or ops c.loop-i.i d in
    let factored : to_z w8 (of_z w8 c.args.cie.now.data_factor) ≡ c.args.cie.now.data_factor = search rules in
    let whole = c.args.out.now.items ++ numbers_bytes order size (flat_map (instruction_numbers c.args.cie.now.data_factor) (map instruction_view ops)) in
    let P : List FrameOp → Type 0 = λ t. c.loop-i.out.items ++ numbers_bytes order size (flat_map (instruction_numbers c.args.cie.now.data_factor) (map instruction_view t)) ≡ whole in
    instruction-more order size c.args.cie.now.data_factor _ (instruction_view here) (map instruction_view (drop (c.loop-i.i + 1) ops)) c.loop-i.out.items _ whole
    factored (c.in_ok-put_instruction.ensures order size)
    (subst P (drop_more ops c.loop-i.i d c.loop-i-test.true) (c.loop-i.invariant order size))

pub returns : goal.returns
returns c = λ order size.
    put-done order size _ c.loop-i.out.items _ (ap (λ t. flat_map (instruction_numbers c.args.cie.now.data_factor) (map instruction_view t)) (drop_all c.loop-i.i c.args.ops.now c.loop-i-test.false)) (c.loop-i.invariant order size)
