use Rattle.std.proofs.Common.{ap, sym, ◌∙◌, ℕ, List, ◌++◌}
use Rattle.dwc_native.specs.CallFrames.{CommonEntry, FrameDescription}
use Rattle.dwc_carry.specs.CompiledFrames.{all_frames}
use Rattle.dwc_carry.proofs.FrameLaws.{compilation-frames}
use Rattle.dwc_carry.proofs.frames.frame_table.Goals as goal

pub returns-in_ok-add_modules-in-Some-clause-frames : goal.returns-in_ok-add_modules-in-Some-clause-frames
returns-in_ok-add_modules-in-Some-clause-frames g c =
    λ order size registers entry.
    ap (λ (v : CommonEntry × List (ℕ × FrameDescription)). v.1) c.in_ok-add_modules-in-Some.ensures.added
    ∙ ap (λ (v : CommonEntry × List (ℕ × FrameDescription)). v.1 ++ all_frames 0 c.args.compilation.now.functions) c.new-table.ensures
    ∙ sym (compilation-frames order size registers entry c.args.compilation.now c.in_ok-add_modules-in-Some.ensures.counted)
