use Rattle.std.proofs.Common.{◌≡◌, ◌+◌, ◌++◌, ◌∷◌, List, ℕ, ap, subst, ◌∙◌, rules, length}
use Rattle.dwc_output.specs.FrameSections.{address_sized, advancing_numbers}
use Rattle.dwc_isa.specs.CallFrames.{cie_view}
use Rattle.dwc_frames.specs.Frames.{description_at, function_view, numbers_bytes}
use Rattle.dwc_section.specs.Writers.{Writes}
use Rattle.dwc_frames.proofs.FrameEntries.{function-entry}
use Rattle.dwc_frames.proofs.frame_section.write_function.Goals as goal

pub returns : goal.returns
returns c =
    let o = c.args.frames.now.order in
    let size = c.args.size in
    let entry = cie_view c.args.cie.now in
    let d = function_view c.args.function.now in
    let part = c.put_description.new.out.items in
    let ns = address_sized (d.1).length ∷ advancing_numbers entry 0 (d.1).instructions in
    let is : part ≡ numbers_bytes o size ns = c.in_ok-put_description.ensures ∙ ap (λ b. b ++ numbers_bytes c.endian.result size ns) c.clear.ensures.items ∙ ap (λ e. numbers_bytes e size ns) c.endian.ensures in
    let count = 4 + c.from.result + c.len.result in
    let counted : count ≡ 4 + size + length part = search rules in
    let P : List ℕ → Type 0 = λ bytes. Writes c.args.frames.now c.write_entry.new.frames c.write_entry.result bytes (description_at size (length c.args.frames.now.body) d) in
    subst P (function-entry o size count entry d part c.deref.result.now is counted (c.deref.ensures.value ∙ c.in_ok-put_filling.ensures)) c.write_entry.ensures
