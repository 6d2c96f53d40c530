use Rattle.std.proofs.Common.{◌≡◌, ◌++◌, List, ℕ, [], ap, subst, ◌∙◌, rules, replicate, length}
use Rattle.dwc_base.specs.declared.constants.TheConstants.{DW_CFA_nop}
use Rattle.dwc_output.specs.FrameSections.{common_numbers, filling}
use Rattle.dwc_isa.specs.CallFrames.{cie_view}
use Rattle.dwc_frames.specs.Frames.{numbers_bytes}
use Rattle.dwc_section.specs.Writers.{Writes}
use Rattle.dwc_frames.proofs.FrameEntries.{sized-entry}
use Rattle.dwc_frames.proofs.frame_section.write_common.Goals as goal

pub returns : goal.returns
returns c =
    let o = c.args.frames.now.order in
    let size = c.args.size in
    let ns = common_numbers (cie_view c.args.cie.now) in
    let is : c.put_common.new.out.items ≡ numbers_bytes o size ns = c.in_ok-put_common.ensures size ∙ ap (λ b. b ++ numbers_bytes c.endian.result size ns) c.clear.ensures.items ∙ ap (λ e. numbers_bytes e size ns) c.endian.ensures in
    let counted : c.len-count.result ≡ length c.put_common.new.out.items = search rules in
    let filled : c.deref.result.now ≡ c.put_common.new.out.items ++ replicate (filling size (length c.put_common.new.out.items)) DW_CFA_nop =
    c.deref.ensures.value ∙ c.in_ok-put_filling.ensures ∙ ap (λ n. c.put_common.new.out.items ++ replicate (filling size n) DW_CFA_nop) counted in
    let P : List ℕ → Type 0 = λ bytes. Writes c.args.frames.now c.put_sized_part.new.self c.put_sized_part.result bytes [] in
    subst P (sized-entry o size ns c.put_common.new.out.items c.deref.result.now is filled) c.put_sized_part.ensures
