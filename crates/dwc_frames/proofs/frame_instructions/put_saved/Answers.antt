use Rattle.std.proofs.Common.{◌≡◌, [], ◌∷◌, ◌++◌, ap, sym, ◌∙◌, rules, pos, true, false, nat_abs, int_lt, to_z, of_z, w64}
use Rattle.std.proofs.lemmas.Int.{to_z-of_z}
use Rattle.dwc_base.specs.declared.constants.TheConstants.{DW_CFA_offset, DW_CFA_offset_extended, DW_CFA_offset_extended_sf}
use Rattle.dwc_output.specs.FrameSections.{one_byte, uleb, sleb, with_register}
use Rattle.dwc_frames.proofs.FrameNumbers.{above-saved, below-saved, put-then}
use Rattle.dwc_frames.proofs.frame_instructions.put_saved.Goals as goal

pub returns-in_ok-put_of_register : goal.returns-in_ok-put_of_register
returns-in_ok-put_of_register c = λ order size.
    let below : int_lt c.args.units (pos 0) ≡ true = search rules in
    let units : to_z w64 (of_z w64 c.args.units) ≡ c.args.units = search rules in
    let is = ap (λ z. one_byte DW_CFA_offset_extended_sf ∷ uleb c.args.register ∷ sleb z ∷ []) units ∙ sym (below-saved c.args.register c.args.units below) in
    put-then order size (one_byte DW_CFA_offset_extended_sf ∷ uleb c.args.register ∷ []) (sleb (to_z w64 (of_z w64 c.args.units)) ∷ []) _ _ _ _ _ is (c.in_ok-put_of_register.ensures order size) (c.put_signed.ensures order size)

pub returns-in_ok-put_with_register : goal.returns-in_ok-put_with_register
returns-in_ok-put_with_register c = λ order size.
    let above : int_lt c.args.units (pos 0) ≡ false = search rules in
    let units = ap nat_abs (to_z-of_z w64 c.args.units c.ranges.units) in
    let front = with_register DW_CFA_offset DW_CFA_offset_extended c.args.register in
    let is = ap (λ n. front ++ uleb n ∷ []) units ∙ sym (above-saved c.args.register c.args.units above) in
    put-then order size front (uleb (nat_abs (to_z w64 (of_z w64 c.args.units))) ∷ []) _ _ _ _ _ is (c.in_ok-put_with_register.ensures order size) (c.put_unsigned.ensures order size)
