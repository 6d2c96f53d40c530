use Rattle.std.proofs.Common.{◌≡◌, [], ◌∷◌, ap, sym, ◌∙◌, rules, arith, pos, true, false, int_div, nat_abs, int_lt, to_z, of_z, w64}
use Rattle.std.proofs.lemmas.Int.{ints}
use Rattle.dwc_base.specs.declared.constants.TheConstants.{DW_CFA_def_cfa, DW_CFA_def_cfa_sf}
use Rattle.dwc_output.specs.FrameSections.{one_byte, uleb, sleb}
use Rattle.dwc_frames.proofs.FrameNumbers.{above-by_sign, below-by_sign, put-then}
use Rattle.dwc_frames.proofs.frame_instructions.put_cfa.Goals as goal

pub returns-in_ok-put_of_register : goal.returns-in_ok-put_of_register
returns-in_ok-put_of_register c = λ order size.
    let below : int_lt c.args.offset (pos 0) ≡ true = search rules in
    let units : to_z w64 (of_z w64 c.units_of.result) ≡ int_div c.args.offset c.args.factor = search rules in
    let is = ap (λ z. one_byte DW_CFA_def_cfa_sf ∷ uleb c.args.register ∷ sleb z ∷ []) units ∙ sym (below-by_sign DW_CFA_def_cfa DW_CFA_def_cfa_sf (uleb c.args.register ∷ []) c.args.factor c.args.offset below) in
    put-then order size (one_byte DW_CFA_def_cfa_sf ∷ uleb c.args.register ∷ []) (sleb (to_z w64 (of_z w64 c.units_of.result)) ∷ []) _ _ _ _ _ is (c.in_ok-put_of_register.ensures order size) (c.put_signed.ensures order size)

pub returns-in_ok-put_of_register-2 : goal.returns-in_ok-put_of_register-2
returns-in_ok-put_of_register-2 c = λ order size.
    let above : int_lt c.args.offset (pos 0) ≡ false = search rules in
    let units : c.from.result ≡ nat_abs c.args.offset = grind (arith, ints) in
    let is = ap (λ n. one_byte DW_CFA_def_cfa ∷ uleb c.args.register ∷ uleb n ∷ []) units ∙ sym (above-by_sign DW_CFA_def_cfa DW_CFA_def_cfa_sf (uleb c.args.register ∷ []) c.args.factor c.args.offset above) in
    put-then order size (one_byte DW_CFA_def_cfa ∷ uleb c.args.register ∷ []) (uleb c.from.result ∷ []) _ _ _ _ _ is (c.in_ok-put_of_register-2.ensures order size) (c.put_unsigned.ensures order size)
