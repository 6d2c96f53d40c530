use Rattle.std.proofs.Common.{◌≡◌, [], ◌∷◌, rules}
use Rattle.dwc_base.specs.declared.constants.TheConstants.{DW_CFA_advance_loc1, DW_CFA_advance_loc2, DW_CFA_advance_loc4}
use Rattle.dwc_output.specs.FrameSections.{advance_numbers, fixed, one_byte}
use Rattle.dwc_frames.proofs.FrameNumbers.{put-then}
use Rattle.dwc_frames.proofs.frame_instructions.put_advance.Goals as goal

pub returns-then-units-lt64 : goal.returns-then-units-lt64
returns-then-units-lt64 c = λ size. let e = c.put_byte.ensures c.args.order size in search rules

pub returns-in_ok-put_byte : goal.returns-in_ok-put_byte
returns-in_ok-put_byte c = λ size.
    let is : one_byte DW_CFA_advance_loc1 ∷ fixed 1 c.from.result ∷ [] ≡ advance_numbers c.args.units = search rules in
    put-then c.args.order size (one_byte DW_CFA_advance_loc1 ∷ []) (fixed 1 c.from.result ∷ []) _ _ _ _ _ is (c.in_ok-put_byte.ensures c.args.order size) (c.put_fixed.ensures size)

pub returns-in_ok-put_byte-2 : goal.returns-in_ok-put_byte-2
returns-in_ok-put_byte-2 c = λ size.
    let is : one_byte DW_CFA_advance_loc2 ∷ fixed 2 c.from-then-units-lt65536.result ∷ [] ≡ advance_numbers c.args.units = search rules in
    put-then c.args.order size (one_byte DW_CFA_advance_loc2 ∷ []) (fixed 2 c.from-then-units-lt65536.result ∷ []) _ _ _ _ _ is (c.in_ok-put_byte-2.ensures c.args.order size) (c.put_fixed-then-units-lt65536.ensures size)

pub returns-in_ok-put_byte-3 : goal.returns-in_ok-put_byte-3
returns-in_ok-put_byte-3 c = λ size.
    let is : one_byte DW_CFA_advance_loc4 ∷ fixed 4 c.from-else-units-lt65536.result ∷ [] ≡ advance_numbers c.args.units = search rules in
    put-then c.args.order size (one_byte DW_CFA_advance_loc4 ∷ []) (fixed 4 c.from-else-units-lt65536.result ∷ []) _ _ _ _ _ is (c.in_ok-put_byte-3.ensures c.args.order size) (c.put_fixed-else-units-lt65536.ensures size)
