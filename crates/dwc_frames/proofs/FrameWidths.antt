-- No number of a frame section has more than 10 bytes as LEB128, so the section is no longer than its widest size.
use Rattle.std.proofs.Common.{◌≡◌, ◌+◌, ℕ, zero, suc, ◌/◌, ◌-◌, ◌^◌, ◌<◌, ◌≤◌, ◌⊎◌, inl, inr, refl, arith, ℤ, pos, negsuc, nat_abs, neg_ℤ, int_div, nat_lt, if◌then◌else◌, Bool, true, false, List, [], ◌∷◌, ◌++◌, length, map, Some, FitsSigned}
use Rattle.std.specs.Prelude.{◌==◌}
use Rattle.std.specs.List.{All, flat_map}
use Rattle.std.specs.Int.{w32}
use Rattle.std.proofs.Math.Nat.{div-le_self}
use Rattle.std.proofs.lemmas.Int.{ints}
use Rattle.std.proofs.lemmas.List.Elements.{All-head, All-tail}
use Rattle.dwc_base.specs.declared.constants.TheConstants.{DW_CFA_advance_loc, DW_CFA_advance_loc1, DW_CFA_advance_loc2, DW_CFA_advance_loc4, DW_CFA_offset, DW_CFA_offset_extended}
use Rattle.dwc_base.specs.declared.records.Endian.{Endian}
use Rattle.dwc_native.specs.CallFrames.{FrameInstruction, def_cfa, def_cfa_register, def_cfa_offset, restore, undefined, same_value, saved_at, remember_state, restore_state, CommonEntry}
use Rattle.dwc_output.specs.FrameSections.{FrameNumber, fixed, uleb, one_byte, with_register, saved_numbers, instruction_numbers, advance_numbers, advancing_numbers, common_numbers, frame_section}
use Rattle.dwc_output.specs.FramesCarried.{widest_frames}
use Rattle.dwc_base.specs.NumberBytes.{sleb_bytes}
use Rattle.dwc_output.proofs.FrameSizes.{AreNarrow, HaveNarrow, frame_section-fits}
use Rattle.dwc_isa.specs.CallFrames.{instruction_view}
use Rattle.dwc_isa.specs.declared.frame_op.FrameOp.{FrameOp}
use Rattle.dwc_isa.specs.declared.unwind_info.CfaUnwindInfo.{CfaUnwindInfo}
use Rattle.dwc_frames.specs.Frames.{FitsCommon, FitsInstruction, advancing_view, function_view}
use Rattle.dwc_section.proofs.LebSizes.{uleb-10, sleb-10}

narrow-both : (ns ms : List FrameNumber) → AreNarrow ns → AreNarrow ms → AreNarrow (ns ++ ms)
narrow-both [] ms a b = b
narrow-both (n ∷ ns) ms a b = (a.0, narrow-both ns ms a.1 b)

-- ---- quotients

negated : (n : ℕ) → nat_abs (neg_ℤ (pos n)) ≡ n
negated zero = refl
negated (suc n) = refl

quotient-small : (z f : ℤ) → nat_abs (int_div z f) ≤ nat_abs z
quotient-small (pos a) (pos b) = div-le_self a b
quotient-small (pos a) (negsuc b) = omega (arith, negated (a / suc b), div-le_self a (suc b))
quotient-small (negsuc a) (pos b) = omega (arith, negated (suc a / b), div-le_self (suc a) b)
quotient-small (negsuc a) (negsuc b) = div-le_self (suc a) (suc b)

of-32-bits : (z : ℤ) → FitsSigned w32 z → nat_abs z ≤ 2 ^ 31
of-32-bits z fits = grind (arith, ints)

factored-narrow : (z f : ℤ) → FitsSigned w32 z → length (sleb_bytes (int_div z f)) ≤ 10
factored-narrow z f fits = sleb-10 (int_div z f) (omega (arith, quotient-small z f, of-32-bits z fits))

-- ---- instructions

register-narrow : (opcode extended register : ℕ) → register < 2 ^ 16 → AreNarrow (with_register opcode extended register)
register-narrow opcode extended register small = go (nat_lt register 64)
  where
    go : (b : Bool) → AreNarrow (if b then one_byte (opcode + register) ∷ [] else one_byte extended ∷ uleb register ∷ [])
    go true = (tt, tt)
    go false = (tt, (uleb-10 register (omega (arith, small)), tt))

saved-narrow : (register : ℕ) (z : ℤ) → register < 2 ^ 16 → nat_abs z ≤ 2 ^ 31 → AreNarrow (saved_numbers register z)
saved-narrow register (pos n) small fits = narrow-both (with_register DW_CFA_offset DW_CFA_offset_extended register) (uleb n ∷ []) (register-narrow DW_CFA_offset DW_CFA_offset_extended register small) (uleb-10 n (omega (arith, fits)), tt)
saved-narrow register (negsuc n) small fits = (tt, (uleb-10 register (omega (arith, small)), (sleb-10 (negsuc n) (omega (arith, fits)), tt)))

instruction-narrow : (factor : ℤ) (i : FrameInstruction) → FitsInstruction i → AreNarrow (instruction_numbers factor i)
instruction-narrow factor (def_cfa register (pos n)) fits = (tt, (uleb-10 register (let small = fits.0 in omega (arith, small)), (uleb-10 n (omega (arith, of-32-bits (pos n) fits.1)), tt)))
instruction-narrow factor (def_cfa register (negsuc n)) fits = (tt, (uleb-10 register (let small = fits.0 in omega (arith, small)), (factored-narrow (negsuc n) factor fits.1, tt)))
instruction-narrow factor (def_cfa_register register) fits = (tt, (uleb-10 register (omega (arith, fits)), tt))
instruction-narrow factor (def_cfa_offset (pos n)) fits = (tt, (uleb-10 n (omega (arith, of-32-bits (pos n) fits)), tt))
instruction-narrow factor (def_cfa_offset (negsuc n)) fits = (tt, (factored-narrow (negsuc n) factor fits, tt))
instruction-narrow factor (restore register) fits = register-narrow _ _ register fits
instruction-narrow factor (undefined register) fits = (tt, (uleb-10 register (omega (arith, fits)), tt))
instruction-narrow factor (same_value register) fits = (tt, (uleb-10 register (omega (arith, fits)), tt))
instruction-narrow factor (saved_at register z) fits = saved-narrow register (int_div z factor) fits.0 (omega (arith, quotient-small z factor, of-32-bits z fits.1))
instruction-narrow factor remember_state fits = (tt, tt)
instruction-narrow factor restore_state fits = (tt, tt)

instructions-narrow : (factor : ℤ) (is : List FrameInstruction) → All FitsInstruction is → AreNarrow (flat_map (instruction_numbers factor) is)
instructions-narrow factor [] fits = tt
instructions-narrow factor (i ∷ is) fits = narrow-both (instruction_numbers factor i) (flat_map (instruction_numbers factor) is) (instruction-narrow factor i (All-head FitsInstruction i is fits)) (instructions-narrow factor is (All-tail FitsInstruction i is fits))

advance-narrow : (n : ℕ) → AreNarrow (advance_numbers n)
advance-narrow n = go (n == 0) (nat_lt n 0x40) (nat_lt n 0x100) (nat_lt n 0x10000)
  where
    go : (a b c d : Bool) → AreNarrow (if a then [] else (if b then one_byte (DW_CFA_advance_loc + n) ∷ [] else (if c then one_byte DW_CFA_advance_loc1 ∷ fixed 1 n ∷ [] else (if d then one_byte DW_CFA_advance_loc2 ∷ fixed 2 n ∷ [] else one_byte DW_CFA_advance_loc4 ∷ fixed 4 n ∷ []))))
    go true b c d = tt
    go false true c d = (tt, tt)
    go false false true d = (tt, (tt, tt))
    go false false false true = (tt, (tt, tt))
    go false false false false = (tt, (tt, tt))

abbrev FitsOp : ℕ × FrameOp → Type 0
FitsOp op = FitsInstruction (instruction_view op.1)

advancing-narrow : (c : CommonEntry) (before : ℕ) (ops : List (ℕ × FrameOp)) → All FitsOp ops → AreNarrow (advancing_numbers c before (map advancing_view ops))
advancing-narrow c before [] fits = tt
advancing-narrow c before (op ∷ ops) fits =
    let advance = advance_numbers ((op.0 - before) / c.code_factor) in
    let own = instruction_numbers c.data_factor (instruction_view op.1) in
    let here = narrow-both advance own (advance-narrow ((op.0 - before) / c.code_factor)) (instruction-narrow c.data_factor (instruction_view op.1) (All-head FitsOp op ops fits)) in
    narrow-both (advance ++ own) (advancing_numbers c op.0 (map advancing_view ops)) here (advancing-narrow c op.0 ops (All-tail FitsOp op ops fits))

-- ---- the section

abbrev FitsFunction : ℕ × CfaUnwindInfo → Type 0
FitsFunction f = All FitsOp f.1.ops.items

functions-narrow : (c : CommonEntry) (fs : List (ℕ × CfaUnwindInfo)) → All FitsFunction fs → HaveNarrow c (map function_view fs)
functions-narrow c [] fits = tt
functions-narrow c (f ∷ fs) fits = ((tt, (tt, (tt, advancing-narrow c 0 f.1.ops.items (All-head FitsFunction f fs fits)))), functions-narrow c fs (All-tail FitsFunction f fs fits))

common-narrow : (c : CommonEntry) → FitsCommon c → AreNarrow (common_numbers c)
common-narrow c fits =
    let small = fits.code in
    let factor : nat_abs c.data_factor ≤ 2 ^ 64 = (let h = fits.signed in grind (arith, ints)) in
    (tt, (tt, (tt, (uleb-10 c.code_factor (omega (arith, small)), (sleb-10 c.data_factor factor, (tt, instructions-narrow c.data_factor c.instructions fits.instructions))))))

pub frames-within : (order : Endian) (size : ℕ) (c : CommonEntry) (fs : List (ℕ × CfaUnwindInfo)) → (size ≡ 4) ⊎ (size ≡ 8) → FitsCommon c → All FitsFunction fs → 0 < length fs → length (frame_section order size c (map function_view fs)).body ≤ widest_frames (Some c) (map function_view fs)
frames-within order size c [] sized common fits some = absurd (omega (arith, some))
frames-within order size c (f ∷ fs) sized common fits some =
    go sized
  where
    go : (size ≡ 4) ⊎ (size ≡ 8) → length (frame_section order size c (map function_view (f ∷ fs))).body ≤ widest_frames (Some c) (map function_view (f ∷ fs))
    go (inl e) = frame_section-fits order size c (function_view f) (map function_view fs) (omega (arith, e)) (omega (arith, e)) (common-narrow c common) (functions-narrow c (f ∷ fs) fits)
    go (inr e) = frame_section-fits order size c (function_view f) (map function_view fs) (omega (arith, e)) (omega (arith, e)) (common-narrow c common) (functions-narrow c (f ∷ fs) fits)
