-- Numbers of an entry that are put one behind another.
use Rattle.std.proofs.Common.{arith, ◌-◌, ◌/◌, ◌≡◌, ℕ, ap, refl, sym, ◌∙◌, ℤ, pos, negsuc, nat_abs, int_div, int_lt as lt_z, true, false, List, [], ◌∷◌, ◌++◌, append-nil, append_assoc, Result, Ok, Err, OnOk}
use Rattle.std.proofs.lemmas.Bool.{ltb-true}
use Rattle.std.specs.List.{flat_map}
use Rattle.dwc_base.specs.declared.records.Endian.{Endian}
use Rattle.dwc_output.specs.FrameSections.{FrameNumber, advance_numbers, advancing_numbers, instruction_numbers, sleb, uleb, by_sign, frame_number_bytes, one_byte, saved_numbers, with_register}
use Rattle.dwc_base.specs.declared.constants.TheConstants.{DW_CFA_offset, DW_CFA_offset_extended, DW_CFA_offset_extended_sf}
use Rattle.dwc_native.specs.CallFrames.{CommonEntry, FrameInstruction}
use Rattle.dwc_frames.specs.Frames.{numbers_bytes}

pub numbers-both : (order : Endian) (size : ℕ) (ns ms : List FrameNumber) → numbers_bytes order size (ns ++ ms) ≡ numbers_bytes order size ns ++ numbers_bytes order size ms
numbers-both order size [] ms = refl
numbers-both order size (n ∷ ns) ms = ap (λ bytes. frame_number_bytes order size n ++ bytes) (numbers-both order size ns ms) ∙ sym (append_assoc (frame_number_bytes order size n) (numbers_bytes order size ns) (numbers_bytes order size ms))

-- some numbers, and those of a call behind them
pub put-then : {E : Type 0} (order : Endian) (size : ℕ) (ns ms all : List FrameNumber) (a b now : List ℕ) (result : Result (Unit {0}) E) → ns ++ ms ≡ all → b ≡ a ++ numbers_bytes order size ns → OnOk result (now ≡ b ++ numbers_bytes order size ms) → OnOk result (now ≡ a ++ numbers_bytes order size all)
put-then order size ns ms all a b now (Ok done) is first second =
    second ∙ ap (λ bytes. bytes ++ numbers_bytes order size ms) first ∙ append_assoc a (numbers_bytes order size ns) (numbers_bytes order size ms) ∙ ap (λ bytes. a ++ bytes) (sym (numbers-both order size ns ms) ∙ ap (numbers_bytes order size) is)
put-then order size ns ms all a b now (Err e) is first second = tt

-- ---- by signs

pub below-by_sign : (opcode signed : ℕ) (register : List FrameNumber) (factor z : ℤ) → lt_z z (pos 0) ≡ true → by_sign opcode signed register factor z ≡ one_byte signed ∷ register ++ sleb (int_div z factor) ∷ []
below-by_sign opcode signed register factor (pos n) below = absurd (omega (arith, ltb-true n 0 below))
below-by_sign opcode signed register factor (negsuc n) below = refl

pub above-by_sign : (opcode signed : ℕ) (register : List FrameNumber) (factor z : ℤ) → lt_z z (pos 0) ≡ false → by_sign opcode signed register factor z ≡ one_byte opcode ∷ register ++ uleb (nat_abs z) ∷ []
above-by_sign opcode signed register factor (pos n) above = refl
above-by_sign opcode signed register factor (negsuc n) above = absurd (cc)

pub below-saved : (register : ℕ) (z : ℤ) → lt_z z (pos 0) ≡ true → saved_numbers register z ≡ one_byte DW_CFA_offset_extended_sf ∷ uleb register ∷ sleb z ∷ []
below-saved register (pos n) below = absurd (omega (arith, ltb-true n 0 below))
below-saved register (negsuc n) below = refl

pub above-saved : (register : ℕ) (z : ℤ) → lt_z z (pos 0) ≡ false → saved_numbers register z ≡ with_register DW_CFA_offset DW_CFA_offset_extended register ++ uleb (nat_abs z) ∷ []
above-saved register (pos n) above = refl
above-saved register (negsuc n) above = absurd (cc)

-- ---- loops

-- what is there with what is still to be put, when a part of it has been put
pub put-more : (order : Endian) (size : ℕ) (ns rest all : List FrameNumber) (out now whole : List ℕ) → now ≡ out ++ numbers_bytes order size ns → ns ++ rest ≡ all → out ++ numbers_bytes order size all ≡ whole → now ++ numbers_bytes order size rest ≡ whole
put-more order size ns rest all out now whole put is before =
    ap (λ bytes. bytes ++ numbers_bytes order size rest) put
    ∙ append_assoc out (numbers_bytes order size ns) (numbers_bytes order size rest)
    ∙ ap (λ bytes. out ++ bytes) (sym (numbers-both order size ns rest) ∙ ap (numbers_bytes order size) is)
    ∙ before

-- where nothing is left
pub put-done : (order : Endian) (size : ℕ) (rest : List FrameNumber) (out whole : List ℕ) → rest ≡ [] → out ++ numbers_bytes order size rest ≡ whole → out ≡ whole
put-done order size rest out whole none before = sym (append-nil out) ∙ sym (ap (λ ns. out ++ numbers_bytes order size ns) none) ∙ before

-- an instruction more, behind its advance
pub advancing-more : (order : Endian) (size : ℕ) (c : CommonEntry) (before units : ℕ) (factor : ℤ) (x : ℕ × FrameInstruction) (rest : List (ℕ × FrameInstruction)) (out a now whole : List ℕ) → units ≡ (x.0 - before) / c.code_factor → factor ≡ c.data_factor
    → a ≡ out ++ numbers_bytes order size (advance_numbers units) → now ≡ a ++ numbers_bytes order size (instruction_numbers factor x.1)
    → out ++ numbers_bytes order size (advancing_numbers c before (x ∷ rest)) ≡ whole → now ++ numbers_bytes order size (advancing_numbers c x.0 rest) ≡ whole
advancing-more order size c before units factor x rest out a now whole counted factored first second left =
    let behind = instruction_numbers factor x.1 ++ advancing_numbers c x.0 rest in
    let all : advance_numbers units ++ behind ≡ advancing_numbers c before (x ∷ rest) =
    sym (append_assoc (advance_numbers units) (instruction_numbers factor x.1) (advancing_numbers c x.0 rest))
    ∙ ap (λ n. (advance_numbers n ++ instruction_numbers factor x.1) ++ advancing_numbers c x.0 rest) counted
    ∙ ap (λ f. (advance_numbers ((x.0 - before) / c.code_factor) ++ instruction_numbers f x.1) ++ advancing_numbers c x.0 rest) factored in
    put-more order size (instruction_numbers factor x.1) (advancing_numbers c x.0 rest) behind a now whole second refl
    (put-more order size (advance_numbers units) behind (advancing_numbers c before (x ∷ rest)) out a whole first all left)

-- an instruction more
pub instruction-more : (order : Endian) (size : ℕ) (factor same : ℤ) (x : FrameInstruction) (rest : List FrameInstruction) (out now whole : List ℕ) → same ≡ factor
    → now ≡ out ++ numbers_bytes order size (instruction_numbers same x)
    → out ++ numbers_bytes order size (flat_map (instruction_numbers factor) (x ∷ rest)) ≡ whole → now ++ numbers_bytes order size (flat_map (instruction_numbers factor) rest) ≡ whole
instruction-more order size factor same x rest out now whole factored put left =
    put-more order size (instruction_numbers same x) (flat_map (instruction_numbers factor) rest) (flat_map (instruction_numbers factor) (x ∷ rest)) out now whole put
    (ap (λ f. instruction_numbers f x ++ flat_map (instruction_numbers factor) rest) factored) left

-- two parts that have been put
pub put-joined : (order : Endian) (size : ℕ) (ns ms : List FrameNumber) (a b d : List ℕ) → b ≡ a ++ numbers_bytes order size ns → d ≡ b ++ numbers_bytes order size ms → d ≡ a ++ numbers_bytes order size (ns ++ ms)
put-joined order size ns ms a b d first second =
    second ∙ ap (λ bytes. bytes ++ numbers_bytes order size ms) first ∙ append_assoc a (numbers_bytes order size ns) (numbers_bytes order size ms) ∙ ap (λ bytes. a ++ bytes) (sym (numbers-both order size ns ms))
