-- What instructions show does not depend on offsets above 2 ^ 64 - 1, nor on the parts of a header that no instruction reads.
use Rattle.std.proofs.Common.{◌≡◌, ℕ, ◌+◌, ◌-◌, ◌*◌, ◌^◌, ◌<◌, ◌≤◌, min, refl, sym, ap, ◌∙◌, arith, List, [], ◌∷◌, map, Option, Some, None, Bool, true, false, leb, ltb}
use Rattle.std.specs.Prelude.{option_map}
use Rattle.std.proofs.lemmas.Bool.{leb-true, leb-false, le-ltb}
use Rattle.dwc_dwarf.specs.LineHeaders.{LineHeader, Instruction, special, copy, advance_pc, advance_line, set_file, set_column, negate_stmt, set_basic_block, const_add_pc, fixed_advance_pc, set_prologue_end, set_epilogue_begin, set_isa, end_sequence, set_address, define_file, set_discriminator, unknown}
use Rattle.dwc_dwarf.specs.LineRows.{Registers, by_special, special_advance, end, after, effect, effects, with_effect, Effect, appends, LineStep}
use Rattle.dwc_tabs.specs.Steps.{capped, end_view, shown_step, shown_steps}

-- a row is shown alike where its offset stays at 2 ^ 64 - 1
pub shown-capped : (r : Registers) → shown_step (appends (capped r)) ≡ shown_step (appends r)
shown-capped r = go (leb r.offset (2 ^ 64 - 1)) refl
  where
    go : (b : Bool) → leb r.offset (2 ^ 64 - 1) ≡ b → shown_step (appends (capped r)) ≡ shown_step (appends r)
    go true h =
        let below : r.offset ≤ 2 ^ 64 - 1 = leb-true _ _ h in
        let same : min r.offset (2 ^ 64 - 1) ≡ r.offset = omega arith in
        rw same refl
    go false h =
        let above : 2 ^ 64 - 1 < r.offset = leb-false _ _ h in
        let high : ltb r.offset (2 ^ 32) ≡ false = le-ltb _ _ (omega arith) in
        let still : ltb (min r.offset (2 ^ 64 - 1)) (2 ^ 32) ≡ false = le-ltb _ _ (omega arith) in
        rw (high, still) refl

-- a sum that stays at 2 ^ 64 - 1, from a number that did
min-sum : (a d : ℕ) → min (min a (2 ^ 64 - 1) + d) (2 ^ 64 - 1) ≡ min (a + d) (2 ^ 64 - 1)
min-sum a d = omega arith

-- a number that stays at 2 ^ 64 - 1, and stays there again
min-once : (a : ℕ) → min (min a (2 ^ 64 - 1)) (2 ^ 64 - 1) ≡ min a (2 ^ 64 - 1)
min-once a = omega arith

-- the registers after an instruction, from capped ones
after-capped : (h : LineHeader) (i : Instruction) (r : Registers) → capped (after h i (capped r)) ≡ capped (after h i r)
after-capped h (special opcode) r = ap (λ o. record (after h (special opcode) r) { offset = o }) (min-sum r.offset (h.minimum_instruction_length * special_advance h opcode))
after-capped h copy r = ap (λ o. record (after h copy r) { offset = o }) (min-once r.offset)
after-capped h (advance_pc n) r = ap (λ o. record (after h (advance_pc n) r) { offset = o }) (min-sum r.offset (h.minimum_instruction_length * n))
after-capped h (advance_line n) r = ap (λ o. record (after h (advance_line n) r) { offset = o }) (min-once r.offset)
after-capped h (set_file n) r = ap (λ o. record (after h (set_file n) r) { offset = o }) (min-once r.offset)
after-capped h (set_column n) r = ap (λ o. record (after h (set_column n) r) { offset = o }) (min-once r.offset)
after-capped h negate_stmt r = ap (λ o. record (after h negate_stmt r) { offset = o }) (min-once r.offset)
after-capped h set_basic_block r = ap (λ o. record (after h set_basic_block r) { offset = o }) (min-once r.offset)
after-capped h const_add_pc r = ap (λ o. record (after h const_add_pc r) { offset = o }) (min-sum r.offset (h.minimum_instruction_length * special_advance h 255))
after-capped h (fixed_advance_pc n) r = ap (λ o. record (after h (fixed_advance_pc n) r) { offset = o }) (min-sum r.offset (n))
after-capped h set_prologue_end r = ap (λ o. record (after h set_prologue_end r) { offset = o }) (min-once r.offset)
after-capped h set_epilogue_begin r = ap (λ o. record (after h set_epilogue_begin r) { offset = o }) (min-once r.offset)
after-capped h (set_isa n) r = ap (λ o. record (after h (set_isa n) r) { offset = o }) (min-once r.offset)
after-capped h end_sequence r = refl
after-capped h (set_address a) r = refl
after-capped h (define_file f) r = ap (λ o. record (after h (define_file f) r) { offset = o }) (min-once r.offset)
after-capped h (set_discriminator n) r = ap (λ o. record (after h (set_discriminator n) r) { offset = o }) (min-once r.offset)
after-capped h unknown r = ap (λ o. record (after h unknown r) { offset = o }) (min-once r.offset)

-- the registers that a special opcode shows
after-special : (h : LineHeader) (opcode : ℕ) (r : Registers) → capped (by_special h opcode (capped r)) ≡ capped (by_special h opcode r)
after-special h opcode r = ap (λ o. record (by_special h opcode r) { offset = o }) (min-sum r.offset (h.minimum_instruction_length * special_advance h opcode))

-- the offset of an end
end-capped : (o : ℕ) → end_view (min o (2 ^ 64 - 1)) ≡ end_view o
end-capped o = go (leb o (2 ^ 64 - 1)) refl
  where
    go : (b : Bool) → leb o (2 ^ 64 - 1) ≡ b → end_view (min o (2 ^ 64 - 1)) ≡ end_view o
    go true h =
        let below : o ≤ 2 ^ 64 - 1 = leb-true _ _ h in
        let same : min o (2 ^ 64 - 1) ≡ o = omega arith in
        rw same refl
    go false h =
        let above : 2 ^ 64 - 1 < o = leb-false _ _ h in
        let high : ltb o (2 ^ 32) ≡ false = le-ltb _ _ (omega arith) in
        let still : ltb (min o (2 ^ 64 - 1)) (2 ^ 32) ≡ false = le-ltb _ _ (omega arith) in
        rw (high, still) refl

-- what an instruction shows, from capped registers
effect-capped : (h : LineHeader) (i : Instruction) (r : Registers) → option_map shown_step (effect h i (capped r)) ≡ option_map shown_step (effect h i r)
effect-capped h (special opcode) r = ap Some (sym (shown-capped (by_special h opcode (capped r))) ∙ ap (λ s. shown_step (appends s)) (after-special h opcode r) ∙ shown-capped (by_special h opcode r))
effect-capped h copy r = ap Some (shown-capped r)
effect-capped h (advance_pc n) r = refl
effect-capped h (advance_line n) r = refl
effect-capped h (set_file n) r = refl
effect-capped h (set_column n) r = refl
effect-capped h negate_stmt r = refl
effect-capped h set_basic_block r = refl
effect-capped h const_add_pc r = refl
effect-capped h (fixed_advance_pc n) r = refl
effect-capped h set_prologue_end r = refl
effect-capped h set_epilogue_begin r = refl
effect-capped h (set_isa n) r = refl
effect-capped h end_sequence r = ap (λ o. Some (Some (end o))) (end-capped r.offset)
effect-capped h (set_address a) r = refl
effect-capped h (define_file f) r = refl
effect-capped h (set_discriminator n) r = refl
effect-capped h unknown r = refl

-- what an instruction shows, in front of what others show
abbrev pub with_shown : Option (Option LineStep) → List (Option LineStep) → List (Option LineStep)
with_shown None xs = xs
with_shown (Some s) xs = s ∷ xs

-- instructions show what the first shows, and what the others do
steps-first : (h : LineHeader) (r : Registers) (i : Instruction) (is : List Instruction) → shown_steps h r (i ∷ is) ≡ with_shown (option_map shown_step (effect h i r)) (shown_steps h (after h i r) is)
unfolding shown_steps
steps-first h r i is = go (effect h i r)
  where
    go : (e : Option Effect) → map shown_step (with_effect e (effects h (after h i r) is)) ≡ with_shown (option_map shown_step e) (map shown_step (effects h (after h i r) is))
    go None = refl
    go (Some e) = refl

-- as much is shown from capped registers
steps-capped : (h : LineHeader) (r : Registers) (is : List Instruction) → shown_steps h (capped r) is ≡ shown_steps h r is
unfolding shown_steps
steps-capped h r [] = refl
steps-capped h r (i ∷ is) =
    steps-first h (capped r) i is
    ∙ ap (λ e. with_shown e (shown_steps h (after h i (capped r)) is)) (effect-capped h i r)
    ∙ ap (with_shown (option_map shown_step (effect h i r))) (sym (steps-capped h (after h i (capped r)) is) ∙ ap (λ s. shown_steps h s is) (after-capped h i r) ∙ steps-capped h (after h i r) is)
    ∙ sym (steps-first h r i is)

-- instructions show what the first shows, and what the others do from capped registers
pub steps-more : (h : LineHeader) (r : Registers) (i : Instruction) (is : List Instruction) → shown_steps h r (i ∷ is) ≡ with_shown (option_map shown_step (effect h i r)) (shown_steps h (capped (after h i r)) is)
steps-more h r i is = steps-first h r i is ∙ ap (with_shown (option_map shown_step (effect h i r))) (sym (steps-capped h (after h i r) is))
