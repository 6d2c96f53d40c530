-- Shifts to the right of values in the upper half.
use Rattle.std.proofs.Common.{◌≡◌, ℕ, ◌+◌, ◌*◌, ◌^◌, ◌%◌, ◌/◌, ◌<◌, ◌≤◌, refl, ap, ◌∙◌, arith, List, [], ◌∷◌, ◌++◌, Option, Some, Result, Ok, Bool, true, ltb}
use Rattle.std.specs.Prelude.{ℤ, pos, negsuc, nat_lt, if◌then◌else◌}
use Rattle.std.specs.Int.{int_shr}
use Rattle.std.proofs.lemmas.Bool.{lt-ltb}
use Rattle.std.proofs.Math.Nat.{div-le_self}
use Rattle.dwc_base.specs.declared.records.Endian.TheVariants.{Little}
use Rattle.dwc_base.specs.Reading.{Read, ◌>>=◌, seen_as}
use Rattle.dwc_base.specs.Spelling.{unread_at}
use Rattle.dwc_dwarf.specs.Values.{fixed, variable, sized_number_at}
use Rattle.dwc_dwarf.specs.Operations.{unsigned, one, operand_at, operands_at, Operation}
use Rattle.dwc_native.specs.Parts.{CompiledParts, moved_up}
use Rattle.dwc_native.specs.Built.{Setting}
use Rattle.dwc_base.proofs.Spellings.{Spells-number, Spells-uleb}
use Rattle.dwc_base.specs.declared.constants.TheConstants.{DW_OP_const1u, DW_OP_swap, DW_OP_plus_uconst, DW_OP_shl}
use Rattle.dwc_machines.specs.StackOperations.{Stop, wrapped, wrapped_signed, as_signed, shifted_right, shifted_right_signed}
use Rattle.dwc_machines.specs.NativeStates.{NativeState, Piece, Evaluation}
use Rattle.dwc_machines.specs.WasmMachine.{WasmState}
use Rattle.dwc_expr.proofs.Meaning.MachineSteps.{does}
use Rattle.dwc_expr.proofs.Meaning.Simulations.{Simulates, simulates-one, simulates-both}
use Rattle.dwc_expr.proofs.Meaning.RegisterOperations.{coded-operation, alone-operation}
use Rattle.dwc_machines.proofs.LowBits.{floor-of-moved, signed-floor-of-moved, low-signed}
use Rattle.dwc_machines.proofs.LowNumbers.{IsLow}
use Rattle.dwc_expr.proofs.Meaning.KeptRecords.{IsInput}

module _ (n : NativeState) (s : Setting) (w : WasmState) (addresses : n.pointer_bytes ≡ 8) where
  module _ (base : Option CompiledParts) (label : Option ℕ) (before : Option Operation) (o : Operation) (t : List ℕ) (input : IsInput o) where
    -- ---- shifts to the right

    one-reads : (p : ℕ) (more : List ℕ) → operands_at (Some (one (unsigned (fixed 1)))) (unread_at Little p ((32 ∷ []) ++ more)) ≡ Ok ((32, 0), unread_at Little (p + 1) more)
    unfolding operands_at operand_at sized_number_at
    one-reads p more = ap (seen_as (λ first. (first, 0))) ((Spells-number Little (32 ∷ [])).reads p more)

    uleb-reads : (p : ℕ) (more : List ℕ) → operands_at (Some (one (unsigned variable))) (unread_at Little p ((32 ∷ []) ++ more)) ≡ Ok ((32, 0), unread_at Little (p + 1) more)
    unfolding operands_at operand_at sized_number_at
    uleb-reads p more = ap (λ (r : Read ℕ). seen_as (λ first. (first, 0)) r) ((Spells-uleb Little (32 ∷ []) 32 refl (omega arith)).reads p more)

    -- what the bytes in front of such a shift do
    abbrev pub moves_up : Evaluation → Result Evaluation Stop
    moves_up v = does n (DW_OP_plus_uconst, 32, 0) v >>= λ v. does n (DW_OP_swap, 0, 0) v >>= λ v. does n (DW_OP_const1u, 32, 0) v >>= λ v. does n (DW_OP_shl, 0, 0) v >>= does n (DW_OP_swap, 0, 0)

    pub moved-simulates : Simulates n moved_up moves_up 5
    moved-simulates =
        simulates-both n (DW_OP_plus_uconst ∷ 32 ∷ []) (DW_OP_swap ∷ DW_OP_const1u ∷ 32 ∷ DW_OP_shl ∷ DW_OP_swap ∷ []) (does n (DW_OP_plus_uconst, 32, 0)) (λ v. does n (DW_OP_swap, 0, 0) v >>= λ v. does n (DW_OP_const1u, 32, 0) v >>= λ v. does n (DW_OP_shl, 0, 0) v >>= does n (DW_OP_swap, 0, 0)) 1 4
        (simulates-one n (DW_OP_plus_uconst ∷ 32 ∷ []) (DW_OP_plus_uconst, 32, 0) (coded-operation DW_OP_plus_uconst (Some (one (unsigned variable))) (32 ∷ []) 32 0 refl uleb-reads) refl)
        (simulates-both n (DW_OP_swap ∷ []) (DW_OP_const1u ∷ 32 ∷ DW_OP_shl ∷ DW_OP_swap ∷ []) (does n (DW_OP_swap, 0, 0)) (λ v. does n (DW_OP_const1u, 32, 0) v >>= λ v. does n (DW_OP_shl, 0, 0) v >>= does n (DW_OP_swap, 0, 0)) 1 3
        (simulates-one n (DW_OP_swap ∷ []) (DW_OP_swap, 0, 0) (alone-operation DW_OP_swap refl) refl)
        (simulates-both n (DW_OP_const1u ∷ 32 ∷ []) (DW_OP_shl ∷ DW_OP_swap ∷ []) (does n (DW_OP_const1u, 32, 0)) (λ v. does n (DW_OP_shl, 0, 0) v >>= does n (DW_OP_swap, 0, 0)) 1 2
        (simulates-one n (DW_OP_const1u ∷ 32 ∷ []) (DW_OP_const1u, 32, 0) (coded-operation DW_OP_const1u (Some (one (unsigned (fixed 1)))) (32 ∷ []) 32 0 refl one-reads) refl)
        (simulates-both n (DW_OP_shl ∷ []) (DW_OP_swap ∷ []) (does n (DW_OP_shl, 0, 0)) (does n (DW_OP_swap, 0, 0)) 1 1
        (simulates-one n (DW_OP_shl ∷ []) (DW_OP_shl, 0, 0) (alone-operation DW_OP_shl refl) refl)
        (simulates-one n (DW_OP_swap ∷ []) (DW_OP_swap, 0, 0) (alone-operation DW_OP_swap refl) refl))))

    -- on a value under its count: the value in the upper half, under a count that is as much higher
    abbrev pub moved_by : ℕ → ℕ → ℕ → List ℕ → List Piece → Bool → Evaluation
    moved_by k c a stack pieces is_value = record { stack = wrapped k (c + 32) ∷ (if nat_lt (wrapped k 32) (8 * k) then wrapped k (a * 2 ^ wrapped k 32) else 0) ∷ stack; pieces = pieces; is_value = is_value }

    pub moves-up : (c a : ℕ) (stack : List ℕ) (pieces : List Piece) (is_value : Bool) → moves_up (record { stack = c ∷ a ∷ stack; pieces = pieces; is_value = is_value }) ≡ Ok (record { stack = wrapped 8 (c + 32) ∷ wrapped 8 (a * 2 ^ 32) ∷ stack; pieces = pieces; is_value = is_value })
    moves-up c a stack pieces is_value = ap (λ k. Ok (moved_by k c a stack pieces is_value)) addresses

    -- a shift to the right by its rule, on a value under its count in 64 and in 32 bits
    abbrev pub ShiftsLow : (ℕ → ℕ → ℕ → Option ℕ) → Type 0
    ShiftsLow f = (a c : ℕ) → c < 32 → (x : ℕ) × (y : ℕ) × (f 8 (wrapped 8 (a * 2 ^ 32)) (wrapped 8 (c + 32)) ≡ Some x) × (f 4 (a % 2 ^ 32) c ≡ Some y) × IsLow x y

    pub right-low : ShiftsLow shifted_right
    right-low a c less =
        let sum : wrapped 8 (c + 32) ≡ 32 + c = omega (arith, less) in
        let wide : ltb (32 + c) (8 * 8) ≡ true = lt-ltb (32 + c) 64 (omega (arith, less)) in
        let narrow : ltb c (8 * 4) ≡ true = lt-ltb c 32 less in
        let value : wrapped 8 (a * 2 ^ 32) / 2 ^ (32 + c) ≡ a % 2 ^ 32 / 2 ^ c = floor-of-moved a c in
        let most : a % 2 ^ 32 / 2 ^ c ≤ a % 2 ^ 32 = div-le_self (a % 2 ^ 32) (2 ^ c) in (
          wrapped 8 (a * 2 ^ 32) / 2 ^ (32 + c),
          a % 2 ^ 32 / 2 ^ c,
          ap (λ k. shifted_right 8 (wrapped 8 (a * 2 ^ 32)) k) sum ∙ ap (λ b. Some (if b then wrapped 8 (a * 2 ^ 32) / 2 ^ (32 + c) else 0)) wide,
          ap (λ b. Some (if b then a % 2 ^ 32 / 2 ^ c else 0)) narrow,
          (low (wrapped 8 (a * 2 ^ 32) / 2 ^ (32 + c)) (a % 2 ^ 32 / 2 ^ c) (a % 2 ^ 32) value most (omega arith), bound (wrapped 8 (a * 2 ^ 32) / 2 ^ (32 + c)) (a % 2 ^ 32 / 2 ^ c) (a % 2 ^ 32) value most (omega arith)),
        )
      where
        low : (x y m : ℕ) → x ≡ y → y ≤ m → m < 2 ^ 32 → x % 2 ^ 32 ≡ y
        low x y m same most small = omega (arith, same, most, small)

        bound : (x y m : ℕ) → x ≡ y → y ≤ m → m < 2 ^ 32 → x < 2 ^ 64
        bound x y m same most small = omega (arith, same, most, small)

    pub signed-low : ShiftsLow shifted_right_signed
    signed-low a c less =
        let sum : wrapped 8 (c + 32) ≡ 32 + c = omega (arith, less) in
        let wide : ltb (32 + c) (8 * 8) ≡ true = lt-ltb (32 + c) 64 (omega (arith, less)) in
        let narrow : ltb c (8 * 4) ≡ true = lt-ltb c 32 less in
        let value : int_shr (as_signed 8 (wrapped 8 (a * 2 ^ 32))) (32 + c) ≡ int_shr (as_signed 4 (a % 2 ^ 32)) c = signed-floor-of-moved a c in (
          wrapped_signed 8 (int_shr (as_signed 8 (wrapped 8 (a * 2 ^ 32))) (32 + c)),
          wrapped_signed 4 (int_shr (as_signed 4 (a % 2 ^ 32)) c),
          ap (λ k. shifted_right_signed 8 (wrapped 8 (a * 2 ^ 32)) k) sum ∙ ap (λ b. Some (wrapped_signed 8 (int_shr (as_signed 8 (wrapped 8 (a * 2 ^ 32))) (if b then 32 + c else 8 * 8)))) wide,
          ap (λ b. Some (wrapped_signed 4 (int_shr (as_signed 4 (a % 2 ^ 32)) (if b then c else 8 * 4)))) narrow,
          (low-signed (int_shr (as_signed 8 (wrapped 8 (a * 2 ^ 32))) (32 + c)) ∙ ap (wrapped_signed 4) value, bound (int_shr (as_signed 8 (wrapped 8 (a * 2 ^ 32))) (32 + c))),
        )
      where
        bound : (z : ℤ) → wrapped_signed 8 z < 2 ^ 64
        bound (pos k) = omega arith
        bound (negsuc k) = omega arith
