-- Bytes that push a number, and what is done with it.
use Rattle.std.proofs.Common.{◌≡◌, ℕ, ◌+◌, ◌^◌, ◌<◌, refl, ap, subst, ◌∙◌, arith, List, [], ◌∷◌, ◌++◌, None, Result, Ok, Err, Bool, true, false, ltb, leb}
use Rattle.std.specs.Prelude.{ℤ, pos, if◌then◌else◌, ok_or}
use Rattle.std.specs.Int.{w64, cast_unsigned}
use Rattle.std.proofs.lemmas.Int.{ints}
use Rattle.std.proofs.lemmas.Bool.{lt-leb, ltb-true}
use Rattle.dwc_base.specs.Reading.{◌>>=◌, is_64_bit}
use Rattle.dwc_base.specs.NumberBytes.{uleb_bytes, sleb_bytes}
use Rattle.dwc_native.specs.Built.{register_value, frame_address, plus_offset}
use Rattle.dwc_base.specs.declared.constants.TheConstants.{DW_OP_deref, DW_OP_consts, DW_OP_plus, DW_OP_breg0, DW_OP_fbreg, DW_OP_bregx}
use Rattle.dwc_base.proofs.SlebLaws.{is_64_bit-fits}
use Rattle.dwc_machines.specs.StackOperations.{Stop, not_known, wrapped}
use Rattle.dwc_machines.specs.NativeStates.{NativeState, Evaluation, register_read, number_read, pushed}
use Rattle.dwc_machines.specs.ByteMachine.{native_rule, native_operands, performed, loaded, based}
use Rattle.dwc_expr.specs.WholeParts.{is_jump_rule}
use Rattle.dwc_expr.proofs.Meaning.MachineSteps.{does}
use Rattle.dwc_expr.proofs.Meaning.Simulations.{Simulates, simulates-one, simulates-both, simulates-as}
use Rattle.dwc_expr.proofs.Meaning.RegisterOperations.{alone-operation, based-known, based-operands, based-operation, based-rule, register_plus, signed-operation}

-- ---- bytes that push a number

abbrev pub then_push : Result ℕ Stop → Evaluation → Result Evaluation Stop
then_push r v = r >>= λ value. Ok (pushed v value)

pub based-pushes : (n : NativeState) (r : ℕ) (z : ℤ) (v : Evaluation) → based n r (cast_unsigned w64 z) v ≡ then_push (register_plus n r z) v
based-pushes n r z v = go (register_read n r)
  where
    go : (q : Result ℕ Stop) → (q >>= λ value. Ok (pushed v (wrapped n.pointer_bytes (value + cast_unsigned w64 z)))) ≡ ((q >>= λ value. Ok (wrapped n.pointer_bytes (value + cast_unsigned w64 z))) >>= λ value. Ok (pushed v value))
    go (Ok value) = refl
    go (Err stop) = refl

-- Bytes push a number in so many operations.
abbrev pub Pushes : NativeState → List ℕ → Result ℕ Stop → ℕ → Type 0
Pushes n bytes r count = Simulates n bytes (λ v. then_push r v) count

pub pushes-as : (n : NativeState) (bytes : List ℕ) (r q : Result ℕ Stop) (count : ℕ) → r ≡ q → Pushes n bytes r count → Pushes n bytes q count
pushes-as n bytes r q count same w = subst (λ x. Pushes n bytes x count) same w

register-low : (n : NativeState) (r : ℕ) (z : ℤ) → r < 32 → is_64_bit z ≡ true → Pushes n ((DW_OP_breg0 + r) ∷ sleb_bytes z) (register_plus n r z) 1
register-low n r z low fits =
    let free : is_jump_rule (native_rule (DW_OP_breg0 + r)) ≡ false = ap is_jump_rule (based-rule r low) in
    simulates-as n ((DW_OP_breg0 + r) ∷ sleb_bytes z) (does n (DW_OP_breg0 + r, cast_unsigned w64 z, 0)) (λ v. then_push (register_plus n r z) v) 1 same
    (simulates-one n ((DW_OP_breg0 + r) ∷ sleb_bytes z) (DW_OP_breg0 + r, cast_unsigned w64 z, 0) (signed-operation (DW_OP_breg0 + r) z (based-operands r low) fits) free)
  where
    same : (v : Evaluation) → does n (DW_OP_breg0 + r, cast_unsigned w64 z, 0) v ≡ then_push (register_plus n r z) v
    same v =
        ap (λ b. if◌then◌else◌ {A = Result Evaluation Stop} b (ok_or (native_rule (DW_OP_breg0 + r)) not_known >>= λ rule. performed n rule (cast_unsigned w64 z) 0 v) (Err not_known)) (based-known r (cast_unsigned w64 z) low)
        ∙ ap (λ o. ok_or o not_known >>= λ rule. performed n rule (cast_unsigned w64 z) 0 v) (based-rule r low)
        ∙ based-pushes n r z v

register-high : (n : NativeState) (r : ℕ) (z : ℤ) → r < 2 ^ 16 → is_64_bit z ≡ true → Pushes n (DW_OP_bregx ∷ (uleb_bytes r ++ sleb_bytes z)) (register_plus n r z) 1
register-high n r z small fits =
    simulates-as n (DW_OP_bregx ∷ (uleb_bytes r ++ sleb_bytes z)) (does n (DW_OP_bregx, r, cast_unsigned w64 z)) (λ v. then_push (register_plus n r z) v) 1 same
    (simulates-one n (DW_OP_bregx ∷ (uleb_bytes r ++ sleb_bytes z)) (DW_OP_bregx, r, cast_unsigned w64 z) (based-operation r z (omega arith) fits) refl)
  where
    known : leb (2 ^ 16) r ≡ false
    known = lt-leb (2 ^ 16) r small

    same : (v : Evaluation) → does n (DW_OP_bregx, r, cast_unsigned w64 z) v ≡ then_push (register_plus n r z) v
    same v = rw known (based-pushes n r z v)

pub register-pushes : (n : NativeState) (r : ℕ) (z : ℤ) → r < 2 ^ 16 → is_64_bit z ≡ true → Pushes n (register_value r z) (register_plus n r z) 1
register-pushes n r z small fits = go (ltb r 32) refl
  where
    go : (b : Bool) → ltb r 32 ≡ b → Pushes n ((if b then (DW_OP_breg0 + r) ∷ [] else DW_OP_bregx ∷ uleb_bytes r) ++ sleb_bytes z) (register_plus n r z) 1
    go true low = register-low n r z (ltb-true r 32 low) fits
    go false high = register-high n r z small fits

pub frame-pushes : (n : NativeState) (z : ℤ) → is_64_bit z ≡ true → Pushes n (frame_address z) (Ok (wrapped n.pointer_bytes (n.frame + cast_unsigned w64 z))) 1
frame-pushes n z fits = simulates-one n (frame_address z) (DW_OP_fbreg, cast_unsigned w64 z, 0) (signed-operation DW_OP_fbreg z refl fits) refl

-- ---- operations on what was pushed

alone : (n : NativeState) (op : ℕ) → native_operands op ≡ None → is_jump_rule (native_rule op) ≡ false → Simulates n (op ∷ []) (does n (op, 0, 0)) 1
alone n op none free = simulates-one n (op ∷ []) (op, 0, 0) (alone-operation op none) free

-- an address is read
loads : (n : NativeState) (r : Result ℕ Stop) (v : Evaluation) → (then_push r v >>= loaded n n.pointer_bytes) ≡ then_push (r >>= number_read n n.pointer_bytes) v
loads n (Err stop) v = refl
loads n (Ok a) v = refl

pub pushes-loaded : (n : NativeState) (bytes : List ℕ) (r : Result ℕ Stop) (count : ℕ) → Pushes n bytes r count → Pushes n (bytes ++ DW_OP_deref ∷ []) (r >>= number_read n n.pointer_bytes) (count + 1)
pushes-loaded n bytes r count w =
    simulates-as n (bytes ++ DW_OP_deref ∷ []) (λ v. then_push r v >>= does n (DW_OP_deref, 0, 0)) (λ v. then_push (r >>= number_read n n.pointer_bytes) v) (count + 1) (loads n r)
    (simulates-both n bytes (DW_OP_deref ∷ []) (λ v. then_push r v) (does n (DW_OP_deref, 0, 0)) count 1 w (alone n DW_OP_deref refl refl))

-- an offset is added
plus-simulates : (n : NativeState) (o : ℕ) → o < 2 ^ 63 → Simulates n (plus_offset o) (λ v. does n (DW_OP_consts, o, 0) v >>= does n (DW_OP_plus, 0, 0)) 2
plus-simulates n o small =
    let fits : is_64_bit (pos o) ≡ true = is_64_bit-fits (pos o) (omega (arith, ints)) in
    simulates-both n (DW_OP_consts ∷ sleb_bytes (pos o)) (DW_OP_plus ∷ []) (does n (DW_OP_consts, o, 0)) (does n (DW_OP_plus, 0, 0)) 1 1
    (simulates-one n (DW_OP_consts ∷ sleb_bytes (pos o)) (DW_OP_consts, o, 0) (signed-operation DW_OP_consts (pos o) refl fits) refl)
    (alone n DW_OP_plus refl refl)

pub pushes-plus : (n : NativeState) (bytes : List ℕ) (r : Result ℕ Stop) (count o : ℕ) → o < 2 ^ 63 → Pushes n bytes r count → Pushes n (bytes ++ plus_offset o) (r >>= λ a. Ok (wrapped n.pointer_bytes (a + wrapped n.pointer_bytes o))) (count + 2)
pushes-plus n bytes r count o small w =
    simulates-as n (bytes ++ plus_offset o) (λ v. then_push r v >>= λ v. does n (DW_OP_consts, o, 0) v >>= does n (DW_OP_plus, 0, 0)) (λ v. then_push (r >>= λ a. Ok (wrapped n.pointer_bytes (a + wrapped n.pointer_bytes o))) v) (count + 2) (same r)
    (simulates-both n bytes (plus_offset o) (λ v. then_push r v) (λ v. does n (DW_OP_consts, o, 0) v >>= does n (DW_OP_plus, 0, 0)) count 2 w (plus-simulates n o small))
  where
    same : (r : Result ℕ Stop) (v : Evaluation) → (then_push r v >>= λ v. does n (DW_OP_consts, o, 0) v >>= does n (DW_OP_plus, 0, 0)) ≡ then_push (r >>= λ a. Ok (wrapped n.pointer_bytes (a + wrapped n.pointer_bytes o))) v
    same (Err stop) v = refl
    same (Ok a) v = refl
