-- Arithmetic modulo the size of addresses, and numbers that were read.
use Rattle.std.proofs.Common.{◌≡◌, ℕ, suc, ◌+◌, ◌-◌, ◌^◌, ◌%◌, ◌≤◌, refl, sym, ap, subst, ◌∙◌, ◌⊎◌, inl, inr, arith, List, [], ◌∷◌, Option, Some, None, Result, Ok, Err, Bool, true, false, eqb, true≢false}
use Rattle.std.specs.Prelude.{ℤ, pos, negsuc, ◌+ℤ◌, ◌||◌, bit_and, unsigned_abs, ok_or}
use Rattle.std.specs.Int.{w64, cast_unsigned}
use Rattle.std.proofs.lemmas.Int.{ints, int_rem_euclid_is}
use Rattle.std.proofs.lemmas.Nat.{and_mask}
use Rattle.std.proofs.lemmas.Bool.{eqb-true}
use Rattle.dwc_base.specs.Reading.{◌>>=◌, number, is_64_bit}
use Rattle.dwc_dwarf.specs.Values.{is_one_of}
use Rattle.dwc_machines.specs.StackOperations.{Stop, register_missing, wrapped, wrapped_signed}
use Rattle.dwc_machines.specs.NativeStates.{NativeState, register_read, bytes_read, number_read, number_behind}
use Rattle.dwc_expr.proofs.Meaning.RegisterOperations.{register_plus}

-- ---- arithmetic modulo the size of addresses

abbrev pub IsSize : ℕ → Type 0
IsSize k = is_one_of (4 ∷ 8 ∷ []) k ≡ true

four-or-eight : (k : ℕ) → IsSize k → (k ≡ 4) ⊎ (k ≡ 8)
four-or-eight k h = go (eqb 4 k) refl (eqb 8 k) refl h
  where
    go : (b : Bool) → eqb 4 k ≡ b → (c : Bool) → eqb 8 k ≡ c → (b || (c || false)) ≡ true → (k ≡ 4) ⊎ (k ≡ 8)
    go true four c e h = inl (sym (eqb-true 4 k four))
    go false e true eight h = inr (sym (eqb-true 8 k eight))
    go false e false d h = absurd (true≢false (sym h))

-- a fact of both sizes
pub by-size : (P : ℕ → Type 0) (k : ℕ) → IsSize k → P 4 → P 8 → P k
by-size P k h four eight = go (four-or-eight k h)
  where
    go : (k ≡ 4) ⊎ (k ≡ 8) → P k
    go (inl e) = subst P (sym e) four
    go (inr e) = subst P (sym e) eight

-- a signed offset added, modulo 2 ^ 64 first
at-8 : (a : ℕ) (z : ℤ) → is_64_bit z ≡ true → wrapped 8 (a + cast_unsigned w64 z) ≡ wrapped_signed 8 (pos a +ℤ z)
at-8 a (pos b) fits = refl
at-8 a (negsuc b) fits =
    let low : suc b ≤ 2 ^ 64 = is_64-low b fits in
    sym (ap unsigned_abs (int_rem_euclid_is (pos a +ℤ negsuc b) (pos (2 ^ 64)) (2 ^ 64) 1 (a + (2 ^ 64 - suc b)) (omega arith) refl (omega (arith, ints))))
  where
    is_64-low : (b : ℕ) → is_64_bit (negsuc b) ≡ true → suc b ≤ 2 ^ 64
    is_64-low b fits = grind (arith, ints)

at-4 : (a : ℕ) (z : ℤ) → is_64_bit z ≡ true → wrapped 4 (a + cast_unsigned w64 z) ≡ wrapped_signed 4 (pos a +ℤ z)
at-4 a (pos b) fits = refl
at-4 a (negsuc b) fits =
    let low : suc b ≤ 2 ^ 64 = is_64-low b fits in
    sym (ap unsigned_abs (int_rem_euclid_is (pos a +ℤ negsuc b) (pos (2 ^ 32)) (2 ^ 32) (2 ^ 32) (a + (2 ^ 64 - suc b)) (omega arith) refl (omega (arith, ints))))
  where
    is_64-low : (b : ℕ) → is_64_bit (negsuc b) ≡ true → suc b ≤ 2 ^ 64
    is_64-low b fits = grind (arith, ints)

pub offset-wraps : (k : ℕ) → IsSize k → (a : ℕ) (z : ℤ) → is_64_bit z ≡ true → wrapped k (a + cast_unsigned w64 z) ≡ wrapped_signed k (pos a +ℤ z)
offset-wraps k size a z fits = by-size (λ k. wrapped k (a + cast_unsigned w64 z) ≡ wrapped_signed k (pos a +ℤ z)) k size (at-4 a z fits) (at-8 a z fits)

plus-wraps : (k : ℕ) → IsSize k → (a o : ℕ) → wrapped k (a + wrapped k o) ≡ wrapped_signed k (pos a +ℤ pos o)
plus-wraps k size a o = by-size (λ k. wrapped k (a + wrapped k o) ≡ wrapped_signed k (pos a +ℤ pos o)) k size (omega arith) (omega arith)

pub wrapped-again : (k : ℕ) → IsSize k → (a : ℕ) → wrapped k (wrapped k a) ≡ wrapped k a
wrapped-again k size a = by-size (λ k. wrapped k (wrapped k a) ≡ wrapped k a) k size (omega arith) (omega arith)

wrapped-plus_0 : (k : ℕ) → IsSize k → (a : ℕ) → wrapped k (wrapped k a + 0) ≡ wrapped k a
wrapped-plus_0 k size a = by-size (λ k. wrapped k (wrapped k a + 0) ≡ wrapped k a) k size (omega arith) (omega arith)

pub mask : (k : ℕ) → IsSize k → (a : ℕ) → bit_and a (wrapped k 4294967295) ≡ a % 2 ^ 32
mask k size a = ap (bit_and a) (by-size (λ k. wrapped k 4294967295 ≡ 4294967295) k size refl refl) ∙ and_mask a 32

-- ---- numbers that were read

-- one that was read is smaller than addresses are
abbrev pub AreWrapped : NativeState → Result ℕ Stop → Type 0
AreWrapped n r = (r >>= λ a. Ok (wrapped n.pointer_bytes a)) ≡ r

pub read-wrapped : (n : NativeState) → IsSize n.pointer_bytes → (size address : ℕ) → AreWrapped n (number_read n size address)
read-wrapped n k size address = go (bytes_read n address size)
  where
    go : (r : Result (List ℕ) Stop) → ((r >>= λ bytes. Ok (wrapped n.pointer_bytes (number n.order bytes))) >>= λ a. Ok (wrapped n.pointer_bytes a)) ≡ (r >>= λ bytes. Ok (wrapped n.pointer_bytes (number n.order bytes)))
    go (Ok bytes) = ap (λ a. Ok a) (wrapped-again n.pointer_bytes k (number n.order bytes))
    go (Err stop) = refl

-- the value of a register alone
pub register-plus_0 : (n : NativeState) → IsSize n.pointer_bytes → (r : ℕ) → register_plus n r (pos 0) ≡ register_read n r
register-plus_0 n k r = go (n.register r)
  where
    go : (o : Option ℕ) → ((ok_or o (register_missing r) >>= λ value. Ok (wrapped n.pointer_bytes value)) >>= λ value. Ok (wrapped n.pointer_bytes (value + 0))) ≡ (ok_or o (register_missing r) >>= λ value. Ok (wrapped n.pointer_bytes value))
    go None = refl
    go (Some value) = ap (λ a. Ok a) (wrapped-plus_0 n.pointer_bytes k value)

-- an offset that may be 0
abbrev pub offset_by : NativeState → ℕ → ℕ → Result ℕ Stop
offset_by n o a = Ok (wrapped n.pointer_bytes (a + wrapped n.pointer_bytes o))

pub read-offset : (n : NativeState) → IsSize n.pointer_bytes → (o a : ℕ) → number_read n n.pointer_bytes (wrapped n.pointer_bytes (a + wrapped n.pointer_bytes o)) ≡ number_behind n (pos o) a
read-offset n k o a = ap (number_read n n.pointer_bytes) (plus-wraps n.pointer_bytes k a o)
