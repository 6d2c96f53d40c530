-- The low 32 bits of what operations give depend on the low 32 bits of what they take alone: one fact an operation.
use Rattle.std.proofs.Common.{◌≡◌, ℕ, ◌+◌, ◌-◌, ◌*◌, ◌^◌, ◌/◌, ◌%◌, ◌≤◌, ◌<◌, ℤ, pos, negsuc, refl, sym, ap, ◌∙◌, arith, Bool, true, false, ltb}
use Rattle.std.specs.Prelude.{◌-ℤ◌, unsigned_abs, bit_and, bit_or, bit_xor}
use Rattle.std.specs.Int.{int_shr}
use Rattle.std.proofs.lemmas.Bool.{lt-ltb, le-ltb, ltb-true, ltb-false}
use Rattle.std.proofs.lemmas.Int.{ints, int_rem_euclid_is}
use Rattle.std.proofs.lemmas.Nat.{and_mod, or_mod, xor_mod, mul-mod, mul-mod_first, pow_pos, pow-add}
use Rattle.std.proofs.Math.Nat.{div-div-eq-div-mul}
use Rattle.dwc_machines.specs.StackOperations.{wrapped, wrapped_signed, as_signed}

-- 64 bits keep the low 32 of a number
pub low-wrapped : (n : ℕ) → wrapped 8 n % 2 ^ 32 ≡ n % 2 ^ 32
low-wrapped n = omega arith

pub low-sum : (a b : ℕ) → wrapped 8 (a + b) % 2 ^ 32 ≡ wrapped 4 (a % 2 ^ 32 + b % 2 ^ 32)
low-sum a b = omega arith

pub low-sum_with : (a operand : ℕ) → wrapped 8 (a + operand) % 2 ^ 32 ≡ wrapped 4 (a % 2 ^ 32 + operand)
low-sum_with a operand = omega arith

-- a difference wraps once at most
pub wrapped-difference : (size a b : ℕ) → b ≤ 2 ^ (8 * size) → wrapped_signed size (pos a -ℤ pos b) ≡ (a + (2 ^ (8 * size) - b)) % 2 ^ (8 * size)
wrapped-difference size a b small = ap unsigned_abs (int_rem_euclid_is (pos a -ℤ pos b) (pos (2 ^ (8 * size))) (2 ^ (8 * size)) 1 (a + (2 ^ (8 * size) - b)) (pow_pos (8 * size)) refl (omega (arith, ints)))

pub low-difference : (a b : ℕ) → b < 2 ^ 64 → wrapped_signed 8 (pos a -ℤ pos b) % 2 ^ 32 ≡ wrapped_signed 4 (pos (a % 2 ^ 32) -ℤ pos (b % 2 ^ 32))
low-difference a b small =
    let native : wrapped_signed 8 (pos a -ℤ pos b) ≡ (a + (2 ^ 64 - b)) % 2 ^ 64 = wrapped-difference 8 a b (omega arith) in
    let wasm : wrapped_signed 4 (pos (a % 2 ^ 32) -ℤ pos (b % 2 ^ 32)) ≡ (a % 2 ^ 32 + (2 ^ 32 - b % 2 ^ 32)) % 2 ^ 32 = wrapped-difference 4 (a % 2 ^ 32) (b % 2 ^ 32) (omega arith) in
    ap (λ n. n % 2 ^ 32) native ∙ (omega arith) ∙ sym wasm

pub low-product : (a b : ℕ) → wrapped 8 (a * b) % 2 ^ 32 ≡ wrapped 4 ((a % 2 ^ 32) * (b % 2 ^ 32))
low-product a b = low-wrapped (a * b) ∙ mul-mod a b (2 ^ 32)

pub low-neg : (a : ℕ) → a < 2 ^ 64 → wrapped 8 (2 ^ 64 - a) % 2 ^ 32 ≡ wrapped 4 (2 ^ 32 - a % 2 ^ 32)
low-neg a la = omega arith

pub low-not : (a : ℕ) → a < 2 ^ 64 → (2 ^ 64 - 1 - a) % 2 ^ 32 ≡ 2 ^ 32 - 1 - a % 2 ^ 32
low-not a la = omega arith

pub low-and : (a b : ℕ) → bit_and a b % 2 ^ 32 ≡ bit_and (a % 2 ^ 32) (b % 2 ^ 32)
low-and a b = and_mod a b 32

pub low-or : (a b : ℕ) → bit_or a b % 2 ^ 32 ≡ bit_or (a % 2 ^ 32) (b % 2 ^ 32)
low-or a b = or_mod a b 32

pub low-xor : (a b : ℕ) → bit_xor a b % 2 ^ 32 ≡ bit_xor (a % 2 ^ 32) (b % 2 ^ 32)
low-xor a b = xor_mod a b 32

-- a signed number, wrapped, keeps its low 32 bits
pub low-signed : (z : ℤ) → wrapped_signed 8 z % 2 ^ 32 ≡ wrapped_signed 4 z
low-signed (pos a) = low-wrapped a
low-signed (negsuc a) = omega arith

-- ---- shifts by a constant from 0 to 31

pub low-shifted_left : (a c : ℕ) → wrapped 8 (a * 2 ^ c) % 2 ^ 32 ≡ wrapped 4 (a % 2 ^ 32 * 2 ^ c)
low-shifted_left a c = low-wrapped (a * 2 ^ c) ∙ sym (mul-mod_first a (2 ^ c) (2 ^ 32))

-- a value in the upper half of 64 bits is its low 32 bits there
pub moved-up : (v : ℕ) → wrapped 8 (v * 2 ^ 32) ≡ v % 2 ^ 32 * 2 ^ 32
moved-up v = omega arith

-- a quotient by 2 to the power of 32 and more takes the lower half away first
pub halved : (n c : ℕ) → n / 2 ^ (32 + c) ≡ n / 2 ^ 32 / 2 ^ c
halved n c = ap (λ d. n / d) (pow-add 2 32 c) ∙ sym (div-div-eq-div-mul n (2 ^ 32) (2 ^ c))

-- so a shift to the right there is the shift of the low 32 bits, rounded down
pub floor-of-moved : (v c : ℕ) → wrapped 8 (v * 2 ^ 32) / 2 ^ (32 + c) ≡ v % 2 ^ 32 / 2 ^ c
floor-of-moved v c =
    halved (wrapped 8 (v * 2 ^ 32)) c
    ∙ ap (λ n. n / 2 ^ c) (ap (λ n. n / 2 ^ 32) (moved-up v) ∙ (omega arith))

-- and the same of signed numbers
pub signed-floor-of-moved : (v c : ℕ) → int_shr (as_signed 8 (wrapped 8 (v * 2 ^ 32))) (32 + c) ≡ int_shr (as_signed 4 (v % 2 ^ 32)) c
signed-floor-of-moved v c = ap (λ n. int_shr (as_signed 8 n) (32 + c)) (moved-up v) ∙ go (v % 2 ^ 32) (omega arith) (ltb (v % 2 ^ 32) (2 ^ 31)) refl
  where
    up : (x : ℕ) → (x * 2 ^ 32) / 2 ^ (32 + c) ≡ x / 2 ^ c
    up x = halved (x * 2 ^ 32) c ∙ ap (λ n. n / 2 ^ c) (omega arith)

    down : (x : ℕ) → x < 2 ^ 32 → (2 ^ 64 - 1 - x * 2 ^ 32) / 2 ^ (32 + c) ≡ (2 ^ 32 - 1 - x) / 2 ^ c
    down x small = halved (2 ^ 64 - 1 - x * 2 ^ 32) c ∙ ap (λ n. n / 2 ^ c) (omega arith)

    below : (x n : ℕ) → x < n → pos x -ℤ pos n ≡ negsuc (n - 1 - x)
    below x n less = omega (arith, ints)

    go : (x : ℕ) → x < 2 ^ 32 → (b : Bool) → ltb x (2 ^ 31) ≡ b → int_shr (as_signed 8 (x * 2 ^ 32)) (32 + c) ≡ int_shr (as_signed 4 x) c
    go x small true h =
        let less : x < 2 ^ 31 = ltb-true x (2 ^ 31) h in
        let wide : ltb (x * 2 ^ 32) (2 ^ 63) ≡ true = lt-ltb (x * 2 ^ 32) (2 ^ 63) (omega arith) in
        rw (wide, h) (ap pos (up x))
    go x small false h =
        let more : 2 ^ 31 ≤ x = ltb-false x (2 ^ 31) h in
        let wide : ltb (x * 2 ^ 32) (2 ^ 63) ≡ false = le-ltb (x * 2 ^ 32) (2 ^ 63) (omega arith) in
        rw (wide, h) (ap (λ z. int_shr z (32 + c)) (below (x * 2 ^ 32) (2 ^ 64) (omega arith)) ∙ ap negsuc (down x small) ∙ sym (ap (λ z. int_shr z c) (below x (2 ^ 32) small)))
