-- What the low seven bits of bytes spell, byte by byte, and the LEB128 numbers among them.
use Rattle.std.proofs.Common.{◌≡◌, ℕ, zero, suc, ◌+◌, ◌*◌, ◌%◌, ◌^◌, ◌≤◌, ◌<◌, List, [], ◌∷◌, length, drop, take, get_or, refl, ap, arith, add-one, Some, None, Ok, Err}
use Rattle.std.proofs.Math.Seq.{drop-cons}
use Rattle.std.proofs.lemmas.Bool.{lt-ltb, le-ltb}
use Rattle.dwc_base.specs.declared.faults.Flaw.TheVariants.{EndsEarly, TooWide}
use Rattle.dwc_base.specs.Reading.{Unread, passed, uleb_value, uleb_at}
use Rattle.dwc_base.specs.Lebs.{low_seven_bits_value}

-- one byte more at the front
pub low_seven_bits_value-drop : (bytes : List ℕ) (k : ℕ) → k < length bytes → low_seven_bits_value (drop k bytes) ≡ get_or bytes k 0 % 128 + 128 * low_seven_bits_value (drop (k + 1) bytes)
low_seven_bits_value-drop bytes k h = rw (add-one, drop-cons bytes k 0) refl

-- the whole is at least what it is from any byte on
pub low_seven_bits_value-le : (bytes : List ℕ) (k : ℕ) → low_seven_bits_value (drop k bytes) ≤ low_seven_bits_value bytes
low_seven_bits_value-le bytes zero = omega arith
low_seven_bits_value-le [] (suc k) = omega arith
low_seven_bits_value-le (b ∷ bs) (suc k) = omega (arith, low_seven_bits_value-le bs k)

-- a number ends at its first byte below 128
pub uleb_value-ends : (bytes : List ℕ) (k : ℕ) → k < length bytes → get_or bytes k 0 < 128 → ((j : ℕ) → j < k → 128 ≤ get_or bytes j 0) → uleb_value bytes ≡ Some (low_seven_bits_value (take (suc k) bytes), suc k)
uleb_value-ends [] k inside last before = absurd (omega arith)
uleb_value-ends (b ∷ bs) zero inside last before =
    let low : b < 128 = last in
    let same : b ≡ b % 128 + 0 = omega arith in
    rw lt-ltb (ap (λ (n : ℕ). Some (n, 1)) same)
uleb_value-ends (b ∷ bs) (suc k) inside last before =
    let high : 128 ≤ b = before 0 (omega arith) in
    let rest : uleb_value bs ≡ Some (low_seven_bits_value (take (suc k) bs), suc k) = uleb_value-ends bs k (omega arith) last (λ j h. before (suc j) (omega arith)) in
    rw (le-ltb, rest) refl

-- bytes that all have their top bit are no number
pub uleb_value-none : (bytes : List ℕ) → ((j : ℕ) → j < length bytes → 128 ≤ get_or bytes j 0) → uleb_value bytes ≡ None
uleb_value-none [] h = refl
uleb_value-none (b ∷ bs) h =
    let high : 128 ≤ b = h 0 (omega arith) in
    let rest : uleb_value bs ≡ None = uleb_value-none bs (λ j less. h (suc j) (omega arith)) in
    rw (le-ltb, rest) refl

-- a number that fits 64 bits is read, and another is too wide
pub uleb_at-fits : (u : Unread) (n count : ℕ) → uleb_value u.left ≡ Some (n, count) → n < 2 ^ 64 → uleb_at u ≡ Ok (n, passed count u)
unfolding uleb_at
uleb_at-fits u n count h fits = rw (h, lt-ltb) refl

pub uleb_at-wide : (u : Unread) (n count : ℕ) → uleb_value u.left ≡ Some (n, count) → (n < 2 ^ 64 → ⊥) → uleb_at u ≡ Err TooWide
unfolding uleb_at
uleb_at-wide u n count h past = let wide : 2 ^ 64 ≤ n = omega arith in rw (h, le-ltb) refl

pub uleb_at-none : (u : Unread) → uleb_value u.left ≡ None → uleb_at u ≡ Err EndsEarly
unfolding uleb_at
uleb_at-none u h = rw h refl
