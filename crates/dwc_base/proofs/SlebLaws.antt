-- Signed LEB128 numbers, byte by byte.
use Rattle.std.proofs.Common.{◌≡◌, ℕ, zero, suc, ◌+◌, ◌%◌, ◌≤◌, ◌<◌, List, [], ◌∷◌, length, drop, take, get_or, refl, arith, add-one, Some, None, Ok, Err, true, false}
use Rattle.std.specs.Prelude.{ℤ, pos, ◌+ℤ◌, ◌*ℤ◌, FitsSigned}
use Rattle.std.specs.Int.{w64}
use Rattle.std.proofs.Math.Seq.{drop-cons}
use Rattle.std.proofs.lemmas.Int.{ints}
use Rattle.std.proofs.lemmas.Bool.{lt-ltb, le-ltb}
use Rattle.dwc_base.specs.declared.faults.Flaw.TheVariants.{EndsEarly, TooWide}
use Rattle.dwc_base.specs.Reading.{Unread, passed, sleb_value, sleb_at, is_64_bit}
use Rattle.dwc_base.specs.Lebs.{signed_low_value}

-- one byte more at the front of some
pub signed_low_value-drop : (bytes : List ℕ) (k : ℕ) → k + 1 < length bytes → signed_low_value (drop k bytes) ≡ pos (get_or bytes k 0 % 128) +ℤ pos 128 *ℤ signed_low_value (drop (k + 1) bytes)
signed_low_value-drop bytes k h =
    let here : k < length bytes = omega arith in
    let next : suc k < length bytes = omega arith in
    rw (add-one, drop-cons bytes k 0, drop-cons bytes (suc k) 0) refl

fits-inner : (low : ℕ) (z : ℤ) → low < 128 → FitsSigned w64 (pos low +ℤ pos 128 *ℤ z) → FitsSigned w64 z
fits-inner low z small h = omega (arith, ints)

-- what does not fit stays so with more bytes in front
pub signed_low_value-unfit : (bytes : List ℕ) (k : ℕ) → k < length bytes → (FitsSigned w64 (signed_low_value (drop k bytes)) → ⊥) → FitsSigned w64 (signed_low_value bytes) → ⊥
signed_low_value-unfit bytes zero h past fits = past fits
signed_low_value-unfit [] (suc k) h past fits = absurd (omega arith)
signed_low_value-unfit (b ∷ []) (suc k) h past fits = absurd (omega arith)
signed_low_value-unfit (b ∷ c ∷ bs) (suc k) h past fits = signed_low_value-unfit (c ∷ bs) k (omega arith) past (fits-inner (b % 128) (signed_low_value (c ∷ bs)) (omega arith) fits)

-- a number ends at its first byte below 128
pub sleb_value-ends : (bytes : List ℕ) (k : ℕ) → k < length bytes → get_or bytes k 0 < 128 → ((j : ℕ) → j < k → 128 ≤ get_or bytes j 0) → sleb_value bytes ≡ Some (signed_low_value (take (suc k) bytes), suc k)
sleb_value-ends [] k inside last before = absurd (omega arith)
sleb_value-ends (b ∷ bs) zero inside last before =
    let low : b < 128 = last in
    rw lt-ltb refl
sleb_value-ends (b ∷ []) (suc k) inside last before = absurd (omega arith)
sleb_value-ends (b ∷ c ∷ bs) (suc k) inside last before =
    let high : 128 ≤ b = before 0 (omega arith) in
    let rest : sleb_value (c ∷ bs) ≡ Some (signed_low_value (take (suc k) (c ∷ bs)), suc k) = sleb_value-ends (c ∷ bs) k (omega arith) last (λ j h. before (suc j) (omega arith)) in
    rw (le-ltb, rest) refl

pub sleb_value-none : (bytes : List ℕ) → ((j : ℕ) → j < length bytes → 128 ≤ get_or bytes j 0) → sleb_value bytes ≡ None
sleb_value-none [] h = refl
sleb_value-none (b ∷ bs) h =
    let high : 128 ≤ b = h 0 (omega arith) in
    let rest : sleb_value bs ≡ None = sleb_value-none bs (λ j less. h (suc j) (omega arith)) in
    rw (le-ltb, rest) refl

-- the test of the definition, and the range of the type
pub is_64_bit-fits : (n : ℤ) → FitsSigned w64 n → is_64_bit n ≡ true
is_64_bit-fits n h = grind (arith, ints)

pub is_64_bit-unfit : (n : ℤ) → (FitsSigned w64 n → ⊥) → is_64_bit n ≡ false
is_64_bit-unfit n h = grind (arith, ints)

-- a number that fits 64 bits is read, and another is too wide
pub sleb_at-fits : (u : Unread) (n : ℤ) (count : ℕ) → sleb_value u.left ≡ Some (n, count) → FitsSigned w64 n → sleb_at u ≡ Ok (n, passed count u)
unfolding sleb_at
sleb_at-fits u n count h fits = rw (h, is_64_bit-fits n fits) refl

pub sleb_at-wide : (u : Unread) (n : ℤ) (count : ℕ) → sleb_value u.left ≡ Some (n, count) → (FitsSigned w64 n → ⊥) → sleb_at u ≡ Err TooWide
unfolding sleb_at
sleb_at-wide u n count h past = rw (h, is_64_bit-unfit n past) refl

pub sleb_at-none : (u : Unread) → sleb_value u.left ≡ None → sleb_at u ≡ Err EndsEarly
unfolding sleb_at
sleb_at-none u h = rw h refl
