-- How many bytes a LEB128 number has at most. (DWARF 4, section 7.6.)
use Rattle.std.proofs.Common.{◌≡◌, ℕ, zero, suc, ◌+◌, ◌*◌, ◌/◌, ◌%◌, ◌-◌, ◌^◌, ◌<◌, ◌≤◌, pos, negsuc, refl, ap, arith, [], ◌∷◌, length, Bool, true, false, ltb}
use Rattle.std.specs.Prelude.{ℤ, nat_abs}
use Rattle.std.proofs.lemmas.Bool.{lt-ltb}
use Rattle.dwc_base.specs.NumberBytes.{uleb_bytes, sleb_bytes, sleb_bytes_from_0, sleb_bytes_below_0}
use Rattle.dwc_section.proofs.ReadNumbers.{uleb_bytes-length}

from_0-most : (m k n : ℕ) → n < 64 * 128 ^ k → length (sleb_bytes_from_0 m n) ≤ suc k
unfolding sleb_bytes_from_0
from_0-most zero k n small = omega arith
from_0-most (suc m) zero n small = let is : ltb n 64 ≡ true = lt-ltb n 64 (omega arith) in rw (is, sleb_bytes_from_0) (omega arith)
from_0-most (suc m) (suc k) n small = go (ltb n 64) (from_0-most m k (n / 128) (omega arith))
  where
    go : (b : Bool) → length (sleb_bytes_from_0 m (n / 128)) ≤ suc k → length {A = ℕ} (elim b [ true ↦ n ∷ [] | false ↦ (128 + n % 128) ∷ sleb_bytes_from_0 m (n / 128) ]) ≤ suc (suc k)
    go true h = omega arith
    go false h = omega (arith, h)

pub sleb-most : (n : ℕ) → n ≤ 2 ^ 64 → length (sleb_bytes (pos n)) ≤ 10
unfolding sleb_bytes
sleb-most n small = from_0-most n 9 n (omega arith)

below-same : (m n : ℕ) → length (sleb_bytes_below_0 m n) ≡ length (sleb_bytes_from_0 m n)
unfolding sleb_bytes_from_0 sleb_bytes_below_0
below-same zero n = refl
below-same (suc m) n = go (ltb n 64) (below-same m (n / 128))
  where
    go : (b : Bool) → length (sleb_bytes_below_0 m (n / 128)) ≡ length (sleb_bytes_from_0 m (n / 128))
        → length {A = ℕ} (elim b [ true ↦ (127 - n) ∷ [] | false ↦ (255 - n % 128) ∷ sleb_bytes_below_0 m (n / 128) ]) ≡ length {A = ℕ} (elim b [ true ↦ n ∷ [] | false ↦ (128 + n % 128) ∷ sleb_bytes_from_0 m (n / 128) ])
    go true h = refl
    go false h = ap suc h

-- a number below 0 is as long as the one that is so much below -1
pub below_length : (n : ℕ) → length (sleb_bytes (negsuc n)) ≡ length (sleb_bytes (pos n))
unfolding sleb_bytes
below_length n = below-same n n

pub uleb-10 : (n : ℕ) → n < 2 ^ 64 → length (uleb_bytes n) ≤ 10
uleb-10 n small = uleb_bytes-length 9 n (omega arith)

pub sleb-10 : (z : ℤ) → nat_abs z ≤ 2 ^ 64 → length (sleb_bytes z) ≤ 10
sleb-10 (pos n) small = sleb-most n small
sleb-10 (negsuc n) small = omega (arith, below_length n, sleb-most n (omega (arith, small)))
