-- The native code of a scope, joined where it overlaps or touches.
use Rattle.std.specs.Prelude.{◌≡◌, ◌≤◌, ◌<◌, ◌⊎◌, ℕ, List, [], ◌∷◌, ◌++◌, Bool, false, ◌&&◌, ◌==◌, nat_le, All, AllPairs}
use Rattle.std.specs.Option.{unwrap_or}
use Rattle.dwc_base.specs.Wasm.{last_of}
use Rattle.dwc_native.specs.Placed.{NativeRange, is_byte_of}

-- one range begins at or behind another's begin
abbrev pub IsInOrder : NativeRange → NativeRange → Type 0
IsInOrder r s = (r.function < s.function) ⊎ ((r.function ≡ s.function) × (r.start ≤ s.start))

-- whether one begins in another or at its end
abbrev pub begins_in : NativeRange → NativeRange → Bool
begins_in r s = (r.function == s.function) && nat_le s.start r.end

-- whether one begins so in the last of some
abbrev pub begins_in_last : List NativeRange → NativeRange → Bool
begins_in_last [] s = false
begins_in_last (r ∷ rs) s = begins_in (unwrap_or (last_of rs) r) s

-- one lies before another and does not touch it
abbrev pub IsApart : NativeRange → NativeRange → Type 0
IsApart r s = (r.function < s.function) ⊎ ((r.function ≡ s.function) × (r.end < s.start))

-- some have the bytes of others
abbrev pub HaveBytesOf : List NativeRange → List NativeRange → Type 0
HaveBytesOf rs ss = (function byte : ℕ) → is_byte_of rs function byte ≡ is_byte_of ss function byte

-- Ranges are in order, none touches another, and none is empty.
pub record AreApart (rs : List NativeRange) : Type 0 where
  pub nonempty : All (λ r. r.start < r.end) rs
  pub apart : AllPairs IsApart rs

-- Ranges are so, have the bytes of others, and end where those do or below.
pub record AreJoined (scope rs : List NativeRange) : Type 0 where
  pub apart : AreApart rs
  pub same : HaveBytesOf rs scope
  pub low : (n : ℕ) → All (λ r. r.end < n) scope → All (λ r. r.end < n) rs

-- One range that is not empty is added to joined ones, if none of them begins behind its begin.
pub record IsAdded (r : NativeRange) (old new : List NativeRange) : Type 0 where
  pub joined : AreJoined (old ++ r ∷ []) new
  pub in_order : All (λ s. IsInOrder s r) new

abbrev pub Adds : NativeRange → List NativeRange → List NativeRange → Type 0
Adds r old new = r.start < r.end → AreApart old → All (λ s. IsInOrder s r) old → IsAdded r old new
