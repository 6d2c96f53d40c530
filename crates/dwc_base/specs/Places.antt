-- Places in a wasm file.
use Rattle.std.specs.Prelude.{ℕ, ◌≡◌, ◌-◌, ◌^◌, ◌==◌, Bool, true, false, if◌then◌else◌, Option, Some, None}
use Rattle.std.specs.Option.{unwrap_or}
use Rattle.std.proofs.Common.{refl, sym}
use Rattle.std.proofs.lemmas.Bool.{eqb-true}

-- the offset that a number of 32 bits stands for; the greatest stands for no place
abbrev pub place_of : ℕ → Option ℕ
place_of n = if n == 2 ^ 32 - 1 then None else Some n

-- a place gives back the number that stands for it
pub number-of-place : (n : ℕ) → unwrap_or (place_of n) (2 ^ 32 - 1) ≡ n
number-of-place n = go (n == 2 ^ 32 - 1) refl
  where
    go : (b : Bool) → (n == 2 ^ 32 - 1) ≡ b → unwrap_or (if b then None else Some n) (2 ^ 32 - 1) ≡ n
    go true same = sym (eqb-true n (2 ^ 32 - 1) same)
    go false _ = refl
