-- Names have no zero byte.
use Rattle.std.proofs.Common.{◌≡◌, ℕ, ◌<◌, ◌^◌, arith, List, [], ◌∷◌, false, refl}
use Rattle.std.specs.Prelude.{◌==◌, codes}
use Rattle.std.specs.Fmt.{decimal}
use Rattle.std.specs.List.{All, list_any}
use Rattle.std.proofs.lemmas.Fmt.{decimal_is_IsNumeral}
use Rattle.std.proofs.lemmas.Str.Parse.{digit_at}
use Rattle.std.proofs.lemmas.Bool.{or_parts, eqb-false}
use Rattle.std.proofs.lemmas.List.Elements.{All-append, All-cons, All-nil, All-from_get_or}
use Rattle.dwc_carry.specs.SimulatedNames.{numbered_function, numbered_local}

-- bytes without a zero
pub plain_bytes : (bytes : List ℕ) → list_any (λ b. b == 0) bytes ≡ false → All (λ b. 0 < b) bytes
plain_bytes [] none = All-nil (λ b. 0 < b)
plain_bytes (b ∷ bs) none =
    let parts = or_parts (b == 0) (list_any (λ b. b == 0) bs) none in
    All-cons (λ b. 0 < b) b bs (omega (arith, eqb-false b 0 parts.0)) (plain_bytes bs parts.1)

-- a number in decimal
plain-decimal : (n : ℕ) → n < 2 ^ 64 → All (λ b. 0 < b) (decimal n)
plain-decimal n small = All-from_get_or (λ b. 0 < b) (decimal n) 0 (λ i less. omega (arith, digit_at (decimal n) i (decimal_is_IsNumeral n small).0.1 less))

pub plain-function : (n : ℕ) → n < 2 ^ 64 → All (λ b. 0 < b) (numbered_function n)
plain-function n small = All-append (λ b. 0 < b) (codes "wasm-function[") _ (plain_bytes (codes "wasm-function[") refl) (All-append (λ b. 0 < b) (decimal n) (codes "]") (plain-decimal n small) (plain_bytes (codes "]") refl))

pub plain-local : (n : ℕ) → n < 2 ^ 64 → All (λ b. 0 < b) (numbered_local n)
plain-local n small = All-append (λ b. 0 < b) (codes "var") (decimal n) (plain_bytes (codes "var") refl) (plain-decimal n small)
