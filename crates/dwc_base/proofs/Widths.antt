-- The number that bytes spell is what `from_le_bytes` and `from_be_bytes` give.
use Rattle.std.proofs.Common.{◌≡◌, ℕ, [], ◌∷◌, arith}
use Rattle.std.specs.Int.{w16, w32, w64, from_le_bytes, from_be_bytes}
use Rattle.dwc_base.specs.declared.records.Endian.TheVariants.{Little, Big}
use Rattle.dwc_base.specs.Reading.{number}

pub number-le_2 : (a b : ℕ) → number Little (a ∷ b ∷ []) ≡ from_le_bytes w16 (a ∷ b ∷ [])
number-le_2 a b = omega arith

pub number-be_2 : (a b : ℕ) → number Big (a ∷ b ∷ []) ≡ from_be_bytes w16 (a ∷ b ∷ [])
number-be_2 a b = omega arith

pub number-le_4 : (a b c d : ℕ) → number Little (a ∷ b ∷ c ∷ d ∷ []) ≡ from_le_bytes w32 (a ∷ b ∷ c ∷ d ∷ [])
number-le_4 a b c d = omega arith

pub number-be_4 : (a b c d : ℕ) → number Big (a ∷ b ∷ c ∷ d ∷ []) ≡ from_be_bytes w32 (a ∷ b ∷ c ∷ d ∷ [])
number-be_4 a b c d = omega arith

pub number-le_8 : (a b c d e f g h : ℕ) → number Little (a ∷ b ∷ c ∷ d ∷ e ∷ f ∷ g ∷ h ∷ []) ≡ from_le_bytes w64 (a ∷ b ∷ c ∷ d ∷ e ∷ f ∷ g ∷ h ∷ [])
number-le_8 a b c d e f g h = omega arith

pub number-be_8 : (a b c d e f g h : ℕ) → number Big (a ∷ b ∷ c ∷ d ∷ e ∷ f ∷ g ∷ h ∷ []) ≡ from_be_bytes w64 (a ∷ b ∷ c ∷ d ∷ e ∷ f ∷ g ∷ h ∷ [])
number-be_8 a b c d e f g h = omega arith
