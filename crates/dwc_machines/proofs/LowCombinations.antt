-- Rules that combine two elements, or change one, and keep the low 32 bits.
use Rattle.std.proofs.Common.{◌≡◌, ℕ, ◌+◌, ◌-◌, ◌*◌, ◌^◌, ◌%◌, ◌<◌, refl, sym, ap, subst, ◌∙◌, arith, List, [], ◌∷◌, Option, Some, Ok}
use Rattle.std.specs.Prelude.{pos, ◌-ℤ◌, bit_and, bit_or, bit_xor, option_map, ok_or}
use Rattle.std.proofs.lemmas.Nat.{and_mod, or_mod, xor_mod}
use Rattle.dwc_machines.specs.StackOperations.{divides_by_0, wrapped, wrapped_signed, combines, changes, sum_of, difference, product_of, by_rule}
use Rattle.dwc_machines.proofs.LowBits.{low-sum, low-difference, wrapped-difference, low-product, low-neg, low-not, low-and, low-or, low-xor}
use Rattle.dwc_machines.proofs.LowNumbers.{Gives, IsLow, KeepsLow, Low, made, ok-is}

-- ---- what combines two, and what changes one

-- a function of two numbers of 64 bits, and that of 32, on their low bits
pub record CombinesLow (f : ℕ → ℕ → ℕ → Option ℕ) : Type 0 where
  pub wide : ℕ → ℕ → ℕ
  pub narrow : ℕ → ℕ → ℕ
  pub of_8 : (a b : ℕ) → f 8 a b ≡ Some (wide a b)
  pub of_4 : (a b : ℕ) → f 4 a b ≡ Some (narrow a b)
  pub low : (a b : ℕ) → a < 2 ^ 64 → b < 2 ^ 64 → IsLow (wide a b) (narrow (a % 2 ^ 32) (b % 2 ^ 32))

pub keeps-combines : (operand : ℕ) (f : ℕ → ℕ → ℕ → Option ℕ) → CombinesLow f → KeepsLow operand (combines f)
keeps-combines operand f w = record { keeps = go }
  where
    go : (s t u : List ℕ) → Low s t → by_rule 4 operand (combines f) t ≡ Ok u → Gives (by_rule 8 operand (combines f) s) u
    go [] [] u l h = absurd (cc)
    go [] (d ∷ t) u l h = absurd l
    go (b ∷ s) [] u l h = absurd l
    go (b ∷ []) (d ∷ []) u l h = absurd (cc)
    go (b ∷ []) (d ∷ c ∷ t) u l h = absurd l.1
    go (b ∷ a ∷ s) (d ∷ []) u l h = absurd l.1
    go (b ∷ a ∷ s) (d ∷ c ∷ t) u l h =
        let same : w.narrow (a % 2 ^ 32) (b % 2 ^ 32) ≡ w.narrow c d = ap (λ x. w.narrow x (b % 2 ^ 32)) ((l.1).0).0 ∙ ap (w.narrow c) (l.0).0 in
        let given : ok_or (option_map (λ x. x ∷ t) (f 4 c d)) divides_by_0 ≡ Ok (w.narrow c d ∷ t) = ap (λ o. ok_or (option_map (λ x. x ∷ t) o) divides_by_0) (w.of_4 c d) in
        record {
          stack = w.wide a b ∷ s;
          is = ap (λ o. ok_or (option_map (λ x. x ∷ s) o) divides_by_0) (w.of_8 a b);
          low = subst (Low (w.wide a b ∷ s)) (ok-is (sym given ∙ h)) (subst (IsLow (w.wide a b)) same (w.low a b ((l.1).0).1 (l.0).1), (l.1).1);
        }

pub low-sums : CombinesLow sum_of
low-sums = record { wide = λ a b. wrapped 8 (a + b); narrow = λ a b. wrapped 4 (a + b); of_8 = λ a b. refl; of_4 = λ a b. refl; low = λ a b la lb. (low-sum a b, omega arith) }

pub low-differences : CombinesLow difference
low-differences = record {
  wide = λ a b. wrapped_signed 8 (pos a -ℤ pos b);
  narrow = λ a b. wrapped_signed 4 (pos a -ℤ pos b);
  of_8 = λ a b. refl;
  of_4 = λ a b. refl;
  low = λ a b la lb.
      let is : wrapped_signed 8 (pos a -ℤ pos b) ≡ (a + (2 ^ 64 - b)) % 2 ^ 64 = wrapped-difference 8 a b (omega (arith, lb)) in
      (low-difference a b lb, omega (arith, is));
}

pub low-products : CombinesLow product_of
low-products = record { wide = λ a b. wrapped 8 (a * b); narrow = λ a b. wrapped 4 (a * b); of_8 = λ a b. refl; of_4 = λ a b. refl; low = λ a b la lb. (low-product a b, small (a * b)) }
  where
    small : (n : ℕ) → wrapped 8 n < 2 ^ 64
    small n = omega arith

-- bit by bit
same-64 : (a : ℕ) → a < 2 ^ 64 → a % 2 ^ 64 ≡ a
same-64 a small = omega arith

below : (n m : ℕ) → n % 2 ^ 64 ≡ m → m < 2 ^ 64
below n m h = omega (arith, h)

pub low-ands : CombinesLow (λ size a b. Some (bit_and a b))
low-ands = record {
  wide = bit_and;
  narrow = bit_and;
  of_8 = λ a b. refl;
  of_4 = λ a b. refl;
  low = λ a b la lb. (low-and a b, below (bit_and a b) (bit_and a b) (and_mod a b 64 ∙ ap (λ x. bit_and x (b % 2 ^ 64)) (same-64 a la) ∙ ap (bit_and a) (same-64 b lb)));
}

pub low-ors : CombinesLow (λ size a b. Some (bit_or a b))
low-ors = record {
  wide = bit_or;
  narrow = bit_or;
  of_8 = λ a b. refl;
  of_4 = λ a b. refl;
  low = λ a b la lb. (low-or a b, below (bit_or a b) (bit_or a b) (or_mod a b 64 ∙ ap (λ x. bit_or x (b % 2 ^ 64)) (same-64 a la) ∙ ap (bit_or a) (same-64 b lb)));
}

pub low-xors : CombinesLow (λ size a b. Some (bit_xor a b))
low-xors = record {
  wide = bit_xor;
  narrow = bit_xor;
  of_8 = λ a b. refl;
  of_4 = λ a b. refl;
  low = λ a b la lb. (low-xor a b, below (bit_xor a b) (bit_xor a b) (xor_mod a b 64 ∙ ap (λ x. bit_xor x (b % 2 ^ 64)) (same-64 a la) ∙ ap (bit_xor a) (same-64 b lb)));
}

pub keeps-changes : (operand : ℕ) (f : ℕ → ℕ → ℕ) → ((a : ℕ) → a < 2 ^ 64 → IsLow (f 8 a) (f 4 (a % 2 ^ 32))) → KeepsLow operand (changes f)
keeps-changes operand f w = record { keeps = go }
  where
    go : (s t u : List ℕ) → Low s t → by_rule 4 operand (changes f) t ≡ Ok u → Gives (by_rule 8 operand (changes f) s) u
    go [] [] u l h = absurd (cc)
    go [] (b ∷ t) u l h = absurd l
    go (a ∷ s) [] u l h = absurd l
    go (a ∷ s) (b ∷ t) u l h = made (f 8 a ∷ s) (f 4 b ∷ t) u (subst (λ c. IsLow (f 8 a) (f 4 c)) (l.0).0 (w a (l.0).1), l.1) h

pub low-negs : (a : ℕ) → a < 2 ^ 64 → IsLow (wrapped 8 (2 ^ (8 * 8) - a)) (wrapped 4 (2 ^ (8 * 4) - a % 2 ^ 32))
low-negs a small = (low-neg a small, omega arith)

pub low-nots : (a : ℕ) → a < 2 ^ 64 → IsLow (2 ^ (8 * 8) - 1 - a) (2 ^ (8 * 4) - 1 - a % 2 ^ 32)
low-nots a small = (low-not a small, omega arith)
