-- Texts without a line feed.
use Rattle.std.proofs.Common.{◌≡◌, ℕ, zero, suc, List, [], ◌∷◌, ◌++◌, take, true, refl}
use Rattle.std.specs.Prelude.{◌==◌, not}
use Rattle.std.proofs.lemmas.Bool.{and_parts}
use Rattle.dwc_cli.specs.Printed.{is_line}

pub is_line-append : (xs ys : List ℕ) → is_line xs ≡ true → is_line ys ≡ true → is_line (xs ++ ys) ≡ true
is_line-append [] ys p q = q
is_line-append (x ∷ xs) ys p q =
    let a = and_parts (not (x == 10)) (is_line xs) p in
    rw (a.0) (is_line-append xs ys a.1 q)

pub front_is_line : (n : ℕ) (xs : List ℕ) → is_line xs ≡ true → is_line (take n xs) ≡ true
front_is_line zero xs p = refl
front_is_line (suc n) [] p = refl
front_is_line (suc n) (x ∷ xs) p =
    let a = and_parts (not (x == 10)) (is_line xs) p in
    rw (a.0) (front_is_line n xs a.1)
