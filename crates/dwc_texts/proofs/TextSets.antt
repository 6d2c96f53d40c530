-- The place of a text that is found, and one more text behind the others.
use Rattle.std.proofs.Common.{◌≡◌, ℕ, ◌≤◌, refl, sym, ap, arith, List, [], ◌∷◌, ◌++◌, length, Bool, true, false, ltb, cond, Option, Some, None}
use Rattle.std.specs.Prelude.{if◌then◌else◌, not}
use Rattle.std.specs.List.{list_any, position, position_or_len}
use Rattle.std.specs.Str.{bytes_eq}
use Rattle.std.proofs.lemmas.Bool.{ltb-false}
use Rattle.std.proofs.lemmas.List.Folds.{list_any_at, list_any_none}
use Rattle.std.proofs.lemmas.List.Quantifiers.{position-Some}
use Rattle.std.proofs.lemmas.List.Sums.{fails_before_first, prefix_len-le-length}
use Rattle.dwc_dwarf.specs.TreeLaws.{with_new_text}

-- a text that is found
pub found-text : (t : List ℕ) (ts : List (List ℕ)) (place : ℕ) → Some place ≡ position (bytes_eq t) ts → position_or_len (bytes_eq t) ts ≡ place
found-text t ts place found = go (ltb (position_or_len (bytes_eq t) ts) (length ts)) found
  where
    go : (b : Bool) → Some place ≡ cond {A = Option ℕ} b (Some (position_or_len (bytes_eq t) ts)) None → position_or_len (bytes_eq t) ts ≡ place
    go true is = sym (cc)
    go false is = absurd (cc)

pub known-text : (t : List ℕ) (ts : List (List ℕ)) (place : ℕ) → Some place ≡ position (bytes_eq t) ts → ts ≡ with_new_text ts t
known-text t ts place found =
    let at = position-Some (bytes_eq t) ts place [] (sym found) in
    ap (λ b. if b then ts else ts ++ t ∷ []) (sym (list_any_at (bytes_eq t) ts place [] at.0 at.1))

-- one that is new
pub new-place : (t : List ℕ) (ts : List (List ℕ)) → None ≡ position (bytes_eq t) ts → position_or_len (bytes_eq t) ts ≡ length ts
new-place t ts none = go (ltb (position_or_len (bytes_eq t) ts) (length ts)) refl none
  where
    most : position_or_len (bytes_eq t) ts ≤ length ts
    most = prefix_len-le-length (λ s. not (bytes_eq t s)) ts

    go : (b : Bool) → ltb (position_or_len (bytes_eq t) ts) (length ts) ≡ b → None ≡ cond {A = Option ℕ} b (Some (position_or_len (bytes_eq t) ts)) None → position_or_len (bytes_eq t) ts ≡ length ts
    go true e is = absurd (cc)
    go false e is = let past = ltb-false _ _ e in let low = most in omega (arith, past, low)

pub new-use : (t : List ℕ) (ts : List (List ℕ)) → None ≡ position (bytes_eq t) ts → ts ++ t ∷ [] ≡ with_new_text ts t
new-use t ts none =
    let all = new-place t ts none in
    let any : list_any (bytes_eq t) ts ≡ false = list_any_none (bytes_eq t) ts (λ k d within. fails_before_first (bytes_eq t) ts k d (omega (arith, all, within))) in
    ap (λ b. if b then ts else ts ++ t ∷ []) (sym any)
