-- The first entry of a walk over entries that hold their parents has depth 0, where the entries stand in file order.
use Rattle.std.proofs.Common.{◌≡◌, ℕ, zero, suc, ◌≤◌, Bool, true, false, cond, List, [], ◌∷◌, ◌++◌, slice_get, Contains, Option, Some, None, refl, ap, sym, subst, ◌∙◌, arith, inl, inr}
use Rattle.std.specs.Prelude.{◌==◌, not, unwrap_or}
use Rattle.std.specs.List.{filter, take_while}
use Rattle.std.proofs.lemmas.Bool.{eq-eqb, eqb-false, ne_eqb}
use Rattle.std.proofs.lemmas.List.Sums.{take_while-cons}
use Rattle.std.proofs.lemmas.Option.{get_or_from_slice_get, slice_get_within}
use Rattle.dwc_rules.specs.Kept.{Placed, parent_of, same_place}
use Rattle.dwc_rules.specs.Scopes.{IsWalk, Rises, Steps}
use Rattle.dwc_base.specs.Wasm.{last_of}
use Rattle.dwc_base.proofs.InLists.{IsIn, contains-in, in-filter}

-- entries of which one is the first that passes a test
record BeginsAt (test : Placed → Bool) (es : List Placed) (e : Placed) : Type 0 where
  front : List Placed
  behind : List Placed
  are : es ≡ front ++ e ∷ behind
  fail : (x : Placed) → IsIn x front → test x ≡ false

begins-at : (test : Placed → Bool) (e : Placed) (es : List Placed) → slice_get (filter test es) 0 ≡ Some e → BeginsAt test es e
begins-at test e [] first = absurd (cc)
begins-at test e (x ∷ es) first = go (test x) refl first (begins-at test e es)
  where
    go : (t : Bool) → test x ≡ t → slice_get (cond t (x ∷ filter test es) (filter test es)) 0 ≡ Some e → (slice_get (filter test es) 0 ≡ Some e → BeginsAt test es e) → BeginsAt test (x ∷ es) e
    go true is h more = record { front = []; behind = es; are = ap (λ o. unwrap_or o x ∷ es) h; fail = λ y i. absurd i }
    go false is h more = later (more h)
      where
        later : BeginsAt test es e → BeginsAt test (x ∷ es) e
        later b = record { front = x ∷ b.front; behind = b.behind; are = ap (λ ys. x ∷ ys) b.are; fail = fails }
          where
            fails : (y : Placed) → IsIn y (x ∷ b.front) → test y ≡ false
            fails y (inl same) = ap test same ∙ is
            fails y (inr i) = b.fail y i

last-in : {A : Type 0} (xs : List A) (y : A) → last_of xs ≡ Some y → IsIn y xs
last-in [] y is = absurd (cc)
last-in {A} (x ∷ xs) y is = go (last_of xs) refl is (last-in xs)
  where
    go : (o : Option A) → last_of xs ≡ o → Some (unwrap_or o x) ≡ Some y → ((z : A) → last_of xs ≡ Some z → IsIn z xs) → IsIn y (x ∷ xs)
    go None none h others = inl (sym (ap (λ o. unwrap_or o x) h))
    go (Some z) some h others = inr (others y (some ∙ h))

-- the entries before one that lies deeper than they begin have one that is one less deep
module _ (e : Placed) (behind : List Placed) (m : ℕ) (deep : e.entry.depth ≡ suc m) where
  abbrev above : Placed → Bool
  above p = suc p.entry.depth == suc m

  has-above : (most : ℕ) (front : List Placed) → most ≤ m → Steps most (front ++ e ∷ behind) → last_of (filter above front) ≡ None → ⊥
  has-above most [] low steps none = absurd (omega (arith, low, steps.0, deep))
  has-above most (p ∷ ps) low steps none = go (above p) refl none (λ less. has-above (suc p.entry.depth) ps less steps.1)
    where
      go : (b : Bool) → above p ≡ b → last_of (cond b (p ∷ filter above ps) (filter above ps)) ≡ None → (suc p.entry.depth ≤ m → last_of (filter above ps) ≡ None → ⊥) → ⊥
      go true is h others = absurd (cc)
      go false is h others = others (omega (arith, low, steps.0, eqb-false (suc p.entry.depth) (suc m) is)) h

module _ (e : Placed) (behind : List Placed) where
  abbrev other : Placed → Bool
  other p = not (same_place e p)

  rises-to : (low : ℕ) (front : List Placed) → Rises low (front ++ e ∷ behind) → low ≤ e.entry.offset
  rises-to low [] rises = rises.0
  rises-to low (p ∷ ps) rises = let more = rises-to (suc p.entry.offset) ps rises.1 in omega (arith, rises.0, more)

  -- what stands before an entry
  before : (low : ℕ) (front : List Placed) → Rises low (front ++ e ∷ behind) → take_while other (front ++ e ∷ behind) ≡ front
  before low [] rises = take_while-cons other e behind ∙ ap (λ b. cond {A = List Placed} (not b) (e ∷ take_while other behind) []) (eq-eqb e.entry.offset e.entry.offset refl)
  before low (p ∷ ps) rises =
      let less = rises-to (suc p.entry.offset) ps rises.1 in
      take_while-cons other p (ps ++ e ∷ behind)
      ∙ ap (λ b. cond {A = List Placed} (not b) (p ∷ take_while other (ps ++ e ∷ behind)) []) (ne_eqb e.entry.offset p.entry.offset (λ same. absurd (omega (arith, same, less))))
      ∙ ap (λ ys. p ∷ ys) (before (suc p.entry.offset) ps rises.1)

module _ (es kept : List Placed) (rises : Rises 0 es) (steps : Steps 0 es) (walk : IsWalk es kept) (e : Placed) (first : slice_get kept 0 ≡ Some e) where
  begins : BeginsAt walk.test es e
  begins = begins-at walk.test e es (ap (λ ps. slice_get ps 0) (sym walk.are) ∙ first)

  -- an entry that is deeper has a parent, which is before it in the walk
  no-parent : (m : ℕ) → e.entry.depth ≡ suc m → (o : Option Placed) → last_of (filter (λ p. suc p.entry.depth == suc m) begins.front) ≡ o → ⊥
  no-parent m deep None none = has-above e begins.behind m deep 0 begins.front (omega arith) (subst (Steps 0) begins.are steps) none
  no-parent m deep (Some p) some =
      let found : parent_of es e ≡ Some p =
      ap (λ ps. last_of (filter (λ p. suc p.entry.depth == e.entry.depth) ps)) (ap (take_while (other e begins.behind)) begins.are ∙ before e begins.behind 0 begins.front (subst (Rises 0) begins.are rises))
      ∙ ap (λ d. last_of (filter (λ p. suc p.entry.depth == d) begins.front)) deep
      ∙ some
      in
      let has_e : Contains kept e = (0, slice_get_within kept 0 e first, get_or_from_slice_get kept 0 e e first) in
      let passes : walk.test p ≡ true = (in-filter walk.test es p (subst (IsIn p) walk.are (contains-in kept p (walk.parents e p has_e found)))).1 in
      let fails : walk.test p ≡ false = begins.fail p (in-filter (λ p. suc p.entry.depth == suc m) begins.front p (last-in (filter (λ p. suc p.entry.depth == suc m) begins.front) p some)).0 in
      absurd (cc)

  pub first-is-root : e.entry.depth ≡ 0
  first-is-root = go e.entry.depth refl
    where
      go : (d : ℕ) → e.entry.depth ≡ d → e.entry.depth ≡ 0
      go zero is = is
      go (suc m) is = absurd (no-parent m is (last_of (filter (λ p. suc p.entry.depth == suc m) begins.front)) refl)
