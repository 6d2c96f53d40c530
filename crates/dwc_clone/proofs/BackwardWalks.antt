-- Entries in file order, read backward: how their offsets and depths go, and which is the parent of one.
use Rattle.std.proofs.Common.{◌≡◌, ℕ, suc, ◌+◌, ◌<◌, ◌≤◌, Bool, true, false, cond, List, [], ◌∷◌, take, Option, Some, None, refl, ap, subst, ◌∙◌, arith, one-add, inl, inr}
use Rattle.std.specs.Prelude.{◌==◌, not, unwrap_or}
use Rattle.std.specs.List.{filter, prefix_len, take_while}
use Rattle.std.proofs.lemmas.Bool.{eq-eqb, ne_eqb, not_from_false}
use Rattle.dwc_rules.specs.Kept.{Placed, parent_of, same_place}
use Rattle.dwc_base.specs.Listing.{first_of}
use Rattle.dwc_rules.specs.Scopes.{Rises, Steps}
use Rattle.dwc_base.specs.Wasm.{last_of}
use Rattle.dwc_base.proofs.InLists.{IsIn}
use Rattle.dwc_rules.proofs.StackWalks.{Falls, StepsBack, deepest_after, low_after, nearest_above, unwind}

-- of entries in front of others
pub falls : (rs zs : List Placed) → Rises 0 (unwind rs zs) → Falls rs × Rises (low_after rs) zs
falls [] zs h = (tt, h)
falls (r ∷ rs) zs h = let both = falls rs (r ∷ zs) h in ((both.1.0, both.0), both.1.1)

pub steps-back : (rs zs : List Placed) → Steps 0 (unwind rs zs) → StepsBack rs × Steps (deepest_after rs) zs
steps-back [] zs h = (tt, h)
steps-back (r ∷ rs) zs h = let both = steps-back rs (r ∷ zs) h in ((both.1.0, both.0), both.1.1)

-- the first of two values that is there
abbrev or_else : {A : Type 0} → Option A → Option A → Option A
or_else None o = o
or_else (Some x) o = Some x

module _ {A : Type 0} (t : A → Bool) where
  front-pass : (x : A) (xs : List A) → t x ≡ true → take_while t (x ∷ xs) ≡ x ∷ take_while t xs
  front-pass x xs pass = ap (λ b. take (cond b (1 + prefix_len t xs) 0) (x ∷ xs)) pass ∙ ap (λ n. take n (x ∷ xs)) (one-add (prefix_len t xs))

  front-stop : (x : A) (xs : List A) → t x ≡ false → take_while t (x ∷ xs) ≡ []
  front-stop x xs stop = ap (λ b. take (cond b (1 + prefix_len t xs) 0) (x ∷ xs)) stop

  -- a front that passes is taken whole
  front-unwind : (rs zs : List A) → ((r : A) → IsIn r rs → t r ≡ true) → take_while t (unwind rs zs) ≡ unwind rs (take_while t zs)
  front-unwind [] zs pass = refl
  front-unwind (r ∷ rs) zs pass = front-unwind rs (r ∷ zs) (λ x i. pass x (inr i)) ∙ ap (unwind rs) (front-pass r zs (pass r (inl refl)))

  -- the last that passes is the first, backward, where none behind passes
  last-unwind : (rs zs : List A) → last_of (filter t (unwind rs zs)) ≡ or_else (last_of (filter t zs)) (first_of (filter t rs))
  last-unwind [] zs = none (last_of (filter t zs))
    where
      none : (l : Option A) → l ≡ or_else l None
      none None = refl
      none (Some x) = refl
  last-unwind (r ∷ rs) zs = last-unwind rs (r ∷ zs) ∙ step (t r) (filter t zs) (filter t rs)
    where
      one : (l : Option A) → Some (unwrap_or l r) ≡ or_else l (Some r)
      one None = refl
      one (Some x) = refl

      step : (b : Bool) (fs gs : List A) → or_else (last_of (cond b (r ∷ fs) fs)) (first_of gs) ≡ or_else (last_of fs) (first_of (cond b (r ∷ gs) gs))
      step true fs gs = one (last_of fs)
      step false fs gs = refl

-- what stands before an entry has a lower offset
pub falls-below : (rs : List Placed) (n : ℕ) → Falls rs → low_after rs ≤ n → (r : Placed) → IsIn r rs → r.entry.offset < n
falls-below [] n h low r i = absurd i
falls-below (x ∷ rs) n h low r (inl e) = let same : r.entry.offset ≡ x.entry.offset = ap (λ (p : Placed). p.entry.offset) e in omega (arith, same, low)
falls-below (x ∷ rs) n h low r (inr i) = falls-below rs n h.1 (omega (arith, h.0, low)) r i

-- the parent of an entry is the nearest one before it that is one less deep
module _ (es : List Placed) (rises : Rises 0 es) where
  pub parent-is : (e : Placed) (rs zs : List Placed) → es ≡ unwind rs (e ∷ zs) → parent_of es e ≡ nearest_above e.entry.depth rs
  parent-is e rs zs is =
      ap (λ ps. last_of (filter (λ p. suc p.entry.depth == e.entry.depth) ps)) front
      ∙ last-unwind (λ p. suc p.entry.depth == e.entry.depth) rs []
    where
      other : Placed → Bool
      other p = not (same_place e p)

      fall : Falls rs × Rises (low_after rs) (e ∷ zs)
      fall = falls rs (e ∷ zs) (subst (Rises 0) is rises)

      pass : (r : Placed) → IsIn r rs → other r ≡ true
      pass r i = let less : r.entry.offset < e.entry.offset = falls-below rs e.entry.offset fall.0 fall.1.0 r i in not_from_false _ (ne_eqb e.entry.offset r.entry.offset (λ same. absurd (omega (arith, same, less))))

      front : take_while other es ≡ unwind rs []
      front =
          ap (take_while other) is
          ∙ front-unwind other rs (e ∷ zs) pass
          ∙ ap (unwind rs) (front-stop other e zs (ap not (eq-eqb e.entry.offset e.entry.offset refl)))
