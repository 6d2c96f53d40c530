-- What is left of a stack of what functions tell, and what is on top of it.
use Rattle.std.proofs.Common.{◌≡◌, ℕ, ℤ, ◌≤ℤ◌, int_le, pos, Bool, true, false, List, [], ◌∷◌, ◌++◌, Some, None, option_map, refl, ap, sym, ◌∙◌, arith}
use Rattle.std.specs.Prelude.{◌&&◌, if◌then◌else◌, option_and_then}
use Rattle.std.proofs.lemmas.Bool.{le-leb}
use Rattle.std.proofs.lemmas.Int.{ints}
use Rattle.dwc_rules.specs.Scopes.{Given, left_for, left_under, top_at}
use Rattle.dwc_base.proofs.LastOf.{last_of-push}
use Rattle.dwc_clone.specs.declared.object_pointer.SubprogramContext.{SubprogramContext}
use Rattle.dwc_clone.specs.ParameterContexts.{Contexts, met, met_at}
use Rattle.dwc_extents.specs.StacksByDepth.{with_top}

-- ---- what is left of a stack

above : (d k i : ℤ) → d ≤ℤ k → int_le d i ≡ false → int_le k i ≡ false
above d k i less low = go (int_le k i) refl
  where
    go : (b : Bool) → int_le k i ≡ b → b ≡ false
    go true high = absurd (omega (arith, ints, less, low, high))
    go false high = refl

below : (d k i : ℤ) → k ≤ℤ d → int_le d i ≡ true → int_le k i ≡ true
below d k i less high = go (int_le k i) refl
  where
    go : (b : Bool) → int_le k i ≡ b → b ≡ true
    go true low = refl
    go false low = absurd (omega (arith, ints, less, low, high))

module _ {X : Type 0} where
  -- what was left for a depth is left for a higher one
  pub left-again : (d k : ℤ) (gs : List (Given X)) → d ≤ℤ k → left_for k (left_for d gs) ≡ left_for d gs
  left-again d k [] less = refl
  left-again d k (g ∷ gs) less = go (left_for d gs) (left-again d k gs less)
    where
      go : (rest : List (Given X)) → left_for k rest ≡ rest → left_for k (left_under d g rest) ≡ left_under d g rest
      go [] same = one (int_le d g.0) refl
        where
          one : (b : Bool) → int_le d g.0 ≡ b → left_for k (if b then [] else g ∷ []) ≡ (if b then [] else g ∷ [])
          one true is = refl
          one false is = ap (λ b. if b then [] else g ∷ []) (above d k g.0 less is)
      go (h ∷ hs) same = ap (left_under k g) same

  -- what is left for a lower depth does not hang on it
  pub left-lower : (d k : ℤ) (gs : List (Given X)) → k ≤ℤ d → left_for k (left_for d gs) ≡ left_for k gs
  left-lower d k [] less = refl
  left-lower d k (g ∷ gs) less = go (left_for d gs) (left-lower d k gs less)
    where
      go : (rest : List (Given X)) → left_for k rest ≡ left_for k gs → left_for k (left_under d g rest) ≡ left_under k g (left_for k gs)
      go [] same = one (int_le d g.0) refl
        where
          one : (b : Bool) → int_le d g.0 ≡ b → left_for k (if b then [] else g ∷ []) ≡ left_under k g (left_for k gs)
          one true is = sym (ap (left_under k g) (sym same) ∙ ap (λ b. if b then [] else g ∷ []) (below d k g.0 less is))
          one false is = ap (left_under k g) same
      go (h ∷ hs) same = ap (left_under k g) same

  -- nothing of a depth is left for it
  pub top-left : (d : ℤ) (gs : List (Given X)) → top_at d (left_for d gs) ≡ None
  top-left d [] = refl
  top-left d (g ∷ gs) = go (left_for d gs) (top-left d gs)
    where
      go : (rest : List (Given X)) → top_at d rest ≡ None → top_at d (left_under d g rest) ≡ None
      go [] none = one (int_le d g.0) refl
        where
          one : (b : Bool) → int_le d g.0 ≡ b → top_at d (if b then [] else g ∷ []) ≡ None
          one true is = refl
          one false is = ap (λ b. if b && int_le g.0 d then Some g.1 else None) is
      go (h ∷ hs) none = none

  -- what is put on top is there
  pub top-push : (d : ℕ) (gs : List (Given X)) (x : X) → top_at (pos d) (gs ++ (pos d, x) ∷ []) ≡ Some x
  top-push d gs x =
      ap (option_and_then (λ g. if int_le (pos d) g.0 && int_le g.0 (pos d) then Some g.1 else None)) (last_of-push gs (pos d, x))
      ∙ ap (λ b. if b && b then Some x else None) (le-leb d d (omega arith))

  -- and stays or not
  pub left-push-low : (d : ℤ) (gs : List (Given X)) (g : Given X) → int_le d g.0 ≡ true → left_for d (gs ++ g ∷ []) ≡ left_for d gs
  left-push-low d [] g deep = ap (λ b. if b then [] else g ∷ []) deep
  left-push-low d (h ∷ hs) g deep = ap (left_under d h) (left-push-low d hs g deep)

  pub left-push-high : (d : ℤ) (gs : List (Given X)) (g : Given X) → int_le d g.0 ≡ false → left_for d (gs ++ g ∷ []) ≡ gs ++ g ∷ []
  left-push-high d [] g low = ap (λ b. if b then [] else g ∷ []) low
  left-push-high d (h ∷ []) g low = ap (left_under d h) (left-push-high d [] g low)
  left-push-high d (h ∷ k ∷ hs) g low = ap (left_under d h) (left-push-high d (k ∷ hs) g low)

-- ---- a parameter more

-- whether an item is of a depth
abbrev is_at : ℤ → Given SubprogramContext → Bool
is_at depth g = int_le depth g.0 && int_le g.0 depth

-- without a top of the depth nothing is met
pub met-none : (depth : ℤ) (gs : Contexts) → None ≡ top_at depth gs → gs ≡ met_at depth gs
met-none depth [] none = refl
met-none depth (g ∷ []) none = go (is_at depth g) none
  where
    go : (b : Bool) → None ≡ (if b then Some g.1 else None) → g ∷ [] ≡ (if b then (g.0, met g.1) ∷ [] else g ∷ [])
    go true h = absurd (cc)
    go false h = refl
met-none depth (g ∷ h ∷ gs) none = ap (λ hs. g ∷ hs) (met-none depth (h ∷ gs) none)

-- with one it has met a parameter more
pub met-some : (depth : ℤ) (gs : Contexts) (x : SubprogramContext) → Some x ≡ top_at depth gs → with_top gs (met x) ≡ met_at depth gs
met-some depth [] x some = refl
met-some depth (g ∷ []) x some = go (is_at depth g) some
  where
    go : (b : Bool) → Some x ≡ (if b then Some g.1 else None) → (g.0, met x) ∷ [] ≡ (if b then (g.0, met g.1) ∷ [] else g ∷ [])
    go true h = let same : x ≡ g.1 = cc in ap (λ y. (g.0, met y) ∷ []) same
    go false h = absurd (cc)
met-some depth (g ∷ h ∷ gs) x some = ap (λ hs. g ∷ hs) (met-some depth (h ∷ gs) x some)

module _ (d : ℤ) where
  -- what it tells then
  pub top-met : (gs : Contexts) → top_at d (met_at d gs) ≡ option_map met (top_at d gs)
  top-met [] = refl
  top-met (g ∷ []) = go (is_at d g) refl
    where
      go : (b : Bool) → is_at d g ≡ b → top_at d (if b then (g.0, met g.1) ∷ [] else g ∷ []) ≡ option_map met (if b then Some g.1 else None)
      go true is = ap (λ b. if b then Some (met g.1) else None) is
      go false is = ap (λ b. if b then Some g.1 else None) is
  top-met (g ∷ h ∷ []) = go (is_at d h) (top-met (h ∷ []))
    where
      go : (b : Bool) → top_at d (if b then (h.0, met h.1) ∷ [] else h ∷ []) ≡ option_map met (top_at d (h ∷ [])) → top_at d (g ∷ (if b then (h.0, met h.1) ∷ [] else h ∷ [])) ≡ option_map met (top_at d (h ∷ []))
      go true same = same
      go false same = same
  top-met (g ∷ h ∷ i ∷ gs) = top-met (h ∷ i ∷ gs)

  -- what is left for a depth at or below that of the top does not hang on it
  pub left-met : (k : ℤ) (gs : Contexts) → k ≤ℤ d → left_for k (met_at d gs) ≡ left_for k gs
  left-met k [] less = refl
  left-met k (g ∷ []) less = go (int_le d g.0) (int_le g.0 d) refl
    where
      go : (b c : Bool) → int_le d g.0 ≡ b → left_for k (if b && c then (g.0, met g.1) ∷ [] else g ∷ []) ≡ left_for k (g ∷ [])
      go true true is = ap (λ b. if b then [] else (g.0, met g.1) ∷ []) (below d k g.0 less is) ∙ sym (ap (λ b. if b then [] else g ∷ []) (below d k g.0 less is))
      go true false is = refl
      go false c is = refl
  left-met k (g ∷ h ∷ gs) less = ap (left_under k g) (left-met k (h ∷ gs) less)

  under : (k : ℤ) (g h : Given SubprogramContext) (hs : Contexts) → left_under k g (met_at d (h ∷ hs)) ≡ g ∷ met_at d (h ∷ hs)
  under k g h [] = go (is_at d h)
    where
      go : (b : Bool) → left_under k g (if b then (h.0, met h.1) ∷ [] else h ∷ []) ≡ g ∷ (if b then (h.0, met h.1) ∷ [] else h ∷ [])
      go true = refl
      go false = refl
  under k g h (i ∷ hs) = refl

  -- where a stack was left for a depth, it is so when a parameter was met
  pub met-left : (k : ℤ) (gs : Contexts) → left_for k (met_at d (left_for k gs)) ≡ met_at d (left_for k gs)
  met-left k [] = refl
  met-left k (g ∷ gs) = go (left_for k gs) (met-left k gs)
    where
      go : (rest : Contexts) → left_for k (met_at d rest) ≡ met_at d rest → left_for k (met_at d (left_under k g rest)) ≡ met_at d (left_under k g rest)
      go [] same = one (int_le k g.0) refl
        where
          one : (b : Bool) → int_le k g.0 ≡ b → left_for k (met_at d (if b then [] else g ∷ [])) ≡ met_at d (if b then [] else g ∷ [])
          one true is = refl
          one false is = two (is_at d g)
            where
              two : (t : Bool) → left_for k (if t then (g.0, met g.1) ∷ [] else g ∷ []) ≡ (if t then (g.0, met g.1) ∷ [] else g ∷ [])
              two true = ap (λ b. if b then [] else (g.0, met g.1) ∷ []) is
              two false = ap (λ b. if b then [] else g ∷ []) is
      go (h ∷ hs) same = ap (left_under k g) same ∙ under k g h hs
