-- Stacks of what entries give, by the places of their items.
use Rattle.std.proofs.Common.{◌≡◌, ℕ, zero, suc, ◌<◌, ◌≤◌, ◌-◌, true, false, ℤ, int_le, List, [], ◌∷◌, length, get_or, take, slice_set, slice_get, Some, refl, ap, arith, sym, ◌∙◌, ◌&&◌, is_some, Bool, if◌then◌else◌, Option, None, option_map}
use Rattle.std.specs.Prelude.{option_and_then, unwrap_or}
use Rattle.std.proofs.lemmas.Option.{slice_get-get_or}
use Rattle.dwc_rules.specs.Scopes.{Given, left_for, left_under, top_at, top_of}
use Rattle.dwc_base.specs.Wasm.{last_of}
use Rattle.dwc_extents.specs.StacksByDepth.{with_top}

module _ {X : Type 0} where
  -- an item at or above a depth is dropped from the top
  pub left-drops : (depth : ℤ) (gs : List (Given X)) (k : ℕ) (d : Given X) → k < length gs → int_le depth (get_or gs k d).0 ≡ true → left_for depth (take (suc k) gs) ≡ left_for depth (take k gs)
  left-drops depth [] k d inside above = absurd (omega (arith, inside))
  left-drops depth (g ∷ gs) zero d inside above = rw above refl
  left-drops depth (g ∷ gs) (suc k) d inside above = ap (left_under depth g) (left-drops depth gs k d (omega (arith, inside)) above)

  -- and one below it stays, with all under it
  pub left-stays : (depth : ℤ) (gs : List (Given X)) (k : ℕ) (d : Given X) → k < length gs → int_le depth (get_or gs k d).0 ≡ false → left_for depth (take (suc k) gs) ≡ take (suc k) gs
  left-stays depth [] k d inside below = absurd (omega (arith, inside))
  left-stays depth (g ∷ gs) zero d inside below = rw below refl
  left-stays depth (g ∷ []) (suc k) d inside below = absurd (omega (arith, inside))
  left-stays depth (g ∷ h ∷ hs) (suc k) d inside below = ap (left_under depth g) (left-stays depth (h ∷ hs) k d (omega (arith, inside)) below)

  -- the last is at the last place
  pub last-at : (gs : List (Given X)) (k : ℕ) (d : Given X) → length gs ≡ suc k → last_of gs ≡ Some (get_or gs k d)
  last-at [] k d is = absurd (omega (arith, is))
  last-at (g ∷ []) zero d is = refl
  last-at (g ∷ []) (suc k) d is = absurd (omega (arith, is))
  last-at (g ∷ h ∷ hs) zero d is = absurd (omega (arith, is))
  last-at (g ∷ h ∷ hs) (suc k) d is = rw (last-at (h ∷ hs) k d (omega (arith, is))) refl

  -- the last, as it is looked up
  last-get : (gs : List (Given X)) (k : ℕ) → length gs ≡ suc k → last_of gs ≡ slice_get gs k
  last-get [] k is = absurd (omega (arith, is))
  last-get (g ∷ []) zero is = refl
  last-get (g ∷ []) (suc k) is = absurd (omega (arith, is))
  last-get (g ∷ h ∷ hs) zero is = absurd (omega (arith, is))
  last-get (g ∷ h ∷ hs) (suc k) is = ap (λ o. Some (unwrap_or o g)) (last-at (h ∷ hs) k g (omega (arith, is))) ∙ sym (slice_get-get_or (h ∷ hs) k g (omega (arith, is)))

  pub last-is : (gs : List (Given X)) → last_of gs ≡ slice_get gs (length gs - 1)
  last-is [] = refl
  last-is (g ∷ gs) = last-get (g ∷ gs) (length (g ∷ gs) - 1) (omega arith)

  -- a top that is changed is the item at the last place
  pub with_top-at : (gs : List (Given X)) (k : ℕ) (d : Given X) (x : X) → length gs ≡ suc k → slice_set gs k ((get_or gs k d).0, x) ≡ with_top gs x
  with_top-at [] k d x is = absurd (omega (arith, is))
  with_top-at (g ∷ []) zero d x is = refl
  with_top-at (g ∷ []) (suc k) d x is = absurd (omega (arith, is))
  with_top-at (g ∷ h ∷ hs) zero d x is = absurd (omega (arith, is))
  with_top-at (g ∷ h ∷ hs) (suc k) d x is = ap (λ gs. g ∷ gs) (with_top-at (h ∷ hs) k d x (omega (arith, is)))

-- how many items are left so far, where those above them are dropped
pub record Counts {X : Type 0} (depth : ℤ) (gs : List (Given X)) (left : ℕ) : Type 0 where
  pub within : left ≤ length gs
  pub same : left_for depth (take left gs) ≡ left_for depth gs

module _ {X : Type 0} (depth : ℤ) (gs : List (Given X)) (k : ℕ) (d : Given X) where
  pub counts-less : int_le depth (get_or gs k d).0 ≡ true → Counts depth gs (suc k) → Counts depth gs k
  counts-less above c = record { within = omega (arith, c.within); same = sym (left-drops depth gs k d (omega (arith, c.within)) above) ∙ c.same }

  pub counts-all : int_le depth (get_or gs k d).0 ≡ false → Counts depth gs (suc k) → take (suc k) gs ≡ left_for depth gs
  counts-all below c = sym (left-stays depth gs k d (omega (arith, c.within)) below) ∙ c.same

-- A stack whose top is below a depth is left whole for it, and so is an empty one.
pub left-whole : {X : Type 0} (depth : ℤ) (gs : List (Given X)) (g : Given X) → last_of gs ≡ Some g → int_le depth g.0 ≡ false → left_for depth gs ≡ gs
left-whole depth [] g is below = refl
left-whole depth (h ∷ []) g is below = let same : h ≡ g = cc in rw same (rw below refl)
left-whole depth (h ∷ k ∷ ks) g is below = ap (left_under depth h) (left-whole depth (k ∷ ks) g is below)

pub left-none : {X : Type 0} (depth : ℤ) (gs : List (Given X)) → last_of gs ≡ None → left_for depth gs ≡ gs
left-none depth [] none = refl
left-none depth (g ∷ gs) none = absurd (cc)

-- whether the top is of a depth
pub top_at-is : {X : Type 0} (depth : ℤ) (gs : List (Given X)) (g : Given X) → last_of gs ≡ Some g → (int_le depth g.0 && int_le g.0 depth) ≡ is_some (top_at depth gs)
top_at-is depth gs g is = rw is (go (int_le depth g.0 && int_le g.0 depth))
  where
    go : (b : Bool) → b ≡ is_some (if b then Some g.1 else None)
    go true = refl
    go false = refl

-- a top of the depth is the top
pub top_at-top : {X : Type 0} (depth : ℤ) (gs : List (Given X)) → true ≡ is_some (top_at depth gs) → top_of gs ≡ top_at depth gs
top_at-top {X = X} depth gs = go (last_of gs)
  where
    one : (b : Bool) (x : X) → true ≡ is_some (if b then Some x else None) → Some x ≡ (if b then Some x else None)
    one true x is = refl
    one false x is = absurd (cc)

    go : (o : Option (Given X)) → true ≡ is_some (option_and_then (λ (g : Given X). if int_le depth g.0 && int_le g.0 depth then Some g.1 else None) o)
        → option_map (λ (g : Given X). g.1) o ≡ option_and_then (λ (g : Given X). if int_le depth g.0 && int_le g.0 depth then Some g.1 else None) o
    go None is = absurd (cc)
    go (Some g) is = one (int_le depth g.0 && int_le g.0 depth) g.1 is
