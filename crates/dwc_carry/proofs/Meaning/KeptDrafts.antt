-- What holds of each of some drafts of attributes holds of what is kept and set of them.
use Rattle.std.proofs.Common.{◌≡◌, ℕ, inl, inr, List, [], ◌∷◌, ◌++◌, Option, Some, None, Bool, true, false, refl, sym, subst}
use Rattle.std.specs.Prelude.{◌==◌, if◌then◌else◌, fold}
use Rattle.std.specs.List.{filter_map, cons_option}
use Rattle.dwc_base.proofs.InLists.{IsIn}
use Rattle.dwc_dwarf.specs.Trees.{set_attribute}
use Rattle.dwc_expr.proofs.Meaning.OperationActs.{Each}

-- ---- lists

pub both : {A : Type 0} (P : A → Type 0) (xs ys : List A) → Each P xs → Each P ys → Each P (xs ++ ys)
both P [] ys h k = k
both P (x ∷ xs) ys h k = (h.0, both P xs ys h.1 k)

pub kept : {A B : Type 0} (P : A → Type 0) (Q : B → Type 0) (f : A → Option B) → ((a : A) (b : B) → P a → f a ≡ Some b → Q b) → (xs : List A) → Each P xs → Each Q (filter_map f xs)
kept P Q f keeps [] h = tt
kept P Q f keeps (x ∷ xs) h = go (f x) refl (kept P Q f keeps xs h.1)
  where
    go : (o : Option _) → f x ≡ o → Each Q (filter_map f xs) → Each Q (cons_option o (filter_map f xs))
    go None e rest = rest
    go (Some b) e rest = (keeps x b h.0 e, rest)

pub each-in : {A : Type 0} (P : A → Type 0) (xs : List A) (x : A) → Each P xs → IsIn x xs → P x
each-in P [] x h i = absurd i
each-in P (y ∷ ys) x h (inl same) = subst P (sym same) h.0
each-in P (y ∷ ys) x h (inr i) = each-in P ys x h.1 i

module _ {A : Type 0} (P : ℕ × A → Type 0) where
  set-each : (a : ℕ × A) (bs : List (ℕ × A)) → P a → Each P bs → Each P (set_attribute a bs)
  set-each a [] p h = (p, tt)
  set-each a (b ∷ bs) p h = go (a.0 == b.0) (set-each a bs p h.1)
    where
      go : (same : Bool) → Each P (set_attribute a bs) → Each P (if same then a ∷ bs else b ∷ set_attribute a bs)
      go true rest = (p, h.1)
      go false rest = (h.0, rest)

  pub order-each : (so_far as' : List (ℕ × A)) → Each P so_far → Each P as' → Each P (fold (λ before a. set_attribute a before) so_far as')
  order-each so_far [] h k = h
  order-each so_far (a ∷ as') h k = order-each (set_attribute a so_far) as' (set-each a so_far k.0 h) k.1
