-- Things up to the mark of their end, step by step: where each takes a byte, the bound on their number plays no part.
use Rattle.std.proofs.Common.{◌≡◌, ℕ, zero, suc, ◌<◌, refl, sym, ap, ◌∙◌, arith, List, [], ◌∷◌, ◌++◌, append_assoc, length, Option, Some, None, Ok, Err}
use Rattle.dwc_base.specs.declared.faults.Flaw.{Flaw}
use Rattle.dwc_base.specs.Reading.{Unread, Read, ◌>>=◌, items_at, items_up_to, seen_as}

-- what was read leaves fewer bytes than n
abbrev pub LeavesFewer : {A : Type 0} → Read A → ℕ → Type 0
LeavesFewer (Ok x) n = length (x.1).left < n
LeavesFewer (Err flaw) n = Unit {0}

pub record Leaves {A : Type 0} (r : Read A) (n : ℕ) : Type 0 where
  pub fewer : LeavesFewer r n

abbrev pub with_others : {A : Type 0} → (Unread → Read (List A)) → Option A → Unread → Read (List A)
with_others rest None u = Ok ([], u)
with_others rest (Some x) u = rest u >>= λ others. Ok (x ∷ others.0, others.1)

-- the first thing, with what follows it
abbrev pub with_first_of : {A : Type 0} → (Unread → Read (List A)) → Read (Option A) → Read (List A)
with_first_of rest (Err flaw) = Err flaw
with_first_of rest (Ok first) = with_others rest first.0 first.1

with_others-same : {A : Type 0} (f g : Unread → Read (List A)) (o : Option A) (u : Unread) → f u ≡ g u → with_others f o u ≡ with_others g o u
with_others-same f g None u h = refl
with_others-same f g (Some x) u h = ap (λ r. r >>= λ others. Ok (x ∷ others.0, others.1)) h

with_first_of-same : {A : Type 0} (f g : Unread → Read (List A)) (r : Read (Option A)) (n : ℕ) → LeavesFewer r n → ((u : Unread) → length u.left < n → f u ≡ g u) → with_first_of f r ≡ with_first_of g r
with_first_of-same f g (Err flaw) n few h = refl
with_first_of-same f g (Ok first) n few h = with_others-same f g first.0 first.1 (h first.1 few)

items_up_to-step : {A : Type 0} (most : ℕ) (item : Unread → Read (Option A)) (u : Unread) → items_up_to (suc most) item u ≡ with_first_of (items_up_to most item) (item u)
unfolding items_up_to
items_up_to-step {A} most item u = go (item u)
  where
    inner : (o : Option A) (v : Unread) → (elim o [ None ↦ Ok ([], v) | Some x ↦ (items_up_to most item v >>= λ others. Ok (x ∷ others.0, others.1)) ]) ≡ with_others (items_up_to most item) o v
    inner None v = refl
    inner (Some x) v = refl

    go : (r : Read (Option A)) → (r >>= λ first. elim first.0 [ None ↦ Ok ([], first.1) | Some x ↦ (items_up_to most item first.1 >>= λ others. Ok (x ∷ others.0, others.1)) ]) ≡ with_first_of (items_up_to most item) r
    go (Err flaw) = refl
    go (Ok first) = inner first.0 first.1

module _ {A : Type 0} (item : Unread → Read (Option A)) (takes : (u : Unread) → Leaves (item u) (length u.left)) where
  items_up_to-enough : (m n : ℕ) (u : Unread) → length u.left < m → length u.left < n → items_up_to m item u ≡ items_up_to n item u
  items_up_to-enough zero n u few many = absurd (omega arith)
  items_up_to-enough (suc m) zero u few many = absurd (omega arith)
  items_up_to-enough (suc m) (suc n) u few many =
      items_up_to-step m item u
      ∙ with_first_of-same (items_up_to m item) (items_up_to n item) (item u) (length u.left) (takes u).fewer (λ v less. items_up_to-enough m n v (omega arith) (omega arith))
      ∙ sym (items_up_to-step n item u)

  -- all the things are the first, and those behind it
  pub items-step : (u : Unread) → items_at item u ≡ with_first_of (items_at item) (item u)
  unfolding items_at
  items-step u =
      items_up_to-step (length u.left) item u
      ∙ with_first_of-same (items_up_to (length u.left) item) (λ v. items_up_to (suc (length v.left)) item v) (item u) (length u.left) (takes u).fewer (λ v less. items_up_to-enough (length u.left) (suc (length v.left)) v less (omega arith))

  -- at a thing, at the mark of the end, and at a flaw
  pub items-more : (u v : Unread) (x : A) → item u ≡ Ok (Some x, v) → items_at item u ≡ seen_as (λ xs. x ∷ xs) (items_at item v)
  items-more u v x h = items-step u ∙ ap (with_first_of (items_at item)) h ∙ as_seen x (items_at item v)
    where
      as_seen : (x : A) (r : Read (List A)) → (r >>= λ others. Ok (x ∷ others.0, others.1)) ≡ seen_as (λ xs. x ∷ xs) r
      as_seen x (Ok others) = refl
      as_seen x (Err flaw) = refl

  pub items-end : (u v : Unread) → item u ≡ Ok (None, v) → items_at item u ≡ Ok ([], v)
  items-end u v h = items-step u ∙ ap (with_first_of (items_at item)) h

  pub items-flaw : (u : Unread) (flaw : Flaw) → item u ≡ Err flaw → items_at item u ≡ Err flaw
  items-flaw u flaw h = items-step u ∙ ap (with_first_of (items_at item)) h

-- what is in front of a list that was read
pub seen-in_front : {A : Type 0} (xs : List A) (x : A) (r : Read (List A)) → seen_as (λ ys. xs ++ ys) (seen_as (λ ys. x ∷ ys) r) ≡ seen_as (λ ys. (xs ++ x ∷ []) ++ ys) r
seen-in_front xs x (Ok read) = ap (λ ys. Ok (ys, read.1)) (sym (append_assoc xs (x ∷ []) read.0))
seen-in_front xs x (Err flaw) = refl
