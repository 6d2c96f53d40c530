-- The kept entries are the least closed set that holds the required ones.
use Rattle.std.proofs.Common.{◌≡◌, ℕ, zero, suc, ◌+◌, ◌<◌, ◌≤◌, ◌⊎◌, ◌≢◌, List, length, refl, ap, sym, subst, ◌∙◌, inl, inr, arith, Bool, true, false}
use Rattle.std.specs.Prelude.{◌==◌, ◌||◌, not, AllPairs}
use Rattle.std.specs.List.{filter, list_any}
use Rattle.std.proofs.lemmas.Bool.{eq-eqb, eqb-true, or_left, or_right, or_cases, not_from_false, false_from_ne_true, cases_Bool}
use Rattle.dwc_rules.specs.Kept.{Placed, same_place, is_among, keeps, kept_step, steps_of}
use Rattle.dwc_rules.specs.KeptEntries.{kept_with, has_place, KeptAreLeast}
use Rattle.dwc_base.proofs.InLists.{IsIn, contains-in, in-contains, any-in, in-any, in-filter, filter-in, filter-few, none-passes, fewer-or-same, distinct-same}

-- an entry that is among some, by its place
pub place-in : (ks : List Placed) (place : ℕ) → has_place ks place ≡ true → (e : Placed) × IsIn e ks × (e.entry.offset ≡ place)
place-in ks place h = let found = any-in (λ e. e.entry.offset == place) ks h in (found.0, found.1, eqb-true found.0.entry.offset place found.2)

pub in-place : (ks : List Placed) (e : Placed) (place : ℕ) → IsIn e ks → e.entry.offset ≡ place → has_place ks place ≡ true
in-place ks e place i same = in-any (λ f. f.entry.offset == place) ks e i (eq-eqb e.entry.offset place same)

among-place : (ks : List Placed) (f : Placed) → is_among ks f ≡ true → has_place ks f.entry.offset ≡ true
among-place ks f h = let found = any-in (same_place f) ks h in in-place ks found.0 f.entry.offset found.1 (sym (eqb-true f.entry.offset found.0.entry.offset found.2))

place-among : (ks : List Placed) (f : Placed) → has_place ks f.entry.offset ≡ true → is_among ks f ≡ true
place-among ks f h = let found = place-in ks f.entry.offset h in in-any (same_place f) ks found.0 found.1 (eq-eqb f.entry.offset found.0.entry.offset (sym found.2))

module _ (es : List Placed) where
  -- what is among some stays among them, and what they keep is too
  step-more : (ks : List Placed) (f : Placed) → IsIn f es → has_place ks f.entry.offset ≡ true → has_place (kept_step es ks) f.entry.offset ≡ true
  step-more ks f i h = in-place _ f f.entry.offset (filter-in (λ g. is_among ks g || list_any (λ e. keeps es e g) ks) es f i (or_left _ _ (place-among ks f h))) refl

  step-kept : (ks : List Placed) (e f : Placed) → IsIn e ks → IsIn f es → keeps es e f ≡ true → has_place (kept_step es ks) f.entry.offset ≡ true
  step-kept ks e f k i h = in-place _ f f.entry.offset (filter-in (λ g. is_among ks g || list_any (λ e. keeps es e g) ks) es f i (or_right (is_among ks f) _ (in-any (λ e. keeps es e f) ks e k h))) refl

  -- where an entry of a step comes from
  step-from : (ks : List Placed) (f : Placed) → IsIn f (kept_step es ks) → IsIn f es × ((has_place ks f.entry.offset ≡ true) ⊎ ((e : Placed) × IsIn e ks × (keeps es e f ≡ true)))
  step-from ks f i = (from.0, go (or_cases (is_among ks f) _ from.1))
    where
      from : IsIn f es × ((is_among ks f || list_any (λ e. keeps es e f) ks) ≡ true)
      from = in-filter (λ g. is_among ks g || list_any (λ e. keeps es e g) ks) es f i

      go : (is_among ks f ≡ true) ⊎ (list_any (λ e. keeps es e f) ks ≡ true) → (has_place ks f.entry.offset ≡ true) ⊎ ((e : Placed) × IsIn e ks × (keeps es e f ≡ true))
      go (inl h) = inl (among-place ks f h)
      go (inr h) = inr (any-in (λ e. keeps es e f) ks h)

  module _ (required : List Placed) (within : (e : Placed) → IsIn e required → IsIn e es) where
    steps-in : (n : ℕ) (e : Placed) → IsIn e (steps_of n es required) → IsIn e es
    steps-in zero e i = within e i
    steps-in (suc n) e i = (step-from (steps_of n es required) e i).0

    steps-required : (n : ℕ) (e : Placed) → IsIn e required → has_place (steps_of n es required) e.entry.offset ≡ true
    steps-required zero e i = in-place required e e.entry.offset i refl
    steps-required (suc n) e i = step-more (steps_of n es required) e (within e i) (steps-required n e i)

    steps-least : (set : ℕ → Bool) → ((e : Placed) → IsIn e required → set e.entry.offset ≡ true) → ((e f : Placed) → IsIn e es → IsIn f es → set e.entry.offset ≡ true → keeps es e f ≡ true → set f.entry.offset ≡ true) → (n : ℕ) (e : Placed) → IsIn e (steps_of n es required) → set e.entry.offset ≡ true
    steps-least set all closed zero e i = all e i
    steps-least set all closed (suc n) e i = go from.1 (λ f j. steps-least set all closed n f j)
      where
        from : IsIn e es × ((has_place (steps_of n es required) e.entry.offset ≡ true) ⊎ ((f : Placed) × IsIn f (steps_of n es required) × (keeps es f e ≡ true)))
        from = step-from (steps_of n es required) e i

        go : (has_place (steps_of n es required) e.entry.offset ≡ true) ⊎ ((f : Placed) × IsIn f (steps_of n es required) × (keeps es f e ≡ true)) → ((f : Placed) → IsIn f (steps_of n es required) → set f.entry.offset ≡ true) → set e.entry.offset ≡ true
        go (inl h) before = let found = place-in (steps_of n es required) e.entry.offset h in ap set (sym found.2) ∙ before found.0 found.1
        go (inr k) before = closed k.0 e (steps-in n k.0 k.1) from.0 (before k.0 k.1) k.2

    module _ (apart : AllPairs (λ e f. e.entry.offset ≢ f.entry.offset) es) where
      -- entries at these places hold what they keep
      IsFull : List Placed → Type 0
      IsFull ks = (e f : Placed) → IsIn e es → IsIn f es → has_place ks e.entry.offset ≡ true → keeps es e f ≡ true → has_place ks f.entry.offset ≡ true

      missing : List Placed → ℕ
      missing ks = length (filter (λ f. not (has_place ks f.entry.offset)) es)

      has-in : (ks : List Placed) (e : Placed) → ((g : Placed) → IsIn g ks → IsIn g es) → IsIn e es → has_place ks e.entry.offset ≡ true → IsIn e ks
      has-in ks e under i h =
          let found = place-in ks e.entry.offset h in
          subst (λ g. IsIn g ks) (distinct-same (λ g. g.entry.offset) es found.0 e apart (under found.0 found.1) i found.2) found.1

      -- where a step adds nothing, all is held
      still-full : (ks : List Placed) → ((g : Placed) → IsIn g ks → IsIn g es) → ((f : Placed) → IsIn f es → has_place (kept_step es ks) f.entry.offset ≡ true → has_place ks f.entry.offset ≡ true) → IsFull ks
      unfolding IsFull
      still-full ks under still e f i j h k = still f j (step-kept ks e f (has-in ks e under i h) j k)

      -- and a step from there adds nothing
      full-step : (ks : List Placed) → ((g : Placed) → IsIn g ks → IsIn g es) → IsFull ks → IsFull (kept_step es ks)
      unfolding IsFull
      full-step ks under full e f i j h k =
          let found = place-in (kept_step es ks) e.entry.offset h in
          let from = step-from ks found.0 found.1 in
          let same = distinct-same (λ g. g.entry.offset) es found.0 e apart from.0 i found.2 in
          step-more ks f j (full e f i j (go found.0 same from.1) k)
        where
          go : (g : Placed) → g ≡ e → (has_place ks g.entry.offset ≡ true) ⊎ ((d : Placed) × IsIn d ks × (keeps es d g ≡ true)) → has_place ks e.entry.offset ≡ true
          go g same (inl h) = ap (λ x. has_place ks x.entry.offset) (sym same) ∙ h
          go g same (inr d) = full d.0 e (under d.0 d.1) i (in-place ks d.0 d.0.entry.offset d.1 refl) (ap (keeps es d.0) (sym same) ∙ d.2)

      step-missing : (ks : List Placed) → ((g : Placed) → IsIn g ks → IsIn g es) → (missing (kept_step es ks) < missing ks) ⊎ IsFull ks
      unfolding missing
      step-missing ks under = go (fewer-or-same (λ f. not (has_place ks f.entry.offset)) (λ f. not (has_place (kept_step es ks) f.entry.offset)) es (λ f i h. not_from_false _ (false_from_ne_true _ (λ t. true-not (has_place (kept_step es ks) f.entry.offset) (step-more ks f i t) h))))
        where
          true-not : (b : Bool) → b ≡ true → not b ≡ true → ⊥
          true-not true e f = absurd (cc)
          true-not false e f = absurd (cc)

          go : (length (filter (λ f. not (has_place (kept_step es ks) f.entry.offset)) es) < length (filter (λ f. not (has_place ks f.entry.offset)) es))
              ⊎ ((length (filter (λ f. not (has_place (kept_step es ks) f.entry.offset)) es) ≡ length (filter (λ f. not (has_place ks f.entry.offset)) es)) × ((f : Placed) → IsIn f es → not (has_place ks f.entry.offset) ≡ true → not (has_place (kept_step es ks) f.entry.offset) ≡ true))
              → (length (filter (λ f. not (has_place (kept_step es ks) f.entry.offset)) es) < length (filter (λ f. not (has_place ks f.entry.offset)) es)) ⊎ IsFull ks
          go (inl less) = inl less
          go (inr same) = inr (still-full ks under (λ f i t. still f i t (cases_Bool (has_place ks f.entry.offset))))
            where
              still : (f : Placed) → IsIn f es → has_place (kept_step es ks) f.entry.offset ≡ true → (has_place ks f.entry.offset ≡ true) ⊎ (has_place ks f.entry.offset ≡ false) → has_place ks f.entry.offset ≡ true
              still f i t (inl h) = h
              still f i t (inr h) = absurd (true-not (has_place (kept_step es ks) f.entry.offset) t (same.1 f i (not_from_false _ h)))

      few-missing : (ks : List Placed) → missing ks + 0 ≤ length es
      unfolding missing
      few-missing ks = omega (arith, filter-few (λ f. not (has_place ks f.entry.offset)) es)

      -- after so many steps all is held, or so many entries more are
      steps-full : (n : ℕ) → IsFull (steps_of n es required) ⊎ (missing (steps_of n es required) + n ≤ length es)
      steps-full zero = inr (few-missing required)
      steps-full (suc n) = go (steps-full n) (step-missing (steps_of n es required) (steps-in n))
        where
          go : IsFull (steps_of n es required) ⊎ (missing (steps_of n es required) + n ≤ length es) → (missing (kept_step es (steps_of n es required)) < missing (steps_of n es required)) ⊎ IsFull (steps_of n es required)
              → IsFull (kept_step es (steps_of n es required)) ⊎ (missing (kept_step es (steps_of n es required)) + suc n ≤ length es)
          go (inl full) others = inl (full-step (steps_of n es required) (steps-in n) full)
          go (inr few) (inl less) = inr (omega (arith, few, less))
          go (inr few) (inr full) = inl (full-step (steps_of n es required) (steps-in n) full)

      all-full : (ks : List Placed) → missing ks ≡ 0 → IsFull ks
      unfolding missing IsFull
      all-full ks none e f i j h k = go (cases_Bool (has_place ks f.entry.offset))
        where
          go : (has_place ks f.entry.offset ≡ true) ⊎ (has_place ks f.entry.offset ≡ false) → has_place ks f.entry.offset ≡ true
          go (inl t) = t
          go (inr t) = absurd (none-passes (λ g. not (has_place ks g.entry.offset)) es f none j (not_from_false _ t))

      kept-full : IsFull (kept_with es required)
      unfolding kept_with
      kept-full = go (steps-full (length es))
        where
          go : IsFull (steps_of (length es) es required) ⊎ (missing (steps_of (length es) es required) + length es ≤ length es) → IsFull (steps_of (length es) es required)
          go (inl full) = full
          go (inr few) = all-full (steps_of (length es) es required) (omega (arith, few))

      pub kept-closed : (e f : Placed) → IsIn e es → IsIn f es → has_place (kept_with es required) e.entry.offset ≡ true → keeps es e f ≡ true → has_place (kept_with es required) f.entry.offset ≡ true
      unfolding IsFull
      kept-closed = kept-full

    pub kept-in : (e : Placed) → IsIn e (kept_with es required) → IsIn e es
    unfolding kept_with
    kept-in = steps-in (length es)

    pub kept-required : (e : Placed) → IsIn e required → has_place (kept_with es required) e.entry.offset ≡ true
    unfolding kept_with
    kept-required = steps-required (length es)

    pub kept-least : (set : ℕ → Bool) → ((e : Placed) → IsIn e required → set e.entry.offset ≡ true) → ((e f : Placed) → IsIn e es → IsIn f es → set e.entry.offset ≡ true → keeps es e f ≡ true → set f.entry.offset ≡ true) → (e : Placed) → IsIn e (kept_with es required) → set e.entry.offset ≡ true
    unfolding kept_with
    kept-least set all closed = steps-least set all closed (length es)

-- The law.
pub are-least : (es required : List Placed) → KeptAreLeast es required
are-least es required apart within = record {
  among = λ e c. in-contains es e (kept-in es required inside e (contains-in _ e c));
  required_kept = λ e c. kept-required es required inside e (contains-in required e c);
  closed = λ e f c d. kept-closed es required inside apart e f (contains-in es e c) (contains-in es f d);
  least = λ set all closed e c. kept-least es required inside set (λ f i. all f (in-contains _ _ i)) (λ f g i j. closed f g (in-contains _ _ i) (in-contains _ _ j)) e (contains-in _ e c);
}
  where
    inside : (e : Placed) → IsIn e required → IsIn e es
    inside e i = contains-in es e (within e (in-contains _ _ i))
