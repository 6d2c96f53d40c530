-- The least marks of a graph are those of the kept entries.
use Rattle.std.proofs.Common.{◌≡◌, ℕ, zero, suc, ◌<◌, ◌⊎◌, ◌≢◌, List, [], ◌∷◌, length, get_or, refl, ap, sym, ◌∙◌, inl, inr, arith, Bool, true, false, cond}
use Rattle.std.specs.Prelude.{◌==◌, AllPairs, if◌then◌else◌}
use Rattle.std.proofs.lemmas.Bool.{cases_order, eqb-true, eqb-false}
use Rattle.std.proofs.lemmas.List.{get_or_default, length-map}
use Rattle.dwc_rules.specs.Kept.{Placed, keeps}
use Rattle.dwc_rules.specs.KeptEntries.{kept_with, has_place}
use Rattle.dwc_kept.specs.EntryGraphs.{Node, is_marked, Holds, IsClosedIn, AreLeastMarks, IsGraphOf, SayWhich, MarksAreKept}
use Rattle.dwc_base.proofs.InLists.{IsIn, at-in, in-at, contains-in, in-contains}
use Rattle.dwc_kept.proofs.KeptLaws.{place-in, in-place, kept-closed, kept-required, kept-least}

pub same-truth : (a b : Bool) → (a ≡ true → b ≡ true) → (b ≡ true → a ≡ true) → a ≡ b
same-truth true b f g = sym (f refl)
same-truth false true f g = g refl
same-truth false false f g = refl

-- the number of the first entry at a place
place_number : List Placed → ℕ → ℕ
place_number [] place = 0
place_number (e ∷ es) place = if e.entry.offset == place then 0 else suc (place_number es place)

place-found : (es : List Placed) (i : ℕ) (d : Placed) (place : ℕ) → i < length es → (get_or es i d).entry.offset ≡ place → (place_number es place < length es) × ((get_or es (place_number es place) d).entry.offset ≡ place)
unfolding place_number
place-found [] i d place less same = absurd (omega (arith, less))
place-found (e ∷ es) i d place less same = go (e.entry.offset == place) refl i less same (λ j. place-found es j d place)
  where
    go : (b : Bool) → (e.entry.offset == place) ≡ b → (j : ℕ) → j < suc (length es) → (get_or (e ∷ es) j d).entry.offset ≡ place → ((k : ℕ) → k < length es → (get_or es k d).entry.offset ≡ place → (place_number es place < length es) × ((get_or es (place_number es place) d).entry.offset ≡ place))
        → (cond b 0 (suc (place_number es place)) < suc (length es)) × ((get_or (e ∷ es) (cond b 0 (suc (place_number es place))) d).entry.offset ≡ place)
    go true is j less same others = (omega arith, eqb-true _ _ is)
    go false is zero less same others = absurd (eqb-false _ _ is same)
    go false is (suc j) less same others = let found = others j (omega (arith, less)) same in (omega (arith, found.0), found.1)

module _ (es : List Placed) (apart : AllPairs (λ e f. e.entry.offset ≢ f.entry.offset) es) where
  number-same : (i : ℕ) (d : Placed) → i < length es → place_number es (get_or es i d).entry.offset ≡ i
  number-same i d less = go (cases_order (place_number es (get_or es i d).entry.offset) i)
    where
      found : (place_number es (get_or es i d).entry.offset < length es) × ((get_or es (place_number es (get_or es i d).entry.offset) d).entry.offset ≡ (get_or es i d).entry.offset)
      found = place-found es i d (get_or es i d).entry.offset less refl

      go : (place_number es (get_or es i d).entry.offset ≡ i) ⊎ ((place_number es (get_or es i d).entry.offset < i) ⊎ (i < place_number es (get_or es i d).entry.offset)) → place_number es (get_or es i d).entry.offset ≡ i
      go (inl e) = e
      go (inr (inl below)) = absurd (apart _ i d below less found.1)
      go (inr (inr above)) = absurd (apart i _ d above found.0 (sym found.1))

  module _ (ns : List Node) (required : List Placed) (flags marks : List Bool) (within : (e : Placed) → IsIn e required → IsIn e es) (graph : IsGraphOf es ns) (says : SayWhich es required flags) (least : AreLeastMarks ns flags marks) where
    as-many : length ns ≡ length es
    as-many = sym (length-map ns (λ n. n.offset)) ∙ ap length graph.offsets ∙ length-map es (λ e. e.entry.offset)

    kept-at : Placed → ℕ → Bool
    kept-at d j = has_place (kept_with es required) (get_or es j d).entry.offset

    kept-holds : (d : Placed) → Holds ns flags (kept-at d)
    unfolding kept-at
    kept-holds d j less h =
        let found = place-in required (get_or es j d).entry.offset (sym (says j d (omega (arith, less, as-many))) ∙ h) in
        ap (has_place (kept_with es required)) (sym found.2) ∙ kept-required es required within found.0 found.1

    kept-closed-in : (d : Placed) → IsClosedIn ns (kept-at d)
    unfolding kept-at
    kept-closed-in d i j li lj h k =
        let a : i < length es = omega (arith, li, as-many) in
        let b : j < length es = omega (arith, lj, as-many) in
        kept-closed es required within apart (get_or es i d) (get_or es j d) (at-in es i d a) (at-in es j d b) h (sym (graph.keeps_same i j d a b) ∙ k)

    marked-kept : (i : ℕ) (d : Placed) → i < length es → is_marked marks i ≡ true → has_place (kept_with es required) (get_or es i d).entry.offset ≡ true
    unfolding kept-at
    marked-kept i d less h = least.least (kept-at d) (kept-holds d) (kept-closed-in d) i (omega (arith, less, as-many)) h

    -- the marks as a set of places
    marked-place : ℕ → Bool
    marked-place place = is_marked marks (place_number es place)

    at-place : (i : ℕ) (e : Placed) → i < length es → get_or es i e ≡ e → marked-place e.entry.offset ≡ is_marked marks i
    unfolding marked-place
    at-place i e less is = ap (λ x. is_marked marks (place_number es x.entry.offset)) (sym is) ∙ ap (is_marked marks) (number-same i e less)

    places-hold : (e : Placed) → IsIn e required → marked-place e.entry.offset ≡ true
    places-hold e i =
        let at = in-at es e (within e i) in
        at-place at.0 e at.1 at.2 ∙ least.required_marked at.0 (omega (arith, at.1, as-many)) (says at.0 e at.1 ∙ ap (λ x. has_place required x.entry.offset) at.2 ∙ in-place required e e.entry.offset i refl)

    places-closed : (e f : Placed) → IsIn e es → IsIn f es → marked-place e.entry.offset ≡ true → keeps es e f ≡ true → marked-place f.entry.offset ≡ true
    places-closed e f i j h k =
        let a = in-at es e i in
        let b = in-at es f j in
        let fe : get_or es b.0 e ≡ f = get_or_default es b.0 e f b.1 ∙ b.2 in
        at-place b.0 f b.1 b.2
        ∙ least.closed a.0 b.0 (omega (arith, a.1, as-many)) (omega (arith, b.1, as-many)) (sym (at-place a.0 e a.1 a.2) ∙ h) (graph.keeps_same a.0 b.0 e a.1 b.1 ∙ ap (λ x. keeps es x (get_or es b.0 e)) a.2 ∙ ap (keeps es e) fe ∙ k)

    kept-marked : (i : ℕ) (d : Placed) → i < length es → has_place (kept_with es required) (get_or es i d).entry.offset ≡ true → is_marked marks i ≡ true
    kept-marked i d less h =
        let found = place-in (kept_with es required) (get_or es i d).entry.offset h in
        sym (at-place i (get_or es i d) less (get_or_default es i (get_or es i d) d less)) ∙ ap marked-place (sym found.2) ∙ kept-least es required within marked-place places-hold places-closed found.0 found.1

    say-kept : SayWhich es (kept_with es required) marks
    say-kept i d less = same-truth _ _ (marked-kept i d less) (kept-marked i d less)

-- The law.
pub marks-are-kept : (es : List Placed) (ns : List Node) (required : List Placed) (flags marks : List Bool) → MarksAreKept es ns required flags marks
marks-are-kept es ns required flags marks apart within graph says least = say-kept es apart ns required flags marks (λ e i. contains-in es e (within e (in-contains required e i))) graph says least
