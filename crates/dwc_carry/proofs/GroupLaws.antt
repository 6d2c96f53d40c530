-- Groups of locals by their ends: they rise, and a search by halves finds the group of a local.
use Rattle.std.proofs.Common.{inl, inr, ◌⊎◌, ◌≡◌, ℕ, zero, suc, ◌+◌, ◌-◌, ◌<◌, ◌≤◌, refl, sym, ap, ◌∙◌, arith, List, [], ◌∷◌, ◌++◌, length, drop, get_or, true, false}
use Rattle.std.specs.Prelude.{nat_le, option_map, slice_get}
use Rattle.std.specs.List.Sorted.{IsNonDecreasingBy, IsPartitionPoint}
use Rattle.std.proofs.lemmas.Bool.{cases_lt, leb-true, leb-false, lt-ltb, le-ltb}
use Rattle.std.proofs.lemmas.List.{append_assoc, append-nil, drop_all, drop_more, get_or_append_left, get_or_push, length_push}
use Rattle.dwc_base.specs.declared.translation.ValType.{ValType}
use Rattle.dwc_base.specs.ToldFiles.{type_in_groups}
use Rattle.dwc_carry.specs.declared.local_types.LocalGroup.{LocalGroup}
use Rattle.dwc_carry.specs.LocalGroups.{groups_from}

-- ---- groups so far

-- where the last of some groups ends
abbrev pub end_of : ℕ → List LocalGroup → ℕ
end_of start [] = start
end_of start (g ∷ gs) = end_of g.end gs

-- The first so many of some groups have ends, which rise to a number.
pub record Ended (groups : List (ℕ × ValType)) (count end : ℕ) (ended : List LocalGroup) : Type 0 where
  pub same : groups_from 0 ended ++ drop count groups ≡ groups
  pub end_is : end_of 0 ended ≡ end
  pub rising : IsNonDecreasingBy (λ (g : LocalGroup). g.end) ended
  pub below : (i : ℕ) (d : LocalGroup) → i < length ended → (get_or ended i d).end ≤ end

pub ended-none : (groups : List (ℕ × ValType)) → Ended groups 0 0 []
ended-none groups = record { same = refl; end_is = refl; rising = λ i j d le less. absurd (omega (arith, less)); below = λ i d less. absurd (omega (arith, less)) }

groups_from-push : (start : ℕ) (gs : List LocalGroup) (g : LocalGroup) → groups_from start (gs ++ g ∷ []) ≡ groups_from start gs ++ (g.end - end_of start gs, g.value_type) ∷ []
groups_from-push start [] g = refl
groups_from-push start (x ∷ xs) g = ap (λ ys. (x.end - start, x.value_type) ∷ ys) (groups_from-push x.end xs g)

end_of-push : (start : ℕ) (gs : List LocalGroup) (g : LocalGroup) → end_of start (gs ++ g ∷ []) ≡ g.end
end_of-push start [] g = refl
end_of-push start (x ∷ xs) g = end_of-push x.end xs g

-- a group more
module _ (groups : List (ℕ × ValType)) (i end : ℕ) (ended : List LocalGroup) (d : ℕ × ValType) (g : LocalGroup) (is : Ended groups i end ended) (inside : i < length groups) (behind : g.end ≡ end + (get_or groups i d).0) (typed : g.value_type ≡ (get_or groups i d).1) where
  at-last : (j : ℕ) (e : LocalGroup) → j < length (ended ++ g ∷ []) → length ended ≤ j → (get_or (ended ++ g ∷ []) j e).end ≡ g.end
  at-last j e less more = ap (λ x. x.end) (get_or_push ended g e j (omega (arith, length_push ended g, less, more)))

  before-last : (j : ℕ) (e : LocalGroup) → j < length ended → (get_or (ended ++ g ∷ []) j e).end ≡ (get_or ended j e).end
  before-last j e less = ap (λ x. x.end) (get_or_append_left ended (g ∷ []) e j less)

  below-last : (j : ℕ) (e : LocalGroup) → j < length (ended ++ g ∷ []) → (get_or (ended ++ g ∷ []) j e).end ≤ g.end
  below-last j e less = by (cases_lt j (length ended))
    where
      by : (j < length ended) ⊎ (length ended ≤ j) → (get_or (ended ++ g ∷ []) j e).end ≤ g.end
      by (inl low) = omega (arith, before-last j e low, is.below j e low, behind)
      by (inr more) = omega (arith, at-last j e less more)

  rising-more : IsNonDecreasingBy (λ (x : LocalGroup). x.end) (ended ++ g ∷ [])
  rising-more j k e le less = by (cases_lt k (length ended))
    where
      by : (k < length ended) ⊎ (length ended ≤ k) → (get_or (ended ++ g ∷ []) j e).end ≤ (get_or (ended ++ g ∷ []) k e).end
      by (inl low) = omega (arith, before-last j e (omega (arith, le, low)), before-last k e low, is.rising j k e le low)
      by (inr more) = omega (arith, below-last j e (omega (arith, le, less)), at-last k e less more)

  same-more : groups_from 0 (ended ++ g ∷ []) ++ drop (i + 1) groups ≡ groups
  same-more =
      let size : g.end - end_of 0 ended ≡ (get_or groups i d).0 = omega (arith, behind, is.end_is) in
      let group : ◌≡◌ {A = ℕ × ValType} (g.end - end_of 0 ended, g.value_type) (get_or groups i d) = λ k. (size k, typed k) in
      ap (λ xs. xs ++ drop (i + 1) groups) (groups_from-push 0 ended g)
      ∙ append_assoc (groups_from 0 ended) ((g.end - end_of 0 ended, g.value_type) ∷ []) (drop (i + 1) groups)
      ∙ ap (λ x. groups_from 0 ended ++ x ∷ drop (i + 1) groups) group
      ∙ ap (λ xs. groups_from 0 ended ++ xs) (sym (drop_more groups i d inside))
      ∙ is.same

  pub ended-more : Ended groups (i + 1) g.end (ended ++ g ∷ [])
  ended-more = record { same = same-more; end_is = end_of-push 0 ended g; rising = rising-more; below = below-last }

-- where all groups have ends
pub ended-all : (groups : List (ℕ × ValType)) (count end : ℕ) (ended : List LocalGroup) → Ended groups count end ended → length groups ≤ count → groups_from 0 ended ≡ groups
ended-all groups count end ended is all = sym (append-nil (groups_from 0 ended)) ∙ ap (λ xs. groups_from 0 ended ++ xs) (sym (drop_all count groups all)) ∙ is.same

-- ---- the group of a local

-- Among groups that begin at a number, the first one that ends behind a local is its group.
pub group-found : (n : ℕ) (gs : List LocalGroup) (start left place : ℕ) → start + left ≡ n → place ≤ length gs → ((i : ℕ) (d : LocalGroup) → i < length gs → start ≤ (get_or gs i d).end) → IsNonDecreasingBy (λ (g : LocalGroup). g.end) gs
    → IsPartitionPoint (λ g. nat_le g.end n ≡ true) (λ g. nat_le g.end n ≡ false) gs place → option_map (λ (g : LocalGroup). g.value_type) (slice_get gs place) ≡ type_in_groups (groups_from start gs) left
group-found n [] start left zero sum inside low rises at = refl
group-found n [] start left (suc place) sum inside low rises at = absurd (omega (arith, inside))
group-found n (g ∷ gs) start left zero sum inside low rises at =
    let past : n < g.end = leb-false g.end n (at.1 0 g (omega arith) (omega arith)) in
    rw (lt-ltb left (g.end - start) (omega (arith, past, sum))) refl
group-found n (g ∷ gs) start left (suc place) sum inside low rises at =
    let before : g.end ≤ n = leb-true g.end n (at.0 0 g (omega arith) (omega arith)) in
    let begins : start ≤ g.end = low 0 g (omega arith) in
    rw (le-ltb left (g.end - start) (omega (arith, before, sum)))
    (group-found n gs g.end (left - (g.end - start)) place (omega (arith, before, begins, sum)) (omega (arith, inside))
    (λ i d less. rises 0 (suc i) d (omega arith) (omega (arith, less)))
    (λ i j d le less. rises (suc i) (suc j) d (omega (arith, le)) (omega (arith, less)))
    (λ k d lower higher. at.0 (suc k) d (omega arith) (omega (arith, higher)), λ k d lower higher. at.1 (suc k) d (omega (arith, lower)) (omega (arith, higher))))
