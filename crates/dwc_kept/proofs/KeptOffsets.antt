-- The marked offsets are those of the kept entries.
use Rattle.std.proofs.Common.{◌≡◌, ℕ, zero, suc, ◌<◌, ◌≢◌, List, [], ◌∷◌, length, get_or, map, refl, ap, sym, ◌∙◌, inl, inr, arith, Bool, true, false, cond}
use Rattle.std.specs.Prelude.{◌||◌, AllPairs}
use Rattle.std.specs.List.{filter, list_any}
use Rattle.std.proofs.lemmas.List.{length-map}
use Rattle.dwc_rules.specs.Kept.{Placed, is_among, keeps, kept_step, steps_of}
use Rattle.dwc_rules.specs.KeptEntries.{kept_with, has_place}
use Rattle.dwc_kept.specs.EntryGraphs.{Node, is_marked, OffsetsAreKept, marked_of}
use Rattle.dwc_base.proofs.InLists.{IsIn, contains-in, in-contains, in-filter, filter-in, distinct-same}
use Rattle.dwc_kept.proofs.KeptLaws.{place-in, in-place}
use Rattle.dwc_kept.proofs.MarkLaws.{same-truth, marks-are-kept}

-- two tests that agree on a list
pub filter-same : {A : Type 0} (f g : A → Bool) (xs : List A) → ((x : A) → IsIn x xs → f x ≡ g x) → filter f xs ≡ filter g xs
filter-same f g [] h = refl
filter-same {A} f g (x ∷ xs) h =
    ap (λ b. cond {A = List A} b (x ∷ filter f xs) (filter f xs)) (h x (inl refl))
    ∙ ap (λ ys. cond {A = List A} (g x) (x ∷ ys) ys) (filter-same f g xs (λ y i. h y (inr i)))

marked-filter : (q : Placed → Bool) (es : List Placed) (marks : List Bool) → length marks ≡ length es → ((i : ℕ) (d : Placed) → i < length es → is_marked marks i ≡ q (get_or es i d)) → marked_of (map (λ e. e.entry.offset) es) marks ≡ map (λ e. e.entry.offset) (filter q es)
marked-filter q [] marks same says = refl
marked-filter q (e ∷ es) [] same says = absurd (omega (arith, same))
marked-filter q (e ∷ es) (m ∷ marks) same says =
    ap (λ b. cond {A = List ℕ} b (e.entry.offset ∷ marked_of (map (λ f. f.entry.offset) es) marks) (marked_of (map (λ f. f.entry.offset) es) marks)) (says 0 e (omega arith))
    ∙ ap (λ xs. cond {A = List ℕ} (q e) (e.entry.offset ∷ xs) xs) (marked-filter q es marks (omega (arith, same)) (λ i d less. says (suc i) d (omega (arith, less))))
    ∙ go (q e)
  where
    go : (b : Bool) → cond {A = List ℕ} b (e.entry.offset ∷ map (λ f. f.entry.offset) (filter q es)) (map (λ f. f.entry.offset) (filter q es)) ≡ map (λ f. f.entry.offset) (cond {A = List Placed} b (e ∷ filter q es) (filter q es))
    go true = refl
    go false = refl

-- what a step keeps is what stands at its places
step-filter : (es ks : List Placed) → AllPairs (λ e f. e.entry.offset ≢ f.entry.offset) es → filter (λ e. has_place (kept_step es ks) e.entry.offset) es ≡ kept_step es ks
step-filter es ks apart = filter-same (λ e. has_place (kept_step es ks) e.entry.offset) is_next es same
  where
    is_next : Placed → Bool
    is_next f = is_among ks f || list_any (λ e. keeps es e f) ks

    same : (f : Placed) → IsIn f es → has_place (kept_step es ks) f.entry.offset ≡ is_next f
    same f i = same-truth _ _ there (λ h. in-place _ f f.entry.offset (filter-in is_next es f i h) refl)
      where
        there : has_place (kept_step es ks) f.entry.offset ≡ true → is_next f ≡ true
        there h =
            let found = place-in (kept_step es ks) f.entry.offset h in
            let from = in-filter is_next es found.0 found.1 in
            ap is_next (sym (distinct-same (λ e. e.entry.offset) es found.0 f apart from.0 i found.2)) ∙ from.1

steps-filter : (n : ℕ) (es required : List Placed) → n ≡ length es → AllPairs (λ e f. e.entry.offset ≢ f.entry.offset) es → ((e : Placed) → IsIn e required → IsIn e es) → filter (λ e. has_place (steps_of n es required) e.entry.offset) es ≡ steps_of n es required
steps-filter zero [] required few apart within = go required within
  where
    go : (rs : List Placed) → ((e : Placed) → IsIn e rs → ⊥) → [] ≡ rs
    go [] w = refl
    go (r ∷ rs) w = absurd (w r (inl refl))
steps-filter zero (e ∷ es) required few apart within = absurd (omega (arith, few))
steps-filter (suc n) es required few apart within = step-filter es (steps_of n es required) apart

pub kept-filter : (es required : List Placed) → AllPairs (λ e f. e.entry.offset ≢ f.entry.offset) es → ((e : Placed) → IsIn e required → IsIn e es) → filter (λ e. has_place (kept_with es required) e.entry.offset) es ≡ kept_with es required
unfolding kept_with
kept-filter es required = steps-filter (length es) es required refl

-- The law.
pub offsets-are-kept : (es : List Placed) (ns : List Node) (required : List Placed) (flags : List Bool) (offsets : List ℕ) → OffsetsAreKept es ns required flags offsets
offsets-are-kept es ns required flags offsets apart within graph says kept =
    kept.marked
    ∙ ap (λ os. marked_of os kept.marks) graph.offsets
    ∙ marked-filter (λ e. has_place (kept_with es required) e.entry.offset) es kept.marks (kept.least.counted ∙ sym (length-map ns (λ n. n.offset)) ∙ ap length graph.offsets ∙ length-map es (λ e. e.entry.offset)) (marks-are-kept es ns required flags kept.marks apart within graph says kept.least)
    ∙ ap (map (λ e. e.entry.offset)) (kept-filter es required apart (λ e i. contains-in es e (within e (in-contains required e i))))
