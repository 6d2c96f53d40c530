-- The ranges of labels as a finite map, and as an ordered map.
use Rattle.std.proofs.Common.{◌≡◌, ℕ, refl, sym, ap, ◌∙◌, List, [], ◌∷◌, map, Some, nat_cmp, arith, length}
use Rattle.std.specs.Prelude.{cond}
use Rattle.std.specs.Ordering.{is_eq, eq_by_cmp}
use Rattle.std.specs.BTreeMap.{is_at}
use Rattle.std.specs.Map.{lookup}
use Rattle.std.specs.Cmp.{nat_cmp_total, eq_by_cmp_equiv}
use Rattle.std.specs.List.Sorted.{IsStrictlySortedBy}
use Rattle.std.specs.FinMap as finite
use Rattle.std.specs.FinMap.{get-empty, get-insert, nat_cmp-IsAntisymmetric, same_map, entries-insert, len-entries, len-empty, put}
use Rattle.dwc_native.specs.Compiled.{LabelRange}
use Rattle.dwc_isa.specs.ValueLabels.{labelled_by}

-- the entries of an ordered map
abbrev Labels : Type 0
Labels = List (ℕ × List LabelRange)

-- the finite map finds what a scan finds
pub get-labelled : (es : Labels) (q : ℕ) → finite.get (labelled_by es) q ≡ lookup (is_at (nat_cmp q)) es
get-labelled [] q = get-empty nat_cmp q
get-labelled (e ∷ es) q = get-insert nat_cmp_total (labelled_by es) e.0 e.1 q ∙ ap (cond (eq_by_cmp nat_cmp q e.0) (Some e.1)) (get-labelled es q)

-- entries of which one label has new ranges are the map with these
pub insert-labelled : (old new : Labels) (label : ℕ) (ranges : List LabelRange)
    → ((q : ℕ) → lookup (is_at (nat_cmp q)) new ≡ cond (is_eq (nat_cmp label q)) (Some ranges) (lookup (is_at (nat_cmp q)) old))
    → labelled_by new ≡ finite.insert (labelled_by old) label ranges
insert-labelled old new label ranges is =
    same_map nat_cmp_total nat_cmp-IsAntisymmetric (labelled_by new) (finite.insert (labelled_by old) label ranges) (λ q.
    get-labelled new q ∙ is q
    ∙ ap (λ b. cond b (Some ranges) (lookup (is_at (nat_cmp q)) old)) ((eq_by_cmp_equiv nat_cmp_total).symm label q)
    ∙ ap (cond (eq_by_cmp nat_cmp q label) (Some ranges)) (sym (get-labelled old q))
    ∙ sym (get-insert nat_cmp_total (labelled_by old) label ranges q))

-- entries in order are those of the map
in-front : (e : ℕ × List LabelRange) (es : Labels) → IsStrictlySortedBy nat_cmp (map (λ f. f.0) (e ∷ es)) → put nat_cmp e.0 e.1 es ≡ e ∷ es
unfolding IsStrictlySortedBy
in-front e [] h = refl
in-front e (f ∷ es) h = rw h.0.0 refl

no_entries : (es : Labels) → length es ≡ 0 → es ≡ []
no_entries [] h = refl
no_entries (e ∷ es) h = absurd (omega (arith, h))

entries-empty : finite.entries (finite.empty {K = ℕ} {X = List LabelRange} {R = nat_cmp}) ≡ []
entries-empty = no_entries _ (sym (len-entries (finite.empty {K = ℕ} {X = List LabelRange} {R = nat_cmp})) ∙ len-empty nat_cmp (List LabelRange))

entries-labelled : (es : Labels) → IsStrictlySortedBy nat_cmp (map (λ e. e.0) es) → finite.entries (labelled_by es) ≡ es
unfolding IsStrictlySortedBy
entries-labelled [] h = entries-empty
entries-labelled (e ∷ es) h = entries-insert nat_cmp_total (labelled_by es) e.0 e.1 ∙ ap (put nat_cmp e.0 e.1) (entries-labelled es h.1) ∙ in-front e es h

-- the labels in order are the map's keys
pub keys-labelled : (es : Labels) → IsStrictlySortedBy nat_cmp (map (λ e. e.0) es) → finite.keys (labelled_by es) ≡ map (λ e. e.0) es
keys-labelled es h = ap (map (λ e. e.0)) (entries-labelled es h)
