-- Ranges of native code as they are held: sorted, and with one more added.
use Rattle.std.proofs.Common.{◌≡◌, ℕ, ◌-◌, ◌<◌, ◌⊎◌, max, List, [], ◌∷◌, ◌++◌, length, get_or, set, map, None, true, false, Ordering, nat_cmp, is_lt, sym, ap, subst, ◌∙◌, arith, inl, inr, true≢false}
use Rattle.std.specs.Prelude.{All, AllPairs}
use Rattle.std.specs.Ordering.{ordering_then}
use Rattle.std.specs.List.Sorted.{IsPermutation, IsSortedByKey}
use Rattle.std.specs.Cmp.{IsTotalOrder}
use Rattle.std.proofs.lemmas.Cmp.{nat_cmp_total, on_total, then_total}
use Rattle.std.proofs.lemmas.List.{get_or_at, set_at, length_push, map_push}
use Rattle.std.proofs.lemmas.List.Sorted.{ranks_by, sorted_far, IsPermutation-map, All-permutation, list_any-IsPermutation}
use Rattle.std.proofs.lemmas.List.Elements.{All-map}
use Rattle.dwc_native.specs.Placed.{NativeRange}
use Rattle.dwc_native.specs.LabelRanges.{label_ranges}
use Rattle.dwc_native.proofs.LabelRangeCoverage.{holds}
use Rattle.dwc_expr.specs.declared.ranges.code_range.CodeRange.{CodeRange}
use Rattle.dwc_expr.specs.CodeRanges.{code_range_view}
use Rattle.dwc_expr.specs.JoinedScopes.{IsInOrder, begins_in_last, HaveBytesOf, AreJoined, Adds}
use Rattle.dwc_isa.proofs.ListEnds.{Ends, ends, all-of-map}
use Rattle.dwc_expr.proofs.ScopeLaws.{not-less, pairs-map, add-apart, add-joined, joined-are}

-- ---- order

-- the order of functions and starts
abbrev pub key_of : CodeRange → ℕ × ℕ
key_of r = (r.function, r.start)

abbrev pub key_cmp : ℕ × ℕ → ℕ × ℕ → Ordering
key_cmp x y = ordering_then (nat_cmp x.0 y.0) (nat_cmp x.1 y.1)

key_cmp-total : IsTotalOrder key_cmp
key_cmp-total = then_total (on_total (λ (x : ℕ × ℕ). x.0) nat_cmp_total) (on_total (λ (x : ℕ × ℕ). x.1) nat_cmp_total)

-- ranges that are sorted so are in order
pub sorted-in-order : (xs : List CodeRange) → IsSortedByKey key_of key_cmp xs → AllPairs IsInOrder (map code_range_view xs)
sorted-in-order xs sorted =
    pairs-map code_range_view IsInOrder xs
    (λ i j d below inside.
    not-less (get_or xs i d).function (get_or xs i d).start (get_or xs j d).function (get_or xs j d).start
    (sorted_far (λ x y. is_lt (key_cmp (key_of x) (key_of y))) (ranks_by key_cmp-total key_of) xs sorted i j d (omega (arith, below)) inside))

-- ranges in another order have the same bytes
pub same-bytes : (xs ys : List CodeRange) → IsPermutation xs ys → HaveBytesOf (map code_range_view ys) (map code_range_view xs)
same-bytes xs ys moved function byte = sym (list_any-IsPermutation (holds function byte) (map code_range_view xs) (map code_range_view ys) (IsPermutation-map code_range_view xs ys moved))

-- ---- one range more

-- the last range of some is lengthened
pub add-longer :
    (xs : List CodeRange) (n : ℕ) (x range : CodeRange) → n ≡ length xs → x ≡ get_or xs (n - 1) x → begins_in_last (map code_range_view xs) (code_range_view range) ≡ true
    → Adds (code_range_view range) (map code_range_view xs) (map code_range_view (set xs (n - 1) (record x { end = max x.end range.end })))
add-longer xs n x range count is begins = go (ends xs)
  where
    go : (xs ≡ []) ⊎ Ends xs → Adds (code_range_view range) (map code_range_view xs) (map code_range_view (set xs (n - 1) (record x { end = max x.end range.end })))
    go (inl none) = absurd (true≢false (sym begins ∙ ap (λ zs. begins_in_last (map code_range_view zs) (code_range_view range)) none))
    go (inr e) =
        let place : length e.front ≡ n - 1 = omega (arith, count, ap length e.is, length_push e.front e.last) in
        let last : x ≡ e.last = is ∙ ap (λ zs. get_or zs (n - 1) x) e.is ∙ get_or_at e.front e.last [] x (n - 1) place in
        let old : map code_range_view xs ≡ map code_range_view e.front ++ code_range_view e.last ∷ [] = ap (map code_range_view) e.is ∙ map_push code_range_view e.front e.last in
        let new : map code_range_view (set xs (n - 1) (record x { end = max x.end range.end })) ≡ map code_range_view e.front ++ (record (code_range_view e.last) { end = max e.last.end range.end }) ∷ [] =
        ap (λ zs. map code_range_view (set zs (n - 1) (record x { end = max x.end range.end }))) e.is
        ∙ ap (map code_range_view) (set_at e.front e.last [] (record x { end = max x.end range.end }) (n - 1) place)
        ∙ map_push code_range_view e.front (record x { end = max x.end range.end })
        ∙ ap (λ z. map code_range_view e.front ++ code_range_view (record z { end = max z.end range.end }) ∷ []) last in
        subst (λ rs. Adds (code_range_view range) rs (map code_range_view (set xs (n - 1) (record x { end = max x.end range.end })))) (sym old)
        (subst (Adds (code_range_view range) (map code_range_view e.front ++ code_range_view e.last ∷ [])) (sym new)
        (add-joined (code_range_view range) (code_range_view e.last) (map code_range_view e.front) (ap (λ rs. begins_in_last rs (code_range_view range)) (sym old) ∙ begins)))

-- a range stands behind some
pub add-pushed :
    (xs ys : List CodeRange) (range : CodeRange) → ys ≡ xs ++ range ∷ [] → begins_in_last (map code_range_view xs) (code_range_view range) ≡ false
    → Adds (code_range_view range) (map code_range_view xs) (map code_range_view ys)
add-pushed xs ys range is apart =
    subst (Adds (code_range_view range) (map code_range_view xs)) (sym (ap (map code_range_view) is ∙ map_push code_range_view xs range))
    (add-apart (code_range_view range) (map code_range_view xs) apart)

-- what stands past the end of a list of ranges
abbrev pub no_code : CodeRange
no_code = record { function = 0; start = 0; end = 0 }

-- ---- what is joined of ranges in another order

pub scope-joined : (scope sorted out : List CodeRange) → IsPermutation scope sorted → AreJoined (map code_range_view sorted) (map code_range_view out) → map code_range_view out ≡ label_ranges None [] (map code_range_view scope)
scope-joined scope sorted out moved joined =
    joined-are (map code_range_view scope) (map code_range_view out)
    (record {
      apart = joined.apart;
      same = λ function byte. joined.same function byte ∙ same-bytes scope sorted moved function byte;
      low = λ n low. joined.low n (All-permutation (λ (r : NativeRange). r.end < n) (map code_range_view scope) (map code_range_view sorted) (IsPermutation-map code_range_view scope sorted moved) low);
    })

pub scope-low : (n : ℕ) (scope sorted out : List CodeRange) → IsPermutation scope sorted → AreJoined (map code_range_view sorted) (map code_range_view out) → All (λ (r : CodeRange). r.end < n) scope → All (λ (r : CodeRange). r.end < n) out
scope-low n scope sorted out moved joined low =
    all-of-map (λ (r : NativeRange). r.end < n) code_range_view out
    (joined.low n (All-map (λ (r : NativeRange). r.end < n) code_range_view sorted (All-permutation (λ (r : CodeRange). r.end < n) scope sorted moved low)))
