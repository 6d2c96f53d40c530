-- Where flat pieces begin to reach behind a byte.
use Rattle.std.proofs.Common.{◌≡◌, ℕ, ◌<◌, ◌≤◌, ◌+◌, ◌⊎◌, List, length, get_or, take, map, true, false, sym, subst, ◌∙◌, arith, inl, inr, true≢false}
use Rattle.std.specs.Prelude.{Option, All, AllPairs, nat_le}
use Rattle.std.specs.List.Sorted.{IsNonDecreasingBy, IsPartitionPoint}
use Rattle.std.proofs.lemmas.Bool.{cases_lt, leb-true}
use Rattle.std.proofs.lemmas.List.{get_or_default, get_or-map, get_or-take, length-map, length-take-le}
use Rattle.dwc_native.specs.Compiled.{LabelRange}
use Rattle.dwc_native.specs.Placed.{NativeRange, is_number}
use Rattle.dwc_native.specs.LabelRanges.{IsBefore}
use Rattle.dwc_isa.specs.declared.value_label.ValueLocRange.{ValueLocRange}
use Rattle.dwc_isa.specs.FlatRanges.{IsFlat}
use Rattle.dwc_isa.specs.ValueLabels.{range_view}
use Rattle.dwc_isa.proofs.FlatLaws.{no_range}
use Rattle.dwc_expr.specs.PlacedParts.{AllPassed, EndBy}
use Rattle.dwc_expr.proofs.PieceLaws.{end-later}
use Rattle.dwc_expr.proofs.CutWalkLaws.{IsAt, inside-seen, own-before, some-here}

-- ---- the first piece behind a byte

-- the ends of flat pieces do not fall
pub ends-rise : (pieces : List ValueLocRange) → IsFlat (map range_view pieces) → IsNonDecreasingBy (λ p. p.end) pieces
ends-rise pieces flat i j d le inside = go (cases_lt i j)
  where
    seen : (k : ℕ) → k < length pieces → get_or (map range_view pieces) k (range_view d) ≡ range_view (get_or pieces k d)
    seen k within = get_or-map range_view pieces k d (range_view d) within

    go : (i < j) ⊎ (j ≤ i) → (get_or pieces i d).end ≤ (get_or pieces j d).end
    go (inl less) =
        let apart : (get_or pieces i d).end ≤ (get_or pieces j d).start = subst (λ (p : LabelRange). p.end ≤ (get_or pieces j d).start) (seen i (omega (arith, less, inside))) (subst (λ (p : LabelRange). (get_or (map range_view pieces) i (range_view d)).end ≤ p.start) (seen j inside) (flat.ordered i j (range_view d) less (inside-seen range_view pieces j inside))) in
        let some : (get_or pieces j d).start < (get_or pieces j d).end = subst (λ (p : LabelRange). p.start < p.end) (seen j inside) (flat.nonempty j (range_view d) (inside-seen range_view pieces j inside)) in
        omega (arith, apart, some)
    go (inr same) =
        let one : i ≡ j = omega (arith, le, same) in
        let reflexive : (get_or pieces i d).end ≤ (get_or pieces i d).end = omega arith in
        subst (λ k. (get_or pieces i d).end ≤ (get_or pieces k d).end) one reflexive

-- those in front of where a search by halves stops end by the byte
pub end-by : (pieces : List ValueLocRange) (byte n : ℕ) → n ≤ length pieces → IsPartitionPoint (λ p. nat_le p.end byte ≡ true) (λ p. nat_le p.end byte ≡ false) pieces n → EndBy byte n (map range_view pieces)
end-by pieces byte n le parted k d inside =
    subst (λ (p : LabelRange). p.end ≤ byte) (sym (get_or-take n (map range_view pieces) k d below))
    (subst (λ (p : LabelRange). p.end ≤ byte) (sym (get_or_default (map range_view pieces) k d (range_view no_range) within ∙ get_or-map range_view pieces k no_range (range_view no_range) (omega (arith, below, le))))
    (leb-true (get_or pieces k no_range).end byte (parted.0 k no_range (omega arith) below)))
  where
    count : length (take n (map range_view pieces)) ≡ n
    count = length-take-le n (map range_view pieces) (omega (arith, le, length-map pieces range_view))

    below : k < n
    below = omega (arith, inside, count)

    within : k < length (map range_view pieces)
    within = inside-seen range_view pieces k (omega (arith, below, le))

-- ---- the first range of one's own function

-- none of the ranges in front of a place is of one's own function
abbrev pub NoneOwn : Option ℕ → List NativeRange → ℕ → Type 0
NoneOwn own rs i = (j : ℕ) (d : NativeRange) → j < i → j < length rs → is_number own (get_or rs j d).function ≡ false

pub none-more : (own : Option ℕ) (rs : List NativeRange) (i : ℕ) (r : NativeRange) → IsAt rs i r → is_number own r.function ≡ false → NoneOwn own rs i → NoneOwn own rs (i + 1)
none-more own rs i r at other none j d below within = go (cases_lt j i)
  where
    go : (j < i) ⊎ (i ≤ j) → is_number own (get_or rs j d).function ≡ false
    go (inl less) = none j d less within
    go (inr le) =
        let one : i ≡ j = omega (arith, below, le) in
        subst (λ k. is_number own (get_or rs k d).function ≡ false) one
        (subst (λ (s : NativeRange). is_number own s.function ≡ false) (sym (get_or_default rs i d r at.inside ∙ at.is)) other)

-- pieces that end in front of the first such range end in front of each
pub first-passed :
    (own : Option ℕ) (ps : List LabelRange) (rs : List NativeRange) (i next : ℕ) (r : NativeRange) → AllPairs IsBefore rs → All (λ s. s.start < s.end) rs → IsAt rs i r → NoneOwn own rs i
    → is_number own r.function ≡ true → EndBy r.start next ps → AllPassed own ps rs 0 next
first-passed own ps rs i next r ordered nonempty at none mine passed j d from within is = go (cases_lt j i) (cases_lt i j)
  where
    here : get_or rs i d ≡ r
    here = get_or_default rs i d r at.inside ∙ at.is

    go : (j < i) ⊎ (i ≤ j) → (i < j) ⊎ (j ≤ i) → EndBy (get_or rs j d).start next ps
    go (inl less) other = absurd (true≢false (sym is ∙ none j d less within))
    go (inr le) (inl more) =
        let apart : r.end ≤ (get_or rs j d).start = own-before own r (get_or rs j d) mine is (subst (λ s. IsBefore s (get_or rs j d)) here (ordered i j d more within)) in
        end-later ps r.start (get_or rs j d).start next (omega (arith, apart, some-here rs i r at nonempty)) passed
    go (inr le) (inr same) =
        let one : i ≡ j = omega (arith, le, same) in
        subst (λ k. EndBy (get_or rs k d).start next ps) one (subst (λ (s : NativeRange). EndBy s.start next ps) (sym here) passed)
