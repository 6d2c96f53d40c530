-- Flat ranges, and one more behind them.
use Rattle.std.proofs.Common.{◌≡◌, ℕ, ◌<◌, ◌≤◌, ◌⊎◌, max, List, [], ◌∷◌, ◌++◌, false, Some, refl, sym, ap, subst, ◌∙◌, arith, inl, inr, true≢false}
use Rattle.std.specs.Prelude.{◌==◌, ◌||◌, nat_lt, All}
use Rattle.std.specs.List.{list_any}
use Rattle.std.specs.Option.{unwrap_or}
use Rattle.std.proofs.lemmas.Bool.{and_cases, eq-eqb, le-ltb}
use Rattle.std.proofs.lemmas.List.Elements.{All-nil, All-head, All-tail, All-weaker, All-push}
use Rattle.dwc_native.specs.Compiled.{LabelRange}
use Rattle.dwc_native.specs.Placed.{same_place}
use Rattle.dwc_isa.specs.declared.value_label.LabelValueLoc.TheVariants.{Reg}
use Rattle.dwc_isa.specs.declared.value_label.ValueLocRange.{ValueLocRange}
use Rattle.dwc_isa.specs.FlatRanges.{IsFlat, goes_on, goes_on_last, IsFlatTo}
use Rattle.dwc_isa.proofs.ListEnds.{all-last, pairs-last, pairs-push, Ends, ends, last_of-end}

-- what stands past the end of a list of ranges
abbrev pub no_range : ValueLocRange
no_range = record { loc = Reg (record { 0 = 0 }); start = 0; end = 0 }

pub flat-none : IsFlat []
flat-none = record { nonempty = All-nil (λ r. r.start < r.end); ordered = λ i j d below inside. absurd (omega (arith, inside)); maximal = λ i j d below inside. absurd (omega (arith, inside)) }

pub flat-none-to : (end : ℕ) → IsFlatTo end []
flat-none-to end = record { flat = flat-none; ends = All-nil (λ r. r.end ≤ end) }

pub goes_on-end : (front : List LabelRange) (l r : LabelRange) → goes_on_last (front ++ l ∷ []) r ≡ goes_on l r
goes_on-end [] l r = refl
goes_on-end (x ∷ front) l r = ap (λ o. goes_on (unwrap_or o x) r) (last_of-end front l)

-- a range does not go on where one of some ends
abbrev pub IsNoneBefore : LabelRange → List LabelRange → Type 0
IsNoneBefore r rs = All (λ x. (x.end ≡ r.start) → same_place (Some x.place) (Some r.place) ≡ false) rs

none-before : (end : ℕ) (r l : LabelRange) (front : List LabelRange) → end ≤ r.start → goes_on l r ≡ false → IsFlatTo end (front ++ l ∷ []) → IsNoneBefore r (front ++ l ∷ [])
none-before end r l front le apart f =
    All-push (λ x. (x.end ≡ r.start) → same_place (Some x.place) (Some r.place) ≡ false) front l
    (λ k d inside touch. absurd (omega (arith, touch, ordered k d inside, some, last, le)))
    (λ touch. go touch (and_cases (l.end == r.start) (same_place (Some l.place) (Some r.place)) apart))
  where
    ordered : All (λ x. x.end ≤ l.start) front
    ordered = pairs-last (λ x y. x.end ≤ y.start) front l f.flat.ordered

    some : l.start < l.end
    some = all-last (λ x. x.start < x.end) front l f.flat.nonempty

    last : l.end ≤ end
    last = all-last (λ x. x.end ≤ end) front l f.ends

    go : l.end ≡ r.start → ((l.end == r.start) ≡ false) ⊎ (same_place (Some l.place) (Some r.place) ≡ false) → same_place (Some l.place) (Some r.place) ≡ false
    go touch (inl not) = absurd (true≢false (sym (eq-eqb l.end r.start touch) ∙ not))
    go touch (inr differ) = differ

-- one more that does not go on where one in front ends
behind : (end : ℕ) (r : LabelRange) (old : List LabelRange) → r.start < r.end → end ≤ r.start → IsNoneBefore r old → IsFlatTo end old → IsFlatTo (max end r.end) (old ++ r ∷ [])
behind end r old some le apart f = record {
  flat = record {
    nonempty = All-push (λ x. x.start < x.end) old r f.flat.nonempty some;
    ordered = pairs-push (λ x y. x.end ≤ y.start) old r f.flat.ordered (λ k d inside. omega (arith, f.ends k d inside, le));
    maximal = pairs-push (λ x y. (x.end ≡ y.start) → same_place (Some x.place) (Some y.place) ≡ false) old r f.flat.maximal apart;
  };
  ends = All-push (λ x. x.end ≤ max end r.end) old r (All-weaker (λ x. x.end ≤ end) (λ x. x.end ≤ max end r.end) (λ x to. omega (arith, to)) old f.ends) (omega arith);
}

-- nor where the last one ends
pub flat-behind : (end : ℕ) (r : LabelRange) (old : List LabelRange) → r.start < r.end → end ≤ r.start → goes_on_last old r ≡ false → IsFlatTo end old → IsFlatTo (max end r.end) (old ++ r ∷ [])
flat-behind end r old some le apart f = behind end r old some le (go (ends old)) f
  where
    go : (old ≡ []) ⊎ Ends old → IsNoneBefore r old
    go (inl none) = subst (IsNoneBefore r) (sym none) (All-nil (λ x. (x.end ≡ r.start) → same_place (Some x.place) (Some r.place) ≡ false))
    go (inr e) =
        subst (IsNoneBefore r) (sym e.is)
        (none-before end r e.last e.front le (sym (goes_on-end e.front e.last r) ∙ ap (λ rs. goes_on_last rs r) (sym e.is) ∙ apart) (subst (IsFlatTo end) e.is f))

-- flat ranges with one more that does not go on where the last one ends
pub flat-more : (end : ℕ) (r : LabelRange) (rs : List LabelRange) → IsFlatTo end rs → end ≤ r.start → r.start < r.end → goes_on_last rs r ≡ false → IsFlatTo r.end (rs ++ r ∷ [])
flat-more end r rs f le some apart = subst (λ n. IsFlatTo n (rs ++ r ∷ [])) (omega (arith, le, some)) (flat-behind end r rs some le apart f)

-- none of some ranges with a byte begins above its end
pub none-reversed : (rs : List LabelRange) → All (λ r. r.start < r.end) rs → list_any (λ r. nat_lt r.end r.start) rs ≡ false
none-reversed [] h = refl
none-reversed (r ∷ rs) h =
    ap (λ b. b || list_any (λ (s : LabelRange). nat_lt s.end s.start) rs) (le-ltb r.end r.start (omega (arith, All-head (λ (s : LabelRange). s.start < s.end) r rs h)))
    ∙ none-reversed rs (All-tail (λ (s : LabelRange). s.start < s.end) r rs h)
