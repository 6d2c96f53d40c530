-- Steps of the walk that cuts ranges by pieces.
use Rattle.std.proofs.Common.{◌≡◌, ℕ, suc, ◌<◌, ◌≤◌, ◌+◌, List, [], ◌++◌, length, get_or, drop, map, true, ap, sym, subst, ◌∙◌, arith, inl, inr, eqb-true, Some, None}
use Rattle.std.specs.Prelude.{Option, All, AllPairs, option_to_list}
use Rattle.std.specs.List.{filter_map}
use Rattle.std.proofs.lemmas.List.{get_or-map, length-map, at_drop_more, drop_all, get_or_default}
use Rattle.dwc_native.specs.Compiled.{LabelRange}
use Rattle.dwc_native.specs.Placed.{NativeRange, is_number}
use Rattle.dwc_native.specs.LabelRanges.{IsBefore}
use Rattle.dwc_isa.specs.declared.value_label.ValueLocRange.{ValueLocRange}
use Rattle.dwc_isa.specs.declared.value_label.LabelValueLoc.TheVariants.{Reg}
use Rattle.dwc_isa.specs.ValueLabels.{range_view}
use Rattle.dwc_isa.specs.FlatRanges.{IsFlat}
use Rattle.dwc_expr.specs.PlacedParts.{PlacedPart, cut_by, cuts_of, cuts_from, AllPassed, EndBy}
use Rattle.dwc_expr.proofs.PieceLaws.{end-more}
use Rattle.dwc_expr.proofs.CutLaws.{cuts-done, cuts-step}

-- what stands past the end of a list
abbrev pub no_piece : ValueLocRange
no_piece = record { loc = Reg (record { 0 = 0 }); start = 0; end = 0 }

pub inside-seen : {A B : Type 0} (f : A → B) (xs : List A) (n : ℕ) → n < length xs → n < length (map f xs)
inside-seen f xs n inside = subst (λ k. n < k) (sym (length-map xs f)) inside

pub piece-seen : (pieces : List ValueLocRange) (n : ℕ) (d : ValueLocRange) → n < length pieces → get_or (map range_view pieces) n (range_view d) ≡ range_view (get_or pieces n d)
piece-seen pieces n d inside = get_or-map range_view pieces n d (range_view d) inside

-- an item stands at a place of a list
pub record IsAt {A : Type 0} (xs : List A) (n : ℕ) (x : A) : Type 0 where
  pub inside : n < length xs
  pub is : get_or xs n x ≡ x

-- an item that was read, as it is seen
pub seen-at : {A B : Type 0} (f : A → B) (xs : List A) (n : ℕ) (x : A) (y : B) → n < length xs → x ≡ get_or xs n x → y ≡ f x → IsAt (map f xs) n y
seen-at f xs n x y inside is e = record { inside = inside-seen f xs n inside; is = get_or-map f xs n x y inside ∙ ap f (sym is) ∙ sym e }

module _ (pieces : List ValueLocRange) (n : ℕ) (inside : n < length pieces) where
  -- the part in one more piece
  pub piece-step : (f : LabelRange → Option PlacedPart) → filter_map f (drop n (map range_view pieces)) ≡ option_to_list (f (range_view (get_or pieces n no_piece))) ++ filter_map f (drop (n + 1) (map range_view pieces))
  piece-step f = cuts-step f (map range_view pieces) n (range_view no_piece) (inside-seen range_view pieces n inside) ∙ ap (λ p. option_to_list (f p) ++ filter_map f (drop (n + 1) (map range_view pieces))) (piece-seen pieces n no_piece inside)

  pub passed-go : (byte end : ℕ) → end ≤ byte → (get_or pieces n no_piece).end ≤ end → EndBy byte n (map range_view pieces) → EndBy byte (n + 1) (map range_view pieces)
  passed-go byte end le to h =
      let seen : (get_or (map range_view pieces) n (range_view no_piece)).end ≤ byte = subst (λ (p : LabelRange). p.end ≤ byte) (sym (piece-seen pieces n no_piece inside)) (omega (arith, le, to)) in
      end-more (map range_view pieces) byte n (range_view no_piece) (inside-seen range_view pieces n inside) seen h

  -- behind a piece that ends behind the range there is none
  pub pieces-done : (index : ℕ) (r : NativeRange) → IsFlat (map range_view pieces) → r.end < (get_or pieces n no_piece).end → filter_map (cut_by index r) (drop (n + 1) (map range_view pieces)) ≡ []
  pieces-done index r flat behind = cuts-done (map range_view pieces) flat index n r (range_view no_piece) (inside-seen range_view pieces n inside) seen
    where
      seen : r.end ≤ (get_or (map range_view pieces) n (range_view no_piece)).end
      seen = subst (λ (p : LabelRange). r.end ≤ p.end) (sym (piece-seen pieces n no_piece inside)) (omega (arith, behind))

-- no part is in pieces behind all
pub pieces-past : (f : LabelRange → Option PlacedPart) (pieces : List ValueLocRange) (n : ℕ) → length pieces ≤ n → filter_map f (drop n (map range_view pieces)) ≡ []
pieces-past f pieces n past = ap (filter_map f) (drop_all n (map range_view pieces) (omega (arith, past, length-map pieces range_view)))

-- ---- one range more

-- the parts of one more range
pub range-step : (own : Option ℕ) (ps : List LabelRange) (rs : List NativeRange) (i : ℕ) (r : NativeRange) → IsAt rs i r → cuts_from own ps i (drop i rs) ≡ cuts_of own ps i r ++ cuts_from own ps (i + 1) (drop (i + 1) rs)
range-step own ps rs i r at =
    at_drop_more (cuts_from own ps i) rs i r at.inside
    ∙ ap (λ s. cuts_of own ps i s ++ cuts_from own ps (suc i) (drop (i + 1) rs)) at.is
    ∙ ap (λ k. cuts_of own ps i r ++ cuts_from own ps k (drop (i + 1) rs)) next_number
  where
    next_number : suc i ≡ i + 1
    next_number = omega arith

-- in front of the range at a place
pub passed-here : (own : Option ℕ) (ps : List LabelRange) (rs : List NativeRange) (i next : ℕ) (r : NativeRange) → IsAt rs i r → AllPassed own ps rs i next → is_number own r.function ≡ true → EndBy r.start next ps
passed-here own ps rs i next r at passed mine = subst (λ (s : NativeRange). EndBy s.start next ps) at.is (passed i r (omega arith) at.inside (subst (λ (s : NativeRange). is_number own s.function ≡ true) (sym at.is) mine))

-- a range that is read has a byte where all have one
pub some-here : (rs : List NativeRange) (i : ℕ) (r : NativeRange) → IsAt rs i r → All (λ s. s.start < s.end) rs → r.start < r.end
some-here rs i r at nonempty = subst (λ (s : NativeRange). s.start < s.end) at.is (nonempty i r at.inside)

-- one's own number is one number
one-number : (own : Option ℕ) (m n : ℕ) → is_number own m ≡ true → is_number own n ≡ true → m ≡ n
one-number None m n a b = absurd (cc)
one-number (Some own) m n a b = sym (eqb-true own m a) ∙ eqb-true own n b

-- of one's own ranges an earlier one ends by the begin of a later one
pub own-before : (own : Option ℕ) (r s : NativeRange) → is_number own r.function ≡ true → is_number own s.function ≡ true → IsBefore r s → r.end ≤ s.start
own-before own r s mine is (inl less) = let same = one-number own r.function s.function mine is in absurd (omega (arith, less, same))
own-before own r s mine is (inr apart) = apart.1

pub all-passed-go :
    (own : Option ℕ) (ps : List LabelRange) (rs : List NativeRange) (i next behind : ℕ) (r : NativeRange) → AllPairs IsBefore rs → IsAt rs i r
    → ((byte : ℕ) → (is_number own r.function ≡ true → r.end ≤ byte) → EndBy byte next ps → EndBy byte behind ps)
    → AllPassed own ps rs i next → AllPassed own ps rs (i + 1) behind
all-passed-go own ps rs i next behind r ordered at on passed j d from within is =
    on (get_or rs j d).start (λ mine. own-before own r (get_or rs j d) mine is (subst (λ s. IsBefore s (get_or rs j d)) (get_or_default rs i d r at.inside ∙ at.is) (ordered i j d (omega (arith, from)) within))) (passed j d (omega (arith, from)) within is)
