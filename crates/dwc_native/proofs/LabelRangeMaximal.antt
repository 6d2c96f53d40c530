-- The label ranges of a scope are the maximal ones: no place changes within one, and where two touch some place changes.
use Rattle.std.proofs.Common.{◌≡◌, ℕ, zero, suc, ◌<◌, ◌≤◌, ◌+◌, ◌-◌, List, [], ◌∷◌, true, false, refl, ap, sym, ◌∙◌, subst, arith, inl, inr, true≢false, Some, None}
use Rattle.std.specs.Prelude.{Bool, Option, ◌&&◌, ◌==◌, ◌⊎◌, ◌++◌, map, if◌then◌else◌, ⊤, All, AllPairs}
use Rattle.std.specs.List.{filter, list_all, flat_map, range_with_len}
use Rattle.std.specs.Cmp.{IsEquivalence}
use Rattle.std.proofs.lemmas.Cmp.{nat_eq_equiv, int_eq_equiv}
use Rattle.std.proofs.lemmas.List.Elements.{All-nil, All-cons, All-append, All-weaker}
use Rattle.std.proofs.lemmas.List.Kept.{AllPairs-cons}
use Rattle.std.proofs.lemmas.Bool.{cases_lt, and_parts, and_from, eqb-true, eq-eqb}
use Rattle.dwc_native.specs.Compiled.{Place, in_register, at_frame_offset}
use Rattle.dwc_native.specs.Placed.{Frame, NativeRange, placed, same_place, all_stay}
use Rattle.dwc_native.specs.LabelRanges.{greatest, with_byte, ranges_among, is_wanted, ranges_of_function, label_ranges, AtEachByte, LabelRangesAreMaximal}
use Rattle.dwc_native.proofs.LabelRangeLaws.{Ascend, ranges-ascend, After, ascend-after, label-ranges}
use Rattle.dwc_native.proofs.LabelRangeCoverage.{label-ranges-complete}

-- ---- to have the same places is an equivalence

same_place-equiv : IsEquivalence same_place
same_place-equiv = record { refl = same; symm = turned; congr = chained }
  where
    same : (o : Option Place) → same_place o o ≡ true
    same None = refl
    same (Some (in_register r)) = nat_eq_equiv.refl r
    same (Some (at_frame_offset o)) = int_eq_equiv.refl o

    turned : (o p : Option Place) → same_place o p ≡ same_place p o
    turned None None = refl
    turned None (Some (in_register s)) = refl
    turned None (Some (at_frame_offset p)) = refl
    turned (Some (in_register r)) None = refl
    turned (Some (in_register r)) (Some (in_register s)) = nat_eq_equiv.symm r s
    turned (Some (in_register r)) (Some (at_frame_offset p)) = refl
    turned (Some (at_frame_offset o)) None = refl
    turned (Some (at_frame_offset o)) (Some (in_register s)) = refl
    turned (Some (at_frame_offset o)) (Some (at_frame_offset p)) = int_eq_equiv.symm o p

    chained : (o p q : Option Place) → same_place o p ≡ true → same_place o q ≡ same_place p q
    chained None None q h = refl
    chained None (Some (in_register s)) q h = absurd (true≢false (sym h))
    chained None (Some (at_frame_offset p)) q h = absurd (true≢false (sym h))
    chained (Some (in_register r)) None q h = absurd (true≢false (sym h))
    chained (Some (in_register r)) (Some (at_frame_offset p)) q h = absurd (true≢false (sym h))
    chained (Some (at_frame_offset o)) None q h = absurd (true≢false (sym h))
    chained (Some (at_frame_offset o)) (Some (in_register s)) q h = absurd (true≢false (sym h))
    chained (Some (in_register r)) (Some (in_register s)) None h = refl
    chained (Some (in_register r)) (Some (in_register s)) (Some (at_frame_offset q)) h = refl
    chained (Some (in_register r)) (Some (in_register s)) (Some (in_register t)) h = nat_eq_equiv.congr r s t h
    chained (Some (at_frame_offset o)) (Some (at_frame_offset p)) None h = refl
    chained (Some (at_frame_offset o)) (Some (at_frame_offset p)) (Some (in_register t)) h = refl
    chained (Some (at_frame_offset o)) (Some (at_frame_offset p)) (Some (at_frame_offset q)) h = int_eq_equiv.congr o p q h

-- bytes on which each of some labels answers alike
alike : (ℕ → ℕ → Option Place) → List ℕ → ℕ → ℕ → Bool
alike place labels byte other = list_all (λ label. same_place (place byte label) (place other label)) labels

alike-equiv : (place : ℕ → ℕ → Option Place) (labels : List ℕ) → IsEquivalence (alike place labels)
unfolding alike
alike-equiv place labels = record { refl = same labels; symm = turned labels; congr = chained labels }
  where
    same : (ls : List ℕ) (b : ℕ) → alike place ls b b ≡ true
    same [] b = refl
    same (l ∷ ls) b = and_from _ _ (same_place-equiv.refl (place b l)) (same ls b)

    turned : (ls : List ℕ) (b c : ℕ) → alike place ls b c ≡ alike place ls c b
    turned [] b c = refl
    turned (l ∷ ls) b c = rw (same_place-equiv.symm (place b l) (place c l), turned ls b c) refl

    chained : (ls : List ℕ) (b c d : ℕ) → alike place ls b c ≡ true → alike place ls b d ≡ alike place ls c d
    chained [] b c d h = refl
    chained (l ∷ ls) b c d h =
        let parts = and_parts (same_place (place b l) (place c l)) (alike place ls b c) h in
        rw (same_place-equiv.congr (place b l) (place c l) (place d l) parts.0, chained ls b c d parts.1) refl

all_stay-equiv : (frame : Option Frame) (labels : List ℕ) (function : ℕ) → IsEquivalence (all_stay frame labels function)
unfolding alike
all_stay-equiv frame labels function = alike-equiv (λ byte label. placed frame function byte label) labels

-- ---- the ranges of one function

-- the first of some ranges, if there is one, begins behind a byte where something changes
Apart : (ℕ → ℕ → Bool) → ℕ → List NativeRange → Type 0
Apart stays end [] = ⊤
Apart stays end (r ∷ rs) = end ≡ r.start → stays (end - 1) end ≡ false

-- nothing changes within a range, and where the next one touches it something changes
Steady : (ℕ → ℕ → Bool) → List NativeRange → Type 0
Steady stays [] = ⊤
Steady stays (r ∷ rs) = AtEachByte (λ byte. stays r.start byte ≡ true) r × Apart stays r.end rs × Steady stays rs

module _ (stays : ℕ → ℕ → Bool) (equiv : IsEquivalence stays) (function : ℕ) where
  one-byte : (byte : ℕ) → AtEachByte (λ b. stays byte b ≡ true) (record { function = function; start = byte; end = suc byte })
  one-byte byte b from to = let same : b ≡ byte = omega (arith, from, to) in subst (λ c. stays byte c ≡ true) (sym same) (equiv.refl byte)

  more : (byte : ℕ) (r : NativeRange) → stays byte (suc byte) ≡ true → r.start ≡ suc byte → AtEachByte (λ b. stays r.start b ≡ true) r → AtEachByte (λ b. stays byte b ≡ true) (record r { start = byte })
  more byte r here next others b from to = go (cases_lt byte b)
    where
      go : (byte < b) ⊎ (b ≤ byte) → stays byte b ≡ true
      go (inl below) = equiv.congr byte (suc byte) b here ∙ ap (λ s. stays s b) (sym next) ∙ others b (omega (arith, next, below)) to
      go (inr above) = let same : b ≡ byte = omega (arith, from, above) in subst (λ c. stays byte c ≡ true) (sym same) (equiv.refl byte)

  with-byte : (byte : ℕ) (rs : List NativeRange) → Steady stays rs → Steady stays (with_byte function byte (stays byte (suc byte)) rs)
  unfolding Steady Apart
  with-byte byte [] h = (one-byte byte, tt, tt)
  with-byte byte (r ∷ rs) h = go (stays byte (suc byte)) (r.start == suc byte) refl refl
    where
      go : (goes_on touches : Bool) → stays byte (suc byte) ≡ goes_on → r.start == suc byte ≡ touches
          → Steady stays (if goes_on && touches then record r { start = byte } ∷ rs else record { function = function; start = byte; end = suc byte } ∷ r ∷ rs)
      go true true on next = (more byte r on (eqb-true r.start (suc byte) next) h.0, h.1, h.2)
      go true false on next = (one-byte byte, (λ touch. absurd (true≢false (sym (eq-eqb r.start (suc byte) (sym touch)) ∙ next))), h)
      go false touches on next = let e : suc byte - 1 ≡ byte = omega arith in (one-byte byte, (λ touch. subst (λ k. stays k (suc byte) ≡ false) (sym e) on), h)

  ranges-steady : (w : ℕ → Bool) (byte count : ℕ) → Steady stays (ranges_among function w (λ b. stays b (suc b)) byte count)
  unfolding ranges_among Steady
  ranges-steady w byte zero = tt
  ranges-steady w byte (suc count) = go (w byte) (ranges-steady w (suc byte) count)
    where
      go : (wanted : Bool) → Steady stays (ranges_among function w (λ b. stays b (suc b)) (suc byte) count)
          → Steady stays (elim wanted [ true ↦ with_byte function byte (stays byte (suc byte)) (ranges_among function w (λ b. stays b (suc b)) (suc byte) count) | false ↦ ranges_among function w (λ b. stays b (suc b)) (suc byte) count ])
      go true h = with-byte byte (ranges_among function w (λ b. stays b (suc b)) (suc byte) count) h
      go false h = h

-- ---- those of all functions

-- where two ranges of a function touch, something changes
abbrev pub Differs : (ℕ → ℕ → ℕ → Bool) → NativeRange → NativeRange → Type 0
Differs stays r s = (r.function ≡ s.function) → (r.end ≡ s.start) → stays r.function r.start s.start ≡ false

record Good (stays : ℕ → ℕ → ℕ → Bool) (n : ℕ) (rs : List NativeRange) : Type 0 where
  from : All (λ r. n ≤ r.function) rs
  unchanged : All (λ r. AtEachByte (λ b. stays r.function r.start b ≡ true) r) rs
  maximal : AllPairs (Differs stays) rs

-- a range differs from those behind it in its function: from the next one where that touches it, and no other touches it
differs-behind :
    (stays : ℕ → ℕ → ℕ → Bool) (n : ℕ) → IsEquivalence (stays n) → (w : ℕ → Bool) (r : NativeRange) (rs : List NativeRange) → r.function ≡ n → r.start < r.end
    → AtEachByte (λ b. stays n r.start b ≡ true) r → Apart (stays n) r.end rs → Ascend n w r.end rs → All (Differs stays r) rs
unfolding Apart
differs-behind stays n equiv w r [] of_n some steady apart h = All-nil (Differs stays r)
differs-behind stays n equiv w r (s ∷ ss) of_n some steady apart h =
    All-cons (Differs stays r) s ss
    (λ same touch.
    subst (λ f. stays f r.start s.start ≡ false) (sym of_n)
    (equiv.congr r.start (r.end - 1) s.start (steady (r.end - 1) (omega (arith, some)) (omega (arith, some))) ∙ ap (stays n (r.end - 1)) (sym touch) ∙ apart touch))
    (All-weaker (After n s.end) (Differs stays r) (λ x p same touch. absurd (omega (arith, touch, p.1, h.0, h.1))) ss (ascend-after n w s.end ss h.4))

append :
    (stays : ℕ → ℕ → ℕ → Bool) (n : ℕ) → IsEquivalence (stays n) → (w : ℕ → Bool) (byte : ℕ) (xs ys : List NativeRange) → Ascend n w byte xs → Steady (stays n) xs → Good stays (n + 1) ys → Good stays n (xs ++ ys)
unfolding Steady
append stays n equiv w byte [] ys h steady g = record { from = All-weaker (λ r. n + 1 ≤ r.function) (λ r. n ≤ r.function) (λ r p. omega (arith, p)) ys g.from; unchanged = g.unchanged; maximal = g.maximal }
append stays n equiv w byte (x ∷ xs) ys h steady g =
    let others = append stays n equiv w x.end xs ys h.4 steady.2 g in
    let behind : All (Differs stays x) (xs ++ ys) = All-append (Differs stays x) xs ys
    (differs-behind stays n equiv w x xs h.2 h.1 steady.0 steady.1 h.4)
    (All-weaker (λ r. n + 1 ≤ r.function) (Differs stays x) (λ r p same touch. absurd (omega (arith, p, same, h.2))) ys g.from) in
    record {
      from = All-cons (λ r. n ≤ r.function) x (xs ++ ys) (omega (arith, h.2)) others.from;
      unchanged = All-cons (λ r. AtEachByte (λ b. stays r.function r.start b ≡ true) r) x (xs ++ ys) (subst (λ f. AtEachByte (λ b. stays f x.start b ≡ true) x) (sym h.2) steady.0) others.unchanged;
      maximal = AllPairs-cons (Differs stays) x (xs ++ ys) behind others.maximal;
    }

all-good :
    (stays : ℕ → ℕ → ℕ → Bool) → ((n : ℕ) → IsEquivalence (stays n)) → (w : ℕ → ℕ → Bool) (ranges_of : ℕ → List NativeRange) → ((n : ℕ) → Ascend n (w n) 0 (ranges_of n)) → ((n : ℕ) → Steady (stays n) (ranges_of n))
    → (n count : ℕ) → Good stays n (flat_map ranges_of (range_with_len n count))
all-good stays equiv w ranges_of ascend steady n zero = record { from = All-nil (λ r. n ≤ r.function); unchanged = All-nil (λ r. AtEachByte (λ b. stays r.function r.start b ≡ true) r); maximal = λ i j d below inside. absurd (omega (arith, inside)) }
all-good stays equiv w ranges_of ascend steady n (suc count) =
    append stays n (equiv n) (w n) 0 (ranges_of n) (flat_map ranges_of (range_with_len (n + 1) count)) (ascend n) (steady n) (all-good stays equiv w ranges_of ascend steady (n + 1) count)

-- The label ranges of a scope are the maximal ones.
pub label-ranges-maximal : LabelRangesAreMaximal
label-ranges-maximal frame labels scope =
    let w : ℕ → ℕ → Bool = is_wanted frame labels scope in
    let most : ℕ → ℕ = λ n. greatest (map (λ r. r.end) (filter (λ r. r.function == n) scope)) in
    let good : Good (all_stay frame labels) 0 (label_ranges frame labels scope) = all-good (all_stay frame labels) (all_stay-equiv frame labels) w (ranges_of_function frame labels scope)
    (λ n. ranges-ascend n (w n) (λ byte. all_stay frame labels n byte (suc byte)) 0 (most n))
    (λ n. ranges-steady (all_stay frame labels n) (all_stay-equiv frame labels n) n (w n) 0 (most n)) 0 (suc (greatest (map (λ r. r.function) scope))) in
    record { whole = label-ranges frame labels scope; unchanged = good.unchanged; complete = label-ranges-complete frame labels scope; maximal = good.maximal }
