-- From flat ranges to the places of bytes, and back.
use Rattle.std.proofs.Common.{◌≡◌, ℕ, suc, ◌<◌, ◌≤◌, ◌⊎◌, List, [], ◌∷◌, Bool, true, false, Option, Some, None, refl, sym, ap, subst, ◌∙◌, arith, inl, inr}
use Rattle.std.specs.Prelude.{nat_le, nat_lt, All, if◌then◌else◌}
use Rattle.std.specs.Option.{option_or}
use Rattle.std.proofs.lemmas.Bool.{cases_lt, and_parts, leb-true, ltb-true}
use Rattle.std.proofs.lemmas.List.Elements.{All-contains}
use Rattle.dwc_native.specs.Compiled.{Place, in_register, at_frame_offset, LabelRange}
use Rattle.dwc_native.specs.Placed.{is_between, last_place, same_place}
use Rattle.dwc_base.proofs.InLists.{IsIn, in-contains}
use Rattle.dwc_isa.specs.FlatRanges.{IsFlat}
use Rattle.dwc_isa.proofs.PlaceLaws.{alone-inside, alone-below, alone-behind, first-answers, others-answer, none-below}
use Rattle.dwc_isa.proofs.PutLaws.{First, first-of}

-- what all have, one of them has
all-in : {A : Type 0} (P : A → Type 0) (xs : List A) (x : A) → All P xs → IsIn x xs → P x
all-in P xs x all is = All-contains P xs x all (in-contains xs x is)

pub some-byte : (rs : List LabelRange) (r : LabelRange) → IsFlat rs → IsIn r rs → r.start < r.end
some-byte rs r f is = all-in (λ s. s.start < s.end) rs r f.nonempty is

-- ---- places

-- The bytes of a flat range have its place.
pub place-of : (rs : List LabelRange) (r : LabelRange) (byte : ℕ) → IsFlat rs → IsIn r rs → r.start ≤ byte → byte < r.end → last_place rs byte ≡ Some r.place
place-of [] r byte f is from to = absurd is
place-of (x ∷ xs) r byte f (inl e) from to =
    let first = first-of x xs f in
    first-answers x xs byte (none-below x.end xs byte first.behind (omega (arith, to, ap (λ (s : LabelRange). s.end) e)))
    ∙ alone-inside x byte (omega (arith, from, ap (λ (s : LabelRange). s.start) e)) (omega (arith, to, ap (λ (s : LabelRange). s.end) e))
    ∙ ap (λ (s : LabelRange). Some s.place) (sym e)
place-of (x ∷ xs) r byte f (inr is) from to =
    let first = first-of x xs f in
    others-answer x xs byte (alone-behind x byte (omega (arith, from, all-in (λ s. x.end ≤ s.start) xs r first.behind is)))
    ∙ place-of xs r byte first.others is from to

-- A range of some that has a byte and a place.
pub record HasPlace (rs : List LabelRange) (byte : ℕ) (place : Place) : Type 0 where
  pub range : LabelRange
  pub is_in : IsIn range rs
  pub from : range.start ≤ byte
  pub to : byte < range.end
  pub is : range.place ≡ place

-- A byte with a place is in a range that has it.
pub range-of : (rs : List LabelRange) (byte : ℕ) (place : Place) → last_place rs byte ≡ Some place → HasPlace rs byte place
range-of [] byte place h = absurd (cc)
range-of (r ∷ rs) byte place h = go (last_place rs byte) (is_between r.start r.end byte) refl h (λ e. range-of rs byte place e)
  where
    go :
        (o : Option Place) (here : Bool) → is_between r.start r.end byte ≡ here → option_or o (if here then Some r.place else None) ≡ Some place → (o ≡ Some place → HasPlace rs byte place)
        → HasPlace (r ∷ rs) byte place
    go (Some p) here t e others = let found = others e in record { range = found.range; is_in = inr found.is_in; from = found.from; to = found.to; is = found.is }
    go None true t e others =
        let ends = and_parts (nat_le r.start byte) (nat_lt byte r.end) t in
        record { range = r; is_in = inl refl; from = leb-true r.start byte ends.0; to = ltb-true byte r.end ends.1; is = cc }
    go None false t e others = absurd (cc)

-- A byte without a place is in no range.
pub no-range : (rs : List LabelRange) (r : LabelRange) (byte : ℕ) → IsFlat rs → last_place rs byte ≡ None → IsIn r rs → r.start ≤ byte → byte < r.end → ⊥
no-range rs r byte f none is from to = go (sym none ∙ place-of rs r byte f is from to)
  where
    go : None ≡ Some r.place → ⊥
    go e = cc

-- ---- changes

differs-none : (p : Place) → same_place (Some p) None ≡ false
differs-none (in_register r) = refl
differs-none (at_frame_offset o) = refl

-- At the end of a flat range the place changes, or there is none.
pub end-changes : (rs : List LabelRange) (r : LabelRange) → IsFlat rs → IsIn r rs → same_place (Some r.place) (last_place rs r.end) ≡ false
end-changes [] r f is = absurd is
end-changes (x ∷ xs) r f (inl e) = subst (λ (s : LabelRange). same_place (Some s.place) (last_place (x ∷ xs) s.end) ≡ false) (sym e) (ap (same_place (Some x.place)) (others-answer x xs x.end (alone-behind x x.end (omega arith))) ∙ go (last_place xs x.end) refl)
  where
    first : First x xs
    first = first-of x xs f

    touches : (s : LabelRange) → IsIn s xs → x.end ≡ s.start → same_place (Some x.place) (Some s.place) ≡ false
    touches s is = all-in (λ s. (x.end ≡ s.start) → same_place (Some x.place) (Some s.place) ≡ false) xs s (λ j d inside. f.maximal 0 (suc j) d (omega arith) (omega (arith, inside))) is

    go : (o : Option Place) → last_place xs x.end ≡ o → same_place (Some x.place) o ≡ false
    go None h = differs-none x.place
    go (Some place) h =
        let found = range-of xs x.end place h in
        ap (λ p. same_place (Some x.place) (Some p)) (sym found.is)
        ∙ touches found.range found.is_in (omega (arith, found.from, all-in (λ s. x.end ≤ s.start) xs found.range first.behind found.is_in))
end-changes (x ∷ xs) r f (inr is) =
    let first = first-of x xs f in
    let behind = all-in (λ s. x.end ≤ s.start) xs r first.behind is in
    ap (same_place (Some r.place)) (others-answer x xs r.end (alone-behind x r.end (omega (arith, behind, some-byte xs r first.others is))))
    ∙ end-changes xs r first.others is

-- In front of a flat range it is another one, or there is none.
pub start-changes : (rs : List LabelRange) (r : LabelRange) (byte : ℕ) → IsFlat rs → IsIn r rs → suc byte ≡ r.start → same_place (last_place rs byte) (Some r.place) ≡ false
start-changes [] r byte f is at = absurd is
start-changes (x ∷ xs) r byte f (inl e) at =
    let first = first-of x xs f in
    let none : last_place (x ∷ xs) byte ≡ None =
    first-answers x xs byte (none-below x.end xs byte first.behind (omega (arith, at, ap (λ (s : LabelRange). s.start) e, first.some)))
    ∙ alone-below x byte (omega (arith, at, ap (λ (s : LabelRange). s.start) e)) in
    ap (λ o. same_place o (Some r.place)) none
start-changes (x ∷ xs) r byte f (inr is) at = go (cases_lt byte x.end) (start-changes xs r byte first.others is at)
  where
    first : First x xs
    first = first-of x xs f

    behind : x.end ≤ r.start
    behind = all-in (λ s. x.end ≤ s.start) xs r first.behind is

    touches : x.end ≡ r.start → same_place (Some x.place) (Some r.place) ≡ false
    touches = all-in (λ s. (x.end ≡ s.start) → same_place (Some x.place) (Some s.place) ≡ false) xs r (λ j d inside. f.maximal 0 (suc j) d (omega arith) (omega (arith, inside))) is

    go : (byte < x.end) ⊎ (x.end ≤ byte) → same_place (last_place xs byte) (Some r.place) ≡ false → same_place (last_place (x ∷ xs) byte) (Some r.place) ≡ false
    go (inl here) others =
        ap (λ o. same_place o (Some r.place)) (place-of (x ∷ xs) x byte f (inl refl) (omega (arith, here, at, behind, first.some)) here)
        ∙ touches (omega (arith, here, at, behind))
    go (inr past) others = ap (λ o. same_place o (Some r.place)) (others-answer x xs byte (alone-behind x byte past)) ∙ others
