-- Flat ranges, and one more behind them.
use Rattle.std.proofs.Common.{◌≡◌, ℕ, suc, ◌<◌, ◌≤◌, ◌⊎◌, max, List, [], ◌∷◌, ◌++◌, true, false, Option, Some, None, refl, sym, ap, ◌∙◌, arith, inl, inr, true≢false}
use Rattle.std.specs.Prelude.{◌==◌, All}
use Rattle.std.specs.Option.{option_or}
use Rattle.std.proofs.lemmas.Bool.{cases_lt, and_parts, eqb-true}
use Rattle.std.proofs.lemmas.Bool.Decides.{Decides-int_eq}
use Rattle.std.proofs.lemmas.List.Elements.{All-head, All-tail, All-weaker, All-push}
use Rattle.dwc_native.specs.Compiled.{Place, in_register, at_frame_offset, LabelRange}
use Rattle.dwc_native.specs.Placed.{same_place, last_place}
use Rattle.dwc_isa.specs.FlatRanges.{IsFlat, goes_on_last, IsFlatTo, Puts}
use Rattle.dwc_isa.proofs.FlatLaws.{flat-behind, goes_on-end}
use Rattle.dwc_isa.proofs.ListEnds.{all-front, all-last, pairs-front, pairs-last, pairs-push}
use Rattle.dwc_isa.proofs.PlaceLaws.{alone-inside, alone-below, alone-behind, alone-empty, or-assoc, answers-append}

-- ---- flat ranges

-- those that end at or below a byte end at or below a later one
pub flat-further : (end later : ℕ) (rs : List LabelRange) → end ≤ later → IsFlatTo end rs → IsFlatTo later rs
flat-further end later rs le f = record { flat = f.flat; ends = All-weaker (λ r. r.end ≤ end) (λ r. r.end ≤ later) (λ r to. omega (arith, to, le)) rs f.ends }

-- the first of flat ranges, and the others
pub record First (r : LabelRange) (rs : List LabelRange) : Type 0 where
  pub some : r.start < r.end
  pub behind : All (λ s. r.end ≤ s.start) rs
  pub others : IsFlat rs

pub first-of : (r : LabelRange) (rs : List LabelRange) → IsFlat (r ∷ rs) → First r rs
first-of r rs f = record {
  some = All-head (λ s. s.start < s.end) r rs f.nonempty;
  behind = λ j d inside. f.ordered 0 (suc j) d (omega arith) (omega (arith, inside));
  others = record {
    nonempty = All-tail (λ s. s.start < s.end) r rs f.nonempty;
    ordered = λ i j d below inside. f.ordered (suc i) (suc j) d (omega (arith, below)) (omega (arith, inside));
    maximal = λ i j d below inside. f.maximal (suc i) (suc j) d (omega (arith, below)) (omega (arith, inside));
  };
}

-- ---- ranges that go on

pub place-same : (p q : Place) → same_place (Some p) (Some q) ≡ true → p ≡ q
place-same (in_register r) (in_register s) h = ap in_register (eqb-true r s h)
place-same (in_register r) (at_frame_offset o) h = absurd (true≢false (sym h))
place-same (at_frame_offset o) (in_register r) h = absurd (true≢false (sym h))
place-same (at_frame_offset o) (at_frame_offset p) h = ap at_frame_offset ((Decides-int_eq o p).0 h)

-- ---- one range more

-- an empty one
pub put-empty : (r : LabelRange) (old : List LabelRange) → r.end ≤ r.start → Puts r old old
put-empty r old empty end f le = record {
  flat = flat-further end (max end r.end) old (omega arith) f;
  same = λ byte. sym (answers-append old (r ∷ []) byte ∙ ap (λ o. option_or o (last_place old byte)) (alone-empty r byte empty));
}

-- one that does not go on where the last one ends
pub put-apart : (r : LabelRange) (old : List LabelRange) → r.start < r.end → goes_on_last old r ≡ false → Puts r old (old ++ r ∷ [])
put-apart r old some apart end f le = record { flat = flat-behind end r old some le apart f; same = λ byte. refl }

-- two ranges that touch at one place answer as one
module _ (l r : LabelRange) (first : l.start < l.end) (second : r.start < r.end) (touch : l.end ≡ r.start) (place : l.place ≡ r.place) where
  joined-same : (byte : ℕ) → last_place (record l { end = r.end } ∷ []) byte ≡ option_or (last_place (r ∷ []) byte) (last_place (l ∷ []) byte)
  joined-same byte = go (cases_lt byte l.start) (cases_lt byte r.start) (cases_lt byte r.end)
    where
      two : (o p : Option Place) → last_place (r ∷ []) byte ≡ o → last_place (l ∷ []) byte ≡ p → option_or (last_place (r ∷ []) byte) (last_place (l ∷ []) byte) ≡ option_or o p
      two o p a b = ap (λ x. option_or x (last_place (l ∷ []) byte)) a ∙ ap (λ x. option_or o x) b

      go : (byte < l.start) ⊎ (l.start ≤ byte) → (byte < r.start) ⊎ (r.start ≤ byte) → (byte < r.end) ⊎ (r.end ≤ byte) → last_place (record l { end = r.end } ∷ []) byte ≡ option_or (last_place (r ∷ []) byte) (last_place (l ∷ []) byte)
      go (inl below) b c = alone-below (record l { end = r.end }) byte below ∙ sym (two None None (alone-below r byte (omega (arith, below, first, touch))) (alone-below l byte below))
      go (inr from) (inl below) c =
          alone-inside (record l { end = r.end }) byte from (omega (arith, below, second))
          ∙ sym (two None (Some l.place) (alone-below r byte below) (alone-inside l byte from (omega (arith, below, touch))))
      go (inr from) (inr start) (inl to) =
          alone-inside (record l { end = r.end }) byte from to ∙ ap (λ p. Some p) place
          ∙ sym (two (Some r.place) None (alone-inside r byte start to) (alone-behind l byte (omega (arith, start, touch))))
      go (inr from) (inr start) (inr behind) =
          alone-behind (record l { end = r.end }) byte behind ∙ sym (two None None (alone-behind r byte behind) (alone-behind l byte (omega (arith, start, touch))))

-- one that goes on where the last one ends
pub put-joined : (r l : LabelRange) (front : List LabelRange) → r.start < r.end → goes_on_last (front ++ l ∷ []) r ≡ true → Puts r (front ++ l ∷ []) (front ++ record l { end = r.end } ∷ [])
put-joined r l front some joins end f le = record {
  flat = record {
    flat = record {
      nonempty = All-push (λ x. x.start < x.end) front longer (all-front (λ x. x.start < x.end) front l f.flat.nonempty) (omega (arith, first, touch, some));
      ordered = pairs-push (λ x y. x.end ≤ y.start) front longer (pairs-front (λ x y. x.end ≤ y.start) front l f.flat.ordered) (pairs-last (λ x y. x.end ≤ y.start) front l f.flat.ordered);
      maximal =
          pairs-push (λ x y. (x.end ≡ y.start) → same_place (Some x.place) (Some y.place) ≡ false) front longer
          (pairs-front (λ x y. (x.end ≡ y.start) → same_place (Some x.place) (Some y.place) ≡ false) front l f.flat.maximal)
          (pairs-last (λ x y. (x.end ≡ y.start) → same_place (Some x.place) (Some y.place) ≡ false) front l f.flat.maximal);
    };
    ends =
        All-push (λ x. x.end ≤ max end r.end) front longer
        (All-weaker (λ x. x.end ≤ end) (λ x. x.end ≤ max end r.end) (λ x to. omega (arith, to)) front (all-front (λ x. x.end ≤ end) front l f.ends))
        (omega arith);
  };
  same = λ byte.
      answers-append front (longer ∷ []) byte
      ∙ ap (λ o. option_or o (last_place front byte)) (joined-same l r first some touch place byte)
      ∙ or-assoc (last_place (r ∷ []) byte) (last_place (l ∷ []) byte) (last_place front byte)
      ∙ ap (λ o. option_or (last_place (r ∷ []) byte) o) (sym (answers-append front (l ∷ []) byte))
      ∙ sym (answers-append (front ++ l ∷ []) (r ∷ []) byte);
}
  where
    longer : LabelRange
    longer = record l { end = r.end }

    both : ((l.end == r.start) ≡ true) × (same_place (Some l.place) (Some r.place) ≡ true)
    both = and_parts (l.end == r.start) (same_place (Some l.place) (Some r.place)) (sym (goes_on-end front l r) ∙ joins)

    touch : l.end ≡ r.start
    touch = eqb-true l.end r.start both.0

    place : l.place ≡ r.place
    place = place-same l.place r.place both.1

    first : l.start < l.end
    first = all-last (λ x. x.start < x.end) front l f.flat.nonempty
