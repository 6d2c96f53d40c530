-- The parts of label ranges on which one more label has a place are the label ranges with that label.
use Rattle.std.proofs.Common.{◌≡◌, ℕ, ◌<◌, ◌≤◌, List, [], ◌∷◌, ◌++◌, true, false, refl, ap, sym, subst, ◌∙◌, inl, inr, arith, true≢false, Some, None}
use Rattle.std.specs.Prelude.{Bool, Option, ◌&&◌, is_some, AllPairs, map, if◌then◌else◌}
use Rattle.std.specs.List.{list_all}
use Rattle.std.proofs.lemmas.Bool.{and_parts, and_from, and_left, and_right}
use Rattle.dwc_native.specs.Compiled.{LabelRange}
use Rattle.dwc_native.specs.Placed.{Frame, NativeRange, is_number, is_byte_of, last_place, placed, all_placed, same_place, all_stay}
use Rattle.dwc_native.specs.LabelRanges.{IsBefore, AtEachByte, AreMaximal, is_wanted, label_ranges, bytes_of, all_bytes_placed}
use Rattle.dwc_base.proofs.InLists.{IsIn, any-in, in-any, in-map}
use Rattle.dwc_native.proofs.LabelRangeCoverage.{holds, hold, held}
use Rattle.dwc_native.proofs.LabelRangeMaximal.{Differs}
use Rattle.dwc_native.proofs.LabelRangeUnique.{maximal-ranges-are}
use Rattle.dwc_expr.specs.NarrowedRanges.{Tells}
use Rattle.dwc_expr.specs.OwnPlaces.{place_in, is_filled, are_filled}
use Rattle.dwc_expr.specs.PlacedParts.{PlacedPart, cuts_from}
use Rattle.dwc_expr.proofs.PairLaws.{pairs-from, pairs-to, pairs-map, all-in, in-all, all-true, true-all, bytes-true, true-bytes, same-answers}
use Rattle.dwc_expr.proofs.StayLaws.{place-same, stay-along, placed-more, stay-more}
use Rattle.dwc_expr.proofs.PieceLaws.{piece-place, HasPiece, placed-piece}
use Rattle.dwc_expr.proofs.CutLaws.{IsCutBy, IsPart, cuts-in, range-among, cuts-have, cuts-pairs}

-- the place at a byte of a piece
pub piece-placed :
    (frame : Option Frame) (label : ℕ) (own : Option ℕ) (ps : List LabelRange) → Tells frame label own ps → (function byte : ℕ) (p : LabelRange) → is_number own function ≡ true → IsIn p ps → p.start ≤ byte → byte < p.end
    → placed frame function byte label ≡ Some p.place
piece-placed frame label own ps t function byte p is i from to = t.same function byte ∙ ap (λ b. if b then last_place ps byte else None) is ∙ piece-place ps t.flat p i byte from to

-- a byte with a place is in one's own function, and in a piece
record IsTold (own : Option ℕ) (ps : List LabelRange) (function byte : ℕ) : Type 0 where
  mine : is_number own function ≡ true
  has : HasPiece ps byte

told-at : (frame : Option Frame) (label : ℕ) (own : Option ℕ) (ps : List LabelRange) → Tells frame label own ps → (function byte : ℕ) → is_some (placed frame function byte label) ≡ true → IsTold own ps function byte
told-at frame label own ps t function byte h = go (is_number own function) refl (sym (ap is_some (t.same function byte)) ∙ h)
  where
    go : (b : Bool) → is_number own function ≡ b → is_some (if b then last_place ps byte else None) ≡ true → IsTold own ps function byte
    go true e some = record { mine = e; has = placed-piece ps byte some }
    go false e some = absurd (true≢false (sym some))

-- ---- one range

-- a range has bytes, which lie in the scope and have a place for each label, and no place changes within it
pub record IsFine (frame : Option Frame) (labels : List ℕ) (scope : List NativeRange) (r : NativeRange) : Type 0 where
  pub some : r.start < r.end
  pub inside : AtEachByte (λ byte. is_byte_of scope r.function byte ≡ true) r
  pub placed : AtEachByte (λ byte. all_placed frame labels r.function byte ≡ true) r
  pub steady : AtEachByte (λ byte. all_stay frame labels r.function r.start byte ≡ true) r

pub range-fine : (frame : Option Frame) (labels : List ℕ) (scope rs : List NativeRange) → AreMaximal frame labels scope rs → (r : NativeRange) → IsIn r rs → IsFine frame labels scope r
range-fine frame labels scope rs m r i = record {
  some = all-in (λ r. r.start < r.end) rs m.whole.nonempty r i;
  inside = all-in (λ r. AtEachByte (λ byte. is_byte_of scope r.function byte ≡ true) r) rs m.whole.inside r i;
  placed = all-in (λ r. AtEachByte (λ byte. all_placed frame labels r.function byte ≡ true) r) rs m.whole.placed r i;
  steady = all-in (λ r. AtEachByte (λ byte. all_stay frame labels r.function r.start byte ≡ true) r) rs m.unchanged r i;
}

module _ (frame : Option Frame) (labels : List ℕ) (label : ℕ) (scope : List NativeRange) (own : Option ℕ) (ps : List LabelRange) (t : Tells frame label own ps) where
  -- the labels with the further one
  abbrev more : List ℕ
  more = labels ++ label ∷ []

  -- the place of the label at a byte of a part
  pub part-placed :
      (r : NativeRange) (p : LabelRange) (x : PlacedPart) → is_number own r.function ≡ true → IsIn p ps → IsCutBy r p x → (byte : ℕ) → x.bytes.start ≤ byte → byte < x.bytes.end → placed frame r.function byte label ≡ Some p.place
  part-placed r p x is i cut byte from to = piece-placed frame label own ps t r.function byte p is i (omega (arith, cut.from_piece, from)) (omega (arith, cut.to_piece, to))

  -- a part of a fine range is fine with the further label
  part-fine : (r : NativeRange) (p : LabelRange) (x : PlacedPart) → IsFine frame labels scope r → is_number own r.function ≡ true → IsIn p ps → IsCutBy r p x → IsFine frame more scope x.bytes
  part-fine r p x fine is i cut = record {
    some = cut.some;
    inside = subst (λ f. AtEachByte (λ byte. is_byte_of scope f byte ≡ true) x.bytes) (sym cut.function) (λ byte from to. fine.inside byte (omega (arith, cut.from_range, from)) (omega (arith, cut.to_range, to)));
    placed = subst (λ f. AtEachByte (λ byte. all_placed frame more f byte ≡ true) x.bytes) (sym cut.function) has_places;
    steady = subst (λ f. AtEachByte (λ byte. all_stay frame more f x.bytes.start byte ≡ true) x.bytes) (sym cut.function) stays;
  }
    where
      here : (byte : ℕ) → x.bytes.start ≤ byte → byte < x.bytes.end → placed frame r.function byte label ≡ Some p.place
      here = part-placed r p x is i cut

      has_places : AtEachByte (λ byte. all_placed frame more r.function byte ≡ true) x.bytes
      has_places byte from to =
          placed-more frame r.function labels label byte
          ∙ and_from (all_placed frame labels r.function byte) (is_some (placed frame r.function byte label) && true) (fine.placed byte (omega (arith, cut.from_range, from)) (omega (arith, cut.to_range, to)))
          (and_from (is_some (placed frame r.function byte label)) true (ap is_some (here byte from to)) refl)

      old : AtEachByte (λ byte. all_stay frame labels r.function x.bytes.start byte ≡ true) x.bytes
      old byte from to =
          sym (stay-along frame r.function labels r.start x.bytes.start byte (fine.steady x.bytes.start cut.from_range (omega (arith, cut.some, cut.to_range))))
          ∙ fine.steady byte (omega (arith, cut.from_range, from)) (omega (arith, cut.to_range, to))

      own_place : AtEachByte (λ byte. same_place (placed frame r.function x.bytes.start label) (placed frame r.function byte label) ≡ true) x.bytes
      own_place byte from to =
          ap (λ o. same_place o (placed frame r.function byte label)) (here x.bytes.start (omega arith) cut.some)
          ∙ ap (λ o. same_place (Some p.place) o) (here byte from to)
          ∙ place-same (Some p.place)

      stays : AtEachByte (λ byte. all_stay frame more r.function x.bytes.start byte ≡ true) x.bytes
      stays byte from to =
          stay-more frame r.function labels label x.bytes.start byte
          ∙ and_from (all_stay frame labels r.function x.bytes.start byte) (same_place (placed frame r.function x.bytes.start label) (placed frame r.function byte label) && true) (old byte from to)
          (and_from (same_place (placed frame r.function x.bytes.start label) (placed frame r.function byte label)) true (own_place byte from to) refl)

  -- ---- two ranges

  -- how a range stands to one behind it
  abbrev Behind : List ℕ → NativeRange → NativeRange → Type 0
  Behind ls r s = IsBefore r s × Differs (all_stay frame ls) r s

  abbrev Apart : LabelRange → LabelRange → Type 0
  Apart p q = (p.end ≤ q.start) × ((p.end ≡ q.start) → same_place (Some p.place) (Some q.place) ≡ false)

  within : (r : NativeRange) (p q : LabelRange) (x y : PlacedPart) → IsFine frame labels scope r → is_number own r.function ≡ true → IsIn p ps → IsIn q ps → Apart p q → IsCutBy r p x → IsCutBy r q y → Behind more x.bytes y.bytes
  within r p q x y fine is i j apart a b = (inr (a.function ∙ sym b.function, omega (arith, a.to_piece, apart.0, b.from_piece)), λ f touch. differs touch)
    where
      differs : x.bytes.end ≡ y.bytes.start → all_stay frame more x.bytes.function x.bytes.start y.bytes.start ≡ false
      differs touch =
          let meet : p.end ≡ q.start = omega (arith, a.to_piece, apart.0, b.from_piece, touch) in
          ap (λ n. all_stay frame more n x.bytes.start y.bytes.start) a.function
          ∙ stay-more frame r.function labels label x.bytes.start y.bytes.start
          ∙ and_right (all_stay frame labels r.function x.bytes.start y.bytes.start) (same_place (placed frame r.function x.bytes.start label) (placed frame r.function y.bytes.start label) && true)
          (and_left (same_place (placed frame r.function x.bytes.start label) (placed frame r.function y.bytes.start label)) true
          (ap (λ o. same_place o (placed frame r.function y.bytes.start label)) (part-placed r p x is i a x.bytes.start (omega arith) a.some)
          ∙ ap (λ o. same_place (Some p.place) o) (part-placed r q y is j b y.bytes.start (omega arith) b.some)
          ∙ apart.1 meet))

  across : (r s : NativeRange) (p q : LabelRange) (x y : PlacedPart) → IsFine frame labels scope r → Behind labels r s → IsCutBy r p x → IsCutBy s q y → Behind more x.bytes y.bytes
  across r s p q x y fine behind a b = (before behind.0, λ f touch. differs f touch behind.0)
    where
      before : IsBefore r s → IsBefore x.bytes y.bytes
      before (inl less) = inl (omega (arith, less, a.function, b.function))
      before (inr same) = inr (a.function ∙ same.0 ∙ sym b.function, omega (arith, same.1, a.to_range, b.from_range))

      differs : x.bytes.function ≡ y.bytes.function → x.bytes.end ≡ y.bytes.start → IsBefore r s → all_stay frame more x.bytes.function x.bytes.start y.bytes.start ≡ false
      differs f touch (inl less) = absurd (omega (arith, less, f, a.function, b.function))
      differs f touch (inr same) =
          let meet : r.end ≡ s.start = omega (arith, a.to_range, same.1, b.from_range, touch) in
          let begin : y.bytes.start ≡ s.start = omega (arith, a.to_range, same.1, b.from_range, touch) in
          ap (λ n. all_stay frame more n x.bytes.start y.bytes.start) a.function
          ∙ ap (all_stay frame more r.function x.bytes.start) begin
          ∙ stay-more frame r.function labels label x.bytes.start s.start
          ∙ and_left (all_stay frame labels r.function x.bytes.start s.start) (same_place (placed frame r.function x.bytes.start label) (placed frame r.function s.start label) && true)
          (sym (stay-along frame r.function labels r.start x.bytes.start s.start (fine.steady x.bytes.start a.from_range (omega (arith, a.some, a.to_range)))) ∙ behind.1 same.0 meet)

  -- ---- all of them

  module _ (rs : List NativeRange) (m : AreMaximal frame labels scope rs) where
    -- the parts of the ranges
    abbrev parts : List PlacedPart
    parts = cuts_from own ps 0 rs

    abbrev ranges : List NativeRange
    ranges = map (λ x. x.bytes) parts

    part-behind : AllPairs (Behind more) ranges
    part-behind =
        pairs-to (Behind more) ranges
        (pairs-map (λ x. x.bytes) (Behind more) parts
        (cuts-pairs own ps (IsFine frame labels scope) Apart (Behind labels) (λ x y. Behind more x.bytes y.bytes) within across
        (pairs-from Apart ps (λ i j d below inside. (t.flat.ordered i j d below inside, t.flat.maximal i j d below inside)))
        0 rs (range-fine frame labels scope rs m)
        (pairs-from (Behind labels) rs (λ i j d below inside. (m.whole.ordered i j d below inside, m.maximal i j d below inside)))))

    each-fine : (y : NativeRange) → IsIn y ranges → IsFine frame more scope y
    each-fine y i =
        let found = in-map (λ x. x.bytes) parts y i in
        let f : IsPart own ps 0 rs found.0 = cuts-in own ps 0 rs found.0 found.1 in
        subst (IsFine frame more scope) (sym found.2) (part-fine f.range f.piece found.0 (range-fine frame labels scope rs m f.range (range-among own ps 0 rs found.0 f)) f.mine f.among f.cut)

    complete : (function byte : ℕ) → is_wanted frame more scope function byte ≡ true → is_byte_of ranges function byte ≡ true
    complete function byte wanted =
        let both = and_parts (is_byte_of scope function byte) (all_placed frame more function byte) wanted in
        let places = and_parts (all_placed frame labels function byte) (is_some (placed frame function byte label) && true) (sym (placed-more frame function labels label byte) ∙ both.1) in
        let here : is_some (placed frame function byte label) ≡ true = (and_parts (is_some (placed frame function byte label)) true places.1).0 in
        let told = told-at frame label own ps t function byte here in
        cuts-have own ps 0 rs function byte told.has.piece (m.complete function byte (and_from (is_byte_of scope function byte) (all_placed frame labels function byte) both.0 places.0)) told.mine told.has.among told.has.from told.has.to

    pub narrowed-maximal : AreMaximal frame more scope ranges
    narrowed-maximal = record {
      whole = record {
        ordered = λ i j d below inside. (part-behind i j d below inside).0;
        nonempty = in-all (λ r. r.start < r.end) ranges (λ y i. (each-fine y i).some);
        inside = in-all (λ r. AtEachByte (λ byte. is_byte_of scope r.function byte ≡ true) r) ranges (λ y i. (each-fine y i).inside);
        placed = in-all (λ r. AtEachByte (λ byte. all_placed frame more r.function byte ≡ true) r) ranges (λ y i. (each-fine y i).placed);
      };
      unchanged = in-all (λ r. AtEachByte (λ byte. all_stay frame more r.function r.start byte ≡ true) r) ranges (λ y i. (each-fine y i).steady);
      complete = complete;
      maximal = λ i j d below inside. (part-behind i j d below inside).1;
    }

    pub narrowed-ranges : ranges ≡ label_ranges frame more scope
    narrowed-ranges = maximal-ranges-are frame more scope ranges narrowed-maximal

    -- ---- whether all bytes have places

    -- each byte of the ranges that were has a place of the label
    abbrev filled : Bool
    filled = are_filled own ps rs

    to-old : all_bytes_placed frame more scope ≡ true → (all_bytes_placed frame labels scope && filled) ≡ true
    to-old h = and_from (all_bytes_placed frame labels scope) filled old new
      where
        at : (r : NativeRange) → IsIn r scope → AtEachByte (λ b. all_placed frame more r.function b ≡ true) r
        at r i = bytes-true (all_placed frame more r.function) r (all-true (λ r. list_all (all_placed frame more r.function) (bytes_of r)) scope h r i)

        split : (function byte : ℕ) → all_placed frame more function byte ≡ true → (all_placed frame labels function byte ≡ true) × ((is_some (placed frame function byte label) && true) ≡ true)
        split function byte all = and_parts (all_placed frame labels function byte) (is_some (placed frame function byte label) && true) (sym (placed-more frame function labels label byte) ∙ all)

        old : all_bytes_placed frame labels scope ≡ true
        old = true-all (λ r. list_all (all_placed frame labels r.function) (bytes_of r)) scope (λ r i. true-bytes (all_placed frame labels r.function) r (λ b from to. (split r.function b (at r i b from to)).0))

        placed-in : (function byte : ℕ) → is_byte_of scope function byte ≡ true → is_some (place_in own ps function byte) ≡ true
        placed-in function byte here =
            let found = any-in (holds function byte) scope here in
            let there = held function byte found.0 found.2 in
            let all : all_placed frame more function byte ≡ true = subst (λ n. all_placed frame more n byte ≡ true) there.same (at found.0 found.1 byte there.from there.to) in
            sym (ap is_some (t.same function byte)) ∙ (and_parts (is_some (placed frame function byte label)) true (split function byte all).1).0

        new : filled ≡ true
        new = true-all (is_filled own ps) rs (λ r i. true-bytes (λ b. is_some (place_in own ps r.function b)) r (λ b from to. placed-in r.function b ((range-fine frame labels scope rs m r i).inside b from to)))

    from-old : (all_bytes_placed frame labels scope && filled) ≡ true → all_bytes_placed frame more scope ≡ true
    from-old h = true-all (λ r. list_all (all_placed frame more r.function) (bytes_of r)) scope (λ r i. true-bytes (all_placed frame more r.function) r (λ b from to. at r i b from to))
      where
        both : (all_bytes_placed frame labels scope ≡ true) × (filled ≡ true)
        both = and_parts (all_bytes_placed frame labels scope) filled h

        here : (function byte : ℕ) → is_byte_of rs function byte ≡ true → is_some (placed frame function byte label) ≡ true
        here function byte has =
            let found = any-in (holds function byte) rs has in
            let there = held function byte found.0 found.2 in
            let some = bytes-true (λ b. is_some (place_in own ps found.0.function b)) found.0 (all-true (is_filled own ps) rs both.1 found.0 found.1) byte there.from there.to in
            ap is_some (t.same function byte) ∙ subst (λ n. is_some (place_in own ps n byte) ≡ true) there.same some

        at : (r : NativeRange) → IsIn r scope → AtEachByte (λ b. all_placed frame more r.function b ≡ true) r
        at r i b from to =
            let old : all_placed frame labels r.function b ≡ true = bytes-true (all_placed frame labels r.function) r (all-true (λ r. list_all (all_placed frame labels r.function) (bytes_of r)) scope both.0 r i) b from to in
            let among : is_byte_of scope r.function b ≡ true = in-any (holds r.function b) scope r i (hold r.function b r refl from to) in
            let has : is_byte_of rs r.function b ≡ true = m.complete r.function b (and_from (is_byte_of scope r.function b) (all_placed frame labels r.function b) among old) in
            placed-more frame r.function labels label b
            ∙ and_from (all_placed frame labels r.function b) (is_some (placed frame r.function b label) && true) old
            (and_from (is_some (placed frame r.function b label)) true (here r.function b has) refl)

    pub covers-more : all_bytes_placed frame more scope ≡ (all_bytes_placed frame labels scope && filled)
    covers-more = same-answers (all_bytes_placed frame more scope) (all_bytes_placed frame labels scope && filled) to-old from-old
