-- What is gathered stays given by ranges: before any label, and with one more label.
use Rattle.std.proofs.Common.{◌≡◌, ℕ, ◌<◌, ◌^◌, List, [], ◌∷◌, ◌++◌, length, get_or, true, false, refl, ap, sym, subst, ◌∙◌, inl, inr, arith, Some, None}
use Rattle.std.specs.Prelude.{Bool, Option, ◌&&◌, ◌||◌, ◌==◌, nat_lt, All, map, option_map, is_some, IsSome, if◌then◌else◌}
use Rattle.std.specs.List.{list_any, list_all, AllZip}
use Rattle.std.specs.Map.{lookup}
use Rattle.std.specs.BTreeMap.{is_at}
use Rattle.std.specs.Ordering.{nat_cmp}
use Rattle.std.proofs.lemmas.Bool.{eqb-true, eq-eqb}
use Rattle.std.proofs.lemmas.List.{get_or-map, length-map}
use Rattle.std.proofs.lemmas.List.Folds.{list_any-append}
use Rattle.dwc_dwarf.specs.Values.{is_one_of}
use Rattle.dwc_native.specs.Compiled.{LabelRange}
use Rattle.dwc_native.specs.Placed.{Frame, NativeRange, placed, all_placed}
use Rattle.dwc_native.specs.LabelRanges.{AreLabelRanges, AreMaximal, AtEachByte, label_ranges, all_bytes_placed, bytes_of}
use Rattle.dwc_native.specs.BuiltExpressions.{has_bad_range}
use Rattle.dwc_base.proofs.InLists.{IsIn, in-any}
use Rattle.dwc_native.proofs.LabelRangeMaximal.{label-ranges-maximal}
use Rattle.dwc_isa.specs.ValueLabels.{place_view}
use Rattle.dwc_expr.specs.declared.ranges.cached_range.CachedValueLabelRange.{CachedValueLabelRange}
use Rattle.dwc_expr.specs.Frames.{ToldFrame, frame_of}
use Rattle.dwc_expr.specs.LabelRanges.{Gathered, gathered_frame, with_label, bounds_of, location_in, SaysPlaces, HasPlaces, GivesRanges}
use Rattle.dwc_expr.specs.NarrowedRanges.{IsMadeBy, IsMadeIn, Tells}
use Rattle.dwc_expr.specs.OwnPlaces.{own_ranges, are_filled}
use Rattle.dwc_expr.specs.PlacedParts.{PlacedPart, cuts_from}
use Rattle.dwc_expr.proofs.PairLaws.{all-in, in-all, all-true, all-unmapped, true-all, true-bytes}
use Rattle.dwc_expr.proofs.StayLaws.{stay-placed}
use Rattle.dwc_expr.proofs.CutLaws.{IsPart, cuts-in, range-among}
use Rattle.dwc_expr.proofs.NarrowLaws.{IsFine, range-fine, part-placed, narrowed-ranges, covers-more}

-- ---- what the calls that narrow ask

-- whether a label has a range that begins above its end, by the ranges that are told
pub bad-range : (f : Option ToldFrame) (label : ℕ) (rs : List LabelRange) → rs ≡ own_ranges f label → has_bad_range (option_map frame_of f) label ≡ list_any (λ r. nat_lt r.end r.start) rs
bad-range None label rs e = ap (list_any (λ r. nat_lt r.end r.start)) (sym e)
bad-range (Some f) label rs e = ap (list_any (λ r. nat_lt r.end r.start)) (sym e)

-- ranges that give what is gathered are in order and have bytes
pub gives-maximal : (g : Gathered) (ranges : List CachedValueLabelRange) (covers : Bool) → GivesRanges g ranges covers → AreMaximal (gathered_frame g) g.labels g.scope (map bounds_of ranges)
gives-maximal g ranges covers h = subst (AreMaximal (gathered_frame g) g.labels g.scope) (sym h.bounds) (label-ranges-maximal (gathered_frame g) g.labels g.scope)

-- and each says a place of each label
pub gives-places : (g : Gathered) (ranges : List CachedValueLabelRange) (covers : Bool) → GivesRanges g ranges covers → All (HasPlaces g.labels) ranges
gives-places g ranges covers h = in-all (HasPlaces g.labels) ranges (λ r i. in-all (λ label. IsSome (location_in r label)) g.labels (at r i))
  where
    frame : Option Frame
    frame = gathered_frame g

    known : AreLabelRanges frame g.labels g.scope (map bounds_of ranges)
    known = (gives-maximal g ranges covers h).whole

    first-placed : (r : CachedValueLabelRange) → IsIn r ranges → all_placed frame g.labels r.func_index r.start ≡ true
    first-placed r i =
        let some : r.start < r.end = all-in (λ r. r.start < r.end) ranges (all-unmapped bounds_of (λ r. r.start < r.end) ranges known.nonempty) r i in
        all-in (λ r. AtEachByte (λ byte. all_placed frame g.labels r.func_index byte ≡ true) (bounds_of r)) ranges (all-unmapped bounds_of (λ r. AtEachByte (λ byte. all_placed frame g.labels r.function byte ≡ true) r) ranges known.placed) r i r.start (omega arith) some

    at : (r : CachedValueLabelRange) → IsIn r ranges → (label : ℕ) → IsIn label g.labels → IsSome (location_in r label)
    at r i label j =
        let says : location_in r label ≡ (if is_one_of g.labels label then placed frame r.func_index r.start label else None) = all-in (SaysPlaces frame g.labels) ranges h.places r i label in
        let among : is_one_of g.labels label ≡ true = in-any (λ l. l == label) g.labels label j (eq-eqb label label refl) in
        ap is_some (says ∙ ap (λ b. if b then placed frame r.func_index r.start label else None) among) ∙ all-true (λ l. is_some (placed frame r.func_index r.start l)) g.labels (first-placed r i) label j

-- the same where the labels are known otherwise
pub given-labels : (frame : Option ToldFrame) (has : Bool) (scope : List NativeRange) (labels known : List ℕ) (ranges : List CachedValueLabelRange) (covers : Bool) → labels ≡ known
    → GivesRanges (record { frame = frame; has_scope = has; scope = scope; labels = known }) ranges covers → GivesRanges (record { frame = frame; has_scope = has; scope = scope; labels = labels }) ranges covers
given-labels frame has scope labels known ranges covers same h = subst (λ ls. GivesRanges (record { frame = frame; has_scope = has; scope = scope; labels = ls }) ranges covers) (sym same) h

-- ---- before any label

and-true : (b : Bool) → b ≡ (b && true)
and-true true = refl
and-true false = refl

-- no label: each byte has all places
pub all-placed-none : (frame : Option Frame) (scope : List NativeRange) → all_bytes_placed frame [] scope ≡ true
all-placed-none frame scope = true-all (λ r. list_all (all_placed frame [] r.function) (bytes_of r)) scope (λ r i. true-bytes (all_placed frame [] r.function) r (λ b from to. refl))

pub begins-given :
    (frame : Option ToldFrame) (has : Bool) (scope : List NativeRange) (ranges : List CachedValueLabelRange) → map bounds_of ranges ≡ label_ranges None [] scope → All (λ r. r.label_location.entries ≡ []) ranges → All (λ r. r.end < 2 ^ 32) ranges
    → GivesRanges (record { frame = frame; has_scope = has; scope = scope; labels = [] }) ranges has
begins-given frame has scope ranges are none low = record {
  bounds = are;
  places = in-all (SaysPlaces (option_map frame_of frame) []) ranges (λ r i label. ap (λ es. option_map place_view (lookup (is_at (nat_cmp label)) es)) (all-in (λ r. r.label_location.entries ≡ []) ranges none r i));
  low = low;
  cover = and-true has ∙ ap (λ b. has && b) (sym (all-placed-none (option_map frame_of frame) scope));
}

-- ---- with one more label

zip-bounds : (label : ℕ) (ranges : List CachedValueLabelRange) (parts : List PlacedPart) (made : List CachedValueLabelRange) → AllZip (IsMadeIn label ranges) parts made → map bounds_of made ≡ map (λ x. x.bytes) parts
zip-bounds label ranges [] [] h = refl
zip-bounds label ranges [] (r ∷ made) h = absurd h
zip-bounds label ranges (x ∷ parts) [] h = absurd h
zip-bounds label ranges (x ∷ parts) (r ∷ made) h = ap (λ b. b ∷ map bounds_of made) (h.0 r).bounds ∙ ap (λ bs. x.bytes ∷ bs) (zip-bounds label ranges parts made h.1)

zip-in : {A B : Type 0} (R : A → B → Type 0) (xs : List A) (ys : List B) → AllZip R xs ys → (y : B) → IsIn y ys → (x : A) × IsIn x xs × R x y
zip-in R [] [] h y i = absurd i
zip-in R [] (z ∷ ys) h y i = absurd h
zip-in R (x ∷ xs) [] h y i = absurd i
zip-in R (x ∷ xs) (z ∷ ys) h y (inl e) = (x, inl refl, subst (R x) (sym e) h.0)
zip-in R (x ∷ xs) (z ∷ ys) h y (inr i) = let found = zip-in R xs ys h.1 y i in (found.0, inr found.1, found.2)

and-inside : (a b c : Bool) → ((a && b) && c) ≡ (a && (b && c))
and-inside true b c = refl
and-inside false b c = refl

-- a range that is made of a cut, with the range that was cut
record IsMade (own : Option ℕ) (ps : List LabelRange) (label : ℕ) (ranges : List CachedValueLabelRange) (r : CachedValueLabelRange) : Type 0 where
  cut : PlacedPart
  part : IsPart own ps 0 (map bounds_of ranges) cut
  known : cut.index < length ranges
  made : IsMadeBy label (get_or ranges cut.index r) cut r
  seen : bounds_of (get_or ranges cut.index r) ≡ part.range

is-made : (own : Option ℕ) (ps : List LabelRange) (label : ℕ) (ranges made : List CachedValueLabelRange) → AllZip (IsMadeIn label ranges) (cuts_from own ps 0 (map bounds_of ranges)) made → (r : CachedValueLabelRange) → IsIn r made → IsMade own ps label ranges r
is-made own ps label ranges made zip r i =
    let found = zip-in (IsMadeIn label ranges) (cuts_from own ps 0 (map bounds_of ranges)) made zip r i in
    let f : IsPart own ps 0 (map bounds_of ranges) found.0 = cuts-in own ps 0 (map bounds_of ranges) found.0 found.1 in
    let number : found.0.index ≡ f.offset = omega (arith, f.number) in
    let known : found.0.index < length ranges = omega (arith, f.number, f.inside, length-map ranges bounds_of) in
    record {
      cut = found.0;
      part = f;
      known = known;
      made = found.2 r;
      seen = sym (get_or-map bounds_of ranges found.0.index r (bounds_of r) known) ∙ ap (λ k. get_or (map bounds_of ranges) k (bounds_of r)) number ∙ f.is (bounds_of r);
    }

module _ (g : Gathered) (label : ℕ) (own : Option ℕ) (ps : List LabelRange) (ranges : List CachedValueLabelRange) (covers : Bool) (t : Tells (gathered_frame g) label own ps) (old : GivesRanges g ranges covers) where
  -- the frame, as the definitions have it
  abbrev frame : Option Frame
  frame = gathered_frame g

  -- whether it is one of the labels with the further one
  one-more : (other : ℕ) → is_one_of (g.labels ++ label ∷ []) other ≡ (is_one_of g.labels other || ((label == other) || false))
  one-more other = list_any-append (λ l. l == other) g.labels (label ∷ [])

  made-says : (r : CachedValueLabelRange) → IsMade own ps label ranges r → SaysPlaces frame (g.labels ++ label ∷ []) r
  made-says r m other = say (label == other) (is_one_of g.labels other) refl refl ∙ ap (λ b. if b then placed frame r.func_index r.start other else None) (sym (one-more other))
    where
      before : CachedValueLabelRange
      before = get_or ranges m.cut.index r

      fine : IsFine frame g.labels g.scope m.part.range
      fine = range-fine frame g.labels g.scope (map bounds_of ranges) (gives-maximal g ranges covers old) m.part.range (range-among own ps 0 (map bounds_of ranges) m.cut m.part)

      -- the place at the begin of the new range, by the function and the begin of the cut
      new-place : (l : ℕ) → placed frame r.func_index r.start l ≡ placed frame m.part.range.function m.cut.bytes.start l
      new-place l = ap (λ (b : NativeRange). placed frame b.function b.start l) m.made.bounds ∙ ap (λ n. placed frame n m.cut.bytes.start l) m.part.cut.function

      old-place : (l : ℕ) → placed frame (get_or ranges m.cut.index r).func_index (get_or ranges m.cut.index r).start l ≡ placed frame m.part.range.function m.part.range.start l
      old-place l = ap (λ (b : NativeRange). placed frame b.function b.start l) m.seen

      stays : is_one_of g.labels other ≡ true → placed frame m.part.range.function m.part.range.start other ≡ placed frame m.part.range.function m.cut.bytes.start other
      stays is = stay-placed frame m.part.range.function g.labels m.part.range.start m.cut.bytes.start other (fine.steady m.cut.bytes.start m.part.cut.from_range (omega (arith, m.part.cut.some, m.part.cut.to_range))) is

      here : placed frame m.part.range.function m.cut.bytes.start label ≡ Some m.cut.place
      here = part-placed frame g.labels label g.scope own ps t m.part.range m.part.piece m.cut m.part.mine m.part.among m.part.cut m.cut.bytes.start (omega arith) m.part.cut.some ∙ ap Some (sym m.part.cut.place)

      told : (b : Bool) → is_one_of g.labels other ≡ b → location_in (get_or ranges m.cut.index r) other ≡ (if b then placed frame (get_or ranges m.cut.index r).func_index (get_or ranges m.cut.index r).start other else None)
      told b e = old.places m.cut.index r m.known other ∙ ap (λ z. if z then placed frame (get_or ranges m.cut.index r).func_index (get_or ranges m.cut.index r).start other else None) e

      say : (a b : Bool) → label == other ≡ a → is_one_of g.labels other ≡ b → location_in r other ≡ (if b || (a || false) then placed frame r.func_index r.start other else None)
      say true b mine e =
          m.made.places other
          ∙ ap (λ z. if z then Some m.cut.place else location_in (get_or ranges m.cut.index r) other) mine
          ∙ sym here
          ∙ ap (placed frame m.part.range.function m.cut.bytes.start) (eqb-true label other mine)
          ∙ sym (new-place other)
          ∙ either b
        where
          either : (b : Bool) → placed frame r.func_index r.start other ≡ (if b || (true || false) then placed frame r.func_index r.start other else None)
          either true = refl
          either false = refl
      say false true mine e =
          m.made.places other
          ∙ ap (λ z. if z then Some m.cut.place else location_in (get_or ranges m.cut.index r) other) mine
          ∙ told true e
          ∙ old-place other
          ∙ stays e
          ∙ sym (new-place other)
      say false false mine e =
          m.made.places other
          ∙ ap (λ z. if z then Some m.cut.place else location_in (get_or ranges m.cut.index r) other) mine
          ∙ told false e

  made-low : (r : CachedValueLabelRange) → IsMade own ps label ranges r → r.end < 2 ^ 32
  made-low r m =
      let new : r.end ≡ m.cut.bytes.end = ap (λ (b : NativeRange). b.end) m.made.bounds in
      let was : (get_or ranges m.cut.index r).end ≡ m.part.range.end = ap (λ (b : NativeRange). b.end) m.seen in
      let low : (get_or ranges m.cut.index r).end < 2 ^ 32 = old.low m.cut.index r m.known in
      omega (arith, new, was, low, m.part.cut.to_range)

  pub narrowed-given : (made : List CachedValueLabelRange) (covers' : Bool) → AllZip (IsMadeIn label ranges) (cuts_from own ps 0 (map bounds_of ranges)) made → covers' ≡ (covers && are_filled own ps (map bounds_of ranges)) → GivesRanges (with_label label g) made covers'
  narrowed-given made covers' zip all =
      let m = gives-maximal g ranges covers old in
      record {
        bounds = zip-bounds label ranges (cuts_from own ps 0 (map bounds_of ranges)) made zip ∙ narrowed-ranges frame g.labels label g.scope own ps t (map bounds_of ranges) m;
        places = in-all (SaysPlaces frame (g.labels ++ label ∷ [])) made (λ r i. made-says r (is-made own ps label ranges made zip r i));
        low = in-all (λ r. r.end < 2 ^ 32) made (λ r i. made-low r (is-made own ps label ranges made zip r i));
        cover =
            all
            ∙ ap (λ b. b && are_filled own ps (map bounds_of ranges)) old.cover
            ∙ and-inside g.has_scope (all_bytes_placed frame g.labels g.scope) (are_filled own ps (map bounds_of ranges))
            ∙ ap (λ b. g.has_scope && b) (sym (covers-more frame g.labels label g.scope own ps t (map bounds_of ranges) m));
      }
