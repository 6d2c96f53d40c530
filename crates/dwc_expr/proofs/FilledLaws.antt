-- Whether each byte of ranges has a place, along the pieces that give places.
use Rattle.std.proofs.Common.{◌≡◌, ℕ, ◌<◌, ◌≤◌, ◌+◌, ◌⊎◌, List, length, get_or, drop, map, max, true, false, ap, sym, subst, ◌∙◌, arith, inl, inr, true≢false, None}
use Rattle.std.specs.Prelude.{Bool, Option, ◌&&◌, is_some, if◌then◌else◌}
use Rattle.std.specs.List.{list_all}
use Rattle.std.proofs.lemmas.Bool.{cases_lt, false_from_ne_true}
use Rattle.std.proofs.lemmas.List.{at_drop_more, length-map}
use Rattle.dwc_native.specs.Compiled.{LabelRange}
use Rattle.dwc_native.specs.Placed.{NativeRange, is_number, last_place}
use Rattle.dwc_native.specs.LabelRanges.{bytes_of}
use Rattle.dwc_base.proofs.InLists.{IsIn, at-in}
use Rattle.dwc_isa.specs.declared.value_label.ValueLocRange.{ValueLocRange}
use Rattle.dwc_isa.specs.ValueLabels.{range_view}
use Rattle.dwc_isa.specs.FlatRanges.{IsFlat}
use Rattle.dwc_expr.specs.OwnPlaces.{is_filled, are_filled}
use Rattle.dwc_expr.specs.PlacedParts.{EndBy}
use Rattle.dwc_expr.proofs.PairLaws.{bytes-true, true-bytes}
use Rattle.dwc_expr.proofs.PieceLaws.{piece-place, no-place-at, end-later, end-more}
use Rattle.dwc_expr.proofs.CutWalkLaws.{no_piece, IsAt, inside-seen, piece-seen}

-- whether a byte has a place
abbrev pub has_place : List ValueLocRange → ℕ → Bool
has_place pieces byte = is_some (last_place (map range_view pieces) byte)

-- the bytes from one up to another have places
abbrev pub PlacedUpTo : List ValueLocRange → ℕ → ℕ → Type 0
PlacedUpTo pieces start end = (byte : ℕ) → start ≤ byte → byte < end → has_place pieces byte ≡ true

module _ (pieces : List ValueLocRange) (flat : IsFlat (map range_view pieces)) where
  -- a byte between two pieces has no place, so a range with it is not filled
  pub gap : (r : NativeRange) (reached count : ℕ) → r.start ≤ reached → reached < r.end → EndBy reached count (map range_view pieces) → (count < length pieces → reached < (get_or pieces count no_piece).start) → false ≡ list_all (has_place pieces) (bytes_of r)
  gap r reached count from to passed before = sym (false_from_ne_true (list_all (has_place pieces) (bytes_of r)) (λ all. true≢false (sym (bytes-true (has_place pieces) r all reached from to) ∙ ap is_some none)))
    where
      front : count < length (map range_view pieces) → reached < (get_or (map range_view pieces) count (range_view no_piece)).start
      front inside = let within : count < length pieces = subst (λ k. count < k) (length-map pieces range_view) inside in subst (λ (p : LabelRange). reached < p.start) (sym (piece-seen pieces count no_piece within)) (before within)

      none : last_place (map range_view pieces) reached ≡ None
      none = no-place-at (map range_view pieces) flat reached count (range_view no_piece) passed front

  -- one more piece, which begins no later than at the byte that is reached
  pub placed-go : (start before after n : ℕ) → n < length pieces → (get_or pieces n no_piece).start ≤ before → after ≡ max before (get_or pieces n no_piece).end → PlacedUpTo pieces start before → PlacedUpTo pieces start after
  placed-go start before after n inside begun is placed byte from to = go (cases_lt byte before)
    where
      among : IsIn (range_view (get_or pieces n no_piece)) (map range_view pieces)
      among = subst (λ p. IsIn p (map range_view pieces)) (piece-seen pieces n no_piece inside) (at-in (map range_view pieces) n (range_view no_piece) (inside-seen range_view pieces n inside))

      go : (byte < before) ⊎ (before ≤ byte) → has_place pieces byte ≡ true
      go (inl below) = placed byte from below
      go (inr above) = ap is_some (piece-place (map range_view pieces) flat (range_view (get_or pieces n no_piece)) among byte (omega (arith, begun, above)) (omega (arith, is, to, above)))

-- the pieces so far end where is reached
pub reached-go : (pieces : List ValueLocRange) (before after n : ℕ) → n < length pieces → after ≡ max before (get_or pieces n no_piece).end → EndBy before n (map range_view pieces) → EndBy after (n + 1) (map range_view pieces)
reached-go pieces before after n inside is h =
    let seen : (get_or (map range_view pieces) n (range_view no_piece)).end ≤ after = subst (λ (p : LabelRange). p.end ≤ after) (sym (piece-seen pieces n no_piece inside)) (omega (arith, is)) in
    end-more (map range_view pieces) after n (range_view no_piece) (inside-seen range_view pieces n inside) seen (end-later (map range_view pieces) before after n (omega (arith, is)) h)

pub filled-all : (pieces : List ValueLocRange) (r : NativeRange) (reached : ℕ) → r.end ≤ reached → PlacedUpTo pieces r.start reached → true ≡ list_all (has_place pieces) (bytes_of r)
filled-all pieces r reached le placed = sym (true-bytes (has_place pieces) r (λ byte from to. placed byte from (omega (arith, to, le))))

-- ---- ranges

-- a range of one's own function is filled by the places of its bytes; another one is not
pub own-filled : (own : Option ℕ) (ps : List LabelRange) (r : NativeRange) → is_number own r.function ≡ true → is_filled own ps r ≡ list_all (λ byte. is_some (last_place ps byte)) (bytes_of r)
own-filled own ps r is = ap (λ b. list_all (λ byte. is_some (if b then last_place ps byte else None)) (bytes_of r)) is

pub other-filled : (own : Option ℕ) (ps : List LabelRange) (r : NativeRange) → r.start < r.end → is_number own r.function ≡ false → is_filled own ps r ≡ false
other-filled own ps r some is =
    false_from_ne_true (is_filled own ps r) (λ all. true≢false (sym (bytes-true (λ byte. is_some (if is_number own r.function then last_place ps byte else None)) r all r.start (omega arith) some) ∙ ap (λ b. is_some (if b then last_place ps r.start else None)) is))

-- one range that is not filled decides; one that is leaves it to the others
pub not-filled : (own : Option ℕ) (ps : List LabelRange) (rs : List NativeRange) (i : ℕ) (r : NativeRange) → IsAt rs i r → is_filled own ps r ≡ false → are_filled own ps (drop i rs) ≡ are_filled own ps rs → false ≡ are_filled own ps rs
not-filled own ps rs i r at misses so_far =
    sym (ap (λ b. b && are_filled own ps (drop (i + 1) rs)) misses)
    ∙ sym (ap (λ s. is_filled own ps s && are_filled own ps (drop (i + 1) rs)) at.is)
    ∙ sym (at_drop_more (are_filled own ps) rs i r at.inside)
    ∙ so_far

pub filled-go : (own : Option ℕ) (ps : List LabelRange) (rs : List NativeRange) (i : ℕ) (r : NativeRange) → IsAt rs i r → is_filled own ps r ≡ true → are_filled own ps (drop i rs) ≡ are_filled own ps rs → are_filled own ps (drop (i + 1) rs) ≡ are_filled own ps rs
filled-go own ps rs i r at has so_far =
    sym (ap (λ b. b && are_filled own ps (drop (i + 1) rs)) has)
    ∙ sym (ap (λ s. is_filled own ps s && are_filled own ps (drop (i + 1) rs)) at.is)
    ∙ sym (at_drop_more (are_filled own ps) rs i r at.inside)
    ∙ so_far
