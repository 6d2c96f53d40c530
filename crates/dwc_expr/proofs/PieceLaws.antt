-- The places that pieces give, of which none overlaps another.
use Rattle.std.proofs.Common.{◌≡◌, ℕ, ◌<◌, ◌≤◌, ◌+◌, ◌⊎◌, List, [], ◌∷◌, length, get_or, take, drop, true, false, refl, ap, sym, subst, ◌∙◌, inl, inr, arith, true≢false, Some, None}
use Rattle.std.specs.Prelude.{Bool, Option, is_some, All, nat_le, nat_lt, if◌then◌else◌}
use Rattle.std.specs.Option.{option_or}
use Rattle.std.proofs.lemmas.Bool.{cases_lt, and_parts, and_from, and_left, and_right, le-leb, lt-leb, leb-true, lt-ltb, le-ltb, ltb-true}
use Rattle.std.proofs.lemmas.List.{take-append-drop, length-drop, get_or-drop, get_or_default, drop_more, drop_all}
use Rattle.std.proofs.lemmas.List.Elements.{All-weaker, All-more}
use Rattle.dwc_native.specs.Compiled.{Place, LabelRange}
use Rattle.dwc_native.specs.Placed.{is_between, last_place}
use Rattle.dwc_base.proofs.InLists.{IsIn, in-append}
use Rattle.dwc_isa.specs.FlatRanges.{IsFlat}
use Rattle.dwc_expr.specs.PlacedParts.{EndBy}
use Rattle.dwc_expr.proofs.PairLaws.{Pairs, pairs-from, all-in}

-- a byte is in a range where it lies between its ends
pub between : (p : LabelRange) (byte : ℕ) → p.start ≤ byte → byte < p.end → is_between p.start p.end byte ≡ true
between p byte from to = and_from (nat_le p.start byte) (nat_lt byte p.end) (le-leb p.start byte from) (lt-ltb byte p.end to)

pub not-between : (p : LabelRange) (byte : ℕ) → (byte < p.start) ⊎ (p.end ≤ byte) → is_between p.start p.end byte ≡ false
not-between p byte (inl below) = and_left (nat_le p.start byte) (nat_lt byte p.end) (lt-leb p.start byte below)
not-between p byte (inr above) = and_right (nat_le p.start byte) (nat_lt byte p.end) (le-ltb byte p.end above)

-- a byte that no piece has has no place
pub no-place : (ps : List LabelRange) (byte : ℕ) → ((p : LabelRange) → IsIn p ps → (byte < p.start) ⊎ (p.end ≤ byte)) → last_place ps byte ≡ None
no-place [] byte apart = refl
no-place (p ∷ ps) byte apart =
    ap (λ o. option_or o (if is_between p.start p.end byte then Some p.place else None)) (no-place ps byte (λ q i. apart q (inr i)))
    ∙ ap (λ b. option_or None (if b then Some p.place else None)) (not-between p byte (apart p (inl refl)))

-- the piece that has a byte gives its place
place-at : (ps : List LabelRange) → Pairs (λ p q. p.end ≤ q.start) ps → (p : LabelRange) → IsIn p ps → (byte : ℕ) → p.start ≤ byte → byte < p.end → last_place ps byte ≡ Some p.place
place-at [] h p i byte from to = absurd i
place-at (q ∷ ps) h p (inl e) byte from to =
    let none : last_place ps byte ≡ None = no-place ps byte (λ s i. inl (later s i)) in
    let here : is_between q.start q.end byte ≡ true = subst (λ r. is_between r.start r.end byte ≡ true) e (between p byte from to) in
    ap (λ o. option_or o (if is_between q.start q.end byte then Some q.place else None)) none
    ∙ ap (λ b. option_or None (if b then Some q.place else None)) here
    ∙ ap (λ r. Some r.place) (sym e)
  where
    later : (s : LabelRange) → IsIn s ps → byte < s.start
    later s i = let to_q : byte < q.end = subst (λ r. byte < r.end) e to in omega (arith, to_q, h.0 s i)
place-at (q ∷ ps) h p (inr i) byte from to = ap (λ o. option_or o (if is_between q.start q.end byte then Some q.place else None)) (place-at ps h.1 p i byte from to)

pub piece-place : (ps : List LabelRange) → IsFlat ps → (p : LabelRange) → IsIn p ps → (byte : ℕ) → p.start ≤ byte → byte < p.end → last_place ps byte ≡ Some p.place
piece-place ps flat p i byte from to = place-at ps (pairs-from (λ r s. r.end ≤ s.start) ps flat.ordered) p i byte from to

-- a byte with a place is in a piece
pub record HasPiece (ps : List LabelRange) (byte : ℕ) : Type 0 where
  pub piece : LabelRange
  pub among : IsIn piece ps
  pub from : piece.start ≤ byte
  pub to : byte < piece.end

pub placed-piece : (ps : List LabelRange) (byte : ℕ) → is_some (last_place ps byte) ≡ true → HasPiece ps byte
placed-piece [] byte h = absurd (true≢false (sym h))
placed-piece (p ∷ ps) byte h = go (last_place ps byte) refl h (placed-piece ps byte)
  where
    here : (b : Bool) → is_between p.start p.end byte ≡ b → is_some (if b then Some p.place else None) ≡ true → HasPiece (p ∷ ps) byte
    here true e some = let ends = and_parts (nat_le p.start byte) (nat_lt byte p.end) e in record { piece = p; among = inl refl; from = leb-true p.start byte ends.0; to = ltb-true byte p.end ends.1 }
    here false e some = absurd (true≢false (sym some))

    there : HasPiece ps byte → HasPiece (p ∷ ps) byte
    there f = record { piece = f.piece; among = inr f.among; from = f.from; to = f.to }

    go : (o : Option Place) → last_place ps byte ≡ o → is_some (option_or o (if is_between p.start p.end byte then Some p.place else None)) ≡ true → (is_some (last_place ps byte) ≡ true → HasPiece ps byte) → HasPiece (p ∷ ps) byte
    go None e some others = here (is_between p.start p.end byte) refl some
    go (Some x) e some others = there (others (ap is_some e))

-- ---- pieces up to one, and from it on

-- a piece is among those up to a place or among those from it on
pub split-in : (ps : List LabelRange) (n : ℕ) (p : LabelRange) → IsIn p ps → IsIn p (take n ps) ⊎ IsIn p (drop n ps)
split-in ps n p i = in-append (take n ps) (drop n ps) p (subst (IsIn p) (sym (take-append-drop n ps)) i)

-- a later piece begins at or behind the end of an earlier one
rises : (ps : List LabelRange) → IsFlat ps → (i j : ℕ) (d e : LabelRange) → i < j → j < length ps → (get_or ps i d).end ≤ (get_or ps j e).start
rises ps flat i j d e less inside = subst (λ q. (get_or ps i d).end ≤ q.start) (get_or_default ps j d e inside) (flat.ordered i j d less inside)

-- those behind a place begin at or behind the end of the one there
pub behind-end : (ps : List LabelRange) → IsFlat ps → (n : ℕ) (d : LabelRange) → n < length ps → (p : LabelRange) → IsIn p (drop (n + 1) ps) → (get_or ps n d).end ≤ p.start
behind-end ps flat n d inside p i = all-in (λ q. (get_or ps n d).end ≤ q.start) (drop (n + 1) ps) each p i
  where
    each : All (λ q. (get_or ps n d).end ≤ q.start) (drop (n + 1) ps)
    each k e within = subst (λ q. (get_or ps n d).end ≤ q.start) (sym (get_or-drop (n + 1) ps k e)) (rises ps flat n (n + 1 + k) d e (omega arith) (omega (arith, within, length-drop (n + 1) ps)))

-- those from a place on begin at or behind the begin of the one there
pub from-start : (ps : List LabelRange) → IsFlat ps → (n : ℕ) (d : LabelRange) → n < length ps → (p : LabelRange) → IsIn p (drop n ps) → (get_or ps n d).start ≤ p.start
from-start ps flat n d inside p i = go (subst (IsIn p) (drop_more ps n d inside) i)
  where
    go : IsIn p (get_or ps n d ∷ drop (n + 1) ps) → (get_or ps n d).start ≤ p.start
    go (inl e) = subst (λ q. (get_or ps n d).start ≤ q.start) (sym e) (omega arith)
    go (inr j) = omega (arith, flat.nonempty n d inside, behind-end ps flat n d inside p j)

-- pieces that end by a byte end by a later one, and one more piece that does
pub end-later : (ps : List LabelRange) (byte later count : ℕ) → byte ≤ later → EndBy byte count ps → EndBy later count ps
end-later ps byte later count le h = All-weaker (λ p. p.end ≤ byte) (λ p. p.end ≤ later) (λ p to. omega (arith, to, le)) (take count ps) h

pub end-more : (ps : List LabelRange) (byte count : ℕ) (d : LabelRange) → count < length ps → (get_or ps count d).end ≤ byte → EndBy byte count ps → EndBy byte (count + 1) ps
end-more ps byte count d inside to h = All-more (λ p. p.end ≤ byte) ps count d inside h to

-- a byte behind the pieces up to a place, and in front of those from there on, has no place
pub no-place-at : (ps : List LabelRange) → IsFlat ps → (byte count : ℕ) (d : LabelRange) → EndBy byte count ps → (count < length ps → byte < (get_or ps count d).start) → last_place ps byte ≡ None
no-place-at ps flat byte count d passed before = no-place ps byte (λ p i. apart p (split-in ps count p i))
  where
    begun : (p : LabelRange) → IsIn p (drop count ps) → (count < length ps) ⊎ (length ps ≤ count) → byte < p.start
    begun p i (inl inside) = omega (arith, before inside, from-start ps flat count d inside p i)
    begun p i (inr past) = absurd (subst (IsIn p) (drop_all count ps past) i)

    apart : (p : LabelRange) → IsIn p (take count ps) ⊎ IsIn p (drop count ps) → (byte < p.start) ⊎ (p.end ≤ byte)
    apart p (inl i) = inr (all-in (λ q. q.end ≤ byte) (take count ps) passed p i)
    apart p (inr i) = inl (begun p i (cases_lt count (length ps)))
