-- Where parts stand in the bytes of all.
use Rattle.std.proofs.Common.{◌≡◌, ℕ, suc, ◌+◌, refl, sym, ap, subst, ◌∙◌, arith, List, [], ◌∷◌, ◌++◌, append_assoc, length, length-append, take, Some, None, Bool, true, false, true≢false}
use Rattle.std.specs.Prelude.{ℤ, ◌||◌, slice_get, sum_by}
use Rattle.std.specs.List.{list_all, list_any}
use Rattle.std.proofs.lemmas.Bool.{and_parts, eqb-true}
use Rattle.std.proofs.lemmas.List.Sums.{sum_by-cons, sum_by-append}
use Rattle.std.proofs.Math.Seq.{take-append_seam}
use Rattle.dwc_native.specs.Parts.{Part, code, local, dereference, jump, landing_pad}
use Rattle.dwc_native.specs.Built.{Setting, part_bytes, part_length, pad_offset, distance_of, bytes_from, built_bytes, is_16_bit, jumps_fit_from}
use Rattle.dwc_machines.specs.PartMachine.{is_pad_of, pad_number}
use Rattle.dwc_expr.specs.RunsAlike.{part_offset}

-- how long some parts are
abbrev pub total : Setting → List Part → ℕ
total s ps = sum_by (part_length s) ps

pub total-more : (s : Setting) (p : Part) (ps : List Part) → total s (p ∷ ps) ≡ part_length s p + total s ps
total-more s p ps = sum_by-cons (part_length s) p ps

pub total-append : (s : Setting) (ps qs : List Part) → total s (ps ++ qs) ≡ total s ps + total s qs
total-append s ps qs = sum_by-append (part_length s) ps qs

-- a part is as long whatever it jumps over
pub part-long : (s : Setting) (d : ℤ) (p : Part) → length (part_bytes s d p) ≡ part_length s p
part-long s d (code c) = refl
part-long s d (local label true) = refl
part-long s d (local label false) = refl
part-long s d dereference = refl
part-long s d (jump conditionally place) = refl
part-long s d (landing_pad place) = refl

module _ (s : Setting) (all : List Part) where
  pub bytes-long : (offset : ℕ) (ps : List Part) → length (bytes_from s all offset ps) ≡ total s ps
  bytes-long offset [] = refl
  bytes-long offset (p ∷ ps) =
      let here : length (part_bytes s (distance_of s all offset p) p) ≡ part_length s p = part-long s (distance_of s all offset p) p in
      let behind : length (bytes_from s all (offset + part_length s p) ps) ≡ total s ps = bytes-long (offset + part_length s p) ps in
      length-append (part_bytes s (distance_of s all offset p) p) (bytes_from s all (offset + part_length s p) ps) ∙ ap (λ k. k + length (bytes_from s all (offset + part_length s p) ps)) here ∙ ap (λ k. part_length s p + k) behind ∙ sym (total-more s p ps)

  pub bytes-append : (offset : ℕ) (ps qs : List Part) → bytes_from s all offset (ps ++ qs) ≡ bytes_from s all offset ps ++ bytes_from s all (offset + total s ps) qs
  bytes-append offset [] qs = let e : offset ≡ offset + 0 = omega arith in ap (λ k. bytes_from s all k qs) e
  bytes-append offset (p ∷ ps) qs =
      let e : offset + part_length s p + total s ps ≡ offset + total s (p ∷ ps) = omega (arith, total-more s p ps) in
      ap (λ bs. part_bytes s (distance_of s all offset p) p ++ bs) (bytes-append (offset + part_length s p) ps qs ∙ ap (λ k. bytes_from s all (offset + part_length s p) ps ++ bytes_from s all k qs) e)
      ∙ sym (append_assoc (part_bytes s (distance_of s all offset p) p) (bytes_from s all (offset + part_length s p) ps) (bytes_from s all (offset + total s (p ∷ ps)) qs))

  pub fits-at : (offset : ℕ) (front : List Part) (p : Part) (rest : List Part) → jumps_fit_from s all offset (front ++ p ∷ rest) ≡ true → is_16_bit (distance_of s all (offset + total s front) p) ≡ true
  fits-at offset [] p rest h =
      let e : offset ≡ offset + 0 = omega arith in
      subst (λ k. is_16_bit (distance_of s all k p) ≡ true) e (and_parts (is_16_bit (distance_of s all offset p)) (jumps_fit_from s all (offset + part_length s p) rest) h).0
  fits-at offset (q ∷ front) p rest h =
      let e : offset + part_length s q + total s front ≡ offset + total s (q ∷ front) = omega (arith, total-more s q front) in
      subst (λ k. is_16_bit (distance_of s all k p) ≡ true) e (fits-at (offset + part_length s q) front p rest (and_parts (is_16_bit (distance_of s all offset q)) (jumps_fit_from s all (offset + part_length s q) (front ++ p ∷ rest)) h).1)

-- ---- a part among all

pub slice-at : (front : List Part) (p : Part) (rest : List Part) → slice_get (front ++ p ∷ rest) (length front) ≡ Some p
slice-at [] p rest = refl
slice-at (q ∷ front) p rest = slice-at front p rest

pub slice-end : (ps : List Part) → slice_get ps (length ps) ≡ None
slice-end [] = refl
slice-end (p ∷ ps) = slice-end ps

pub all-at : (f : Part → Bool) (front : List Part) (p : Part) (rest : List Part) → list_all f (front ++ p ∷ rest) ≡ true → f p ≡ true
all-at f [] p rest h = (and_parts (f p) (list_all f rest) h).0
all-at f (q ∷ front) p rest h = all-at f front p rest (and_parts (f q) (list_all f (front ++ p ∷ rest)) h).1

pub offset-at : (s : Setting) (front rest : List Part) → part_offset s (front ++ rest) (length front) ≡ total s front
offset-at s front rest = ap (total s) (take-append_seam front rest)

pub offset-behind : (s : Setting) (front : List Part) (p : Part) (rest : List Part) → part_offset s (front ++ p ∷ rest) (suc (length front)) ≡ total s front + part_length s p
offset-behind s front p rest = ap (total s) (go front) ∙ total-append s front (p ∷ []) ∙ ap (λ k. total s front + k) one
  where
    go : (front : List Part) → take (suc (length front)) (front ++ p ∷ rest) ≡ front ++ p ∷ []
    go [] = refl
    go (q ∷ front) = ap (λ qs. q ∷ qs) (go front)

    one : total s (p ∷ []) ≡ part_length s p
    one = omega (arith, total-more s p [])

-- the bytes of all, at a part
pub built-at : (s : Setting) (front : List Part) (p : Part) (rest : List Part)
    → built_bytes s (front ++ p ∷ rest) ≡ bytes_from s (front ++ p ∷ rest) 0 front ++ (part_bytes s (distance_of s (front ++ p ∷ rest) (total s front) p) p ++ bytes_from s (front ++ p ∷ rest) (total s front + part_length s p) rest)
unfolding built_bytes
built-at s front p rest =
    let e : 0 + total s front ≡ total s front = omega arith in
    bytes-append s (front ++ p ∷ rest) 0 front (p ∷ rest) ∙ ap (λ k. bytes_from s (front ++ p ∷ rest) 0 front ++ bytes_from s (front ++ p ∷ rest) k (p ∷ rest)) e

pub built-long : (s : Setting) (ps : List Part) → length (built_bytes s ps) ≡ total s ps
unfolding built_bytes
built-long s ps = bytes-long s ps 0 ps

-- ---- landing pads

-- The first landing pad of a place stands behind some parts, and so far in the bytes as those are long.
pub record HasPad (s : Setting) (place : ℕ) (ps : List Part) : Type 0 where
  pub front : List Part
  pub rest : List Part
  pub split : ps ≡ front ++ landing_pad place ∷ rest
  pub number : pad_number place ps ≡ Some (length front)
  pub offset : pad_offset s place ps ≡ total s front

pad-here : (place : ℕ) (p : Part) → is_pad_of place p ≡ true → p ≡ landing_pad place
pad-here place (code c) h = absurd (true≢false (sym h))
pad-here place (local label trailing) h = absurd (true≢false (sym h))
pad-here place dereference h = absurd (true≢false (sym h))
pad-here place (jump conditionally other) h = absurd (true≢false (sym h))
pad-here place (landing_pad other) h = ap landing_pad (eqb-true other place h)

pad-first : (s : Setting) (place : ℕ) (p : Part) (ps : List Part) → is_pad_of place p ≡ true → pad_offset s place (p ∷ ps) ≡ 0
pad-first s place (code c) ps h = absurd (true≢false (sym h))
pad-first s place (local label trailing) ps h = absurd (true≢false (sym h))
pad-first s place dereference ps h = absurd (true≢false (sym h))
pad-first s place (jump conditionally other) ps h = absurd (true≢false (sym h))
pad-first s place (landing_pad other) ps h = rw h refl

pad-later : (s : Setting) (place : ℕ) (p : Part) (ps : List Part) → is_pad_of place p ≡ false → pad_offset s place (p ∷ ps) ≡ part_length s p + pad_offset s place ps
pad-later s place (code c) ps h = refl
pad-later s place (local label true) ps h = refl
pad-later s place (local label false) ps h = refl
pad-later s place dereference ps h = refl
pad-later s place (jump conditionally other) ps h = refl
pad-later s place (landing_pad other) ps h = rw h (omega arith)

pub has-pad : (s : Setting) (place : ℕ) (ps : List Part) → list_any (is_pad_of place) ps ≡ true → HasPad s place ps
has-pad s place [] h = absurd (true≢false (sym h))
has-pad s place (p ∷ ps) h = go (is_pad_of place p) refl (λ later. has-pad s place ps later) h
  where
    go : (here : Bool) → is_pad_of place p ≡ here → (list_any (is_pad_of place) ps ≡ true → HasPad s place ps) → (here || list_any (is_pad_of place) ps) ≡ true → HasPad s place (p ∷ ps)
    go true is inner h = record {
      front = [];
      rest = ps;
      split = ap (λ q. q ∷ ps) (pad-here place p is);
      number = rw is refl;
      offset = pad-first s place p ps is;
    }
    go false is inner h =
        let w : HasPad s place ps = inner h in
        record {
          front = p ∷ w.front;
          rest = w.rest;
          split = ap (λ qs. p ∷ qs) w.split;
          number = rw (is, w.number) refl;
          offset = pad-later s place p ps is ∙ ap (λ k. part_length s p + k) w.offset ∙ sym (total-more s p w.front);
        }
