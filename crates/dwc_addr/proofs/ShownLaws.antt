-- The ranges of an interval have each byte at which a source of it is shown, and no other; they are maximal, and no other ranges are.
use Rattle.std.proofs.Common.{◌≡◌, ℕ, zero, suc, ◌<◌, ◌≤◌, ◌+◌, List, [], ◌∷◌, true, false, refl, ap, sym, ◌∙◌, subst, arith, inl, inr, true≢false}
use Rattle.std.specs.Prelude.{Bool, ◌&&◌, ◌||◌, ◌==◌, ◌⊎◌, nat_le, nat_lt, if◌then◌else◌}
use Rattle.std.proofs.lemmas.Bool.{cases_lt, and_parts, and_from, or_left, eqb-true, eq-eqb, leb-true, le-leb, ltb-true, lt-ltb}
use Rattle.dwc_native.specs.ShownSources.{shown_source, byte_before, ranges_where, is_source_in, exact_ranges, has_byte, have_byte, Apart, RangesAreExact, RangesAreMaximal, ExactRangesAreThese}

-- ---- ranges that are apart

apart-later : (from next to : ℕ) (rs : List (ℕ × ℕ)) → next ≤ from → Apart from to rs → Apart next to rs
apart-later from next to [] before h = tt
apart-later from next to (r ∷ rs) before h = (omega (arith, before, h.0), h.1, h.2, h.3)

apart-before : (byte to : ℕ) (rs : List (ℕ × ℕ)) → byte < to → Apart (suc byte) to rs → Apart byte to (byte_before byte rs)
apart-before byte to [] inside h = (omega arith, omega arith, omega (arith, inside), tt)
apart-before byte to (r ∷ rs) inside h = go (r.0 == suc byte) refl
  where
    go : (joins : Bool) → (r.0 == suc byte) ≡ joins → Apart byte to (if joins then (byte, r.1) ∷ rs else (byte, suc byte) ∷ r ∷ rs)
    go true e = (omega arith, omega (arith, h.0, h.1), h.2, h.3)
    go false e = (omega arith, omega arith, omega (arith, inside), (after (cases_lt (suc byte) r.0), h.1, h.2, h.3))
      where
        after : (suc byte < r.0) ⊎ (r.0 ≤ suc byte) → suc (suc byte) ≤ r.0
        after (inl behind) = omega (arith, behind)
        after (inr at) = let same : r.0 ≡ suc byte = omega (arith, at, h.0) in absurd (true≢false (sym (eq-eqb r.0 (suc byte) same) ∙ e))

pub ranges-apart : (w : ℕ → Bool) (byte count : ℕ) → Apart byte (byte + count) (ranges_where w byte count)
unfolding ranges_where
ranges-apart w byte zero = tt
ranges-apart w byte (suc count) = go (w byte) (subst (λ n. Apart (suc byte) n (ranges_where w (suc byte) count)) same (ranges-apart w (suc byte) count))
  where
    same : suc byte + count ≡ byte + suc count
    same = omega arith

    go : (wanted : Bool) → Apart (suc byte) (byte + suc count) (ranges_where w (suc byte) count) → Apart byte (byte + suc count) (elim wanted [ true ↦ byte_before byte (ranges_where w (suc byte) count) | false ↦ ranges_where w (suc byte) count ])
    go true h = apart-before byte (byte + suc count) (ranges_where w (suc byte) count) (omega arith) h
    go false h = apart-later (suc byte) byte (byte + suc count) (ranges_where w (suc byte) count) (omega arith) h

-- ---- which bytes they have

-- a byte below ranges is in none of them
below-none : (from to byte : ℕ) (rs : List (ℕ × ℕ)) → Apart from to rs → byte < from → have_byte rs byte ≡ false
below-none from to byte [] h below = refl
below-none from to byte (r ∷ rs) h below = go (has_byte byte r) refl (below-none (suc r.1) to byte rs h.3 (omega (arith, below, h.0, h.1)))
  where
    go : (has : Bool) → has_byte byte r ≡ has → have_byte rs byte ≡ false → has_byte byte r || have_byte rs byte ≡ false
    go true e others = absurd (omega (arith, below, h.0, leb-true r.0 byte (and_parts (nat_le r.0 byte) (nat_lt byte r.1) e).0))
    go false e others = rw (e, others) refl

-- what is true and what follows from each other is the same
same-if : (a b : Bool) → (a ≡ true → b ≡ true) → (b ≡ true → a ≡ true) → a ≡ b
same-if true b there back = sym (there refl)
same-if false true there back = back refl
same-if false false there back = refl

-- a byte in front is had, and of the others each as before
front-had : (byte to : ℕ) (rs : List (ℕ × ℕ)) → Apart (suc byte) to rs → have_byte (byte_before byte rs) byte ≡ true
front-had byte to [] h = or_left (has_byte byte (byte, suc byte)) false (and_from (nat_le byte byte) (nat_lt byte (suc byte)) (le-leb byte byte (omega arith)) (lt-ltb byte (suc byte) (omega arith)))
front-had byte to (r ∷ rs) h = go (r.0 == suc byte)
  where
    go : (joins : Bool) → have_byte (if joins then (byte, r.1) ∷ rs else (byte, suc byte) ∷ r ∷ rs) byte ≡ true
    go true = or_left (has_byte byte (byte, r.1)) (have_byte rs byte) (and_from (nat_le byte byte) (nat_lt byte r.1) (le-leb byte byte (omega arith)) (lt-ltb byte r.1 (omega (arith, h.0, h.1))))
    go false = or_left (has_byte byte (byte, suc byte)) (have_byte (r ∷ rs) byte) (and_from (nat_le byte byte) (nat_lt byte (suc byte)) (le-leb byte byte (omega arith)) (lt-ltb byte (suc byte) (omega arith)))

-- a range that begins one byte earlier has the same bytes behind that
has-earlier : (byte b : ℕ) (r : ℕ × ℕ) → byte < b → r.0 ≡ suc byte → has_byte b (byte, r.1) ≡ has_byte b r
has-earlier byte b r below at = ap (λ from. from && nat_lt b r.1) (le-leb byte b (omega (arith, below)) ∙ sym (le-leb r.0 b (omega (arith, at, below))))

-- one byte alone is not another
not-alone : (byte b : ℕ) → byte < b → has_byte b (byte, suc byte) ≡ false
not-alone byte b below = go (has_byte b (byte, suc byte)) refl
  where
    go : (has : Bool) → has_byte b (byte, suc byte) ≡ has → has_byte b (byte, suc byte) ≡ false
    go true e = absurd (omega (arith, below, ltb-true b (suc byte) (and_parts (nat_le byte b) (nat_lt b (suc byte)) e).1))
    go false e = e

others-had : (byte b : ℕ) (rs : List (ℕ × ℕ)) → byte < b → have_byte (byte_before byte rs) b ≡ have_byte rs b
others-had byte b [] below = ap (λ has. has || false) (not-alone byte b below)
others-had byte b (r ∷ rs) below = go (r.0 == suc byte) refl
  where
    go : (joins : Bool) → (r.0 == suc byte) ≡ joins → have_byte (if joins then (byte, r.1) ∷ rs else (byte, suc byte) ∷ r ∷ rs) b ≡ have_byte (r ∷ rs) b
    go true e = ap (λ has. has || have_byte rs b) (has-earlier byte b r below (eqb-true r.0 (suc byte) e))
    go false e = ap (λ has. has || have_byte (r ∷ rs) b) (not-alone byte b below)

-- At each byte the ranges have it exactly where it is wanted.
pub ranges-exact : (w : ℕ → Bool) (byte count b : ℕ) → byte ≤ b → b < byte + count → have_byte (ranges_where w byte count) b ≡ w b
unfolding ranges_where
ranges-exact w byte zero b from to = absurd (omega (arith, from, to))
ranges-exact w byte (suc count) b from to = go (w byte) refl (cases_lt byte b) (λ below. ranges-exact w (suc byte) count b (omega (arith, below)) (omega (arith, to)))
  where
    rest : List (ℕ × ℕ)
    rest = ranges_where w (suc byte) count

    go : (wanted : Bool) → w byte ≡ wanted → (byte < b) ⊎ (b ≤ byte) → ((byte < b) → have_byte rest b ≡ w b) → have_byte (elim wanted [ true ↦ byte_before byte rest | false ↦ rest ]) b ≡ w b
    go true e (inl below) behind = others-had byte b rest below ∙ behind below
    go true e (inr above) behind =
        let same : b ≡ byte = omega (arith, from, above) in
        subst (λ k. have_byte (byte_before byte rest) k ≡ w k) (sym same) (front-had byte (suc byte + count) rest (ranges-apart w (suc byte) count) ∙ sym e)
    go false e (inl below) behind = behind below
    go false e (inr above) behind =
        let same : b ≡ byte = omega (arith, from, above) in
        subst (λ k. have_byte rest k ≡ w k) (sym same) (below-none (suc byte) (suc byte + count) byte rest (ranges-apart w (suc byte) count) (omega arith) ∙ sym e)

-- ---- the laws

pub exact : RangesAreExact
unfolding exact_ranges
exact f start end byte inside = ranges-exact (λ b. is_source_in start end (shown_source f b)) 0 f.length byte (omega arith) (omega (arith, inside))

pub maximal : RangesAreMaximal
unfolding exact_ranges
maximal f start end =
    let w : ℕ → Bool = λ b. is_source_in start end (shown_source f b) in
    let same : 0 + f.length ≡ f.length = omega arith in
    subst (λ n. Apart 0 n (ranges_where w 0 f.length)) same (ranges-apart w 0 f.length)

-- ---- no others do

-- a byte of the first range is had
first-had : (r : ℕ × ℕ) (rs : List (ℕ × ℕ)) (byte : ℕ) → r.0 ≤ byte → byte < r.1 → have_byte (r ∷ rs) byte ≡ true
first-had r rs byte from to = or_left (has_byte byte r) (have_byte rs byte) (and_from (nat_le r.0 byte) (nat_lt byte r.1) (le-leb r.0 byte from) (lt-ltb byte r.1 to))

-- one behind it is not in it
behind-first : (r : ℕ × ℕ) (byte : ℕ) → r.1 ≤ byte → has_byte byte r ≡ false
behind-first r byte behind = go (has_byte byte r) refl
  where
    go : (has : Bool) → has_byte byte r ≡ has → has_byte byte r ≡ false
    go true e = absurd (omega (arith, behind, ltb-true byte r.1 (and_parts (nat_le r.0 byte) (nat_lt byte r.1) e).1))
    go false e = e

-- and the one right behind it in none
right-behind : (from to : ℕ) (r : ℕ × ℕ) (rs : List (ℕ × ℕ)) → Apart from to (r ∷ rs) → have_byte (r ∷ rs) r.1 ≡ false
right-behind from to r rs h = rw (behind-first r r.1 (omega arith), below-none (suc r.1) to r.1 rs h.3 (omega arith)) refl

Alike : ℕ → ℕ → List (ℕ × ℕ) → List (ℕ × ℕ) → Type 0
Alike from to rs qs = (byte : ℕ) → from ≤ byte → byte < to → have_byte rs byte ≡ have_byte qs byte

-- the first range of two that are alike does not begin before the other
not-before : (from to : ℕ) (r q : ℕ × ℕ) (rs qs : List (ℕ × ℕ)) → Apart from to (r ∷ rs) → Apart from to (q ∷ qs) → Alike from to (r ∷ rs) (q ∷ qs) → q.0 ≤ r.0
unfolding Alike
not-before from to r q rs qs h k alike = go (cases_lt r.0 q.0)
  where
    go : (r.0 < q.0) ⊎ (q.0 ≤ r.0) → q.0 ≤ r.0
    go (inr at) = at
    go (inl before) = absurd (true≢false (sym (first-had r rs r.0 (omega arith) (omega (arith, h.1))) ∙ alike r.0 (omega (arith, h.0)) (omega (arith, h.1, h.2)) ∙ below-none q.0 to r.0 (q ∷ qs) (omega arith, k.1, k.2, k.3) before))

-- nor, beginning with it, end before it
not-shorter : (from to : ℕ) (r q : ℕ × ℕ) (rs qs : List (ℕ × ℕ)) → Apart from to (r ∷ rs) → Apart from to (q ∷ qs) → Alike from to (r ∷ rs) (q ∷ qs) → q.0 ≤ r.0 → q.1 ≤ r.1
unfolding Alike
not-shorter from to r q rs qs h k alike at = go (cases_lt r.1 q.1)
  where
    go : (r.1 < q.1) ⊎ (q.1 ≤ r.1) → q.1 ≤ r.1
    go (inr as_long) = as_long
    go (inl shorter) = absurd (true≢false (sym (first-had q qs r.1 (omega (arith, at, h.1)) shorter) ∙ sym (alike r.1 (omega (arith, h.0, h.1)) (omega (arith, shorter, k.2))) ∙ right-behind from to r rs h))

same-pair : (r q : ℕ × ℕ) → r.0 ≡ q.0 → r.1 ≡ q.1 → r ≡ q
same-pair r q begins ends = ap (λ n. (n, r.1)) begins ∙ ap (λ n. (q.0, n)) ends

alike-behind : (from to : ℕ) (r q : ℕ × ℕ) (rs qs : List (ℕ × ℕ)) → Apart from to (r ∷ rs) → r.1 ≡ q.1 → Alike from to (r ∷ rs) (q ∷ qs) → Alike (suc r.1) to rs qs
unfolding Alike
alike-behind from to r q rs qs h ends alike byte above below =
    let here : have_byte (r ∷ rs) byte ≡ have_byte rs byte = ap (λ has. has || have_byte rs byte) (behind-first r byte (omega (arith, above))) in
    let there : have_byte (q ∷ qs) byte ≡ have_byte qs byte = ap (λ has. has || have_byte qs byte) (behind-first q byte (omega (arith, above, ends))) in
    sym here ∙ alike byte (omega (arith, above, h.0, h.1)) below ∙ there

unique : (from to : ℕ) (rs qs : List (ℕ × ℕ)) → Apart from to rs → Apart from to qs → Alike from to rs qs → rs ≡ qs
unfolding Alike
unique from to [] [] h k alike = refl
unique from to [] (q ∷ qs) h k alike = absurd (true≢false (sym (first-had q qs q.0 (omega arith) k.1) ∙ sym (alike q.0 k.0 (omega (arith, k.1, k.2)))))
unique from to (r ∷ rs) [] h k alike = absurd (true≢false (sym (first-had r rs r.0 (omega arith) h.1) ∙ alike r.0 h.0 (omega (arith, h.1, h.2))))
unique from to (r ∷ rs) (q ∷ qs) h k alike =
    let back : Alike from to (q ∷ qs) (r ∷ rs) = λ byte above below. sym (alike byte above below) in
    let at : q.0 ≤ r.0 = not-before from to r q rs qs h k alike in
    let at_too : r.0 ≤ q.0 = not-before from to q r qs rs k h back in
    let ends : r.1 ≡ q.1 = omega (arith, not-shorter from to r q rs qs h k alike at, not-shorter from to q r qs rs k h back at_too) in
    let others : rs ≡ qs = unique (suc r.1) to rs qs h.3 (subst (λ n. Apart (suc n) to qs) (sym ends) k.3) (alike-behind from to r q rs qs h ends alike) in
    ap (λ x. x ∷ rs) (same-pair r q (omega (arith, at, at_too)) ends) ∙ ap (λ xs. q ∷ xs) others

pub these : ExactRangesAreThese
unfolding Alike
these f start end rs apart had = unique 0 f.length rs (exact_ranges f start end) apart (maximal f start end) alike
  where
    alike : Alike 0 f.length rs (exact_ranges f start end)
    alike byte above below = had byte below ∙ sym (exact f start end byte below)
