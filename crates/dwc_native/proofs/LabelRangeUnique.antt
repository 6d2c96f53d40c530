-- No other ranges than the label ranges of a scope are maximal.
use Rattle.std.proofs.Common.{◌≡◌, ℕ, suc, ◌<◌, ◌≤◌, List, [], ◌∷◌, true, false, refl, ap, sym, ◌∙◌, subst, arith, inl, inr, true≢false}
use Rattle.std.specs.Prelude.{Bool, Option, ◌||◌, ◌⊎◌, All, AllPairs}
use Rattle.std.proofs.lemmas.List.Elements.{All-head, All-tail}
use Rattle.std.proofs.lemmas.Bool.{cases_lt, and_from, or_cases, or_left}
use Rattle.dwc_native.specs.Placed.{Frame, NativeRange, is_byte_of, all_placed, all_stay}
use Rattle.dwc_native.specs.LabelRanges.{is_wanted, label_ranges, IsBefore, AtEachByte, AreMaximal, MaximalRangesAreThese}
use Rattle.dwc_native.proofs.LabelRangeCoverage.{holds, hold, Held, held}
use Rattle.dwc_native.proofs.LabelRangeMaximal.{Differs, label-ranges-maximal}

-- a range of some that holds a byte, with what all of them have
record Found (P : NativeRange → Type 0) (function byte : ℕ) : Type 0 where
  range : NativeRange
  has : P range
  here : Held function byte range

found : (P : NativeRange → Type 0) (function byte : ℕ) (rs : List NativeRange) → All P rs → is_byte_of rs function byte ≡ true → Found P function byte
found P function byte [] all h = absurd (true≢false (sym h))
found P function byte (r ∷ rs) all h = go (or_cases (holds function byte r) (is_byte_of rs function byte) h) (found P function byte rs (All-tail P r rs all))
  where
    go : (holds function byte r ≡ true) ⊎ (is_byte_of rs function byte ≡ true) → (is_byte_of rs function byte ≡ true → Found P function byte) → Found P function byte
    go (inl here) behind = record { range = r; has = All-head P r rs all; here = held function byte r here }
    go (inr there) behind = behind there

module _ (stays : ℕ → ℕ → ℕ → Bool) where
  -- nothing changes within a range
  abbrev Steady : NativeRange → Type 0
  Steady r = AtEachByte (λ byte. stays r.function r.start byte ≡ true) r

  -- how a range stands to one behind it
  abbrev Behind : NativeRange → NativeRange → Type 0
  Behind r s = IsBefore r s × Differs stays r s

  -- ranges one behind the other that are not empty, within which nothing changes, and between which something does
  record Chain (rs : List NativeRange) : Type 0 where
    behind : AllPairs Behind rs
    nonempty : All (λ r. r.start < r.end) rs
    steady : All Steady rs

  tail : (r : NativeRange) (rs : List NativeRange) → Chain (r ∷ rs) → Chain rs
  tail r rs c = record { behind = λ i j d below inside. c.behind (suc i) (suc j) d (omega (arith, below)) (omega (arith, inside)); nonempty = All-tail (λ r. r.start < r.end) r rs c.nonempty; steady = All-tail Steady r rs c.steady }

  others : (r : NativeRange) (rs : List NativeRange) → Chain (r ∷ rs) → All (Behind r) rs
  others r rs c = λ j d inside. c.behind 0 (suc j) d (omega arith) (omega (arith, inside))

  some : (r : NativeRange) (rs : List NativeRange) → Chain (r ∷ rs) → r.start < r.end
  some r rs c = All-head (λ r. r.start < r.end) r rs c.nonempty

  -- ---- the begin of the first range

  -- the first byte of the first range
  own-first : (r : NativeRange) (rs : List NativeRange) → Chain (r ∷ rs) → is_byte_of (r ∷ rs) r.function r.start ≡ true
  own-first r rs c = or_left (holds r.function r.start r) (is_byte_of rs r.function r.start) (hold r.function r.start r refl (omega arith) (some r rs c))

  -- no byte of a chain is before that
  begins : (s : NativeRange) (ss : List NativeRange) → Chain (s ∷ ss) → (function byte : ℕ) → is_byte_of (s ∷ ss) function byte ≡ true → (s.function < function) ⊎ ((s.function ≡ function) × (s.start ≤ byte))
  begins s ss c function byte h = go (or_cases (holds function byte s) (is_byte_of ss function byte) h)
    where
      later : (f : Found (Behind s) function byte) → IsBefore s f.range → (s.function < function) ⊎ ((s.function ≡ function) × (s.start ≤ byte))
      later f (inl below) = inl (omega (arith, below, f.here.same))
      later f (inr same) = inr (same.0 ∙ f.here.same, omega (arith, same.1, f.here.from, some s ss c))

      go : (holds function byte s ≡ true) ⊎ (is_byte_of ss function byte ≡ true) → (s.function < function) ⊎ ((s.function ≡ function) × (s.start ≤ byte))
      go (inl here) = let is = held function byte s here in inr (is.same, is.from)
      go (inr there) = let f = found (Behind s) function byte ss (others s ss c) there in later f f.has.0

  -- two lists of ranges hold the same bytes
  abbrev Same : List NativeRange → List NativeRange → Type 0
  Same rs ss = (function byte : ℕ) → is_byte_of rs function byte ≡ is_byte_of ss function byte

  begin-same : (r s : NativeRange) (rs ss : List NativeRange) → Chain (r ∷ rs) → Chain (s ∷ ss) → Same (r ∷ rs) (s ∷ ss) → (r.function ≡ s.function) × (r.start ≡ s.start)
  begin-same r s rs ss c d same =
      go (begins s ss d r.function r.start (sym (same r.function r.start) ∙ own-first r rs c)) (begins r rs c s.function s.start (same s.function s.start ∙ own-first s ss d))
    where
      go : (s.function < r.function) ⊎ ((s.function ≡ r.function) × (s.start ≤ r.start)) → (r.function < s.function) ⊎ ((r.function ≡ s.function) × (r.start ≤ s.start)) → (r.function ≡ s.function) × (r.start ≡ s.start)
      go (inl below) (inl above) = absurd (omega (arith, below, above))
      go (inl below) (inr above) = absurd (omega (arith, below, above.0))
      go (inr below) (inl above) = absurd (omega (arith, below.0, above))
      go (inr below) (inr above) = (above.0, omega (arith, below.1, above.1))

  -- ---- its end

  no-shorter : (r s : NativeRange) (rs ss : List NativeRange) → Chain (r ∷ rs) → Chain (s ∷ ss) → Same (r ∷ rs) (s ∷ ss) → r.function ≡ s.function → r.start ≡ s.start → r.end < s.end → ⊥
  no-shorter r s rs ss c d same function start shorter = go (or_cases (holds s.function r.end r) (is_byte_of rs s.function r.end) there)
    where
      in_s : is_byte_of (s ∷ ss) s.function r.end ≡ true
      in_s = or_left (holds s.function r.end s) (is_byte_of ss s.function r.end) (hold s.function r.end s refl (omega (arith, start, some r rs c)) shorter)

      there : is_byte_of (r ∷ rs) s.function r.end ≡ true
      there = same s.function r.end ∙ in_s

      steady : stays r.function r.start r.end ≡ true
      steady =
          ap (λ f. stays f r.start r.end) function ∙ ap (λ b. stays s.function b r.end) start
          ∙ All-head Steady s ss d.steady r.end (omega (arith, start, some r rs c)) shorter

      next : (f : Found (Behind r) s.function r.end) → IsBefore r f.range → ⊥
      next f (inl below) = omega (arith, below, f.here.same, function)
      next f (inr behind) =
          let touch : r.end ≡ f.range.start = omega (arith, behind.1, f.here.from) in
          true≢false (sym steady ∙ ap (stays r.function r.start) touch ∙ f.has.1 behind.0 touch)

      go : (holds s.function r.end r ≡ true) ⊎ (is_byte_of rs s.function r.end ≡ true) → ⊥
      go (inl here) = let is = held s.function r.end r here in omega (arith, is.to)
      go (inr behind) = let f = found (Behind r) s.function r.end rs (others r rs c) behind in next f f.has.0

  turned : (rs ss : List NativeRange) → Same rs ss → Same ss rs
  turned rs ss same function byte = sym (same function byte)

  head-same : (r s : NativeRange) (rs ss : List NativeRange) → Chain (r ∷ rs) → Chain (s ∷ ss) → Same (r ∷ rs) (s ∷ ss) → r ≡ s
  head-same r s rs ss c d same =
      let begin = begin-same r s rs ss c d same in
      let end : r.end ≡ s.end = go begin (cases_lt r.end s.end) (cases_lt s.end r.end) in
      λ i. record { function = begin.0 i; start = begin.1 i; end = end i }
    where
      go : (r.function ≡ s.function) × (r.start ≡ s.start) → (r.end < s.end) ⊎ (s.end ≤ r.end) → (s.end < r.end) ⊎ (r.end ≤ s.end) → r.end ≡ s.end
      go begin (inl below) above = absurd (no-shorter r s rs ss c d same begin.0 begin.1 below)
      go begin (inr below) (inl above) = absurd (no-shorter s r ss rs d c (turned (r ∷ rs) (s ∷ ss) same) (sym begin.0) (sym begin.1) above)
      go begin (inr below) (inr above) = omega (arith, below, above)

  -- ---- the others

  -- a byte of the first range is in none behind it
  alone : (r : NativeRange) (rs : List NativeRange) → Chain (r ∷ rs) → (function byte : ℕ) → holds function byte r ≡ true → is_byte_of rs function byte ≡ false
  alone r rs c function byte here = go (is_byte_of rs function byte) refl
    where
      apart : (f : Found (Behind r) function byte) → Held function byte r → IsBefore r f.range → ⊥
      apart f is (inl below) = omega (arith, below, is.same, f.here.same)
      apart f is (inr same) = omega (arith, same.1, is.to, f.here.from)

      go : (b : Bool) → is_byte_of rs function byte ≡ b → b ≡ false
      go true e = let f = found (Behind r) function byte rs (others r rs c) e in absurd (apart f (held function byte r here) f.has.0)
      go false e = refl

  tails-same : (r : NativeRange) (rs ss : List NativeRange) → Chain (r ∷ rs) → Chain (r ∷ ss) → Same (r ∷ rs) (r ∷ ss) → Same rs ss
  tails-same r rs ss c d same function byte = go (holds function byte r) refl (same function byte)
    where
      go : (here : Bool) → holds function byte r ≡ here → (here || is_byte_of rs function byte) ≡ (here || is_byte_of ss function byte) → is_byte_of rs function byte ≡ is_byte_of ss function byte
      go true here e = alone r rs c function byte here ∙ sym (alone r ss d function byte here)
      go false here e = e

  unique : (rs ss : List NativeRange) → Chain rs → Chain ss → Same rs ss → rs ≡ ss
  unique [] [] c d same = refl
  unique [] (s ∷ ss) c d same = absurd (true≢false (sym (own-first s ss d) ∙ sym (same s.function s.start)))
  unique (r ∷ rs) [] c d same = absurd (true≢false (sym (own-first r rs c) ∙ same r.function r.start))
  unique (r ∷ rs) (s ∷ ss) c d same =
      let first : r ≡ s = head-same r s rs ss c d same in
      let e : Chain (r ∷ ss) = subst (λ t. Chain (t ∷ ss)) (sym first) d in
      let others_same : Same rs ss = tails-same r rs ss c e (subst (λ t. Same (r ∷ rs) (t ∷ ss)) (sym first) same) in
      ap (λ t. t ∷ rs) first ∙ ap (λ ts. s ∷ ts) (unique rs ss (tail r rs c) (tail s ss d) others_same)

-- ---- maximal ranges

-- each byte of a range is in a scope and has a place for each label
abbrev IsIn : Option Frame → List ℕ → List NativeRange → NativeRange → Type 0
IsIn frame labels scope r = AtEachByte (λ b. is_byte_of scope r.function b ≡ true) r × AtEachByte (λ b. all_placed frame labels r.function b ≡ true) r

-- their bytes are those that are wanted
bytes-are : (frame : Option Frame) (labels : List ℕ) (scope ranges : List NativeRange) → AreMaximal frame labels scope ranges → (function byte : ℕ) → is_byte_of ranges function byte ≡ is_wanted frame labels scope function byte
bytes-are frame labels scope ranges m function byte = go (is_byte_of ranges function byte) (is_wanted frame labels scope function byte) refl refl
  where
    wanted : Found (IsIn frame labels scope) function byte → is_wanted frame labels scope function byte ≡ true
    wanted f =
        and_from (is_byte_of scope function byte) (all_placed frame labels function byte)
        (subst (λ n. is_byte_of scope n byte ≡ true) f.here.same (f.has.0 byte f.here.from f.here.to))
        (subst (λ n. all_placed frame labels n byte ≡ true) f.here.same (f.has.1 byte f.here.from f.here.to))

    go : (is are : Bool) → is_byte_of ranges function byte ≡ is → is_wanted frame labels scope function byte ≡ are → is ≡ are
    go true true e w = refl
    go false false e w = refl
    go true false e w = absurd (true≢false (sym (wanted (found (IsIn frame labels scope) function byte ranges (λ i d inside. (m.whole.inside i d inside, m.whole.placed i d inside)) e)) ∙ w))
    go false true e w = absurd (true≢false (sym (m.complete function byte w) ∙ e))

chain-of : (frame : Option Frame) (labels : List ℕ) (scope ranges : List NativeRange) → AreMaximal frame labels scope ranges → Chain (all_stay frame labels) ranges
chain-of frame labels scope ranges m = record { behind = λ i j d below inside. (m.whole.ordered i j d below inside, m.maximal i j d below inside); nonempty = m.whole.nonempty; steady = m.unchanged }

-- Maximal ranges are the label ranges.
pub maximal-ranges-are : MaximalRangesAreThese
maximal-ranges-are frame labels scope ranges m =
    unique (all_stay frame labels) ranges (label_ranges frame labels scope) (chain-of frame labels scope ranges m) (chain-of frame labels scope (label_ranges frame labels scope) (label-ranges-maximal frame labels scope))
    (λ function byte. bytes-are frame labels scope ranges m function byte ∙ sym (bytes-are frame labels scope (label_ranges frame labels scope) (label-ranges-maximal frame labels scope) function byte))
