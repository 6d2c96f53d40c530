-- What ranges answer at a byte.
use Rattle.std.proofs.Common.{◌≡◌, ℕ, ◌<◌, ◌≤◌, ◌⊎◌, min, max, List, [], ◌∷◌, ◌++◌, Bool, true, false, Option, Some, None, refl, sym, ap, ◌∙◌, arith, inl, inr, if◌then◌else◌}
use Rattle.std.specs.Prelude.{nat_le, nat_lt, All}
use Rattle.std.specs.Option.{option_or}
use Rattle.std.proofs.lemmas.Bool.{cases_lt, and_from, and_left, and_right, le-leb, lt-leb, lt-ltb, le-ltb}
use Rattle.std.proofs.lemmas.List.Elements.{All-head, All-tail, All-weaker}
use Rattle.dwc_native.specs.Compiled.{Place, LabelRange}
use Rattle.dwc_native.specs.Placed.{is_between, last_place}
use Rattle.dwc_isa.specs.FlatRanges.{part_between}

-- ---- bytes of a range

pub between-inside : (start end byte : ℕ) → start ≤ byte → byte < end → is_between start end byte ≡ true
between-inside start end byte from to = and_from (nat_le start byte) (nat_lt byte end) (le-leb start byte from) (lt-ltb byte end to)

pub between-below : (start end byte : ℕ) → byte < start → is_between start end byte ≡ false
between-below start end byte below = and_left (nat_le start byte) (nat_lt byte end) (lt-leb start byte below)

pub between-behind : (start end byte : ℕ) → end ≤ byte → is_between start end byte ≡ false
between-behind start end byte behind = and_right (nat_le start byte) (nat_lt byte end) (le-ltb byte end behind)

between-none : (start end byte : ℕ) → end ≤ start → is_between start end byte ≡ false
between-none start end byte empty = go (cases_lt byte start)
  where
    go : (byte < start) ⊎ (start ≤ byte) → is_between start end byte ≡ false
    go (inl below) = between-below start end byte below
    go (inr above) = between-behind start end byte (omega (arith, above, empty))

-- ---- one range

-- a place, if a test says so
abbrev place_if : Place → Bool → Option Place
place_if place t = if t then Some place else None

pub alone-inside : (r : LabelRange) (byte : ℕ) → r.start ≤ byte → byte < r.end → last_place (r ∷ []) byte ≡ Some r.place
alone-inside r byte from to = ap (place_if r.place) (between-inside r.start r.end byte from to)

pub alone-below : (r : LabelRange) (byte : ℕ) → byte < r.start → last_place (r ∷ []) byte ≡ None
alone-below r byte below = ap (place_if r.place) (between-below r.start r.end byte below)

pub alone-behind : (r : LabelRange) (byte : ℕ) → r.end ≤ byte → last_place (r ∷ []) byte ≡ None
alone-behind r byte behind = ap (place_if r.place) (between-behind r.start r.end byte behind)

pub alone-empty : (r : LabelRange) (byte : ℕ) → r.end ≤ r.start → last_place (r ∷ []) byte ≡ None
alone-empty r byte empty = ap (place_if r.place) (between-none r.start r.end byte empty)

-- the part between two bytes answers between them as the whole
pub part-same : (from to byte : ℕ) (r : LabelRange) → from ≤ byte → byte < to → last_place (part_between from to r ∷ []) byte ≡ last_place (r ∷ []) byte
part-same from to byte r low high = ap (place_if r.place) (go (cases_lt byte r.start) (cases_lt byte r.end))
  where
    go : (byte < r.start) ⊎ (r.start ≤ byte) → (byte < r.end) ⊎ (r.end ≤ byte) → is_between (max r.start from) (min r.end to) byte ≡ is_between r.start r.end byte
    go (inl below) other = between-below (max r.start from) (min r.end to) byte (omega (arith, below)) ∙ sym (between-below r.start r.end byte below)
    go (inr above) (inl below) = between-inside (max r.start from) (min r.end to) byte (omega (arith, above, low)) (omega (arith, below, high)) ∙ sym (between-inside r.start r.end byte above below)
    go (inr above) (inr behind) = between-behind (max r.start from) (min r.end to) byte (omega (arith, behind)) ∙ sym (between-behind r.start r.end byte behind)

-- ---- several

pub or-none : {A : Type 0} (o : Option A) → option_or o None ≡ o
or-none None = refl
or-none (Some x) = refl

pub or-assoc : {A : Type 0} (o p q : Option A) → option_or (option_or o p) q ≡ option_or o (option_or p q)
or-assoc None p q = refl
or-assoc (Some x) p q = refl

pub answers-append : (rs ss : List LabelRange) (byte : ℕ) → last_place (rs ++ ss) byte ≡ option_or (last_place ss byte) (last_place rs byte)
answers-append [] ss byte = sym (or-none (last_place ss byte))
answers-append (r ∷ rs) ss byte = ap (λ o. option_or o (last_place (r ∷ []) byte)) (answers-append rs ss byte) ∙ or-assoc (last_place ss byte) (last_place rs byte) (last_place (r ∷ []) byte)

-- a byte that only the first range has, or that it has not
pub first-answers : (r : LabelRange) (rs : List LabelRange) (byte : ℕ) → last_place rs byte ≡ None → last_place (r ∷ rs) byte ≡ last_place (r ∷ []) byte
first-answers r rs byte none = ap (λ o. option_or o (last_place (r ∷ []) byte)) none

pub others-answer : (r : LabelRange) (rs : List LabelRange) (byte : ℕ) → last_place (r ∷ []) byte ≡ None → last_place (r ∷ rs) byte ≡ last_place rs byte
others-answer r rs byte none = ap (λ o. option_or (last_place rs byte) o) none ∙ or-none (last_place rs byte)

-- a byte that none has
none-of : (rs : List LabelRange) (byte : ℕ) → All (λ r. is_between r.start r.end byte ≡ false) rs → last_place rs byte ≡ None
none-of [] byte h = refl
none-of (r ∷ rs) byte h =
    first-answers r rs byte (none-of rs byte (All-tail (λ (s : LabelRange). is_between s.start s.end byte ≡ false) r rs h))
    ∙ ap (place_if r.place) (All-head (λ (s : LabelRange). is_between s.start s.end byte ≡ false) r rs h)

pub none-below : (start : ℕ) (rs : List LabelRange) (byte : ℕ) → All (λ r. start ≤ r.start) rs → byte < start → last_place rs byte ≡ None
none-below start rs byte h below = none-of rs byte (All-weaker (λ r. start ≤ r.start) (λ r. is_between r.start r.end byte ≡ false) (λ r from. between-below r.start r.end byte (omega (arith, from, below))) rs h)

pub none-behind : (end : ℕ) (rs : List LabelRange) (byte : ℕ) → All (λ r. r.end ≤ end) rs → end ≤ byte → last_place rs byte ≡ None
none-behind end rs byte h behind = none-of rs byte (All-weaker (λ r. r.end ≤ end) (λ r. is_between r.start r.end byte ≡ false) (λ r to. between-behind r.start r.end byte (omega (arith, to, behind))) rs h)
