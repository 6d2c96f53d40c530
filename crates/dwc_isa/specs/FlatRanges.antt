-- Ranges in which values lie, disjoint and in order, and others made so.
use Rattle.std.specs.Prelude.{◌≡◌, ◌≤◌, ◌<◌, ℕ, min, max, List, [], ◌∷◌, ◌++◌, map, Bool, true, false, ◌&&◌, ◌==◌, nat_lt, Option, Some, All, AllPairs}
use Rattle.std.specs.List.{list_any}
use Rattle.std.specs.Option.{unwrap_or}
use Rattle.dwc_base.specs.Wasm.{last_of}
use Rattle.dwc_native.specs.Compiled.{Place, LabelRange}
use Rattle.dwc_native.specs.Placed.{last_place, same_place}
use Rattle.dwc_isa.specs.declared.told_ranges.FlatForm.{FlatForm}
use Rattle.dwc_isa.specs.declared.told_ranges.FlatForm.TheVariants.{Given, Made, Reversed}
use Rattle.dwc_isa.specs.ValueLabels.{range_view}

-- Ranges are disjoint and in order, none is empty, and where two touch their places differ.
pub record IsFlat (rs : List LabelRange) : Type 0 where
  pub nonempty : All (λ r. r.start < r.end) rs
  pub ordered : AllPairs (λ r s. r.end ≤ s.start) rs
  pub maximal : AllPairs (λ r s. (r.end ≡ s.start) → same_place (Some r.place) (Some s.place) ≡ false) rs

-- whether a range goes on where another ends, at its place
abbrev pub goes_on : LabelRange → LabelRange → Bool
goes_on r s = (r.end == s.start) && same_place (Some r.place) (Some s.place)

-- whether it goes on where the last of some ends
abbrev pub goes_on_last : List LabelRange → LabelRange → Bool
goes_on_last [] s = false
goes_on_last (r ∷ rs) s = goes_on (unwrap_or (last_of rs) r) s

-- flat ranges that end at or below a byte
pub record IsFlatTo (end : ℕ) (rs : List LabelRange) : Type 0 where
  pub flat : IsFlat rs
  pub ends : All (λ r. r.end ≤ end) rs

-- flat ranges that answer as others at each byte
pub record Flattens (rs out : List LabelRange) : Type 0 where
  pub flat : IsFlat out
  pub same : (byte : ℕ) → last_place out byte ≡ last_place rs byte

-- flat ranges that answer as others, by the form in which they are kept: none are kept where one of the others begins above its end
abbrev pub IsFlatForm : List LabelRange → FlatForm → Type 0
IsFlatForm rs Given = IsFlat rs
IsFlatForm rs (Made flat) = Flattens rs (map range_view flat.value.items) × (list_any (λ (r : LabelRange). nat_lt r.end r.start) rs ≡ false)
IsFlatForm rs Reversed = list_any (λ (r : LabelRange). nat_lt r.end r.start) rs ≡ true

-- ---- one range more

-- a range was put behind flat ones that end at or below a byte: they are still flat, and answer as with it
pub record IsPut (end : ℕ) (r : LabelRange) (old new : List LabelRange) : Type 0 where
  pub flat : IsFlatTo (max end r.end) new
  pub same : (byte : ℕ) → last_place new byte ≡ last_place (old ++ r ∷ []) byte

-- A range is put behind flat ones, if they end at or below its start.
abbrev pub Puts : LabelRange → List LabelRange → List LabelRange → Type 0
Puts r old new = (end : ℕ) → IsFlatTo end old → end ≤ r.start → IsPut end r old new

-- ---- the parts of ranges between two bytes

-- the part of a range from a byte up to another
abbrev pub part_between : ℕ → ℕ → LabelRange → LabelRange
part_between from to r = record { place = r.place; start = max r.start from; end = min r.end to }

-- flat ranges that end at or below a byte, and answer below it as is wanted
pub record AnswersTo (end : ℕ) (want : ℕ → Option Place) (rs : List LabelRange) : Type 0 where
  pub flat : IsFlatTo end rs
  pub same : (byte : ℕ) → byte < end → last_place rs byte ≡ want byte

-- what some ranges answer from a byte up to another is wanted
abbrev pub IsWantedBetween : ℕ → ℕ → (ℕ → Option Place) → List LabelRange → Type 0
IsWantedBetween from to want rs = (byte : ℕ) → from ≤ byte → byte < to → want byte ≡ last_place rs byte

-- What ranges answer from a byte up to another is put behind others.
abbrev pub PutsBetween : ℕ → ℕ → List LabelRange → List LabelRange → List LabelRange → Type 0
PutsBetween from to rs old new = (want : ℕ → Option Place) → AnswersTo from want old → IsWantedBetween from to want rs → AnswersTo to want new

-- flat ranges that answer from a byte on as others
pub record IsRest (from : ℕ) (rs rest : List LabelRange) : Type 0 where
  pub flat : IsFlat rest
  pub same : (byte : ℕ) → from ≤ byte → last_place rest byte ≡ last_place rs byte
