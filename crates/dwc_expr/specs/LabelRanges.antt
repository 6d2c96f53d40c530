-- Label ranges as they are gathered: the ranges of a scope on which the labels that were processed have unchanged places.
use Rattle.std.specs.Prelude.{◌≡◌, ◌<◌, ◌^◌, ◌++◌, ℕ, List, [], ◌∷◌, map, Bool, true, false, ◌&&◌, if◌then◌else◌, Option, None, option_map, IsSome, IfSome, All, Result, Ok, Err}
use Rattle.std.specs.BTreeMap.{get}
use Rattle.std.specs.Ordering.{nat_cmp}
use Rattle.dwc_native.specs.Functions.{Function}
use Rattle.dwc_dwarf.specs.Values.{is_one_of}
use Rattle.dwc_native.specs.Compiled.{Place}
use Rattle.dwc_native.specs.Parts.{Part}
use Rattle.dwc_native.specs.Placed.{Frame, placed, label_needed, NativeRange, scope_ranges}
use Rattle.dwc_native.specs.LabelRanges.{label_ranges, all_bytes_placed}
use Rattle.dwc_native.specs.BuiltExpressions.{has_bad_range}
use Rattle.dwc_isa.specs.ValueLabels.{place_view}
use Rattle.dwc_expr.specs.Frames.{ToldFrame, frame_of}
use Rattle.dwc_expr.specs.declared.error.ExprError.{ExprError}
use Rattle.dwc_expr.specs.declared.error.ExprError.TheVariants.{Read, TooLarge, BadLabelRange, InvalidAttributeValue, UnmappedRegister, OutOfMemory}
use Rattle.dwc_expr.specs.declared.ranges.cached_range.CachedValueLabelRange.{CachedValueLabelRange}

-- What is gathered so far: the frame, if there is one; whether the scope has an interval; the native ranges of its intervals, in
-- order; and the labels that were processed, in order.
pub record Gathered : Type 0 where
  pub frame : Option ToldFrame
  pub has_scope : Bool
  pub scope : List NativeRange
  pub labels : List ℕ

abbrev pub gathered_frame : Gathered → Option Frame
gathered_frame g = option_map frame_of g.frame

-- whether a scope has an interval
abbrev pub has_interval : List (ℕ × ℕ) → Bool
has_interval [] = false
has_interval (i ∷ is) = true

-- what is gathered of a scope before any label
abbrev pub gathered_of : List Function → Option ToldFrame → List (ℕ × ℕ) → Gathered
gathered_of fs frame scope = record { frame = frame; has_scope = has_interval scope; scope = scope_ranges fs scope; labels = [] }

-- with one more label
abbrev pub with_label : ℕ → Gathered → Gathered
with_label label g = record g { labels = g.labels ++ label ∷ [] }

-- A label is processed, unless it has a range that begins above its end; a refusal leaves what was gathered.
abbrev pub Processes : ℕ → Gathered → Gathered → Result (Unit {0}) ExprError → Type 0
Processes label old new (Ok done) = (has_bad_range (gathered_frame old) label ≡ false) × (new ≡ with_label label old)
Processes label old new (Err (BadLabelRange refused)) = (has_bad_range (gathered_frame old) label ≡ true) × (refused.0 ≡ label) × (new ≡ old)
Processes label old new (Err OutOfMemory) = new ≡ old
Processes label old new (Err (Read what section offset)) = ⊥
Processes label old new (Err TooLarge) = ⊥
Processes label old new (Err InvalidAttributeValue) = ⊥
Processes label old new (Err (UnmappedRegister register)) = ⊥

-- ---- the ranges

-- a range without its places
abbrev pub bounds_of : CachedValueLabelRange → NativeRange
bounds_of r = record { function = r.func_index; start = r.start; end = r.end }

-- where a range says that a label lies
abbrev pub location_in : CachedValueLabelRange → ℕ → Option Place
location_in r label = option_map place_view (get nat_cmp r.label_location label)

-- A range says the place of each of some labels at its first byte, and of no other.
abbrev pub SaysPlaces : Option Frame → List ℕ → CachedValueLabelRange → Type 0
SaysPlaces frame labels r = (label : ℕ) → location_in r label ≡ (if is_one_of labels label then placed frame r.func_index r.start label else None)

-- The label that a part needs, if it needs one, has a place on a range.
abbrev pub IsPlacedOn : CachedValueLabelRange → Part → Type 0
IsPlacedOn r p = IfSome (label_needed p) (λ label. IsSome (location_in r label))

-- A range says a place of each of some labels.
abbrev pub HasPlaces : List ℕ → CachedValueLabelRange → Type 0
HasPlaces labels r = All (λ label. IsSome (location_in r label)) labels

-- What is gathered as ranges: the label ranges, each with its places, which begin and end below 2 ^ 32; and whether each byte of
-- a scope with an interval has a place for each label.
pub record GivesRanges (g : Gathered) (ranges : List CachedValueLabelRange) (covers : Bool) : Type 0 where
  pub bounds : map bounds_of ranges ≡ label_ranges (gathered_frame g) g.labels g.scope
  pub places : All (SaysPlaces (gathered_frame g) g.labels) ranges
  pub low : All (λ r. r.end < 2 ^ 32) ranges
  pub cover : covers ≡ (g.has_scope && all_bytes_placed (gathered_frame g) g.labels g.scope)
