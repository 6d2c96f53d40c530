-- What is gathered, narrowed to where one more label has a place.
use Rattle.std.specs.Prelude.{◌≡◌, ℕ, ◌==◌, List, ◌++◌, true, false, if◌then◌else◌, slice_index_or, Option, Some, option_map, ⊤, Result, Ok, Err}
use Rattle.std.specs.List.{AllZip}
use Rattle.dwc_native.specs.BuiltExpressions.{has_bad_range}
use Rattle.dwc_native.specs.Compiled.{LabelRange, Place}
use Rattle.dwc_native.specs.Placed.{Frame, NativeRange, placed}
use Rattle.dwc_expr.specs.declared.ranges.cached_range.CachedValueLabelRange.{CachedValueLabelRange}
use Rattle.dwc_expr.specs.declared.error.ExprError.{ExprError}
use Rattle.dwc_expr.specs.declared.error.ExprError.TheVariants.{Read, TooLarge, BadLabelRange, InvalidAttributeValue, UnmappedRegister, OutOfMemory}
use Rattle.dwc_expr.specs.declared.ranges.label_ranges.BuiltValueLabelRanges.{BuiltValueLabelRanges}
use Rattle.dwc_expr.specs.Frames.{ToldFrame, frame_of}
use Rattle.dwc_isa.specs.FlatRanges.{IsFlat}
use Rattle.dwc_expr.specs.LabelRanges.{Gathered, gathered_frame, with_label, bounds_of, location_in, GivesRanges}
use Rattle.dwc_expr.specs.OwnPlaces.{place_in}
use Rattle.dwc_expr.specs.PlacedParts.{PlacedPart}

-- A range has some bytes of another, the places of that, and a label's own place.
pub record IsMadeOf (label : ℕ) (range : CachedValueLabelRange) (bytes : NativeRange) (place : Place) (made : CachedValueLabelRange) : Type 0 where
  pub bounds : bounds_of made ≡ bytes
  pub places : (other : ℕ) → location_in made other ≡ (if label == other then Some place else location_in range other)

-- the same by a part; and of the range at the part's number
abbrev pub IsMadeBy : ℕ → CachedValueLabelRange → PlacedPart → CachedValueLabelRange → Type 0
IsMadeBy label range part = IsMadeOf label range part.bytes part.place

abbrev pub IsMadeIn : ℕ → List CachedValueLabelRange → PlacedPart → CachedValueLabelRange → Type 0
IsMadeIn label ranges part made = (d : CachedValueLabelRange) → IsMadeBy label (slice_index_or ranges part.index d) part made

-- Behind some ranges stands one for each of some parts, as a relation says.
pub record Appends (R : PlacedPart → CachedValueLabelRange → Type 0) (parts : List PlacedPart) (old new : List CachedValueLabelRange) : Type 0 where
  pub more : List CachedValueLabelRange
  pub is : new ≡ old ++ more
  pub zip : AllZip R parts more

-- the same of parts of one range
abbrev pub AddsMade : ℕ → CachedValueLabelRange → List PlacedPart → List CachedValueLabelRange → List CachedValueLabelRange → Type 0
AddsMade label range = Appends (IsMadeBy label range)

-- what is gathered is given
abbrev pub Gives : Gathered → BuiltValueLabelRanges → Type 0
Gives g built = GivesRanges g built.ranges.items built.covers_entire_scope

-- Pieces, of which none overlaps another, tell the places of a label.
pub record Tells (frame : Option Frame) (label : ℕ) (own : Option ℕ) (ps : List LabelRange) : Type 0 where
  pub flat : IsFlat ps
  pub same : (function byte : ℕ) → placed frame function byte label ≡ place_in own ps function byte

-- Where pieces tell the places of a label, and what is gathered is given by the old ranges, the new ones give it with the label.
abbrev pub NarrowsBy : Option ℕ → ℕ → List LabelRange → BuiltValueLabelRanges → BuiltValueLabelRanges → Type 0
NarrowsBy own label ps old new = (g : Gathered) → Tells (gathered_frame g) label own ps → Gives g old → Gives (with_label label g) new

-- Where what is gathered is given by the old ranges, the new ones give it with one more label; unless that has a range in the
-- frame that begins above its end.
abbrev pub Narrows : Option ToldFrame → ℕ → BuiltValueLabelRanges → Result BuiltValueLabelRanges ExprError → Type 0
Narrows frame label old (Ok new) = (has_bad_range (option_map frame_of frame) label ≡ false) × ((g : Gathered) → g.frame ≡ frame → Gives g old → Gives (with_label label g) new)
Narrows frame label old (Err (BadLabelRange refused)) = (has_bad_range (option_map frame_of frame) label ≡ true) × (refused.0 ≡ label)
Narrows frame label old (Err OutOfMemory) = ⊤
Narrows frame label old (Err (Read what section offset)) = ⊥
Narrows frame label old (Err TooLarge) = ⊥
Narrows frame label old (Err InvalidAttributeValue) = ⊥
Narrows frame label old (Err (UnmappedRegister register)) = ⊥
