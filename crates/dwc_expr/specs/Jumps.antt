-- Where jumps arrive, how far they go, and parts that have jumps.
use Rattle.std.specs.Prelude.{◌≡◌, ℕ, ◌+◌, ◌==◌, ℤ, pos, ◌-ℤ◌, List, [], ◌∷◌, ◌++◌, length, filter_map, All, Bool, true, false, if◌then◌else◌, Option, Some, None, Result, Ok, Err}
use Rattle.std.specs.BTreeMap.{get}
use Rattle.std.specs.Option.{unwrap_or}
use Rattle.std.specs.Ordering.{nat_cmp}
use Rattle.dwc_native.specs.BuiltExpressions.{BuildRefusal, jump_too_large}
use Rattle.dwc_native.specs.Built.{Setting, pad_offset, jump_length, is_16_bit, bytes_from, jumps_fit_from}
use Rattle.dwc_native.specs.Parts.{Part, jump, landing_pad}
use Rattle.dwc_expr.specs.declared.error.ExprError.{ExprError}
use Rattle.dwc_expr.specs.declared.error.ExprError.TheVariants.{TooLarge}
use Rattle.dwc_expr.specs.declared.build.pads.Pads.{Pads}
use Rattle.dwc_expr.specs.Refusals.{TellsFirst}
use Rattle.dwc_expr.specs.WholeParts.{jump_place, has_pad}

-- where the landing pad of a place lies, if it is known
abbrev pub pad_in : Pads → ℕ → Option ℕ
pad_in pads place = get nat_cmp pads.offsets place

-- The landing pad of a place is known to lie where it does in the bytes of parts.
abbrev pub KnowsPad : Setting → List Part → Pads → ℕ → Type 0
KnowsPad s all pads place = pad_in pads place ≡ Some (pad_offset s place all)

-- That of each place of which some of the parts are a landing pad is known.
abbrev pub FindsPads : Setting → List Part → List Part → Pads → Type 0
FindsPads s all parts pads = (place : ℕ) → has_pad parts place ≡ true → KnowsPad s all pads place

-- That of each place to which some of the parts jump is known.
abbrev pub KnowsPads : Setting → List Part → List Part → Pads → Type 0
KnowsPads s all parts pads = All (KnowsPad s all pads) (filter_map jump_place parts)

-- where a place's landing pad lies, if a part at an offset is it
abbrev pub pad_here : Part → ℕ → ℕ → Option ℕ
pad_here (landing_pad own) offset place = if own == place then Some offset else None
pad_here _ offset place = None

-- how far a part at an offset jumps to its landing pad, which is known; 0 where it is no jump
abbrev pub distance_by : Pads → ℕ → Part → ℤ
distance_by pads offset (jump conditionally place) = pos (unwrap_or (pad_in pads place) 0) -ℤ pos (offset + jump_length)
distance_by pads offset _ = pos 0

-- a distance, if it fits 16 bits
abbrev pub fitting : ℤ → Option ℤ
fitting d = if is_16_bit d then Some d else None

-- A distance is answered, or it is too large.
abbrev pub GivesDistance : ℤ → Result ℤ ExprError → Type 0
GivesDistance d (Ok given) = (is_16_bit d ≡ true) × (given ≡ d)
GivesDistance d (Err e) = (is_16_bit d ≡ false) × (e ≡ TooLarge)

-- the refusal of jumps of which some may be too large
abbrev pub unless_fit : Bool → List BuildRefusal
unless_fit fit = if fit then [] else jump_too_large ∷ []

-- Parts, of which all others are known, are put behind bytes, and each jump fits; or that is refused.
abbrev pub PutsParts : Setting → List Part → List Part → List ℕ → List ℕ → Result (Unit {0}) ExprError → Type 0
PutsParts s all parts old new (Ok done) = (jumps_fit_from s all (length old) parts ≡ true) × (new ≡ old ++ bytes_from s all (length old) parts)
PutsParts s all parts old new (Err e) = TellsFirst (unless_fit (jumps_fit_from s all (length old) parts)) e
