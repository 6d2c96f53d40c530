-- Entries that stem from none of the input, as they are added to a unit.
use Rattle.std.specs.Prelude.{◌≡◌, ◌⊎◌, ℕ, ◌<◌, List, length, fold, take, true}
use Rattle.dwc_unit.specs.declared.attributes.AttributeValue.{AttributeValue}
use Rattle.dwc_unit.specs.declared.attributes.AttributeValue.TheVariants as write
use Rattle.dwc_unit.specs.GivenUnits.{GivenUnit, constant_bound, is_constant_form, with_child, with_next, with_value}
use Rattle.dwc_clone.specs.declared.made.MadeValue.{MadeValue}
use Rattle.dwc_clone.specs.declared.made.MadeValue.TheVariants.{Text, Constant, Flag, Entry, AnyEntry}

-- a value as one of the output
abbrev pub given_value : MadeValue → AttributeValue
given_value (Text id) = write.StringRef id
given_value (Constant form bits) = write.Constant form bits
given_value (Flag b) = write.Flag b
given_value (Entry id) = write.UnitRef id
given_value (AnyEntry reference) = write.DebugInfoRef reference

-- a constant has a form of one, and fits it
abbrev pub FitsMade : ℕ × MadeValue → Type 0
FitsMade (name, Constant form bits) = (is_constant_form form ≡ true) × (bits < constant_bound form)
FitsMade (name, _) = Unit {0}

-- a unit whose entry of a number was given values in order
abbrev pub with_values : ℕ → List (ℕ × MadeValue) → GivenUnit → GivenUnit
with_values id attributes u = fold (λ v a. with_value id a.0 (given_value a.1) v) u attributes

-- a unit with an entry more below the entry of a number
abbrev pub with_made_entry : ℕ → ℕ → List (ℕ × MadeValue) → GivenUnit → GivenUnit
with_made_entry parent tag attributes u = with_values (length u.places) attributes (with_child parent tag (with_next u))

-- a unit whose entry of a number was given a front of some values
abbrev pub HasFront : ℕ → List (ℕ × MadeValue) → GivenUnit → GivenUnit → Type 0
HasFront id attributes u0 u = (count : ℕ) × (u ≡ with_values id (take count attributes) u0)

-- a unit as it was, or with an entry more below the entry of a number, which has a front of some values
abbrev pub HasPart : ℕ → ℕ → List (ℕ × MadeValue) → GivenUnit → GivenUnit → Type 0
HasPart parent tag attributes u0 u = (u ≡ u0) ⊎ ((count : ℕ) × (u ≡ with_made_entry parent tag (take count attributes) u0))
