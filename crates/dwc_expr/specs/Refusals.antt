-- The first of some refusals, as an error tells it.
use Rattle.std.specs.Prelude.{◌≡◌, ℕ, List, [], ◌∷◌, ◌++◌, Bool, if◌then◌else◌, Option, Some, None, Result, Ok, Err}
use Rattle.std.specs.List.{filter_map}
use Rattle.dwc_base.specs.Listing.{first_of}
use Rattle.dwc_native.specs.Compiled.{no_memory}
use Rattle.dwc_native.specs.BuiltExpressions.{BuildRefusal, register_refusal, without_memory}
use Rattle.dwc_isa.specs.Registers.{Registers}
use Rattle.dwc_expr.specs.declared.ranges.cached_range.CachedValueLabelRange.{CachedValueLabelRange}
use Rattle.dwc_expr.specs.declared.error.ExprError.{ExprError}
use Rattle.dwc_expr.specs.declared.error.ExprError.TheVariants.{OutOfMemory}
use Rattle.dwc_expr.specs.Errors.{refusal_told}
use Rattle.dwc_expr.specs.RangeSettings.{setting_in}

-- What an error tells is the first of some refusals; or it is want of memory.
abbrev pub IsFirst : List BuildRefusal → ExprError → Option BuildRefusal → Type 0
IsFirst refusals e (Some refusal) = first_of refusals ≡ Some refusal
IsFirst refusals e None = e ≡ OutOfMemory

abbrev pub TellsFirst : List BuildRefusal → ExprError → Type 0
TellsFirst refusals e = IsFirst refusals e (refusal_told e)

-- Nothing is refused, or the first refusal is told.
abbrev pub Checks : List BuildRefusal → Result (Unit {0}) ExprError → Type 0
Checks refusals (Ok done) = first_of refusals ≡ None
Checks refusals (Err e) = TellsFirst refusals e

-- the refusals of places on a range: linear memory that is read and not there, and the registers of labels
abbrev pub refusals_on : Bool → List ℕ → Registers → CachedValueLabelRange → List BuildRefusal
refusals_on lacks_memory labels registers r = (if lacks_memory then without_memory ∷ [] else []) ++ filter_map (register_refusal (setting_in r registers no_memory)) labels
