-- Expressions on ranges.
use Rattle.std.specs.Prelude.{◌≡◌, ◌<◌, ◌^◌, ℕ, List, map, true, Vec, None, Result, Ok, Err}
use Rattle.std.specs.Global.{Global}
use Rattle.std.specs.List.{flat_map}
use Rattle.dwc_base.specs.declared.records.Address.{Address}
use Rattle.dwc_native.specs.Compiled.{Memory}
use Rattle.dwc_native.specs.Built.{Setting, built_bytes, jumps_fit}
use Rattle.dwc_native.specs.BuiltExpressions.{BuildRefusal}
use Rattle.dwc_native.specs.Parts.{Part}
use Rattle.dwc_base.specs.Listing.{first_of}
use Rattle.dwc_native.specs.Runs.{interval_of}
use Rattle.dwc_dwarf.specs.Trees.{Location}
use Rattle.dwc_isa.specs.Registers.{Registers}
use Rattle.dwc_unit.specs.declared.expressions.Expression.{Expression}
use Rattle.dwc_expr.specs.declared.ranges.cached_range.CachedValueLabelRange.{CachedValueLabelRange}
use Rattle.dwc_expr.specs.declared.error.ExprError.{ExprError}
use Rattle.dwc_expr.specs.Builds.{location_view}
use Rattle.dwc_expr.specs.Jumps.{unless_fit}
use Rattle.dwc_expr.specs.RangeSettings.{setting_in}
use Rattle.dwc_expr.specs.Refusals.{TellsFirst}

-- A range has a byte, and ends where 32 bits can say it.
pub record IsLowRange (r : CachedValueLabelRange) : Type 0 where
  pub some : r.start < r.end
  pub low : r.end < 2 ^ 32

-- the expression of parts on a range
abbrev pub location_on : List Part → Registers → Memory → CachedValueLabelRange → Location
location_on parts registers memory r = record { over = interval_of r.func_index (r.start, r.end); bytes = built_bytes (setting_in r registers memory) parts }

-- the refusal of jumps on a range
abbrev pub jumps_refused : List Part → Registers → Memory → CachedValueLabelRange → List BuildRefusal
jumps_refused parts registers memory r = unless_fit (jumps_fit (setting_in r registers memory) parts)

-- The expression of parts in a setting is answered, and its jumps fit; or that is refused.
abbrev pub BuildsOne : Setting → List Part → Result Expression ExprError → Type 0
BuildsOne s parts (Ok e) = (jumps_fit s parts ≡ true) × (e ≡ built_bytes s parts)
BuildsOne s parts (Err e) = TellsFirst (unless_fit (jumps_fit s parts)) e

-- The same of each of some ranges.
abbrev pub BuildsEach : List Part → Registers → Memory → List CachedValueLabelRange → Result (Vec (Address × ℕ × Expression) Global) ExprError → Type 0
BuildsEach parts registers memory ranges (Ok es) = (first_of (flat_map (jumps_refused parts registers memory) ranges) ≡ None) × (map location_view es.items ≡ map (location_on parts registers memory) ranges)
BuildsEach parts registers memory ranges (Err e) = TellsFirst (flat_map (jumps_refused parts registers memory) ranges) e
