-- The operations of an expression as far as they are supported.
use Rattle.std.specs.Prelude.{◌≡◌, ℕ, List, length, drop, Bool, true, false, if◌then◌else◌, Vec, Option, Some, None, Result, Ok, Err}
use Rattle.std.specs.List.{list_all}
use Rattle.std.specs.Global.{Global}
use Rattle.dwc_base.specs.declared.faults.What.TheVariants.{Expression}
use Rattle.dwc_base.specs.declared.section_name.SectionName.TheVariants.{Info}
use Rattle.dwc_base.specs.Listing.{Listing}
use Rattle.dwc_dwarf.specs.Operations.{Operation, operations}
use Rattle.dwc_native.specs.Parts.{is_supported, is_unsupported_early}
use Rattle.dwc_expr.specs.declared.error.ExprError.{ExprError}
use Rattle.dwc_expr.specs.declared.error.ExprError.TheVariants.{Read}
use Rattle.dwc_expr.specs.Compiles.{TellsPlace}

-- An operation that cannot be read is told, unless its first bytes make it unsupported.
abbrev pub Refuses : Bool → ℕ → Result (Unit {0}) ExprError → Type 0
Refuses early place (Ok done) = early ≡ true
Refuses early place (Err e) = (early ≡ false) × (e ≡ Read Expression Info place)

-- supported operations of an expression, behind which there may be one that cannot be read
abbrev pub supported_behind : Bool → List ℕ → List Operation → Option ℕ → Result (Option (List Operation)) ℕ
supported_behind has_base bytes os (Some place) = if is_unsupported_early has_base (drop place bytes) then Ok None else Err place
supported_behind has_base bytes os None = Ok (Some os)

abbrev pub supported_listing : Bool → List ℕ → Listing ℕ Operation → Result (Option (List Operation)) ℕ
supported_listing has_base bytes l = if list_all (is_supported has_base (length bytes)) l.items then supported_behind has_base bytes l.items l.fault else Ok None

-- The operations of an expression where all are supported, with a frame base or without; or the place of one that cannot be read.
-- What comes first in the order of bytes decides.
unfoldable pub supported_operations : Bool → List ℕ → Result (Option (List Operation)) ℕ
supported_operations has_base bytes = supported_listing has_base bytes (operations bytes)

-- what a vector holds, if there is one
abbrev pub held : Option (Vec Operation Global) → Option (List Operation)
held None = None
held (Some steps) = Some steps.items

-- A call answers the operations, or the place of one that cannot be read; or it wants memory.
abbrev pub ReadsSteps : Result (Option (List Operation)) ℕ → Result (Option (Vec Operation Global)) ExprError → Type 0
ReadsSteps expected (Ok steps) = expected ≡ Ok (held steps)
ReadsSteps expected (Err e) = TellsPlace expected e
