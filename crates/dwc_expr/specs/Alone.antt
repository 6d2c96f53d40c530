-- What one local alone becomes over a scope whose native code is one range.
use Rattle.std.specs.Prelude.{◌≡◌, ℕ, List, ◌++◌, map, filter_map, Bool, Option, if◌then◌else◌, Some, None, Result, Ok, Err}
use Rattle.std.specs.FinMap as finite
use Rattle.std.specs.List.{flat_map}
use Rattle.std.specs.Option.{option_to_list}
use Rattle.dwc_base.specs.declared.records.Address.{Address}
use Rattle.dwc_native.specs.Built.{location_bytes, value_bytes}
use Rattle.dwc_native.specs.BuiltExpressions.{BuildRefusal, Surroundings, register_refusal_at}
use Rattle.dwc_native.specs.Functions.{Function}
use Rattle.dwc_native.specs.Parts.{Part, local}
use Rattle.dwc_native.specs.Placed.{Frame}
use Rattle.dwc_base.specs.Listing.{first_of}
use Rattle.dwc_native.specs.Runs.{interval_of}
use Rattle.dwc_dwarf.specs.Trees.{Location}
use Rattle.dwc_isa.specs.Registers.{Registers}
use Rattle.dwc_isa.specs.ValueLabels.{place_view, range_view}
use Rattle.dwc_isa.specs.declared.value_label.LabelValueLoc.{LabelValueLoc}
use Rattle.dwc_isa.specs.declared.value_label.ValueLocRange.{ValueLocRange}
use Rattle.dwc_unit.specs.declared.expressions.Expression.{Expression}
use Rattle.dwc_expr.specs.declared.build.alone.LoneLocal.{LoneLocal}
use Rattle.dwc_expr.specs.declared.ranges.code_range.CodeRange.{CodeRange}
use Rattle.dwc_expr.specs.declared.error.ExprError.{ExprError}
use Rattle.dwc_expr.specs.Builds.{location_view}
use Rattle.dwc_expr.specs.CodeRanges.{code_range_view}
use Rattle.dwc_expr.specs.PlacedParts.{PlacedPart, cut_by}
use Rattle.dwc_expr.specs.RangeSettings.{with_registers}
use Rattle.dwc_expr.specs.Refusals.{TellsFirst}

-- a local as a part
abbrev pub lone_part : LoneLocal → Part
lone_part l = local l.label.0 l.trailing

-- the expression of a local on a part of a range
abbrev pub lone_location : Bool → Registers → PlacedPart → Location
lone_location trailing registers p = record {
  over = interval_of p.bytes.function (p.bytes.start, p.bytes.end);
  bytes = if trailing then location_bytes (with_registers registers) (Some p.place) else value_bytes (with_registers registers) (Some p.place);
}

-- the register that is refused there
abbrev pub lone_refusals : Registers → PlacedPart → List BuildRefusal
lone_refusals registers p = option_to_list (register_refusal_at (λ r. finite.get registers r) (Some p.place))

-- The expressions of a local on some parts are put behind others, and none is refused; or the first refusal is told.
abbrev pub PutsAlone : Bool → Registers → List PlacedPart → List (Address × ℕ × Expression) → List (Address × ℕ × Expression) → Result (Unit {0}) ExprError → Type 0
PutsAlone trailing registers parts old new (Ok done) = (first_of (flat_map (lone_refusals registers) parts) ≡ None) × (map location_view new ≡ map location_view old ++ map (lone_location trailing registers) parts)
PutsAlone trailing registers parts old new (Err e) = TellsFirst (flat_map (lone_refusals registers) parts) e

-- a part of a range by its bytes and the place there
abbrev pub part_at : LabelValueLoc → CodeRange → PlacedPart
part_at place bytes = record { index = 0; bytes = code_range_view bytes; place = place_view place }

-- the parts of a range in pieces
abbrev pub parts_in : CodeRange → List ValueLocRange → List PlacedPart
parts_in range pieces = filter_map (cut_by 0 (code_range_view range)) (map range_view pieces)

-- what surrounds an expression, by a frame as the definitions have it
abbrev pub framed : List Function → Option Frame → Registers → Surroundings
framed functions frame registers = record { functions = functions; frame = frame; register = λ n. finite.get registers n }

-- What is put for the parts that are left makes what is put for all.
pub record LeadsAlone (trailing : Bool) (registers : Registers) (left all : List PlacedPart) (old now : List (Address × ℕ × Expression)) : Type 0 where
  pub expressions : map location_view now ++ map (lone_location trailing registers) left ≡ map location_view old ++ map (lone_location trailing registers) all
  pub refusals : first_of (flat_map (lone_refusals registers) left) ≡ first_of (flat_map (lone_refusals registers) all)
