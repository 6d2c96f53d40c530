-- What attributes become whose values are expressions or location lists, as calls answer it.
use Rattle.std.specs.Prelude.{◌≡◌, ℕ, List, [], ◌∷◌, map, Bool, true, Vec, Option, Some, None, option_map, Result, Ok, Err}
use Rattle.std.specs.Global.{Global}
use Rattle.dwc_base.specs.declared.records.Address.{Address}
use Rattle.dwc_base.specs.declared.section_name.SectionName.{SectionName}
use Rattle.dwc_base.specs.declared.faults.What.TheVariants.{Expression as ExpressionRead}
use Rattle.dwc_base.specs.Sections.{unreadable}
use Rattle.dwc_dwarf.specs.Trees.{Location, TreeValue, expression, locations}
use Rattle.dwc_rules.specs.LocationAttributes.{LocationRefusal, of_place, of_build, GivenExpression, are_equal_to}
use Rattle.dwc_unit.specs.declared.expressions.Expression.{Expression}
use Rattle.dwc_expr.specs.declared.error.ExprError.{ExprError}
use Rattle.dwc_expr.specs.declared.error.ExprError.TheVariants.{Read}
use Rattle.dwc_expr.specs.Builds.{location_view}
use Rattle.dwc_expr.specs.Errors.{refusal_told}
use Rattle.dwc_extents.specs.declared.location_value.LocationValue.{LocationValue}
use Rattle.dwc_extents.specs.declared.location_value.LocationValue.TheVariants as location_value

-- ---- what is told

-- what an error tells of an expression; want of memory tells nothing
abbrev pub told : ExprError → Option LocationRefusal
told (Read what section offset) = Some (of_place (unreadable what section offset))
told e = option_map of_build (refusal_told e)

-- the error of an expression that stands at a place, where it is told that an operation cannot be read
abbrev pub error_at : SectionName × ℕ → ExprError → ExprError
error_at place (Read what section offset) = Read what place.0 place.1
error_at place e = e

-- A refusal is for want of memory, or for what is refused.
abbrev pub RefusesTold : {A E : Type 0} → Result A E → Option E → Type 0
RefusesTold expected None = Unit {0}
RefusesTold expected (Some refusal) = expected ≡ Err refusal

-- A call gives what is expected, seen by `view`; what an error tells is what is refused.
abbrev pub GivesTold : {A E X F : Type 0} → (X → A) → (F → Option E) → Result A E → Result X F → Type 0
GivesTold view tells expected (Ok x) = expected ≡ Ok (view x)
GivesTold view tells expected (Err e) = RefusesTold expected (tells e)

-- ---- expressions

-- an expression that stands at a place
abbrev pub expression_at : List ℕ → SectionName × ℕ → GivenExpression
expression_at bytes place = record { fault = unreadable ExpressionRead place.0 place.1; bytes = bytes }

-- expressions of the output, each for so many bytes of code from an address on
abbrev pub locations_view : Vec (Address × ℕ × Expression) Global → List Location
locations_view es = map location_view es.items

-- whether some expressions are all the same
abbrev pub are_alike : List Location → Bool
are_alike [] = true
are_alike (l ∷ ls) = are_equal_to l.bytes ls

-- what an attribute becomes
abbrev pub location_value_view : LocationValue → TreeValue
location_value_view (location_value.Expression e) = expression e
location_value_view (location_value.List es) = locations (locations_view es)

-- A call answers what an attribute becomes, if it becomes something, or tells why it is refused.
abbrev pub GivesLocationValue : Result (Option TreeValue) LocationRefusal → Result (Option LocationValue) ExprError → Type 0
GivesLocationValue expected result = GivesTold (option_map location_value_view) told expected result
