-- What attributes become whose values are location lists, as calls answer it.
use Rattle.std.specs.Prelude.{◌≡◌, ℕ, List, ◌++◌, map, Bool, true, false, if◌then◌else◌, Option, Some, None, option_map, Result, Ok, Err}
use Rattle.std.specs.List.{filter_map}
use Rattle.dwc_base.specs.declared.records.Address.{Address}
use Rattle.dwc_base.specs.Reading.{◌>>=◌}
use Rattle.dwc_base.specs.Listing.{Listing}
use Rattle.dwc_dwarf.specs.Values.{Value}
use Rattle.dwc_dwarf.specs.Trees.{Location, TreeValue}
use Rattle.dwc_dwarf.specs.RawLists.{ListSource}
use Rattle.dwc_dwarf.specs.Lists.{ListRefusal, ListedLocation, locations_of_value}
use Rattle.dwc_rules.specs.RangeRules.{all_items, told_as}
use Rattle.dwc_rules.specs.LocationAttributes as definitions
use Rattle.dwc_rules.specs.LocationAttributes.{LocationRefusal, InForce, compiled_at, read_locations, value_of_locations}
use Rattle.dwc_rules.specs.LocationRules.{listed}
use Rattle.dwc_native.specs.Parts.{CompiledParts}
use Rattle.dwc_tabs.specs.RangeEnds.{refusal_view}
use Rattle.dwc_unit.specs.declared.expressions.Expression.{Expression}
use Rattle.dwc_expr.specs.declared.error.ExprError.{ExprError}
use Rattle.dwc_expr.specs.Builds.{location_view}
use Rattle.dwc_extents.specs.declared.listed.ListedExpression.{ListedExpression}
use Rattle.dwc_extents.specs.declared.location_list_error.LocationListError.{LocationListError}
use Rattle.dwc_extents.specs.declared.location_list_error.LocationListError.TheVariants as error
use Rattle.dwc_extents.specs.LocationValues.{RefusesTold, expression_at, told}

-- an interval of a list with its expression, as the definitions have it
abbrev pub listed_view : ListedExpression → definitions.ListedExpression
listed_view x = record { start = x.start; end = x.end; given = expression_at x.bytes.now x.place }

-- why a location list is refused: the list itself, or one of its expressions
pub data LocationListRefusal : Type 0 where
  of_list : ListRefusal → LocationListRefusal
  of_expression : LocationRefusal → LocationListRefusal

-- what an error tells of a list; want of memory tells nothing
abbrev pub list_told : LocationListError → Option LocationListRefusal
list_told (error.List fault) = Some (of_list (refusal_view fault))
list_told (error.Expression e) = option_map of_expression (told e)

-- the intervals of a listing that is read whole
abbrev pub listed_in : Listing ListRefusal ListedLocation → Result (List definitions.ListedExpression) ListRefusal
listed_in list = all_items list >>= λ ls. Ok (filter_map listed ls)

-- What the location list becomes that a value of an entry at an offset names. The whole list is read before its expressions.
abbrev pub value_of_list : ListSource → InForce → ℕ → Value → Result (Option TreeValue) LocationListRefusal
value_of_list s e offset v = told_as of_list (listed_in (locations_of_value s offset v)) >>= λ xs. told_as of_expression (value_of_locations e xs)

-- an expression that was compiled, of which nothing becomes
abbrev pub read_only : Result (Option CompiledParts) LocationRefusal → Result (Unit {0}) LocationRefusal
read_only compiled = compiled >>= λ parts. Ok tt

-- the expression of an interval, which is read on a frame base
abbrev pub interval_read : Option CompiledParts → definitions.ListedExpression → Result (Unit {0}) LocationRefusal
interval_read base x = read_only (compiled_at base x.given)

-- The same list where nothing becomes of it: it is read whole, and then its expressions are.
abbrev pub read_by : ListSource → InForce → ℕ → Value → Result (Unit {0}) LocationListRefusal
read_by s e offset v = told_as of_list (listed_in (locations_of_value s offset v)) >>= λ xs. told_as of_expression (read_locations e xs)

-- the locations of some intervals, where an expression of one is supported
abbrev pub some_where : Bool → List Location → Option (List Location)
some_where supported ls = if supported then Some ls else None

-- What is built for an interval is put behind other locations; or its refusal is told.
abbrev pub PutsInterval : Result (Option (List Location)) LocationRefusal → List (Address × ℕ × Expression) → List (Address × ℕ × Expression) → Result Bool ExprError → Type 0
PutsInterval expected old new (Ok true) = (ls : List Location) × (expected ≡ Ok (Some ls)) × (map location_view new ≡ map location_view old ++ ls)
PutsInterval expected old new (Ok false) = (expected ≡ Ok None) × (new ≡ old)
PutsInterval expected old new (Err e) = RefusesTold expected (told e)
