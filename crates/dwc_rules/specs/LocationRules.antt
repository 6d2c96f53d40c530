-- What the attributes of a kept entry become whose values are expressions or location lists, by what is in force at the entry.
-- (DWARF 4 and 5, sections 2.5 and 2.6; this project's own rules.)
use Rattle.std.specs.Prelude.{ℕ, List, length, true, false, Option, Some, None, option_map, Result, Ok, Err}
use Rattle.std.specs.List.{filter_map}
use Rattle.dwc_base.specs.declared.faults.What.TheVariants.{Expression}
use Rattle.dwc_base.specs.declared.section_name.SectionName.TheVariants.{Info}
use Rattle.dwc_base.specs.Reading.{◌>>=◌}
use Rattle.dwc_base.specs.Sections.{Sections, unreadable}
use Rattle.dwc_base.specs.Units.{UnitHeader}
use Rattle.dwc_dwarf.specs.Values.{Value}
use Rattle.dwc_rules.specs.Kept.{Placed}
use Rattle.dwc_native.specs.Functions.{Function}
use Rattle.dwc_rules.specs.Drafts.{DraftValue}
use Rattle.dwc_native.specs.Compiled.{ToldModule}
use Rattle.dwc_native.specs.Placed.{Frame}
use Rattle.dwc_rules.specs.Wrappers.{is_wrapped}
use Rattle.dwc_dwarf.specs.RawLists.{ListSource}
use Rattle.dwc_dwarf.specs.Lists.{ListRefusal, ListedLocation, list_source, locations_of_value}
use Rattle.dwc_native.specs.ScopesKept.{wasm_interval}
use Rattle.dwc_rules.specs.RangeRules.{all_items, told_as}
use Rattle.dwc_rules.specs.Scopes.{lineage, scope_in_force, frame_in_force, base_in_force}
use Rattle.dwc_dwarf.specs.ExpressionPlaces.{expression_place}
use Rattle.dwc_rules.specs.LocationAttributes.{LocationRefusal, InForce, GivenExpression, ListedExpression, value_of_expression, value_of_locations, read_expression, read_locations, base_of_expression, drafted}

-- What the expressions of a unit are carried with: the sections and functions of its module, what is told of that, the unit, and
-- the entries of the module.
pub record ExpressionSource : Type 0 where
  pub sections : Sections
  pub header : UnitHeader
  pub functions : List Function
  pub told : ToldModule
  pub entries : List Placed

-- how the lists of the unit are read
abbrev pub lists_of : ExpressionSource → ListSource
lists_of c = list_source c.sections c.header

-- ---- what is in force at an entry

-- what a function tells to an expression
abbrev pub frame_told : ToldModule → Function → Frame
frame_told t f = record { function = f.symbol; ranges_of = t.values f.number; memory = t.memory }

-- the frame in force: that of the nearest subprogram that begins in a function
unfoldable pub frame_at : ExpressionSource → Placed → Option Frame
frame_at c e = option_map (frame_told c.told) (frame_in_force (lists_of c) c.functions (lineage c.entries e))

-- What is in force at an entry: the frame, the scope and the frame base, each of the nearest of it and its ancestors that gives one.
unfoldable pub in_force_at : ExpressionSource → Placed → InForce
in_force_at c e = record {
  surroundings = record { functions = c.functions; frame = frame_at c e; register = c.told.register };
  scope = scope_in_force (lists_of c) c.functions (lineage c.entries e);
  base = base_in_force base_of_expression (lineage c.entries e);
}

-- ---- expressions

-- the expression of an attribute that stands behind some others, with what is told where it cannot be read
abbrev pub given_expression : ExpressionSource → Placed → List (ℕ × Value) → List ℕ → GivenExpression
given_expression c e before bytes = record { fault = unreadable Expression Info (expression_place c.sections c.header e.entry.offset (length before) bytes); bytes = bytes }

-- What it becomes under a name; of an entry that is wrapped it is read, and nothing becomes of it.
unfoldable pub expression_becomes : ExpressionSource → Placed → List (ℕ × Value) → ℕ → List ℕ → Result (Option DraftValue) LocationRefusal
expression_becomes c e before name bytes = elim (is_wrapped c.told.output e) [
  | true ↦ (read_expression name (in_force_at c e) (given_expression c e before bytes) >>= λ read. Ok None)
  | false ↦ (value_of_expression name (in_force_at c e) (given_expression c e before bytes) >>= λ v. Ok (drafted v))
]

-- why one in the place of a bound is refused: it is read, and nothing becomes of it
abbrev pub refusal_in : Result (Unit {0}) LocationRefusal → Option LocationRefusal
refusal_in (Ok read) = None
refusal_in (Err refusal) = Some refusal

unfoldable pub expression_refused : ExpressionSource → Placed → List (ℕ × Value) → ℕ → List ℕ → Option LocationRefusal
expression_refused c e before name bytes = refusal_in (read_expression name (in_force_at c e) (given_expression c e before bytes))

-- ---- location lists

-- an interval of a list between two numbers, with its expression
abbrev pub listed : ListedLocation → Option ListedExpression
listed l = option_map (λ w. record { start = w.0; end = w.1; given = record { fault = unreadable Expression l.holds.section l.holds.place; bytes = l.holds.bytes } }) (wasm_interval l.over)

-- the intervals of the location list that a value names; the whole list is read before an expression of it
abbrev pub listed_by : ExpressionSource → Placed → Value → Result (List ListedExpression) ListRefusal
listed_by c e v = all_items (locations_of_value (lists_of c) e.entry.offset v) >>= λ ls. Ok (filter_map listed ls)

-- what becomes of the intervals of a list
abbrev pub listed_become : ExpressionSource → Placed → List ListedExpression → Result (Option DraftValue) LocationRefusal
listed_become c e xs = elim (is_wrapped c.told.output e) [
  | true ↦ (read_locations (in_force_at c e) xs >>= λ read. Ok None)
  | false ↦ (value_of_locations (in_force_at c e) xs >>= λ value. Ok (drafted value))
]

-- What a location list becomes, the refusals of the list and of its expressions each told as one.
unfoldable pub locations_become : {E : Type 0} → (ListRefusal → E) → (LocationRefusal → E) → ExpressionSource → Placed → Value → Result (Option DraftValue) E
locations_become list_told location_told c e v = told_as list_told (listed_by c e v) >>= λ xs. told_as location_told (listed_become c e xs)
