-- What it means that an output carries the locations of an input: where its entries say that values lie. (A law on the definitions of
-- built expressions and of translation. DWARF 4 and 5, section 2.6.)
use Rattle.std.specs.Prelude.{◌≡◌, ◌⊎◌, ℕ, ◌==◌, List, [], ◌∷◌, ◌++◌, map, Bool, true, false, if◌then◌else◌, Option, Some, None, IfSome, Result, Ok, Err, All, Contains}
use Rattle.std.specs.List.{AllZip, flat_map}
use Rattle.dwc_base.specs.declared.constants.TheConstants.{DW_AT_frame_base}
use Rattle.dwc_dwarf.specs.Values.{Value, expression, is_location_name}
use Rattle.dwc_dwarf.specs.Entries.{Entry}
use Rattle.dwc_rules.specs.Kept.{Placed}
use Rattle.dwc_native.specs.Functions.{Function}
use Rattle.dwc_rules.specs.Carried.{CarriedUnit, WantedUnit, synthetic_unit, carried_unit, unit_of_simulated}
use Rattle.dwc_dwarf.specs.Trees as Trees
use Rattle.dwc_dwarf.specs.Trees.{Interval, Location, TreeValue, locations, TreeEntry, Tree}
use Rattle.dwc_rules.specs.Drafts.{itself, Draft}
use Rattle.dwc_rules.specs.DraftForests.{is_made_of}
use Rattle.dwc_dwarf.specs.RawLists.{is_location_list}
use Rattle.dwc_rules.specs.RangeRefusals.{has_name}
use Rattle.dwc_native.specs.Parts.{CompiledParts, compiled, is_simple}
use Rattle.dwc_native.specs.Placed.{Frame, needed_labels, scope_intervals}
use Rattle.dwc_rules.specs.LocationAttributes.{ListedExpression}
use Rattle.dwc_rules.specs.LocationRules.{ExpressionSource, in_force_at, listed_by}
use Rattle.dwc_rules.specs.ScopesCarried.{value_of_entry}
use Rattle.dwc_rules.specs.Wrappers.{is_wrapped}
use Rattle.dwc_rules.specs.EntryRules.{is_gone}
pub use Rattle.dwc_carried.specs.PlacesSaid.{SaysWhere}
use Rattle.dwc_carried.specs.SimulatedLocations.{LocatesLabels}
use Rattle.dwc_rules.specs.ModuleDrafts.{expressions_of}

-- ---- one expression over a scope

-- The intervals over which a value of an output says something of an expression over a scope: those of its list; where it is one
-- expression, those of the whole scope; none where it is neither, or not there.
abbrev pub said_over : List Function → List (ℕ × ℕ) → Option TreeValue → List Interval
said_over fs scope (Some (locations ls)) = map (λ l. l.over) ls
said_over fs scope (Some (Trees.expression bytes)) = scope_intervals fs scope
said_over fs scope _ = []

-- ---- what attributes say of places

-- an expression over a scope that is not empty, or the intervals of a location list, each with its expression if that is supported
pub data LocationUse : Type 0 where
  over_scope : List (ℕ × ℕ) → CompiledParts → LocationUse
  over_intervals : List ((ℕ × ℕ) × Option CompiledParts) → LocationUse

-- a compiled expression that needs more than its own bytes, over a scope
abbrev pub use_over : Option (List (ℕ × ℕ)) → Result (Option CompiledParts) ℕ → Option LocationUse
use_over (Some (i ∷ is)) (Ok (Some x)) = if is_simple x then None else Some (over_scope (i ∷ is) x)
use_over _ _ = None

-- what an expression compiles to, if it can be read and is supported
abbrev pub supported : Result (Option CompiledParts) ℕ → Option CompiledParts
supported (Ok parts) = parts
supported (Err place) = None

-- an interval of a list with its expression, compiled on a frame base
abbrev pub interval_used : Option CompiledParts → ListedExpression → (ℕ × ℕ) × Option CompiledParts
interval_used base x = ((x.start, x.end), supported (compiled base x.given.bytes))

-- the intervals of a list that can be read
abbrev pub intervals_used : {E : Type 0} → Option CompiledParts → Result (List ListedExpression) E → Option LocationUse
intervals_used base (Ok xs) = Some (over_intervals (map (interval_used base) xs))
intervals_used base (Err refusal) = None

-- What an attribute of an entry says of places, by what is in force at the entry; a frame base that is an expression says nothing.
abbrev pub use_of : ExpressionSource → Placed → ℕ × Value → Option LocationUse
use_of c e (name, expression bytes) = if name == DW_AT_frame_base then None else use_over (in_force_at c e).scope (compiled (in_force_at c e).base bytes)
use_of c e (name, v) = if is_location_list v then intervals_used (in_force_at c e).base (listed_by c e v) else None

-- ---- what a value of an output says

-- locations say where for an interval of a list; for an expression that is not supported there are none
abbrev pub IntervalSaysWhere : List Function → Option Frame → (ℕ × ℕ) × Option CompiledParts → List Location → Type 0
IntervalSaysWhere fs frame (interval, None) ls = ls ≡ []
IntervalSaysWhere fs frame (interval, Some x) ls = SaysWhere fs frame (interval ∷ []) (needed_labels x) (map (λ l. l.over) ls)

-- a location list has, in order, the locations for each interval of a list of the input
pub record ListSaysWhere (fs : List Function) (frame : Option Frame) (xs : List ((ℕ × ℕ) × Option CompiledParts)) (ls : List Location) : Type 0 where
  pub parts : List (List Location)
  pub are : ls ≡ flat_map (λ part. part) parts
  pub each : AllZip (IntervalSaysWhere fs frame) xs parts

-- A value, if there is one, says where.
abbrev pub ValueSaysWhere : List Function → Option Frame → LocationUse → Option TreeValue → Type 0
ValueSaysWhere fs frame (over_scope scope x) v = SaysWhere fs frame scope (needed_labels x) (said_over fs scope v)
ValueSaysWhere fs frame (over_intervals xs) None = All (λ x. x.1 ≡ None) xs
ValueSaysWhere fs frame (over_intervals xs) (Some (locations ls)) = ListSaysWhere fs frame xs ls
ValueSaysWhere fs frame (over_intervals xs) (Some _) = ⊥

-- The value of a name says where; or, where attributes of that name came before, the last one became nothing, which says where too.
abbrev pub NameSaysWhere : List Function → Option Frame → LocationUse → Bool → Option TreeValue → Type 0
NameSaysWhere fs frame given repeated v = ValueSaysWhere fs frame given v ⊎ ((repeated ≡ true) × ValueSaysWhere fs frame given None)

-- ---- entries and units

-- An entry of an output carries the locations of an entry of an input that is not wrapped: of each name of a location that does not
-- go what the last attribute of that name says.
abbrev pub CarriesLocations : ExpressionSource → Placed → TreeEntry → Type 0
CarriesLocations c e out =
    (before after : List (ℕ × Value)) (a : ℕ × Value) → is_wrapped c.told.output e ≡ false → is_gone c.told.output e.entry a.0 ≡ false → e.entry.attributes ≡ before ++ a ∷ after → is_location_name a.0 ≡ true → has_name a.0 after ≡ false →
    IfSome (use_of c e a) (λ given. NameSaysWhere c.functions (in_force_at c e).surroundings.frame given (has_name a.0 before) (value_of_entry a.0 out))

-- The entries of a unit of an output, drafted one by one, carry the locations of the entries of a unit that they were made of.
abbrev pub UnitCarriesLocations : (CarriedUnit → List Draft) → CarriedUnit → Tree → Type 0
UnitCarriesLocations drafted u tree =
    AllZip (λ d out. (e : Entry) → Contains u.unit.entries e → is_made_of e.offset itself d ≡ true → CarriesLocations (expressions_of u.module_of u.unit) (record { unit = u.unit.header.offset; entry = e }) out) (drafted u) tree

-- a module's synthetic unit has none; the simulated one has those of the labels of its functions
abbrev pub UnitHasLocations : (CarriedUnit → List Draft) → WantedUnit → Tree → Type 0
UnitHasLocations drafted synthetic_unit tree = Unit {0}
UnitHasLocations drafted (carried_unit u) tree = UnitCarriesLocations drafted u tree
UnitHasLocations drafted (unit_of_simulated name translated ms) tree = LocatesLabels translated ms tree

-- The locations of an input are carried by the units of an output, each of which is to be one.
abbrev pub LocationsCarried : (CarriedUnit → List Draft) → List WantedUnit → List Tree → Type 0
LocationsCarried drafted us trees = AllZip (UnitHasLocations drafted) us trees
