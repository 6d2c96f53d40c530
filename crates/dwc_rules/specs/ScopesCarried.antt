-- What it means that an output carries the scopes of an input: its entries cover the native code whose source is in
-- theirs. (A law on the definitions of translation.)
use Rattle.std.specs.Prelude.{◌≡◌, ◌≢◌, ℕ, ◌<◌, ◌≤◌, ◌==◌, ◌+◌, pos, ◌+ℤ◌, int_le, int_lt, List, [], ◌∷◌, Bool, true, false, ◌&&◌, nat_le, if◌then◌else◌, Option, Some, None, option_map, option_and_then, is_some, AllPairs, Contains, All}
use Rattle.std.specs.Option.{option_or}
use Rattle.std.specs.List.{filter, filter_map, find, list_any, AllZip}
use Rattle.dwc_base.specs.declared.records.OutputFor.{OutputFor}
use Rattle.dwc_base.specs.declared.records.Address.{Address}
use Rattle.dwc_base.specs.declared.records.Address.TheVariants.{Constant, Symbol}
use Rattle.dwc_dwarf.specs.Entries.{Entry}
use Rattle.dwc_native.specs.Functions.{Function, function_at, recorded_sources}
use Rattle.dwc_base.specs.declared.constants.TheConstants.{DW_AT_high_pc, DW_AT_low_pc, DW_AT_ranges}
use Rattle.dwc_rules.specs.Carried.{CarriedUnit, WantedUnit, synthetic_unit, carried_unit, unit_of_simulated}
use Rattle.dwc_dwarf.specs.Trees.{Interval, TreeValue, address, constant, ranges, TreeEntry, Tree}
use Rattle.dwc_rules.specs.Drafts.{itself, Draft}
use Rattle.dwc_rules.specs.DraftForests.{is_made_of}
use Rattle.dwc_dwarf.specs.RawLists.{ListSource}
use Rattle.dwc_dwarf.specs.Lists.{list_source}
use Rattle.dwc_native.specs.Runs.{HasGoodMap}
use Rattle.dwc_rules.specs.Kept.{Placed}
use Rattle.dwc_rules.specs.Wrappers.{is_wrapped}
use Rattle.dwc_rules.specs.RangeAttributes.{begun_function, Extent, intervals, position, nowhere, extent}
use Rattle.dwc_rules.specs.Scopes.{scope_of_extent}
use Rattle.dwc_native.specs.ScopesKept.{KeepsScope}

-- ---- sources of native bytes

-- ---- what an entry of an output covers

-- the first value of a name, of an entry of an output
abbrev pub value_of_entry : ℕ → TreeEntry → Option TreeValue
value_of_entry name e = option_map (λ a. a.1) (find (λ a. a.0 == name) e.attributes)

-- an address so many bytes behind another
abbrev pub behind : ℕ → Address → Address
behind n (Constant a) = Constant (a + n)
behind n (Symbol f addend) = Symbol f (addend +ℤ pos n)

-- the interval of a low_pc and a high_pc, which is a length
abbrev pub bounded : Option TreeValue → Option TreeValue → List Interval
bounded (Some (address low)) (Some (constant form n)) = record { begin = low; end = behind n low } ∷ []
bounded _ _ = []

-- those of ranges, else some others
abbrev pub listed_or : Option TreeValue → List Interval → List Interval
listed_or (Some (ranges is)) others = is
listed_or _ others = others

-- the intervals that an entry of an output covers: those of its ranges, else those of its bounds
abbrev pub covered_intervals : TreeEntry → List Interval
covered_intervals e = listed_or (value_of_entry DW_AT_ranges e) (bounded (value_of_entry DW_AT_low_pc e) (value_of_entry DW_AT_high_pc e))

-- ---- scopes

-- the scope of an extent that is intervals
abbrev pub scope_of_intervals : Extent → Option (List (ℕ × ℕ))
scope_of_intervals (intervals is) = Some (scope_of_extent (intervals is))
scope_of_intervals (position a) = None
scope_of_intervals nowhere = None

-- The intervals of an entry whose scope is to be kept; a wrapped pointer or reference has none, nor has a subprogram that
-- begins in a function with a symbol, which is that function whole.
abbrev pub scope_to_keep : OutputFor → ListSource → List Function → Placed → Option (List (ℕ × ℕ))
scope_to_keep output s fs e =
    if is_wrapped output e then None
    else (elim (begun_function s fs e.entry) [ Some f ↦ None | None ↦ scope_of_intervals (extent s e.entry) ])

-- an entry of an output carries the scope of an entry of an input
abbrev pub CarriesScope : OutputFor → ListSource → List Function → Placed → TreeEntry → Type 0
CarriesScope output s fs e out = (scope : List (ℕ × ℕ)) → scope_to_keep output s fs e ≡ Some scope → KeepsScope fs scope (covered_intervals out)

-- The entries of a unit of an output, drafted one by one, carry the scopes of the entries of a unit that they were made of.
abbrev pub UnitCarriesScopes : (CarriedUnit → List Draft) → CarriedUnit → Tree → Type 0
UnitCarriesScopes drafted u tree =
    AllZip (λ d out. (e : Entry) → Contains u.unit.entries e → is_made_of e.offset itself d ≡ true → CarriesScope u.module_of.told.output (list_source u.module_of.sections u.unit.header) u.module_of.functions (record { unit = u.unit.header.offset; entry = e }) out) (drafted u) tree

-- a module's synthetic unit has none, nor has the simulated one
abbrev pub UnitHasScopes : (CarriedUnit → List Draft) → WantedUnit → Tree → Type 0
UnitHasScopes drafted synthetic_unit tree = Unit {0}
UnitHasScopes drafted (carried_unit u) tree = UnitCarriesScopes drafted u tree
UnitHasScopes drafted (unit_of_simulated name translated ms) tree = Unit {0}

-- The scopes of an input are carried by the units of an output, each of which is to be one.
abbrev pub ScopesCarried : (CarriedUnit → List Draft) → List WantedUnit → List Tree → Type 0
ScopesCarried drafted us trees = AllZip (UnitHasScopes drafted) us trees
