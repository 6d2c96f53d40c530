-- The entries and functions of the plain program, seen as those of the definitions.
use Rattle.std.specs.Prelude.{ℕ, suc, ◌==◌, List, [], map, Bool, false, not, ◌&&◌, ◌||◌, if◌then◌else◌, Option, Some, None, option_map, is_some, is_none}
use Rattle.std.specs.List.{filter, find, list_any, take_while}
use Rattle.dwc_base.specs.declared.records.Address.TheVariants.{Constant}
use Rattle.dwc_base.specs.declared.records.OutputFor.TheVariants.{Default}
use Rattle.dwc_dwarf.specs.Values.{Value, address, unit_reference, info_reference, dropped}
use Rattle.dwc_dwarf.specs.Entries.{Entry, attribute}
use Rattle.dwc_native.specs.Functions.{Function, function_at}
use Rattle.dwc_rules.specs.Kept.{Placed, is_among, keeps, names_entry, same_place}
use Rattle.dwc_rules.specs.KeptEntries.{kept_with}
use Rattle.dwc_base.specs.Wasm.{last_of}
use Rattle.dwc_base.specs.declared.constants.TheConstants.{DW_AT_low_pc, DW_AT_ranges, DW_AT_sibling, DW_TAG_subprogram}
use Rattle.dwc_plain.specs.declared.entries.PlainFunction.{PlainFunction}
use Rattle.dwc_plain.specs.declared.entries.PlainValue.{PlainValue}
use Rattle.dwc_plain.specs.declared.entries.PlainValue.TheVariants.{Address, UnitReference, InfoReference, Other}
use Rattle.dwc_plain.specs.declared.entries.PlainEntry.{PlainEntry}

-- a function of which only the start and the symbol's presence count
abbrev pub function_view : PlainFunction → Function
function_view f = record { output = Default; number = 0; symbol = if f.has_symbol then Some 0 else None; start = f.start; end = f.start; length = 0; entries = [] }

abbrev pub value_view : PlainValue → Value
value_view (Address a) = address (Constant a)
value_view (UnitReference n) = unit_reference n
value_view (InfoReference n) = info_reference n
value_view Other = dropped

abbrev pub attribute_view : ℕ × PlainValue → ℕ × Value
attribute_view a = (a.0, value_view a.1)

abbrev pub entry_view : PlainEntry → Placed
entry_view e = record { unit = e.unit; entry = record { offset = e.offset; depth = e.depth; tag = e.tag; attributes = map attribute_view e.attributes.now } }

-- whether a value is an address in a function with a symbol
abbrev pub is_translatable : List Function → Option Value → Bool
is_translatable fs (Some (address (Constant a))) = is_some (function_at fs a)
is_translatable fs _ = false

-- a subprogram without ranges that begins in a function with a symbol, by an address in place
abbrev pub is_required : List Function → Entry → Bool
is_required fs e = (e.tag == DW_TAG_subprogram) && is_none (attribute DW_AT_ranges e) && is_translatable fs (attribute DW_AT_low_pc e)

-- the required ones among some entries
abbrev pub required_entries : List Function → List Placed → List Placed
required_entries fs es = filter (λ e. is_required fs e.entry) es

-- the entries that are kept with the required ones
abbrev pub kept_entries : List Function → List Placed → List Placed
kept_entries fs es = kept_with es (required_entries fs es)

-- whether an entry is kept by one of some
abbrev pub kept_by : List Placed → List Placed → Placed → Bool
kept_by es kept f = list_any (λ e. keeps es e f) kept

-- the kept ones among some entries, by one step from a set
abbrev pub kept_among : List Placed → List Placed → List Placed → List Placed
kept_among es kept fs = filter (λ f. is_among kept f || kept_by es kept f) fs

-- whether an attribute other than sibling names an entry
abbrev pub any_names : Placed → Placed → List (ℕ × Value) → Bool
any_names e f attributes = list_any (λ a. not (a.0 == DW_AT_sibling) && names_entry e f a.1) attributes

-- the first value of a name
abbrev pub first_value : ℕ → List (ℕ × Value) → Option Value
first_value name attributes = option_map (λ a. a.1) (find (λ a. a.0 == name) attributes)

-- the last of some entries, before one, whose depth is one less than its
abbrev pub last_above : Placed → List Placed → Option Placed
last_above e es = last_of (filter (λ p. suc p.entry.depth == e.entry.depth) (take_while (λ p. not (same_place e p)) es))
