-- Scopes of wasm intervals, kept by the intervals of native code that they are translated to. (This project's own rules.)
use Rattle.std.specs.Prelude.{◌≡◌, ◌≢◌, ℕ, ◌<◌, ◌≤◌, ◌==◌, pos, int_le, int_lt, List, [], ◌∷◌, Bool, true, false, ◌&&◌, nat_le, if◌then◌else◌, Option, Some, None, option_map, option_and_then, is_some, AllPairs, Contains, All}
use Rattle.std.specs.Option.{option_or}
use Rattle.std.specs.List.{filter, filter_map, list_any, flat_map}
use Rattle.dwc_base.specs.declared.records.OutputFor.TheVariants.{Debugger}
use Rattle.dwc_base.specs.declared.records.Address.{Address}
use Rattle.dwc_base.specs.declared.records.Address.TheVariants.{Constant, Symbol}
use Rattle.dwc_native.specs.Functions.{Function, function_at, recorded_sources}
use Rattle.dwc_dwarf.specs.Trees.{Interval, address}
use Rattle.dwc_native.specs.ShownSources.{shown_source, is_source_in}
use Rattle.dwc_native.specs.Runs.{HasGoodMap, translated, native}

-- a number of the input, as an interval's end
abbrev pub number_of : Address → Option ℕ
number_of (Constant a) = Some a
number_of (Symbol f addend) = None

-- an interval of the input as two numbers
abbrev pub wasm_interval : Interval → Option (ℕ × ℕ)
wasm_interval i = option_and_then (λ begin. option_map (λ end. (begin, end)) (number_of i.end)) (number_of i.begin)

-- some intervals of the input, translated one after another
unfoldable pub native_of_intervals : List Function → List Interval → List Interval
native_of_intervals fs is = flat_map (λ w. native fs w.0 w.1) (filter_map wasm_interval is)

-- what an address map says of a byte, if anything: the last of its entries at or below it
abbrev pub entry_for_byte : List (ℕ × Option ℕ) → ℕ → Option (Option ℕ)
entry_for_byte [] byte = None
entry_for_byte (e ∷ es) byte = option_or (entry_for_byte es byte) (if nat_le e.0 byte then Some e.1 else None)

-- the source of a native byte of a function: that of the last entry at or below it, if that has one
abbrev pub source_of_byte : Function → ℕ → Option ℕ
source_of_byte f byte = option_and_then (λ source. source) (entry_for_byte f.entries byte)

-- no two recorded sources of a function stand at one native offset
abbrev pub HasDistinctSources : Function → Type 0
HasDistinctSources f = AllPairs (λ e g. e.native ≢ g.native) (recorded_sources f)

-- whether an address is in a function, at or below a byte of it; and whether it is behind the byte
abbrev pub is_at_or_below : ℕ → ℕ → Address → Bool
is_at_or_below function byte (Constant a) = false
is_at_or_below function byte (Symbol f addend) = (f == function) && int_le addend (pos byte)

abbrev pub is_behind : ℕ → ℕ → Address → Bool
is_behind function byte (Constant a) = false
is_behind function byte (Symbol f addend) = (f == function) && int_lt (pos byte) addend

-- whether intervals cover a byte of a function
abbrev pub cover_byte : List Interval → ℕ → ℕ → Bool
cover_byte is function byte = list_any (λ i. is_at_or_below function byte i.begin && is_behind function byte i.end) is

-- whether an interval begins in a function
abbrev pub begins_in : List Function → Function → ℕ × ℕ → Bool
begins_in fs f i = is_number_said (function_at fs i.0)
  where
    is_number_said : Option Function → Bool
    is_number_said None = false
    is_number_said (Some g) = g.number == f.number

-- whether a source of a scope is shown at a byte of a function
abbrev pub is_shown_in : List Function → List (ℕ × ℕ) → Function → ℕ → Bool
is_shown_in fs scope f byte = list_any (λ i. begins_in fs f i && is_source_in i.0 i.1 (shown_source f byte)) scope

-- a source lies in a closed interval of a scope
pub record IsInSome (scope : List (ℕ × ℕ)) (source : ℕ) : Type 0 where
  pub interval : ℕ × ℕ
  pub among : Contains scope interval
  pub from : interval.0 ≤ source
  pub to : source ≤ interval.1

-- an interval lies in the native code of a function with a symbol among some
pub record IsInOneOf (fs : List Function) (i : Interval) : Type 0 where
  pub function : Function
  pub among : Contains fs function
  pub named : is_some function.symbol ≡ true
  pub range : ℕ × ℕ
  pub told : i ≡ record { begin = Symbol function.number (pos range.0); end = Symbol function.number (pos range.1) }
  pub within : (range.0 ≤ range.1) × (range.1 ≤ function.length)

-- Intervals of an output keep a scope of the input, in the functions of a module that have a symbol: they lie in these functions; they
-- cover no byte whose source lies outside all its closed intervals; and of each interval every byte of its function whose source
-- is from its begin to before its end. Nothing of this is said of a function in which two sources stand at one native offset. For a
-- debugger they cover exactly the bytes at which a source of the scope is shown, in every function.
pub record KeepsScope (fs : List Function) (scope : List (ℕ × ℕ)) (is : List Interval) : Type 0 where
  pub inside : All (IsInOneOf fs) is
  pub no_more :
      (f : Function) (byte source : ℕ) → Contains fs f → is_some f.symbol ≡ true → HasDistinctSources f → cover_byte is f.number byte ≡ true →
      source_of_byte f byte ≡ Some source → IsInSome scope source
  pub no_less :
      (interval : ℕ × ℕ) (f : Function) (byte source : ℕ) → Contains scope interval → function_at fs interval.0 ≡ Some f → HasDistinctSources f → byte < f.length →
      source_of_byte f byte ≡ Some source → interval.0 ≤ source → source < interval.1 → cover_byte is f.number byte ≡ true
  pub exact :
      (f : Function) (byte : ℕ) → f.output ≡ Debugger → Contains fs f → is_some f.symbol ≡ true → byte < f.length →
      cover_byte is f.number byte ≡ is_shown_in fs scope f byte

-- Functions have good maps, and those with a symbol have numbers of their own.
pub record AreNumbered (fs : List Function) : Type 0 where
  pub good : All HasGoodMap fs
  pub apart : AllPairs (λ f g. f.number ≢ g.number) (filter (λ f. is_some f.symbol) fs)

-- The law on such functions: what intervals of the input are translated to keeps them as a scope.
abbrev pub TranslationsKeepScopes : List Function → Type 0
TranslationsKeepScopes fs = AreNumbered fs → (is : List Interval) → KeepsScope fs (filter_map wasm_interval is) (native_of_intervals fs is)
