-- Runs of native code whose sources rise, and how addresses and intervals of the wasm code are translated by them. (This
-- project's own rules.)
use Rattle.std.specs.Prelude.{◌≡◌, ℕ, ◌==◌, ◌≤◌, ◌<◌, pos, List, [], ◌∷◌, map, Bool, true, nat_lt, nat_le, ◌&&◌, if◌then◌else◌, Option, Some, None, option_map, ◌⊎◌, All}
use Rattle.std.specs.Option.{option_or, unwrap_or}
use Rattle.std.specs.List.{cons_option, filter, find, list_any}
use Rattle.dwc_base.specs.declared.records.Address.{Address}
use Rattle.dwc_base.specs.declared.records.Address.TheVariants.{Symbol}
use Rattle.dwc_base.specs.declared.records.OutputFor.TheVariants.{Default, Debugger}
use Rattle.dwc_native.specs.ShownSources.{exact_ranges}
use Rattle.dwc_native.specs.Functions.{AddressMap, map_fault, Function, function_of, function_at}
use Rattle.dwc_base.specs.Wasm.{last_of}
use Rattle.dwc_base.specs.Listing.{first_of}
use Rattle.dwc_dwarf.specs.Trees.{Interval}

-- ---- positions

-- A position: a wasm offset that is the source of the native code from a start up to an end.
pub record Position : Type 0 where
  pub wasm : ℕ
  pub start : ℕ
  pub end : ℕ

-- where an entry's native code ends, which some entries follow: where the next one begins, or with the function
abbrev pub native_end : ℕ → List (ℕ × Option ℕ) → ℕ
native_end length [] = length
native_end length (e ∷ es) = e.0

-- the entries of a map that have a source, as positions
abbrev pub source_positions : ℕ → List (ℕ × Option ℕ) → List Position
source_positions length [] = []
source_positions length (e ∷ es) = cons_option (option_map (λ wasm. record { wasm = wasm; start = e.0; end = native_end length es }) e.1) (source_positions length es)

-- a position in front of some pieces: in the first of them, unless that begins at a lower wasm offset
abbrev pub in_front : Position → List (List Position) → List (List Position)
in_front p [] = (p ∷ []) ∷ []
in_front p ([] ∷ pieces) = (p ∷ []) ∷ pieces
in_front p ((q ∷ qs) ∷ pieces) = if nat_lt q.wasm p.wasm then (p ∷ []) ∷ (q ∷ qs) ∷ pieces else (p ∷ q ∷ qs) ∷ pieces

-- Positions in pieces: a new piece begins where the wasm offset falls. Without a position there is one piece.
abbrev pub pieces : List Position → List (List Position)
pieces [] = [] ∷ []
pieces (p ∷ ps) = in_front p (pieces ps)

-- whether a position has native code
abbrev pub has_code : Position → Bool
has_code p = nat_lt p.start p.end

-- a position in front of others; it takes in one that begins at the same native offset, and ends there if it has no code
abbrev pub joined : Position → List Position → List Position
joined p [] = p ∷ []
joined p (q ∷ qs) = if p.start == q.start then record p { end = if has_code p then p.end else q.end } ∷ qs else p ∷ q ∷ qs

-- The positions of a piece: those that follow one another at one native offset are one, with the first one's wasm offset
-- and the end of the first that has code.
abbrev pub joined_positions : List Position → List Position
joined_positions [] = []
joined_positions (p ∷ ps) = joined p (joined_positions ps)

-- ---- runs

-- A run: where it begins and ends in the wasm code and in the native code, and its positions, whose wasm offsets rise.
pub record Run : Type 0 where
  pub wasm_start : ℕ
  pub wasm_end : ℕ
  pub start : ℕ
  pub end : ℕ
  pub positions : List Position

-- the wasm offset of the first position of some, 0 without one; of the last; and the native offset of the first
abbrev pub first_wasm : List Position → ℕ
first_wasm ps = unwrap_or (option_map (λ p. p.wasm) (first_of ps)) 0

abbrev pub last_wasm : List Position → ℕ
last_wasm ps = unwrap_or (option_map (λ p. p.wasm) (last_of ps)) 0

abbrev pub first_native : List Position → ℕ
first_native ps = unwrap_or (option_map (λ p. p.start) (first_of ps)) 0

-- The runs of some pieces, of which the first begins at a wasm and at a native offset. A run ends at its last source and
-- where the next one begins, and the last one with the function.
abbrev pub runs_from : Function → ℕ → ℕ → List (List Position) → List Run
runs_from f wasm native [] = []
runs_from f wasm native (ps ∷ []) = record { wasm_start = wasm; wasm_end = f.end; start = native; end = f.length; positions = joined_positions ps } ∷ []
runs_from f wasm native (ps ∷ qs ∷ others) =
    record { wasm_start = wasm; wasm_end = last_wasm ps; start = native; end = first_native qs; positions = joined_positions ps }
    ∷ runs_from f (first_wasm qs) (first_native qs) (qs ∷ others)

-- The runs of a function, in native order. The first begins with the function.
unfoldable pub runs : Function → List Run
runs f = runs_from f f.start 0 (pieces (source_positions f.length f.entries))

-- ---- translation

-- Where a run begins to have the code from a wasm offset on: the start of the first position at it; else the end of the
-- last position below it; else the run's own start.
abbrev pub start_in : ℕ → Run → ℕ
start_in a r =
    unwrap_or (option_or (option_map (λ p. p.start) (find (λ p. p.wasm == a) r.positions)) (option_map (λ p. p.end) (last_of (filter (λ p. nat_lt p.wasm a) r.positions)))) r.start

-- Where a run ceases to have the code before a wasm offset: the end of the last position at it; else the start of the first
-- position above it; else the run's own end.
abbrev pub end_in : ℕ → Run → ℕ
end_in a r =
    unwrap_or (option_or (option_map (λ p. p.end) (last_of (filter (λ p. p.wasm == a) r.positions))) (option_map (λ p. p.start) (find (λ p. nat_lt a p.wasm) r.positions))) r.end

-- whether a run has a wasm offset, its ends included
abbrev pub has_offset : ℕ → Run → Bool
has_offset a r = nat_le r.wasm_start a && nat_le a r.wasm_end

-- The native offset of a wasm offset of a function: its length from the function's end on; else where the first run that
-- has the offset begins to have it.
unfoldable pub native_offset : Function → ℕ → ℕ
native_offset f a = if nat_le f.end a then f.length else unwrap_or (option_map (start_in a) (find (has_offset a) (runs f))) f.length

-- An address of the input, translated: none where it is in no function with a symbol.
unfoldable pub translated : List Function → ℕ → Option Address
translated fs a = option_map (λ f. Symbol f.number (pos (native_offset f a))) (function_at fs a)

-- whether a run has code of an interval of wasm offsets: it begins below the end, and ends at or behind the start
abbrev pub meets : ℕ → ℕ → Run → Bool
meets start end r = nat_lt r.wasm_start end && nat_le start r.wasm_end

-- whether a native range has a byte
abbrev pub is_range : ℕ × ℕ → Bool
is_range r = nat_lt r.0 r.1

-- The native ranges of an interval of wasm offsets, its end included, in a function: of each run that has code of it, in native
-- order. An interval that is empty or reversed has none.
abbrev pub closed_ranges : Function → ℕ → ℕ → List (ℕ × ℕ)
closed_ranges f start end = if nat_lt start end then filter is_range (map (λ r. (start_in start r, end_in end r)) (filter (meets start end) (runs f))) else []

-- The native ranges of an interval of wasm offsets in a function; for a debugger they are exact at every byte.
unfoldable pub native_ranges : Function → ℕ → ℕ → List (ℕ × ℕ)
native_ranges f start end = elim f.output [ Default ↦ closed_ranges f start end | Debugger ↦ exact_ranges f start end ]

-- a native range of a function as an interval of addresses
abbrev pub interval_of : ℕ → ℕ × ℕ → Interval
interval_of number r = record { begin = Symbol number (pos r.0); end = Symbol number (pos r.1) }

-- The native ranges of an interval of the input in the function that it begins in, with that function's number; none
-- where it begins in none.
unfoldable pub native_in_function : List Function → ℕ → ℕ → Option (ℕ × List (ℕ × ℕ))
native_in_function fs start end = option_map (λ f. (f.number, native_ranges f start end)) (function_at fs start)

-- the same ranges as intervals of addresses
abbrev pub as_intervals : Option (ℕ × List (ℕ × ℕ)) → List Interval
as_intervals None = []
as_intervals (Some n) = map (interval_of n.0) n.1

-- An interval of the input, translated.
unfoldable pub native : List Function → ℕ → ℕ → List Interval
native fs start end = as_intervals (native_in_function fs start end)

-- ---- laws

-- ranges that are nonempty, disjoint and ascending, from one offset up to another
abbrev pub Ascend : ℕ → ℕ → List (ℕ × ℕ) → Type 0
Ascend from to [] = from ≤ to
Ascend from to (r ∷ rs) = (from ≤ r.0) × (r.0 < r.1) × Ascend r.1 to rs

-- Intervals are nonempty, disjoint and ascending, and lie in the native code of one function, in which an address is.
pub record AscendInOne (fs : List Function) (start : ℕ) (intervals : List Interval) : Type 0 where
  pub function : Function
  pub begun : function_at fs start ≡ Some function
  pub ranges : List (ℕ × ℕ)
  pub told : intervals ≡ map (interval_of function.number) ranges
  pub ascend : Ascend 0 function.length ranges

-- a function has an address map that is good
pub record HasGoodMap (f : Function) : Type 0 where
  pub code_offset : ℕ
  pub address_map : AddressMap
  pub good : map_fault code_offset address_map ≡ None
  pub made : f ≡ function_of f.output code_offset f.number address_map

-- The laws on functions with good maps. What an interval is translated to ascends in the function that it begins in; and
-- each wasm offset from a function's start to its end is one that some run has.
abbrev pub TranslationsAscend : List Function → Type 0
TranslationsAscend fs = All HasGoodMap fs → (start end : ℕ) → (native fs start end ≡ []) ⊎ AscendInOne fs start (native fs start end)

abbrev pub RunsHaveAll : Function → Type 0
RunsHaveAll f = HasGoodMap f → (a : ℕ) → f.start ≤ a → a ≤ f.end → list_any (has_offset a) (runs f) ≡ true
