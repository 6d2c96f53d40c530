-- Functions, their address maps, and which function an address of the input is in. (No standard has these: a code generator
-- tells the maps, and DWARF counts code addresses of a wasm file from the contents of its code section.)
use Rattle.std.specs.Prelude.{ℕ, ◌+◌, ◌-◌, ◌==◌, List, [], ◌∷◌, map, Bool, true, nat_lt, nat_le, ◌||◌, ◌&&◌, if◌then◌else◌, Option, Some, None, option_map, is_some}
use Rattle.std.specs.Option.{unwrap_or}
use Rattle.std.specs.List.{filter_map}
use Rattle.dwc_base.specs.declared.records.OutputFor.{OutputFor}
use Rattle.dwc_base.specs.declared.records.MapFault.{MapFault}
use Rattle.dwc_base.specs.declared.records.MapFault.TheVariants.{BodyOffset, NoStart, BeforeCodeSection, Reversed, CodeFalls, CodePastBody, SourceOutside}

-- A defined function's address map as the code generator gives it: entries of (native offset, file offset of the
-- source), the last at or below a byte being the byte's own.
pub record AddressMap : Type 0 where
  pub symbol : Option ℕ
  pub start : Option ℕ
  pub end : Option ℕ
  pub body_offset : ℕ
  pub body_len : ℕ
  pub entries : List (ℕ × Option ℕ)

-- whether a source, if there is one, lies from start to end
abbrev pub is_source_within : ℕ → ℕ → Option ℕ → Bool
is_source_within start end None = true
is_source_within start end (Some source) = nat_le start source && nat_le source end

-- the first rule that an entry breaks, in order of entries; code is the native offset of the entry before
abbrev pub entry_fault : ℕ → ℕ → ℕ → ℕ → List (ℕ × Option ℕ) → Option MapFault
entry_fault start end body_len code [] = None
entry_fault start end body_len code (e ∷ es) =
    if nat_lt e.0 code then Some CodeFalls
    else (if nat_lt body_len e.0 then Some CodePastBody
    else (if is_source_within start end e.1 then entry_fault start end body_len e.0 es else Some SourceOutside))

-- the first rule that a map's start, end and entries break
abbrev pub bounds_fault : ℕ → AddressMap → Option ℕ → Option ℕ → Option MapFault
bounds_fault code_offset m None end = Some NoStart
bounds_fault code_offset m (Some start) None = Some NoStart
bounds_fault code_offset m (Some start) (Some end) =
    if nat_lt start code_offset then Some BeforeCodeSection
    else (if nat_lt end start then Some Reversed
    else entry_fault start end m.body_len 0 m.entries)

-- the first rule that a map breaks, none where it is good
abbrev pub map_fault : ℕ → AddressMap → Option MapFault
map_fault code_offset m = if m.body_offset == 0 then bounds_fault code_offset m m.start m.end else Some BodyOffset

-- A defined function, its offsets in the wasm counted from the contents of the code section. `number` counts the
-- functions of all modules, and names the function in addresses of the output; it is 0 where the function has no symbol.
-- `symbol` is the number where it has one, `output` whom intervals of its code are translated for.
pub record Function : Type 0 where
  pub output : OutputFor
  pub number : ℕ
  pub symbol : Option ℕ
  pub start : ℕ
  pub end : ℕ
  pub length : ℕ
  pub entries : List (ℕ × Option ℕ)

-- an entry with its source counted from the contents of the code section
abbrev pub wasm_entry : ℕ → ℕ × Option ℕ → ℕ × Option ℕ
wasm_entry code_offset e = (e.0, option_map (λ source. source - code_offset) e.1)

-- the function of a map that is good
abbrev pub function_of : OutputFor → ℕ → ℕ → AddressMap → Function
function_of output code_offset number m = record {
  output = output;
  number = unwrap_or (option_map (λ s. number) m.symbol) 0;
  symbol = option_map (λ s. number) m.symbol;
  start = unwrap_or m.start 0 - code_offset;
  end = unwrap_or m.end 0 - code_offset;
  length = m.body_len;
  entries = map (wasm_entry code_offset) m.entries;
}

-- the functions of a module, of whose functions the first has a number
abbrev pub functions_of : OutputFor → ℕ → ℕ → List AddressMap → List Function
functions_of output code_offset number [] = []
functions_of output code_offset number (m ∷ ms) = function_of output code_offset number m ∷ functions_of output code_offset (number + 1) ms

-- of a function and those behind it, the owner of an address
abbrev pub owner_with : Function → ℕ → Option Function → Option Function
owner_with f a None = if nat_le f.start a then Some f else None
owner_with f a (Some g) = if nat_le f.start a && nat_lt g.start f.start then Some f else Some g

-- The defined function with the greatest start at or below an address; of several with that start, the last.
abbrev pub owner : List Function → ℕ → Option Function
owner [] a = None
owner (f ∷ fs) a = owner_with f a (owner fs a)

-- the marks of code that was not linked: 0 and 0xFFFFFFFF
abbrev pub is_unlinked : ℕ → Bool
is_unlinked a = (a == 0) || (a == 0xFFFFFFFF)

-- a function, if it has a symbol
abbrev pub with_symbol : Option Function → Option Function
with_symbol None = None
with_symbol (Some f) = if is_some f.symbol then Some f else None

-- the function that an address of the input is in: linked, and with a symbol
abbrev pub function_at : List Function → ℕ → Option Function
function_at fs a = if is_unlinked a then None else with_symbol (owner fs a)

-- an entry of an address map that has a source: where it begins in the native code, and its wasm offset
pub record Recorded : Type 0 where
  pub native : ℕ
  pub wasm : ℕ

-- an entry that has a source, as one
abbrev pub recorded_entry : ℕ × Option ℕ → Option Recorded
recorded_entry e = option_map (λ wasm. record { native = e.0; wasm = wasm }) e.1

-- the recorded sources of a function, in order
abbrev pub recorded_sources : Function → List Recorded
recorded_sources f = filter_map recorded_entry f.entries
