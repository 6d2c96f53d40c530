-- What an address transform keeps of the functions of a module, and what makes none.
use Rattle.std.specs.Prelude.{◌≡◌, ℕ, suc, ◌+◌, ◌-◌, ◌%◌, ◌^◌, List, [], ◌∷◌, map, Option, Some, None, option_map, Result, Ok, Err}
use Rattle.std.specs.Option.{unwrap_or, option_or}
use Rattle.dwc_base.specs.declared.records.MapFault.{MapFault}
use Rattle.dwc_base.specs.declared.records.OutputFor.{OutputFor}
use Rattle.dwc_native.specs.Functions.{AddressMap, Function, map_fault, functions_of}
use Rattle.dwc_addr.specs.declared.function_map.FunctionMap.{FunctionMap}
use Rattle.dwc_compiled.specs.Gaps.{merged}
use Rattle.dwc_addr.specs.Runs.{recorded_view}
use Rattle.dwc_addr.specs.declared.error.AddrError.{AddrError}
use Rattle.dwc_addr.specs.declared.error.AddrError.TheVariants.{BadAddressMap, OutOfMemory}

-- the low 32 bits of a source less an offset, modulo 2 ^ 32
abbrev pub wasm_code_offset : ℕ → ℕ → ℕ
wasm_code_offset source code_offset = (source + 2 ^ 32 - code_offset % 2 ^ 32) % 2 ^ 32

-- the first map in a list that breaks a rule, by its place, and that rule; place is that of the list's first map
abbrev pub first_bad_map : ℕ → ℕ → List AddressMap → Option (ℕ × MapFault)
first_bad_map code_offset place [] = None
first_bad_map code_offset place (m ∷ ms) = option_or (option_map (λ why. (place, why)) (map_fault code_offset m)) (first_bad_map code_offset (suc place) ms)

-- a function as it is kept
abbrev pub function_view : FunctionMap → Function
function_view f = record {
  output = f.output_for;
  number = unwrap_or f.symbol 0;
  symbol = f.symbol;
  start = f.wasm_start;
  end = f.wasm_end;
  length = f.len;
  entries = merged f.gaps.now 0 (map recorded_view f.addresses);
}

-- No map is bad and the functions, seen by `view`, are those of the maps, for some output; or the first bad map is named; or memory was
-- wanting.
abbrev pub Transforms : {A : Type 0} → (A → List Function) → ℕ → OutputFor → ℕ → ℕ → List AddressMap → Result A AddrError → Type 0
Transforms view m output code_offset first maps (Ok t) = (first_bad_map code_offset 0 maps ≡ None) × (view t ≡ functions_of output code_offset first maps)
Transforms view m output code_offset first maps (Err (BadAddressMap n func why)) = (n ≡ m) × (first_bad_map code_offset 0 maps ≡ Some (func, why))
Transforms view m output code_offset first maps (Err OutOfMemory) = Unit {0}
