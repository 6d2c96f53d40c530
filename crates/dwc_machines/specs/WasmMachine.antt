-- What an expression of the input means in WebAssembly: a stack of 32-bit numbers over its operations, in straight order.
-- (DWARF 4 and 5, section 2.5.1, with addresses in linear memory.)
use Rattle.std.specs.Prelude.{ℕ, ◌+◌, List, [], ◌∷◌, take, drop, length, nat_le, if◌then◌else◌, Option, Some, None, Result, Ok, Err, ok_or}
use Rattle.dwc_base.specs.Reading.{◌>>=◌, coded, number_low_first}
use Rattle.dwc_dwarf.specs.Operations.{Operation}
use Rattle.dwc_base.specs.declared.constants.TheConstants.{DW_OP_deref, DW_OP_fbreg, DW_OP_stack_value, DW_OP_WASM_location}
use Rattle.dwc_machines.specs.StackOperations.{Stop, element_missing, register_missing, byte_missing, wrapped, on_stack}

-- a moment of WebAssembly: locals as 32-bit numbers, and the bytes of linear memory
pub record WasmState : Type 0 where
  pub local_value : ℕ → Option ℕ
  pub memory : List ℕ

-- the number of four bytes at an address, where all are there
abbrev pub number_in_memory : List ℕ → ℕ → Option ℕ
number_in_memory memory address = if nat_le (address + 4) (length memory) then Some (number_low_first (take 4 (drop address memory))) else None

-- a local's number
abbrev pub local_read : WasmState → ℕ → Result ℕ Stop
local_read w label = ok_or (w.local_value label) (register_missing label)

-- that of the frame base's local, if there is one, as an address
abbrev pub base_read : WasmState → Option ℕ → Result ℕ Stop
base_read w base = ok_or base element_missing >>= local_read w

-- what an operation does here in its own way
pub data WasmRule : Type 0 where
  loads_value : WasmRule
  adds_to_base : WasmRule
  loads_number : WasmRule
  changes_nothing : WasmRule

abbrev pub wasm_rules : List (ℕ × WasmRule)
wasm_rules = (DW_OP_WASM_location, loads_value) ∷ (DW_OP_fbreg, adds_to_base) ∷ (DW_OP_deref, loads_number) ∷ (DW_OP_stack_value, changes_nothing) ∷ []

abbrev pub by_wasm_rule : WasmState → Option ℕ → Operation → List ℕ → Option WasmRule → Result (List ℕ) Stop
by_wasm_rule w base o s None = on_stack 4 o.opcode o.first s
by_wasm_rule w base o s (Some loads_value) = local_read w o.second >>= λ value. Ok (value ∷ s)
by_wasm_rule w base o s (Some adds_to_base) = base_read w base >>= λ b. Ok (wrapped 4 (b + o.first) ∷ s)
by_wasm_rule w base o [] (Some loads_number) = Err element_missing
by_wasm_rule w base o (address ∷ s) (Some loads_number) = ok_or (number_in_memory w.memory address) (byte_missing address) >>= λ value. Ok (value ∷ s)
by_wasm_rule w base o s (Some changes_nothing) = Ok s

-- the stack after an operation, with the local of the frame base
unfoldable pub wasm_step : WasmState → Option ℕ → Operation → List ℕ → Result (List ℕ) Stop
wasm_step w base o s = by_wasm_rule w base o s (coded wasm_rules o.opcode)

-- the stack after some operations, one after another
abbrev pub wasm_run : WasmState → Option ℕ → List Operation → List ℕ → Result (List ℕ) Stop
wasm_run w base [] s = Ok s
wasm_run w base (o ∷ os) s = wasm_step w base o s >>= wasm_run w base os
