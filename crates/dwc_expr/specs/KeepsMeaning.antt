-- Built bytes mean on native code what the expression of the input means in WebAssembly. (A law on the definitions of both machines.)
use Rattle.std.specs.Prelude.{◌≡◌, ℕ, ◌+◌, ◌^◌, ◌%◌, ◌≤◌, List, [], ◌∷◌, ◌++◌, length, take, Bool, true, false, ◌&&◌, not, Option, is_some, Ok}
use Rattle.std.specs.List.{flat_map, AllZip}
use Rattle.dwc_dwarf.specs.Operations.{Operation, operations}
use Rattle.dwc_native.specs.Parts.{Part, CompiledParts, parts_of, old_format, joined, single_code}
use Rattle.dwc_native.specs.Placed.{built_parts}
use Rattle.dwc_native.specs.Built.{Setting, built_bytes}
use Rattle.dwc_machines.specs.NativeStates.{NativeState}
use Rattle.dwc_machines.specs.ByteMachine.{ByteState, byte_steps}
use Rattle.dwc_machines.specs.PartMachine.{memory_base}
use Rattle.dwc_machines.specs.WasmMachine.{WasmState}
use Rattle.dwc_expr.specs.RunsAlike.{CanRun, count_operations}
use Rattle.dwc_expr.specs.MeaningPremises.{wasm_stack, HasMeaning}

-- the parts of the first so many operations
abbrev pub parts_of_first : Option CompiledParts → List Operation → ℕ → List Part
parts_of_first base os count = joined (old_format base os ++ flat_map (parts_of base) (take count os))

-- a native stack has the low 32 bits of one in WebAssembly
abbrev pub HasLowBits : List ℕ → List ℕ → Type 0
HasLowBits native wasm = AllZip (λ a b. a % 2 ^ 32 ≡ b) native wasm

-- The bytes, run up to the end of their first part, have there the stack of WebAssembly.
pub record MeansAt (n : NativeState) (bytes first wasm : List ℕ) : Type 0 where
  pub at : ByteState
  pub reached : byte_steps n bytes (count_operations first) ≡ Ok at
  pub there : at.place ≡ length first
  pub same : HasLowBits at.made.stack wasm

-- what the result of bytes that end is to be: an address of native code, which is the base of linear memory plus the address
-- there; or a number with the same low 32 bits
abbrev pub IsResult : NativeState → Setting → Bool → ℕ → List ℕ → Type 0
IsResult n s is_address result [] = ⊥
IsResult n s true result (top ∷ stack) = (base : ℕ) → memory_base n s ≡ Ok base → top ≡ (base + result) % 2 ^ 64
IsResult n s false result (top ∷ stack) = top % 2 ^ 32 ≡ result

-- The bytes end, with the result of WebAssembly; they are marked as a value where the expression says so, and leave no pieces.
pub record EndsWith (n : NativeState) (s : Setting) (bytes : List ℕ) (is_address is_value : Bool) (result : ℕ) : Type 0 where
  pub at : ByteState
  pub reached : byte_steps n bytes (count_operations bytes) ≡ Ok at
  pub there : at.place ≡ length bytes
  pub marked : at.made.is_value ≡ is_value
  pub whole : at.made.pieces ≡ []
  pub means : IsResult n s is_address result at.made.stack

-- whether the parts of an expression leave an address that is made one of the native code
abbrev pub leaves_native_address : CompiledParts → Bool
leaves_native_address x = x.need_deref && not (is_some (single_code x.parts))

-- Built bytes keep the meaning of an expression: at the end of each of its operations, and at their own end.
pub record KeepsMeaning (n : NativeState) (s : Setting) (w : WasmState) (base : Option CompiledParts) (os : List Operation) (x : CompiledParts) (result : ℕ) (bytes : List ℕ) : Type 0 where
  pub each : (count : ℕ) (wasm : List ℕ) → count ≤ length os → wasm_stack w base os count ≡ Ok wasm → MeansAt n bytes (built_bytes s (parts_of_first base os count)) wasm
  pub whole : EndsWith n s bytes (leaves_native_address x) (not x.need_deref) result

-- The law: built bytes keep the meaning of an expression that can run.
abbrev pub BuiltBytesKeepMeaning : Type 0
BuiltBytesKeepMeaning =
    (n : NativeState) (s : Setting) (w : WasmState) (base : Option CompiledParts) (bytes : List ℕ) (x : CompiledParts) →
    (m : HasMeaning n s w base bytes x) → CanRun n s (built_parts x) →
    KeepsMeaning n s w base (operations bytes).items x m.result (built_bytes s (built_parts x))
