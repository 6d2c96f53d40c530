-- Expressions that have a meaning in WebAssembly which native code can keep, and moments of both that belong together.
use Rattle.std.specs.Prelude.{◌≡◌, ℕ, ◌+◌, ◌^◌, ◌%◌, ◌==◌, ◌<◌, ◌≤◌, List, [], ◌∷◌, length, take, Bool, true, false, nat_lt, ◌&&◌, ◌||◌, slice_get, Option, Some, None, is_some, Result, Ok, All}
use Rattle.std.specs.List.{filter_map, list_all}
use Rattle.dwc_base.specs.declared.records.Endian.TheVariants.{Little}
use Rattle.dwc_dwarf.specs.Values.{is_one_of}
use Rattle.dwc_dwarf.specs.Operations.{Operation, operations}
use Rattle.dwc_native.specs.Parts.{Part, local, CompiledParts, compiled, old_format}
use Rattle.dwc_native.specs.Placed.{reads_memory}
use Rattle.dwc_native.specs.Built.{Setting}
use Rattle.dwc_base.specs.Reading.{◌>>=◌}
use Rattle.dwc_base.specs.declared.constants.TheConstants.{DW_OP_deref, DW_OP_const1u, DW_OP_const1s, DW_OP_const2u, DW_OP_const2s, DW_OP_const4u, DW_OP_const4s, DW_OP_const8u, DW_OP_const8s, DW_OP_constu, DW_OP_consts, DW_OP_dup, DW_OP_drop, DW_OP_over, DW_OP_pick, DW_OP_swap, DW_OP_rot, DW_OP_and, DW_OP_minus, DW_OP_mul, DW_OP_neg, DW_OP_not, DW_OP_or, DW_OP_plus, DW_OP_plus_uconst, DW_OP_shl, DW_OP_shr, DW_OP_shra, DW_OP_xor, DW_OP_fbreg, DW_OP_nop, DW_OP_stack_value, DW_OP_WASM_location}
use Rattle.dwc_machines.specs.StackOperations.{Stop, is_literal}
use Rattle.dwc_machines.specs.NativeStates.{NativeState}
use Rattle.dwc_machines.specs.PartMachine.{value_of_label, memory_base}
use Rattle.dwc_machines.specs.WasmMachine.{WasmState, wasm_run, base_read}

-- ---- which expressions

-- the operations that push a constant
abbrev pub constants : List ℕ
constants = DW_OP_const1u ∷ DW_OP_const1s ∷ DW_OP_const2u ∷ DW_OP_const2s ∷ DW_OP_const4u ∷ DW_OP_const4s ∷ DW_OP_const8u ∷ DW_OP_const8s ∷ DW_OP_constu ∷ DW_OP_consts ∷ []

-- those whose low 32 bits depend on the low 32 bits of what they take alone
abbrev pub low_operations : List ℕ
low_operations =
    DW_OP_plus ∷ DW_OP_plus_uconst ∷ DW_OP_minus ∷ DW_OP_mul ∷ DW_OP_neg ∷ DW_OP_and ∷ DW_OP_or ∷ DW_OP_xor ∷ DW_OP_not ∷ DW_OP_dup ∷ DW_OP_drop ∷ DW_OP_over ∷ DW_OP_pick ∷ DW_OP_swap ∷ DW_OP_rot ∷ DW_OP_nop
    ∷ DW_OP_WASM_location ∷ DW_OP_fbreg ∷ DW_OP_deref ∷ []

abbrev pub shifts : List ℕ
shifts = DW_OP_shl ∷ DW_OP_shr ∷ DW_OP_shra ∷ []

-- whether an operation pushes a constant, and whether that is a count of a shift, from 0 to 31
abbrev pub is_constant : Operation → Bool
is_constant o = is_literal o.opcode || is_one_of constants o.opcode

abbrev pub is_count : Option Operation → Bool
is_count None = false
is_count (Some o) = is_literal o.opcode || (is_one_of constants o.opcode && nat_lt o.first 32)

-- Whether operations are among these, the last of them behind a given one: each shift stands behind its count, and the mark of a
-- value stands last.
abbrev pub keep_low_bits : Option Operation → List Operation → Bool
keep_low_bits before [] = true
keep_low_bits before (o ∷ os) =
    (is_constant o || is_one_of low_operations o.opcode || (is_one_of shifts o.opcode && is_count before) || ((o.opcode == DW_OP_stack_value) && (length os == 0)))
    && keep_low_bits (Some o) os

-- ---- the frame base

-- the local of a frame base that is one local
abbrev pub local_of : List Part → Option ℕ
local_of (local label trailing ∷ []) = Some label
local_of _ = None

abbrev pub local_of_base : Option CompiledParts → Option ℕ
local_of_base None = None
local_of_base (Some x) = local_of x.parts

-- a frame base, where one is given, is one local
abbrev pub is_base_plain : Option CompiledParts → Bool
is_base_plain None = true
is_base_plain (Some x) = is_some (local_of x.parts)

-- In WebAssembly an expression of the old format begins with the frame base on the stack.
abbrev pub stack_behind : WasmState → Option ℕ → List Part → Result (List ℕ) Stop
stack_behind w base [] = Ok []
stack_behind w base (p ∷ ps) = base_read w base >>= λ a. Ok (a ∷ [])

abbrev pub first_stack : WasmState → Option CompiledParts → List Operation → Result (List ℕ) Stop
first_stack w base os = stack_behind w (local_of_base base) (old_format base os)

-- the stack in WebAssembly after the first so many operations of an expression
abbrev pub wasm_stack : WasmState → Option CompiledParts → List Operation → ℕ → Result (List ℕ) Stop
wasm_stack w base os count = first_stack w base os >>= wasm_run w (local_of_base base) (take count os)

-- ---- moments that belong together

-- the labels whose values parts hold
abbrev pub label_of_local : Part → Option ℕ
label_of_local (local label trailing) = Some label
label_of_local _ = None

-- the value of a label is there, and its low 32 bits are the local
pub record IsLocal (n : NativeState) (s : Setting) (w : WasmState) (label : ℕ) : Type 0 where
  pub value : ℕ
  pub native : value_of_label n s label ≡ Ok value
  pub wasm : w.local_value label ≡ Some (value % 2 ^ 32)

-- linear memory lies in native memory from its base on
pub record LiesAtBase (n : NativeState) (s : Setting) (w : WasmState) : Type 0 where
  pub base : ℕ
  pub is_base : memory_base n s ≡ Ok base
  pub lies : (address : ℕ) → address < length w.memory → n.byte ((base + address) % 2 ^ 64) ≡ slice_get w.memory address

-- each read is of an address of which eight bytes are inside linear memory
abbrev pub ReadsInside : WasmState → Option CompiledParts → List Operation → Type 0
ReadsInside w base os =
    (count : ℕ) (o : Operation) (address : ℕ) (stack : List ℕ) → slice_get os count ≡ Some o → o.opcode ≡ DW_OP_deref → wasm_stack w base os count ≡ Ok (address ∷ stack) → address + 8 ≤ length w.memory

-- An expression has a meaning to keep, in a native moment and one of WebAssembly that belong together: the target is
-- little-endian with addresses of eight bytes, the expression is of the kind above, it runs in WebAssembly and leaves a result.
pub record HasMeaning (n : NativeState) (s : Setting) (w : WasmState) (base : Option CompiledParts) (bytes : List ℕ) (x : CompiledParts) : Type 0 where
  pub order : n.order ≡ Little
  pub addresses : n.pointer_bytes ≡ 8
  pub base_plain : is_base_plain base ≡ true
  pub of_bytes : compiled base bytes ≡ Ok (Some x)
  pub kind : keep_low_bits None (operations bytes).items ≡ true
  pub result : ℕ
  pub others : List ℕ
  pub runs : wasm_stack w base (operations bytes).items (length (operations bytes).items) ≡ Ok (result ∷ others)
  pub locals : All (IsLocal n s w) (filter_map label_of_local x.parts)
  pub memory : reads_memory x ≡ true → LiesAtBase n s w
  pub reads : ReadsInside w base (operations bytes).items
  pub memory_of_bytes : list_all (λ b. nat_lt b 256) w.memory ≡ true
