-- Three moments of a process, of examples/values: what gdb tells of them, the value that it prints, and that the machine on bytes
-- gives that value.
use Rattle.std.proofs.Common.{◌≡◌, ℕ, ◌+◌, ◌-◌, ◌^◌, ◌%◌, ℤ, negsuc, List, [], ◌∷◌, ◌++◌, length, map, None, Ok, Err, Bool, true, false, refl}
use Rattle.std.specs.Prelude.{Option, Result, replicate, slice_get, nat_le, nat_lt, ◌&&◌, if◌then◌else◌}
use Rattle.dwc_base.specs.declared.records.Endian.TheVariants.{Little}
use Rattle.dwc_base.specs.Reading.{◌>>=◌, number}
use Rattle.dwc_machines.specs.StackOperations.{Stop, element_missing, as_signed}
use Rattle.dwc_machines.specs.NativeStates.{NativeState, bytes_read}
use Rattle.dwc_machines.specs.ByteMachine.{ByteState, native_operations, byte_steps}
use Rattle.dwc_machines.proofs.OnMachines.{machines_on_literals}

-- ---- moments as they are told

-- so many bytes, from one place among them on, of which all are 0 but for runs of bytes at their places
abbrev pub filled : ℕ → ℕ → List (ℕ × List ℕ) → List ℕ
filled size from [] = replicate (size - from) 0
filled size from ((place, bytes) ∷ runs) = replicate (place - from) 0 ++ bytes ++ filled size (place + length bytes) runs

-- the byte at an address, of bytes that begin at addresses
abbrev pub byte_in : List (ℕ × List ℕ) → ℕ → Option ℕ
byte_in [] address = None
byte_in ((begin, bytes) ∷ regions) address = if nat_le begin address && nat_lt address (begin + length bytes) then slice_get bytes (address - begin) else byte_in regions address

-- The location of a variable, the sixteen general registers, the canonical frame address, and memory; and what gdb prints.
pub record Moment : Type 0 where
  pub expression : List ℕ
  pub registers : List ℕ
  pub frame : ℕ
  pub memory : List (ℕ × List ℕ)
  pub printed : ℤ

abbrev pub state_of : Moment → NativeState
state_of m = record { pointer_bytes = 8; order = Little; register = slice_get m.registers; frame = m.frame; byte = byte_in m.memory }

-- ---- what the machine gives

-- where the machine ends, after as many steps as the bytes are operations
abbrev pub end_of : Moment → Result ByteState Stop
end_of m = byte_steps (state_of m) m.expression (length (native_operations m.expression).items)

-- The value of type int, of 32 bits with a sign: the top where it is the value, or what lies at the address that is the top.
abbrev pub int_of : NativeState → Bool → List ℕ → Result ℤ Stop
int_of n is_value [] = Err element_missing
int_of n true (top ∷ stack) = Ok (as_signed 4 (top % 2 ^ 32))
int_of n false (top ∷ stack) = bytes_read n top 4 >>= λ bytes. Ok (as_signed 4 (number n.order bytes))

abbrev pub value_of : Moment → Result ℤ Stop
value_of m = end_of m >>= λ at. int_of (state_of m) at.made.is_value at.made.stack

abbrev pub ended : ℕ → ℕ → Bool → ByteState
ended place top is_value = record { place = place; made = record { stack = top ∷ []; pieces = []; is_value = is_value } }

-- ---- the moments

-- linear memory, the stack, and the context, which leads to linear memory
abbrev pub memory_at_first : List ℕ
memory_at_first = filled 1024 0 ((1016, 0xb8 ∷ 0x6b ∷ 0x89 ∷ 0xc2 ∷ []) ∷ [])

abbrev pub memory_at_last : List ℕ
memory_at_last = filled 1024 0 ((1016, 0x91 ∷ 0x1d ∷ 0xa5 ∷ 0xbb ∷ []) ∷ [])

abbrev pub context : List ℕ
context = filled 16 0 ((0, 0xf0 ∷ 0x03 ∷ []) ∷ (10, 0x60 ∷ []) ∷ [])

abbrev pub memory_of : List ℕ → List ℕ → List (ℕ × List ℕ)
memory_of linear stack = (6291456, linear) ∷ (7339984, stack) ∷ (5242888, context) ∷ []

abbrev pub stack_at_first : List ℕ
stack_at_first = filled 48 0 ((0, 0x02 ∷ []) ∷ (8, 0x45 ∷ 0x0e ∷ 0x89 ∷ 0xca ∷ []) ∷ (16, 0xf0 ∷ 0x03 ∷ []) ∷ (24, 0x08 ∷ 0x00 ∷ 0x50 ∷ []) ∷ (40, 0xa2 ∷ 0x11 ∷ 0x40 ∷ []) ∷ [])

abbrev pub stack_in_call : List ℕ
stack_in_call = filled 48 0 ((0, 0x02 ∷ []) ∷ (8, 0xfd ∷ 0x79 ∷ 0x12 ∷ 0x8d ∷ 0x01 ∷ 0x00 ∷ 0x00 ∷ 0x00 ∷ 0xf0 ∷ 0x03 ∷ []) ∷ (24, 0x08 ∷ 0x00 ∷ 0x50 ∷ []) ∷ (40, 0xa2 ∷ 0x11 ∷ 0x40 ∷ []) ∷ [])

-- high, of which the local lies in the register rbx: its upper half is not 0
abbrev pub in_register_3 : Moment
in_register_3 = record {
  expression = 0x73 ∷ 0x00 ∷ 0x40 ∷ 0x23 ∷ 0x20 ∷ 0x16 ∷ 0x08 ∷ 0x20 ∷ 0x24 ∷ 0x16 ∷ 0x26 ∷ 0x9f ∷ [];
  registers = 6661765629 ∷ 0 ∷ 3397979717 ∷ 6661765629 ∷ 1016 ∷ 5242888 ∷ 7340016 ∷ 7339984 ∷ 0 ∷ 0 ∷ 0 ∷ 0 ∷ 0 ∷ 0 ∷ 0 ∷ 0 ∷ [];
  frame = 7340032;
  memory = memory_of memory_at_first stack_at_first;
  printed = negsuc 29421;
}

-- the same variable during a call: the local lies in its slot of the frame
abbrev pub in_slot : Moment
in_slot = record {
  expression = 0x91 ∷ 0x58 ∷ 0x06 ∷ 0x40 ∷ 0x23 ∷ 0x20 ∷ 0x16 ∷ 0x08 ∷ 0x20 ∷ 0x24 ∷ 0x16 ∷ 0x26 ∷ 0x9f ∷ [];
  registers = 1016 ∷ 0 ∷ 8 ∷ 1016 ∷ 1016 ∷ 5242888 ∷ 7340016 ∷ 7339984 ∷ 0 ∷ 0 ∷ 0 ∷ 0 ∷ 0 ∷ 0 ∷ 0 ∷ 0 ∷ [];
  frame = 7340032;
  memory = memory_of memory_at_first stack_in_call;
  printed = negsuc 29421;
}

-- made.number, which lies in linear memory, right behind the call
abbrev pub in_memory : Moment
in_memory = record {
  expression = 0x91 ∷ 0x60 ∷ 0x06 ∷ 0x23 ∷ 0x08 ∷ 0x91 ∷ 0x68 ∷ 0x06 ∷ 0x11 ∷ 0x08 ∷ 0x22 ∷ 0x06 ∷ 0x16 ∷ 0x0c ∷ 0xff ∷ 0xff ∷ 0xff ∷ 0xff ∷ 0x1a ∷ 0x22 ∷ [];
  registers = 3148160401 ∷ 0 ∷ 6292472 ∷ 1016 ∷ 1016 ∷ 5242888 ∷ 7340016 ∷ 7339984 ∷ 0 ∷ 0 ∷ 0 ∷ 0 ∷ 0 ∷ 0 ∷ 0 ∷ 0 ∷ [];
  frame = 7340032;
  memory = memory_of memory_at_last stack_in_call;
  printed = negsuc 1146806894;
}

abbrev pub moments : List Moment
moments = in_register_3 ∷ in_slot ∷ in_memory ∷ []

-- the machine ends behind the last byte, with a number of 64 bits that is the value, or with the address of the value
ends : map end_of moments ≡ (Ok (ended 12 18446744073709522194 true)) ∷ (Ok (ended 13 18446744073709522194 true)) ∷ (Ok (ended 20 6292472 false)) ∷ []
unfolding machines_on_literals
ends = refl

-- and the value is the one that gdb prints
same_values : map value_of moments ≡ map (λ m. Ok m.printed) moments
unfolding machines_on_literals
same_values = refl
