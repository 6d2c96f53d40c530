-- Built bytes run as the parts that they were built from. (A law on the definitions of both machines.)
use Rattle.std.specs.Prelude.{◌≡◌, ℕ, zero, suc, ◌+◌, ◌<◌, ◌≤◌, ◌^◌, pos, List, [], ◌∷◌, length, take, sum_by, Bool, true, false, nat_lt, ◌&&◌, slice_get, Option, Some, None, Result, Ok, Err, is_err}
use Rattle.std.specs.List.{list_all}
use Rattle.dwc_base.specs.Reading.{is_64_bit}
use Rattle.dwc_dwarf.specs.Values.{is_one_of}
use Rattle.dwc_native.specs.Compiled.{Place, in_register, at_frame_offset, Memory, no_memory, defined, imported}
use Rattle.dwc_native.specs.Parts.{Part, code, local, dereference, context_label}
use Rattle.dwc_native.specs.Built.{Setting, part_bytes, part_length, built_bytes, jumps_fit}
use Rattle.dwc_machines.specs.StackOperations.{Stop}
use Rattle.dwc_machines.specs.NativeStates.{NativeState}
use Rattle.dwc_machines.specs.ByteMachine.{native_operations, ByteState, byte_step, byte_steps}
use Rattle.dwc_machines.specs.PartMachine.{PartState, part_step, part_steps}
use Rattle.dwc_expr.specs.WholeParts.{are_whole}

-- ---- the premises

-- a label has a place: in a register with a number of 16 bits, or at an offset of 64 bits
abbrev pub has_number : Option ℕ → Bool
has_number None = false
has_number (Some r) = nat_lt r (2 ^ 16)

abbrev pub is_at_place : (ℕ → Option ℕ) → Option Place → Bool
is_at_place register None = false
is_at_place register (Some (in_register r)) = has_number (register r)
is_at_place register (Some (at_frame_offset offset)) = is_64_bit offset

abbrev pub has_place : Setting → ℕ → Bool
has_place s label = is_at_place s.register (s.place label)

-- there is a linear memory, at offsets of 32 bits
abbrev pub has_memory : Memory → Bool
has_memory no_memory = false
has_memory (defined o) = nat_lt o (2 ^ 32)
has_memory (imported a b) = nat_lt a (2 ^ 32) && nat_lt b (2 ^ 32)

-- what a part needs is there
abbrev pub is_set : Setting → Part → Bool
is_set s (local label trailing) = has_place s label
is_set s dereference = has_memory s.memory && has_place s context_label
is_set s _ = true

-- Parts can run: they are whole, what they need is there, each jump fits, and addresses have 4 or 8 bytes.
pub record CanRun (n : NativeState) (s : Setting) (ps : List Part) : Type 0 where
  pub whole : are_whole ps ≡ true
  pub set : list_all (is_set s) ps ≡ true
  pub fit : jumps_fit s ps ≡ true
  pub addresses : is_one_of (4 ∷ 8 ∷ []) n.pointer_bytes ≡ true

-- ---- what stands for what

-- where in the bytes a part begins
abbrev pub part_offset : Setting → List Part → ℕ → ℕ
part_offset s ps part = sum_by (part_length s) (take part ps)

-- the place there that a state of the parts stands for
abbrev pub byte_place : Setting → List Part → PartState → ℕ
byte_place s ps at = part_offset s ps at.part + at.inside

abbrev pub byte_state : Setting → List Part → PartState → ByteState
byte_state s ps at = record { place = byte_place s ps at; made = at.made }

-- how many operations bytes are
abbrev pub count_operations : List ℕ → ℕ
count_operations bytes = length (native_operations bytes).items

-- how many operations a step from a part stands for
abbrev pub operations_of_step : Setting → Option Part → ℕ
operations_of_step s None = 0
operations_of_step s (Some (code c)) = 1
operations_of_step s (Some p) = count_operations (part_bytes s (pos 0) p)

-- those of the step from a state
abbrev pub operations_from : Setting → List Part → Result PartState Stop → ℕ
operations_from s ps (Err stop) = 0
operations_from s ps (Ok at) = operations_of_step s (slice_get ps at.part)

-- those of so many steps
abbrev pub operations_stepped : NativeState → Setting → List Part → ℕ → ℕ
operations_stepped n s ps zero = 0
operations_stepped n s ps (suc count) = operations_stepped n s ps count + operations_from s ps (part_steps n s ps count)

-- ---- the law

-- The machine on bytes, some steps on from a number of steps, stands in a part's bytes and stops there.
pub record StopsWithin (n : NativeState) (s : Setting) (ps : List Part) (bytes : List ℕ) (part before : ℕ) : Type 0 where
  pub more : ℕ
  pub at : ByteState
  pub reached : byte_steps n bytes (before + more) ≡ Ok at
  pub stops : is_err (byte_step n bytes at) ≡ true
  pub behind_begin : part_offset s ps part ≤ at.place
  pub before_end : at.place < part_offset s ps (suc part)

-- Bytes run as parts: after each number of steps of the parts the bytes, after the operations of those steps, are at the place
-- that stands for where the parts are, with the same stack, pieces and mark; where the parts stop, the bytes stop inside that
-- part's bytes; and where the parts end, the bytes do.
pub record RunsAlike (n : NativeState) (s : Setting) (ps : List Part) (bytes : List ℕ) : Type 0 where
  pub steps : (count : ℕ) (at : PartState) → part_steps n s ps count ≡ Ok at → byte_steps n bytes (operations_stepped n s ps count) ≡ Ok (byte_state s ps at)
  pub stops : (count : ℕ) (at : PartState) → part_steps n s ps count ≡ Ok at → is_err (part_step n s ps at) ≡ true → at.part < length ps → StopsWithin n s ps bytes at.part (operations_stepped n s ps count)
  pub ends : part_offset s ps (length ps) ≡ length bytes

-- The law: built bytes run as their parts.
abbrev pub BuiltBytesRunAlike : Type 0
BuiltBytesRunAlike = (n : NativeState) (s : Setting) (ps : List Part) → CanRun n s ps → RunsAlike n s ps (built_bytes s ps)
