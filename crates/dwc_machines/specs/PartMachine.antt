-- How the parts of an expression run: what an expression means on native code, before it has bytes. (DWARF 4 and 5, section
-- 2.5.1, with parts of this project's own.)
use Rattle.std.specs.Prelude.{ℕ, suc, ◌+◌, ◌^◌, ◌%◌, ◌==◌, pos, List, [], ◌∷◌, drop, Bool, true, false, if◌then◌else◌, slice_get, Option, option_map, Some, None, Result, Ok, Err, ok_or}
use Rattle.dwc_base.specs.declared.records.Endian.TheVariants.{Little}
use Rattle.dwc_base.specs.Reading.{Unread, ◌>>=◌}
use Rattle.dwc_base.specs.Spelling.{unread_at}
use Rattle.dwc_native.specs.Compiled.{Place, in_register, at_frame_offset, Memory, no_memory, defined, imported}
use Rattle.dwc_dwarf.specs.Operations.{Operation}
use Rattle.dwc_native.specs.Parts.{Part, code, local, dereference, jump, landing_pad, context_label}
use Rattle.dwc_native.specs.Built.{Setting, register_number}
use Rattle.dwc_machines.specs.StackOperations.{Stop, cut_short, not_known, jumps_out, wrapped}
use Rattle.dwc_machines.specs.NativeStates.{NativeState, Evaluation, at_first, register_read, number_behind, pushed, popping}
use Rattle.dwc_machines.specs.ByteMachine.{NativeRule, native_rule, decoded, performed, stepped}

-- ---- values of labels, and the base of linear memory

-- the value at a place; what has no place is cut short
abbrev pub value_at_place : NativeState → Setting → Option Place → Result ℕ Stop
value_at_place n s None = Err cut_short
value_at_place n s (Some (in_register r)) = register_read n (register_number s r)
value_at_place n s (Some (at_frame_offset offset)) = number_behind n offset n.frame

-- the value of a label
abbrev pub value_of_label : NativeState → Setting → ℕ → Result ℕ Stop
value_of_label n s label = value_at_place n s (s.place label)

-- the base of linear memory, from the value of the context
abbrev pub base_from : NativeState → Memory → ℕ → Result ℕ Stop
base_from n no_memory context = Err cut_short
base_from n (defined o) context = number_behind n (pos o) context
base_from n (imported a b) context = number_behind n (pos a) context >>= number_behind n (pos b)

-- where linear memory begins
abbrev pub memory_base : NativeState → Setting → Result ℕ Stop
memory_base n s = value_of_label n s context_label >>= base_from n s.memory

-- an address in linear memory, its low 32 bits, as one of the native code
abbrev pub native_address : NativeState → ℕ → ℕ → ℕ
native_address n base address = wrapped n.pointer_bytes (base + address % 2 ^ 32)

-- ---- the machine

-- Where a machine is: at a part, and at a place inside one that is bytes; and what it has made.
pub record PartState : Type 0 where
  pub part : ℕ
  pub inside : ℕ
  pub made : Evaluation

-- at the begin of a part
abbrev pub at_part : ℕ → Evaluation → PartState
at_part part v = record { part = part; inside = 0; made = v }

-- whether a part is the landing pad of a place
abbrev pub is_pad_of : ℕ → Part → Bool
is_pad_of place (landing_pad other) = other == place
is_pad_of place _ = false

-- the number of the first landing pad of a place
abbrev pub pad_number : ℕ → List Part → Option ℕ
pad_number place [] = None
pad_number place (p ∷ ps) = if is_pad_of place p then Some 0 else option_map suc (pad_number place ps)

-- a jump to there
abbrev pub landed : List Part → ℕ → Evaluation → Result PartState Stop
landed ps place v = ok_or (pad_number place ps) jumps_out >>= λ part. Ok (at_part part v)

-- behind an operation of a part that is bytes, which may be its last
abbrev pub behind_operation : ℕ → ℕ → List ℕ → Evaluation → PartState
behind_operation part place [] v = at_part (suc part) v
behind_operation part place (b ∷ bs) v = record { part = part; inside = place; made = v }

-- an operation of a part that is bytes, by its rule
abbrev pub after_operation : NativeState → ℕ → Evaluation → Operation × Unread → Option NativeRule → Result PartState Stop
after_operation n part v o None = Err not_known
after_operation n part v o (Some rule) = performed n rule o.0.first o.0.second v >>= λ made. Ok (behind_operation part o.1.place o.1.left made)

-- the state after a part, or after an operation of it
abbrev pub after_part : NativeState → Setting → List Part → PartState → Part → Result PartState Stop
after_part n s ps at (code c) = decoded (unread_at Little at.inside (drop at.inside c)) >>= λ o. after_operation n at.part at.made o (native_rule o.0.opcode)
after_part n s ps at (local label trailing) = value_of_label n s label >>= λ value. Ok (at_part (suc at.part) (pushed at.made value))
after_part n s ps at dereference = memory_base n s >>= λ base. popping at.made (λ address rest. Ok (at_part (suc at.part) (pushed rest (native_address n base address))))
after_part n s ps at (jump false place) = landed ps place at.made
after_part n s ps at (jump true place) = popping at.made (λ top rest. if top == 0 then Ok (at_part (suc at.part) rest) else landed ps place rest)
after_part n s ps at (landing_pad place) = Ok (at_part (suc at.part) at.made)

-- One step: an operation of a part that is bytes, or another part. There is none behind the last part.
unfoldable pub part_step : NativeState → Setting → List Part → PartState → Result PartState Stop
part_step n s ps at = ok_or (slice_get ps at.part) cut_short >>= after_part n s ps at

-- the state of the machine after so many steps from the first part on
abbrev pub part_steps : NativeState → Setting → List Part → ℕ → Result PartState Stop
part_steps n s ps count = stepped (part_step n s ps) count (at_part 0 at_first)
