-- How the bytes of an expression run in a moment of native code: the stack machine of the standard. (DWARF 4 and 5, sections 2.5.1
-- and 2.6.1; numbers in operands are little-endian, as they are built.)
use Rattle.std.specs.Prelude.{ℕ, zero, suc, ◌+◌, ◌-◌, ◌*◌, ◌^◌, ◌==◌, ℤ, pos, nat_abs, List, [], ◌∷◌, ◌++◌, length, drop, Bool, true, false, nat_lt, nat_le, int_lt, int_le, not, ◌&&◌, ◌||◌, if◌then◌else◌, Option, Some, None, is_some, option_map, Result, Ok, Err}
use Rattle.dwc_base.specs.declared.records.Endian.TheVariants.{Little}
use Rattle.dwc_base.specs.Reading.{Unread, Read, ◌>>=◌, coded, number_at, uleb_value}
use Rattle.dwc_base.specs.Listing.{Listing, Next, at_end, walk}
use Rattle.dwc_dwarf.specs.Values.{variable}
use Rattle.dwc_base.specs.Spelling.{unread_at}
use Rattle.dwc_dwarf.specs.Operations.{unsigned, signed, Operands, one, two, operands_of, operands_at, Operation, bytes_read as bytes_taken, met_operation, target}
use Rattle.dwc_base.specs.declared.constants.TheConstants.{DW_OP_deref, DW_OP_bra, DW_OP_skip, DW_OP_breg0, DW_OP_fbreg, DW_OP_bregx, DW_OP_piece, DW_OP_deref_size, DW_OP_bit_piece, DW_OP_stack_value}
use Rattle.dwc_machines.specs.StackOperations.{Stop, cut_short, not_known, jumps_out, wrapped, StackRule, stack_rule, by_rule}
use Rattle.dwc_machines.specs.NativeStates.{NativeState, Evaluation, at_first, register_read, number_read, with_stack, pushed, popping}

-- ---- the operations

-- What an operation does: something to the stack alone; it pushes the value of a register, of the one of its first operand, or the
-- frame address, with an offset; it reads an address, or so many bytes, at the top; it jumps, on a condition or not; it marks the
-- result as a value; or it makes a piece of so many bytes or bits.
pub data NativeRule : Type 0 where
  on_stack_alone : StackRule → NativeRule
  from_register : ℕ → NativeRule
  from_any_register : NativeRule
  from_frame : NativeRule
  reads_address : NativeRule
  reads_bytes : NativeRule
  jumps : Bool → NativeRule
  marks_value : NativeRule
  makes_piece : NativeRule
  makes_bit_piece : NativeRule

abbrev pub native_rules : List (ℕ × NativeRule)
native_rules =
    (DW_OP_bregx, from_any_register) ∷ (DW_OP_fbreg, from_frame) ∷ (DW_OP_deref, reads_address) ∷ (DW_OP_deref_size, reads_bytes) ∷ (DW_OP_bra, jumps true) ∷ (DW_OP_skip, jumps false)
    ∷ (DW_OP_stack_value, marks_value) ∷ (DW_OP_piece, makes_piece) ∷ (DW_OP_bit_piece, makes_bit_piece) ∷ []

-- whether an operation has a register's number in its code
abbrev pub is_based : ℕ → Bool
is_based opcode = nat_le DW_OP_breg0 opcode && nat_lt opcode (DW_OP_breg0 + 32)

-- the rule of an operation that is known
abbrev pub rule_beside : Option NativeRule → Option StackRule → Option NativeRule
rule_beside None on_stack = option_map on_stack_alone on_stack
rule_beside (Some rule) on_stack = Some rule

abbrev pub native_rule : ℕ → Option NativeRule
native_rule opcode = if is_based opcode then Some (from_register (opcode - DW_OP_breg0)) else rule_beside (coded native_rules opcode) (stack_rule opcode)

-- its operands
abbrev pub native_operands : ℕ → Option Operands
native_operands opcode = if is_based opcode then Some (one (signed variable)) else (if opcode == DW_OP_bregx then Some (two (unsigned variable) (signed variable)) else operands_of opcode)

-- the operation at the front
unfoldable pub native_operation_at : Unread → Read Operation
native_operation_at u = do
  opcode ← number_at 1 u
  operands ← operands_at (native_operands opcode.0) opcode.1
  Ok (record { place = u.place; opcode = opcode.0; bytes = bytes_taken u operands.1; first = operands.0.0; second = operands.0.1 }, operands.1)

-- the operations of bytes in order, up to the first that cannot be read
unfoldable pub next_native_operation : Unread → Next Unread ℕ Operation
next_native_operation u = elim (length u.left == 0) [ true ↦ at_end | false ↦ met_operation u.place (native_operation_at u) ]

unfoldable pub native_operations_from : Unread → Listing ℕ Operation
native_operations_from u = walk (λ v. length v.left) next_native_operation u

abbrev pub native_operations : List ℕ → Listing ℕ Operation
native_operations bytes = native_operations_from (unread_at Little 0 bytes)

-- whether an operation is known, and names a register of 16 bits if it names one by an operand
abbrev pub is_known : ℕ → ℕ → Bool
is_known opcode first = is_some (native_rule opcode) && not ((opcode == DW_OP_bregx) && nat_le (2 ^ 16) first)

-- whether the first bytes of an operation that is cut short make it one that is not known
abbrev pub is_no_register : Option (ℕ × ℕ) → Bool
is_no_register None = false
is_no_register (Some n) = nat_le (2 ^ 16) n.0 && nat_lt n.0 (2 ^ 64)

abbrev pub is_unknown_early : List ℕ → Bool
is_unknown_early [] = false
is_unknown_early (opcode ∷ bytes) = not (is_some (native_rule opcode)) || ((opcode == DW_OP_bregx) && is_no_register (uleb_value bytes))

abbrev pub met : List ℕ → Read Operation → Result (Operation × Unread) Stop
met bytes (Ok o) = if is_known o.0.opcode o.0.first then Ok o else Err not_known
met bytes (Err flaw) = Err (if is_unknown_early bytes then not_known else cut_short)

-- The operation at the front, if it is known and whole.
unfoldable pub decoded : Unread → Result (Operation × Unread) Stop
decoded u = met u.left (native_operation_at u)

-- ---- what they do

-- what so many bytes at the top spell, in its place
abbrev pub loaded : NativeState → ℕ → Evaluation → Result Evaluation Stop
loaded n size v = popping v (λ address rest. number_read n size address >>= λ value. Ok (pushed rest value))

-- a register's value with an offset, which may be negative modulo 2 ^ 64
abbrev pub based : NativeState → ℕ → ℕ → Evaluation → Result Evaluation Stop
based n r offset v = register_read n r >>= λ value. Ok (pushed v (wrapped n.pointer_bytes (value + offset)))

-- a piece is made of the stack and the mark, which are then as at first
abbrev pub pieced : ℕ → ℕ → Evaluation → Evaluation
pieced size offset v = record { stack = []; pieces = v.pieces ++ record { size = size; offset = offset; stack = v.stack; is_value = v.is_value } ∷ []; is_value = false }

-- What an operation that does not jump makes, by its rule and its operands.
abbrev pub performed : NativeState → NativeRule → ℕ → ℕ → Evaluation → Result Evaluation Stop
performed n (on_stack_alone rule) first second v = by_rule n.pointer_bytes first rule v.stack >>= λ s. Ok (with_stack v s)
performed n (from_register r) first second v = based n r first v
performed n from_any_register first second v = based n first second v
performed n from_frame first second v = Ok (pushed v (wrapped n.pointer_bytes (n.frame + first)))
performed n reads_address first second v = loaded n n.pointer_bytes v
performed n reads_bytes first second v = loaded n first v
performed n (jumps conditionally) first second v = Err not_known
performed n marks_value first second v = Ok (record v { is_value = true })
performed n makes_piece first second v = Ok (pieced (8 * first) 0 v)
performed n makes_bit_piece first second v = Ok (pieced first second v)

-- ---- the machine

-- where a machine is in the bytes, and what it has made
pub record ByteState : Type 0 where
  pub place : ℕ
  pub made : Evaluation

-- a jump stays in the bytes
abbrev pub jumped : ℕ → ℤ → Evaluation → Result ByteState Stop
jumped size place v = if not (int_lt place (pos 0)) && int_le place (pos size) then Ok (record { place = nat_abs place; made = v }) else Err jumps_out

-- one on a condition is taken where the top is not 0
abbrev pub jumped_if : ℕ → ℤ → ℕ → Evaluation → Result ByteState Stop
jumped_if size place behind v = popping v (λ top rest. if top == 0 then Ok (record { place = behind; made = rest }) else jumped size place rest)

abbrev pub by_native_rule : NativeState → ℕ → Evaluation → Operation × Unread → Option NativeRule → Result ByteState Stop
by_native_rule n size v o None = Err not_known
by_native_rule n size v o (Some (jumps false)) = jumped size (target o.0) v
by_native_rule n size v o (Some (jumps true)) = jumped_if size (target o.0) o.1.place v
by_native_rule n size v o (Some rule) = performed n rule o.0.first o.0.second v >>= λ made. Ok (record { place = o.1.place; made = made })

-- One step: the operation at the place where the machine is. At the end of the bytes there is none, as where one is cut short.
unfoldable pub byte_step : NativeState → List ℕ → ByteState → Result ByteState Stop
byte_step n bytes s = decoded (unread_at Little s.place (drop s.place bytes)) >>= λ o. by_native_rule n (length bytes) s.made o (native_rule o.0.opcode)

-- so many steps, one after another
abbrev pub stepped : {S : Type 0} → (S → Result S Stop) → ℕ → S → Result S Stop
stepped step zero s = Ok s
stepped step (suc count) s = stepped step count s >>= step

-- the state of the machine after so many steps from the first byte on
abbrev pub byte_steps : NativeState → List ℕ → ℕ → Result ByteState Stop
byte_steps n bytes count = stepped (byte_step n bytes) count (record { place = 0; made = at_first })
