-- The numbers of an operation are read from a front of the bytes.
use Rattle.std.proofs.Common.{◌≡◌, ℕ, refl, List, Option, Some, None, Ok, Err}
use Rattle.std.specs.Int.{w64, cast_unsigned}
use Rattle.dwc_base.specs.Reading.{Unread, Read, ◌>>=◌, coded, seen_as, number_at, sleb_at}
use Rattle.dwc_dwarf.specs.Values.{Size, fixed, variable, sized_number_at}
use Rattle.dwc_dwarf.specs.Operations.{Operand, unsigned, signed, Operands, one, two, wasm_location, operands_of, index_table, sign_extended, operand_at, index_at, wasm_location_at, operands_at, Operation, bytes_read as bytes_taken, operation_at}
use Rattle.dwc_machines.specs.ByteMachine.{native_operands, native_operation_at}
use Rattle.dwc_expr.proofs.Meaning.TakenBytes.{TakesFront, takes-seen, takes-nothing, takes-behind, takes-number}
use Rattle.dwc_expr.proofs.Meaning.TakenLeb.{takes-uleb, takes-sleb}

-- ---- operands

takes-sized : (size : Size) → TakesFront (sized_number_at size)
unfolding sized_number_at
takes-sized (fixed size) = takes-number size
takes-sized variable = takes-uleb

takes-operand : (o : Operand) → TakesFront (operand_at o)
unfolding operand_at
takes-operand (unsigned size) = takes-sized size
takes-operand (signed (fixed size)) = takes-seen (sign_extended size) (number_at size) (takes-number size)
takes-operand (signed variable) = takes-seen (cast_unsigned w64) sleb_at takes-sleb

takes-index : (kind : ℕ) (o : Option Operand) → TakesFront (index_at kind o)
unfolding index_at
takes-index kind None = takes-nothing (kind, 0)
takes-index kind (Some operand) = takes-seen (λ index. (kind, index)) (operand_at operand) (takes-operand operand)

pub takes-operands : (os : Option Operands) → TakesFront (operands_at os)
unfolding operands_at wasm_location_at
takes-operands None = takes-nothing (0, 0)
takes-operands (Some (one operand)) = takes-seen (λ first. (first, 0)) (operand_at operand) (takes-operand operand)
takes-operands (Some (two operand other)) =
    takes-behind (operand_at operand) (λ first u. seen_as (λ second. (first, second)) (operand_at other u)) (takes-operand operand)
    (λ first. takes-seen (λ second. (first, second)) (operand_at other) (takes-operand other))
takes-operands (Some wasm_location) = takes-behind (number_at 1) (λ kind u. index_at kind (coded index_table kind) u) (takes-number 1) (λ kind. takes-index kind (coded index_table kind))

-- ---- operations

-- the code and the operands of an operation, by a table of operands
abbrev pub numbers_at : (ℕ → Option Operands) → Unread → Read (ℕ × ℕ × ℕ)
numbers_at table u = number_at 1 u >>= λ opcode. seen_as (λ operands. (opcode.0, operands.0, operands.1)) (operands_at (table opcode.0) opcode.1)

pub takes-numbers : (table : ℕ → Option Operands) → TakesFront (numbers_at table)
takes-numbers table =
    takes-behind (number_at 1) (λ opcode u. seen_as (λ operands. (opcode, operands.0, operands.1)) (operands_at (table opcode) u)) (takes-number 1)
    (λ opcode. takes-seen (λ operands. (opcode, operands.0, operands.1)) (operands_at (table opcode)) (takes-operands (table opcode)))

-- the operation of some numbers
abbrev pub operation_of : ℕ → List ℕ → ℕ × ℕ × ℕ → Operation
operation_of place bytes n = record { place = place; opcode = n.0; bytes = bytes; first = n.1; second = n.2 }

abbrev pub made : Unread → Read (ℕ × ℕ × ℕ) → Read Operation
made u (Ok n) = Ok (operation_of u.place (bytes_taken u n.1) n.0, n.1)
made u (Err flaw) = Err flaw

pub native-made : (u : Unread) → native_operation_at u ≡ made u (numbers_at native_operands u)
unfolding native_operation_at
native-made u = go (number_at 1 u)
  where
    inner : (opcode : ℕ) (r : Read (ℕ × ℕ)) → (r >>= λ operands. Ok (operation_of u.place (bytes_taken u operands.1) (opcode, operands.0.0, operands.0.1), operands.1)) ≡ made u (seen_as (λ operands. (opcode, operands.0, operands.1)) r)
    inner opcode (Ok n) = refl
    inner opcode (Err flaw) = refl

    go : (r : Read ℕ) → (r >>= λ opcode. operands_at (native_operands opcode.0) opcode.1 >>= λ operands. Ok (operation_of u.place (bytes_taken u operands.1) (opcode.0, operands.0.0, operands.0.1), operands.1)) ≡ made u (r >>= λ opcode. seen_as (λ operands. (opcode.0, operands.0, operands.1)) (operands_at (native_operands opcode.0) opcode.1))
    go (Ok opcode) = inner opcode.0 (operands_at (native_operands opcode.0) opcode.1)
    go (Err flaw) = refl

pub input-made : (u : Unread) → operation_at u ≡ made u (numbers_at operands_of u)
unfolding operation_at
input-made u = go (number_at 1 u)
  where
    inner : (opcode : ℕ) (r : Read (ℕ × ℕ)) → (r >>= λ operands. Ok (operation_of u.place (bytes_taken u operands.1) (opcode, operands.0.0, operands.0.1), operands.1)) ≡ made u (seen_as (λ operands. (opcode, operands.0, operands.1)) r)
    inner opcode (Ok n) = refl
    inner opcode (Err flaw) = refl

    go : (r : Read ℕ) → (r >>= λ opcode. operands_at (operands_of opcode.0) opcode.1 >>= λ operands. Ok (operation_of u.place (bytes_taken u operands.1) (opcode.0, operands.0.0, operands.0.1), operands.1)) ≡ made u (r >>= λ opcode. seen_as (λ operands. (opcode.0, operands.0, operands.1)) (operands_at (operands_of opcode.0) opcode.1))
    go (Ok opcode) = inner opcode.0 (operands_at (operands_of opcode.0) opcode.1)
    go (Err flaw) = refl
