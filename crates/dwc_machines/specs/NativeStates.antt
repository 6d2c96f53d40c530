-- A moment of native code, and what a machine that runs an expression in it has made. (DWARF 4 and 5, sections 2.5.1 and 2.6.1.)
use Rattle.std.specs.Prelude.{ℕ, zero, suc, ◌+◌, ℤ, pos, ◌+ℤ◌, List, [], ◌∷◌, Bool, false, Option, Result, Ok, Err, ok_or}
use Rattle.dwc_base.specs.declared.records.Endian.{Endian}
use Rattle.dwc_base.specs.Reading.{◌>>=◌, number}
use Rattle.dwc_machines.specs.StackOperations.{Stop, element_missing, register_missing, byte_missing, wrapped, wrapped_signed}

-- The size of addresses and the order of numbers; registers by their DWARF numbers, the canonical frame address, and memory, as far
-- as they are known.
pub record NativeState : Type 0 where
  pub pointer_bytes : ℕ
  pub order : Endian
  pub register : ℕ → Option ℕ
  pub frame : ℕ
  pub byte : ℕ → Option ℕ

-- a piece of a value: its size and offset in bits, and the stack and mark that it was made from
pub record Piece : Type 0 where
  pub size : ℕ
  pub offset : ℕ
  pub stack : List ℕ
  pub is_value : Bool

-- what a machine has made so far: its stack, the top first, its pieces in order, and whether the result is a value
pub record Evaluation : Type 0 where
  pub stack : List ℕ
  pub pieces : List Piece
  pub is_value : Bool

abbrev pub at_first : Evaluation
at_first = record { stack = []; pieces = []; is_value = false }

-- ---- registers and memory

-- a register's value, as many bytes of it as an address has
abbrev pub register_read : NativeState → ℕ → Result ℕ Stop
register_read n r = ok_or (n.register r) (register_missing r) >>= λ value. Ok (wrapped n.pointer_bytes value)

-- a byte; addresses are taken modulo their size
abbrev pub byte_read : NativeState → ℕ → Result ℕ Stop
byte_read n address = ok_or (n.byte (wrapped n.pointer_bytes address)) (byte_missing (wrapped n.pointer_bytes address))

-- bytes from an address on; the first that is not known stops it
abbrev pub bytes_read : NativeState → ℕ → ℕ → Result (List ℕ) Stop
bytes_read n address zero = Ok []
bytes_read n address (suc count) = byte_read n address >>= λ b. bytes_read n (address + 1) count >>= λ bs. Ok (b ∷ bs)

-- the number of so many bytes that they spell
abbrev pub number_read : NativeState → ℕ → ℕ → Result ℕ Stop
number_read n size address = bytes_read n address size >>= λ bytes. Ok (wrapped n.pointer_bytes (number n.order bytes))

-- the number at an address at a signed offset of another
abbrev pub number_behind : NativeState → ℤ → ℕ → Result ℕ Stop
number_behind n offset address = number_read n n.pointer_bytes (wrapped_signed n.pointer_bytes (pos address +ℤ offset))

-- ---- the stack of an evaluation

abbrev pub with_stack : Evaluation → List ℕ → Evaluation
with_stack v s = record v { stack = s }

abbrev pub pushed : Evaluation → ℕ → Evaluation
pushed v a = with_stack v (a ∷ v.stack)

-- what is done with the top, which is taken away
abbrev pub popping : {A : Type 0} → Evaluation → (ℕ → Evaluation → Result A Stop) → Result A Stop
popping v next = go v.stack v next
  where
    go : {A : Type 0} → List ℕ → Evaluation → (ℕ → Evaluation → Result A Stop) → Result A Stop
    go [] v next = Err element_missing
    go (a ∷ s) v next = next a (with_stack v s)
