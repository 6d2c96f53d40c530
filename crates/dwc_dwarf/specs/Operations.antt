-- Operations of expressions, one after another, with their operands. Numbers of fixed size are little-endian, as WebAssembly is.
-- (DWARF 4 and 5, sections 2.5, 7.7.1 and 7.6; `DW_OP_WASM_location` by the conventions of WebAssembly's tools.)
use Rattle.std.specs.Prelude.{ℕ, ◌+◌, ◌-◌, ◌*◌, ◌^◌, ◌==◌, ℤ, pos, ◌+ℤ◌, List, [], ◌∷◌, length, take, true, false, nat_lt, if◌then◌else◌, Option, Some, None, Ok, Err}
use Rattle.std.specs.Int.{w64, cast_signed, cast_unsigned}
use Rattle.dwc_base.specs.declared.records.Endian.TheVariants.{Little}
use Rattle.dwc_base.specs.declared.faults.What.TheVariants.{Expression as ExpressionRead}
use Rattle.dwc_base.specs.declared.section_name.SectionName.TheVariants.{Info}
use Rattle.dwc_base.specs.Sections.{Fault, unreadable}
use Rattle.dwc_base.specs.Reading.{Unread, Read, ◌>>=◌, seen_as, coded, number_at, sleb_at}
use Rattle.dwc_base.specs.Listing.{Listing, Next, at_end, broken, item, walk}
use Rattle.dwc_dwarf.specs.Values.{Size, fixed, variable, sized_number_at}
use Rattle.dwc_base.specs.Spelling.{unread_at}
use Rattle.dwc_base.specs.declared.constants.TheConstants.{DW_OP_const1u, DW_OP_const1s, DW_OP_const2u, DW_OP_const2s, DW_OP_const4u, DW_OP_const4s, DW_OP_const8u, DW_OP_const8s, DW_OP_constu, DW_OP_consts, DW_OP_pick, DW_OP_plus_uconst, DW_OP_bra, DW_OP_skip, DW_OP_fbreg, DW_OP_piece, DW_OP_deref_size, DW_OP_xderef_size, DW_OP_bit_piece, DW_OP_WASM_location}

-- how an operand is spelled: without a sign, or with one
pub data Operand : Type 0 where
  unsigned : Size → Operand
  signed : Size → Operand

-- the operands of an operation: one, two, or a location in WebAssembly
pub data Operands : Type 0 where
  one : Operand → Operands
  two : Operand → Operand → Operands
  wasm_location : Operands

-- the operands of the operations that have some, by their codes
abbrev pub operand_table : List (ℕ × Operands)
operand_table =
    (DW_OP_const1u, one (unsigned (fixed 1))) ∷ (DW_OP_const1s, one (signed (fixed 1))) ∷ (DW_OP_const2u, one (unsigned (fixed 2))) ∷ (DW_OP_const2s, one (signed (fixed 2)))
    ∷ (DW_OP_const4u, one (unsigned (fixed 4))) ∷ (DW_OP_const4s, one (signed (fixed 4))) ∷ (DW_OP_const8u, one (unsigned (fixed 8))) ∷ (DW_OP_const8s, one (signed (fixed 8)))
    ∷ (DW_OP_constu, one (unsigned variable)) ∷ (DW_OP_consts, one (signed variable)) ∷ (DW_OP_pick, one (unsigned (fixed 1))) ∷ (DW_OP_plus_uconst, one (unsigned variable))
    ∷ (DW_OP_bra, one (signed (fixed 2))) ∷ (DW_OP_skip, one (signed (fixed 2))) ∷ (DW_OP_fbreg, one (signed variable)) ∷ (DW_OP_piece, one (unsigned variable))
    ∷ (DW_OP_deref_size, one (unsigned (fixed 1))) ∷ (DW_OP_xderef_size, one (unsigned (fixed 1))) ∷ (DW_OP_bit_piece, two (unsigned variable) (unsigned variable)) ∷ (DW_OP_WASM_location, wasm_location) ∷ []

-- the operands of an operation by its code; any other code stands alone
abbrev pub operands_of : ℕ → Option Operands
operands_of opcode = coded operand_table opcode

-- what follows the kind of a location in WebAssembly: the index of a local, of a global, or of a place on the operand stack; or
-- that of a global in four bytes. Any other kind stands alone.
abbrev pub index_table : List (ℕ × Operand)
index_table = (0, unsigned variable) ∷ (1, unsigned variable) ∷ (2, unsigned variable) ∷ (3, unsigned (fixed 4)) ∷ []

-- ---- operands

-- a number of some bytes as a signed one, modulo 2 ^ 64
abbrev pub sign_extended : ℕ → ℕ → ℕ
sign_extended size n = if nat_lt n (2 ^ (8 * size - 1)) then n else n + (2 ^ 64 - 2 ^ (8 * size))

-- an operand, a signed one modulo 2 ^ 64
unfoldable pub operand_at : Operand → Unread → Read ℕ
operand_at (unsigned size) u = sized_number_at size u
operand_at (signed (fixed size)) u = seen_as (sign_extended size) (number_at size u)
operand_at (signed variable) u = seen_as (cast_unsigned w64) (sleb_at u)

-- the kind of a location and the index behind it, 0 without one
unfoldable pub index_at : ℕ → Option Operand → Unread → Read (ℕ × ℕ)
index_at kind None u = Ok ((kind, 0), u)
index_at kind (Some operand) u = seen_as (λ index. (kind, index)) (operand_at operand u)

-- a location in WebAssembly: its kind, and what follows that
unfoldable pub wasm_location_at : Unread → Read (ℕ × ℕ)
wasm_location_at u = do
  kind ← number_at 1 u
  index_at kind.0 (coded index_table kind.0) kind.1

-- the operands in order, 0 for one that is not there
unfoldable pub operands_at : Option Operands → Unread → Read (ℕ × ℕ)
operands_at None u = Ok ((0, 0), u)
operands_at (Some (one operand)) u = seen_as (λ first. (first, 0)) (operand_at operand u)
operands_at (Some (two operand other)) u = do
  first ← operand_at operand u
  seen_as (λ second. (first.0, second)) (operand_at other first.1)
operands_at (Some wasm_location) u = wasm_location_at u

-- ---- operations

-- An operation: its place in the expression, its code, all its bytes, and its operands in order, 0 for one that it lacks.
pub record Operation : Type 0 where
  pub place : ℕ
  pub opcode : ℕ
  pub bytes : List ℕ
  pub first : ℕ
  pub second : ℕ

-- the bytes that were read from what is unread, up to what is unread behind them
abbrev pub bytes_read : Unread → Unread → List ℕ
bytes_read u v = take (length u.left - length v.left) u.left

-- The operation at the front.
unfoldable pub operation_at : Unread → Read Operation
operation_at u = do
  opcode ← number_at 1 u
  operands ← operands_at (operands_of opcode.0) opcode.1
  Ok (record { place = u.place; opcode = opcode.0; bytes = bytes_read u operands.1; first = operands.0.0; second = operands.0.1 }, operands.1)

-- what a walk over operations meets: a fault is the place of the operation that cannot be read
abbrev pub met_operation : ℕ → Read Operation → Next Unread ℕ Operation
met_operation place (Ok o) = item o.0 o.1
met_operation place (Err flaw) = broken place

-- one step of that walk
unfoldable pub next_operation : Unread → Next Unread ℕ Operation
next_operation u = elim (length u.left == 0) [ true ↦ at_end | false ↦ met_operation u.place (operation_at u) ]

-- the operations of what is unread of an expression, up to the first that cannot be read
unfoldable pub operations_from : Unread → Listing ℕ Operation
operations_from u = walk (λ v. length v.left) next_operation u

-- The operations of an expression in order, up to the first that cannot be read.
abbrev pub operations : List ℕ → Listing ℕ Operation
operations bytes = operations_from (unread_at Little 0 bytes)

-- the fault of an operation for a reader that knows its place in the expression alone
abbrev pub operation_fault : ℕ → Fault
operation_fault place = unreadable ExpressionRead Info place

-- where a jump goes: so many bytes from behind it
abbrev pub target : Operation → ℤ
target o = pos (o.place + length o.bytes) +ℤ cast_signed w64 o.first
