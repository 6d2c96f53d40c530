-- Operations of expressions as they are read one at a time. (DWARF 4 and 5, sections 2.5 and 7.7.1.)
use Rattle.std.specs.Prelude.{◌≡◌, ℕ, Option, Some, None, Result, Ok, Err}
use Rattle.dwc_base.specs.Listing.{Listing, no_items, only_fault, with_first}
use Rattle.dwc_base.specs.Sections.{Fault, unreadable, unsupported}
use Rattle.dwc_dwarf.specs.Values.{fixed, variable}
use Rattle.dwc_dwarf.specs.Operations.{unsigned, signed, one, two, wasm_location, operation_fault}
use Rattle.dwc_dwarf.specs.Operations as Definitions
use Rattle.dwc_read.specs.declared.fault.ReadFault.{ReadFault}
use Rattle.dwc_read.specs.Faults.{fault_seen}
use Rattle.dwc_tabs.specs.declared.operation.Operand.{Operand}
use Rattle.dwc_tabs.specs.declared.operation.Operand.TheVariants.{U8, U16, U32, U64, Uleb, I8, I16, I32, I64, Sleb}
use Rattle.dwc_tabs.specs.declared.operation.Operands.{Operands}
use Rattle.dwc_tabs.specs.declared.operation.Operands.TheVariants.{One, Two, WasmLocation}
use Rattle.dwc_tabs.specs.declared.operation.Operation.{Operation}

-- how an operand is spelled, as the definitions have it
abbrev pub operand_view : Operand → Definitions.Operand
operand_view U8 = unsigned (fixed 1)
operand_view U16 = unsigned (fixed 2)
operand_view U32 = unsigned (fixed 4)
operand_view U64 = unsigned (fixed 8)
operand_view Uleb = unsigned variable
operand_view I8 = signed (fixed 1)
operand_view I16 = signed (fixed 2)
operand_view I32 = signed (fixed 4)
operand_view I64 = signed (fixed 8)
operand_view Sleb = signed variable

-- the operands of an operation
abbrev pub operands_view : Operands → Definitions.Operands
operands_view (One kind) = one (operand_view kind)
operands_view (Two kind other) = two (operand_view kind) (operand_view other)
operands_view WasmLocation = wasm_location

-- an operation at a place
abbrev pub operation_view : ℕ → Operation → Definitions.Operation
operation_view place o = record { place = place; opcode = o.opcode; bytes = o.bytes.now; first = o.first; second = o.second }

-- ---- what a call answers

-- where a fault is
abbrev pub offset_of : Fault → ℕ
offset_of (unreadable what section offset) = offset
offset_of (unsupported kind offset) = offset

-- a refusal, which is never want of memory, tells the place of the operation that cannot be read, and tells it again
abbrev pub RefusesOperation : Listing ℕ Definitions.Operation → Listing ℕ Definitions.Operation → Option Fault → Type 0
RefusesOperation old new None = ⊥
RefusesOperation old new (Some fault) = (fault ≡ operation_fault (offset_of fault)) × (old ≡ only_fault (offset_of fault)) × (new ≡ only_fault (offset_of fault))

-- A call answers the next operation with its place: it gives the first, and leaves the others; at the end, and at one that
-- cannot be read, it answers the same again.
abbrev pub GivesNextOperation : Listing ℕ Definitions.Operation → Listing ℕ Definitions.Operation → Result (Option (ℕ × Operation)) ReadFault → Type 0
GivesNextOperation old new (Ok (Some o)) = old ≡ with_first (operation_view o.0 o.1) new
GivesNextOperation old new (Ok None) = (old ≡ no_items) × (new ≡ no_items)
GivesNextOperation old new (Err e) = RefusesOperation old new (fault_seen e)
