-- What a refusal of a reader says.
use Rattle.std.specs.Prelude.{◌≡◌, ℕ, Option, Some, None, Result, Ok, Err}
use Rattle.dwc_base.specs.Listing.{Listing, no_items, only_fault, with_first}
use Rattle.dwc_base.specs.Sections.{Fault, fault_of, unreadable, unsupported}
use Rattle.dwc_base.specs.declared.section_name.SectionName.{SectionName}
use Rattle.dwc_base.specs.declared.faults.What.{What}
use Rattle.dwc_base.specs.declared.faults.NotRead.{NotRead}
use Rattle.dwc_base.specs.declared.faults.NotRead.TheVariants as memory
use Rattle.dwc_read.specs.declared.fault.ReadFault.{ReadFault}
use Rattle.dwc_read.specs.declared.fault.ReadFault.TheVariants.{Read, Unsupported, OutOfMemory}

-- the fault that a refusal tells; want of memory is none of the input's
abbrev pub fault_seen : ReadFault → Option Fault
fault_seen (Read what section offset) = Some (unreadable what section offset)
fault_seen (Unsupported kind offset) = Some (unsupported kind offset)
fault_seen OutOfMemory = None

-- a fault told at another offset
abbrev pub fault_at : ℕ → Fault → Fault
fault_at offset (unreadable what section place) = unreadable what section offset
fault_at offset (unsupported kind place) = unsupported kind offset

-- A call that answers the next item of a listing was refused: for want of memory, and nothing has changed, or for the
-- fault that comes next, and that comes again.
abbrev pub RefusesNext : {F A : Type 0} → Listing F A → Listing F A → Option F → Type 0
RefusesNext old new None = new ≡ old
RefusesNext old new (Some fault) = (old ≡ only_fault fault) × (new ≡ only_fault fault)

-- A call that answers the next item of a listing gives the first and leaves the others; at the end, and at a fault, it
-- answers the same again.
abbrev pub GivesNextOrMemory : {X A : Type 0} → (X → A) → Listing Fault A → Listing Fault A → Result (Option X) ReadFault → Type 0
GivesNextOrMemory view old new (Ok (Some x)) = old ≡ with_first (view x) new
GivesNextOrMemory view old new (Ok None) = (old ≡ no_items) × (new ≡ no_items)
GivesNextOrMemory view old new (Err e) = RefusesNext old new (fault_seen e)

-- A refusal is for want of memory, or for the fault that reading meets.
abbrev pub Refuses : {A : Type 0} → Result A Fault → Option Fault → Type 0
Refuses read None = Unit {0}
Refuses read (Some fault) = read ≡ Err fault

-- A call gives what reading gives, seen by `view`; a refusal is for want of memory, or for the fault that is met.
abbrev pub GivesOrFault : {X A : Type 0} → (X → A) → Result A Fault → Result X ReadFault → Type 0
GivesOrFault view read (Ok x) = read ≡ Ok (view x)
GivesOrFault view read (Err e) = Refuses read (fault_seen e)

-- the fault of what is not read, at the place that it is reported at; want of memory is none
abbrev pub fault_not_read : What → SectionName → ℕ → NotRead → Option Fault
fault_not_read what section offset memory.OutOfMemory = None
fault_not_read what section offset (memory.Flawed flaw) = Some (fault_of what section offset flaw)
