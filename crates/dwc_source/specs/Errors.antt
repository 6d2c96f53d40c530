-- The errors of cloning, and what they tell.
use Rattle.dwc_section.specs.declared.error.WriteError.{WriteError}
use Rattle.std.specs.Prelude.{◌≡◌, Option, Some, None, Result, Ok, Err}
use Rattle.dwc_base.specs.Sections.{unreadable, unsupported}
use Rattle.dwc_rules.specs.Refusals.{Refusal, of_place, long_range, bad_label, lacks_memory, unmapped_register, long_jump}
use Rattle.dwc_read.specs.declared.fault.ReadFault.{ReadFault}
use Rattle.dwc_read.specs.declared.fault.ReadFault.TheVariants as read
use Rattle.dwc_tabs.specs.declared.list_fault.ListFault.{ListFault}
use Rattle.dwc_tabs.specs.declared.list_fault.ListFault.TheVariants as list
use Rattle.dwc_source.specs.declared.error.CloneError.{CloneError}
use Rattle.dwc_source.specs.declared.error.CloneError.TheVariants.{Read, Unsupported, LongRange, BadLabelRange, InvalidAttributeValue, UnmappedRegister, LongJump, OutOfMemory}

-- a reader's refusal, and that of a list
abbrev pub of_reading : ReadFault → CloneError
of_reading (read.Read what section offset) = Read what section offset
of_reading (read.Unsupported kind offset) = Unsupported kind offset
of_reading read.OutOfMemory = OutOfMemory

abbrev pub of_list : ListFault → CloneError
of_list (list.Read what section offset) = Read what section offset
of_list (list.Unsupported kind offset) = Unsupported kind offset
of_list list.TooLarge = LongRange

-- What an error tells of the input; want of memory tells nothing.
abbrev pub refusal_told : CloneError → Option Refusal
refusal_told (Read what section offset) = Some (of_place (unreadable what section offset))
refusal_told (Unsupported kind offset) = Some (of_place (unsupported kind offset))
refusal_told LongRange = Some long_range
refusal_told (BadLabelRange label) = Some (bad_label label.0)
refusal_told (InvalidAttributeValue m) = Some (lacks_memory m)
refusal_told (UnmappedRegister register) = Some (unmapped_register register.0)
refusal_told LongJump = Some long_jump
refusal_told OutOfMemory = None

-- A call answers what a call of a writer answered; a refusal is for want of memory.
abbrev pub OfMemory : {T : Type 0} → Result T WriteError → Result T CloneError → Type 0
OfMemory written (Ok x) = written ≡ Ok x
OfMemory written (Err e) = e ≡ OutOfMemory
