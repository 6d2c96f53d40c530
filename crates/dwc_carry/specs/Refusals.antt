-- The errors of emitting DWARF, and what they tell.
use Rattle.std.specs.Prelude.{◌≡◌, ℕ, Option, Some, None, option_map, Result, Ok, Err}
use Rattle.dwc_base.specs.Sections.{unreadable, unsupported}
use Rattle.dwc_base.specs.declared.records.MapFault.{MapFault}
use Rattle.dwc_base.specs.declared.faults.Limit.{Limit}
use Rattle.dwc_base.specs.declared.faults.Limit.TheVariants.{Section, Addend, Range, Jump, Expression, Vmctx}
use Rattle.dwc_rules.specs.Refusals.{Refusal, of_place, missing_file, long_function, long_range, bad_label, lacks_memory, unmapped_register, long_jump, far_memory, bad_path, of_frame}
use Rattle.dwc_native.specs.FrameRefusals.{bad_code_offset, bad_data_offset}
use Rattle.dwc_read.specs.declared.fault.ReadFault.{ReadFault}
use Rattle.dwc_read.specs.declared.fault.ReadFault.TheVariants as read
use Rattle.dwc_addr.specs.declared.error.AddrError.{AddrError}
use Rattle.dwc_addr.specs.declared.error.AddrError.TheVariants as addr
use Rattle.dwc_tabs.specs.declared.fault.TabFault.{TabFault}
use Rattle.dwc_tabs.specs.declared.fault.TabFault.TheVariants as tab
use Rattle.dwc_section.specs.declared.error.WriteError.{WriteError}
use Rattle.dwc_section.specs.declared.error.WriteError.TheVariants as write
use Rattle.dwc_source.specs.declared.error.CloneError.{CloneError}
use Rattle.dwc_source.specs.declared.error.CloneError.TheVariants as clone
use Rattle.dwc_carry.specs.declared.error.DebugError.{DebugError}
use Rattle.dwc_carry.specs.declared.error.DebugError.TheVariants.{Read, Unsupported, InvalidFileIndex, BadAddressMap, BadLabelRange, InvalidAttributeValue, UnmappedRegister, Path, InvalidFrameCodeOffset, InvalidFrameDataOffset, TooLarge, OutOfMemory}

-- a reader's refusal, and that of address maps
abbrev pub of_reading : ReadFault → DebugError
of_reading (read.Read what section offset) = Read what section offset
of_reading (read.Unsupported kind offset) = Unsupported kind offset
of_reading read.OutOfMemory = OutOfMemory

abbrev pub of_maps : AddrError → DebugError
of_maps (addr.BadAddressMap m func why) = BadAddressMap m func why
of_maps addr.OutOfMemory = OutOfMemory

-- that of a line table
abbrev pub of_table : TabFault → DebugError
of_table (tab.Read what section offset) = Read what section offset
of_table (tab.Unsupported kind offset) = Unsupported kind offset
of_table (tab.InvalidFileIndex offset) = InvalidFileIndex offset
of_table tab.OutOfMemory = OutOfMemory

-- that of cloning
abbrev pub of_cloning : CloneError → DebugError
of_cloning (clone.Read what section offset) = Read what section offset
of_cloning (clone.Unsupported kind offset) = Unsupported kind offset
of_cloning clone.LongRange = TooLarge Range
of_cloning (clone.BadLabelRange label) = BadLabelRange label
of_cloning (clone.InvalidAttributeValue m) = InvalidAttributeValue m
of_cloning (clone.UnmappedRegister register) = UnmappedRegister register
of_cloning clone.LongJump = TooLarge Jump
of_cloning clone.OutOfMemory = OutOfMemory

-- and that of the writer
abbrev pub of_writing : WriteError → DebugError
of_writing (write.TooLarge what) = TooLarge what
of_writing (write.InvalidFrameCodeOffset symbol) = InvalidFrameCodeOffset symbol
of_writing (write.InvalidFrameDataOffset symbol) = InvalidFrameDataOffset symbol
of_writing write.OutOfMemory = OutOfMemory

-- ---- what an error tells

-- Why an input is refused: the address map of a function, by the place of its module and its own among the functions defined there,
-- breaks a rule; or something is refused in the order of reading.
pub data InputRefusal : Type 0 where
  bad_address_map : ℕ → ℕ → MapFault → InputRefusal
  in_reading : Refusal → InputRefusal

-- a refusal, what of the output would be too large, or want of memory
pub data Told : Type 0 where
  refused : InputRefusal → Told
  limit : Limit → Told
  memory : Told

abbrev pub told : DebugError → Told
told (Read what section offset) = refused (in_reading (of_place (unreadable what section offset)))
told (Unsupported kind offset) = refused (in_reading (of_place (unsupported kind offset)))
told (InvalidFileIndex offset) = refused (in_reading (missing_file offset))
told (BadAddressMap m func why) = refused (bad_address_map m func why)
told (BadLabelRange label) = refused (in_reading (bad_label label.0))
told (InvalidAttributeValue m) = refused (in_reading (lacks_memory m))
told (UnmappedRegister register) = refused (in_reading (unmapped_register register.0))
told Path = refused (in_reading bad_path)
told (InvalidFrameCodeOffset symbol) = refused (in_reading (of_frame (bad_code_offset symbol)))
told (InvalidFrameDataOffset symbol) = refused (in_reading (of_frame (bad_data_offset symbol)))
told (TooLarge (Section name)) = limit (Section name)
told (TooLarge Addend) = refused (in_reading long_function)
told (TooLarge Range) = refused (in_reading long_range)
told (TooLarge Jump) = refused (in_reading long_jump)
told (TooLarge Expression) = limit Expression
told (TooLarge Vmctx) = refused (in_reading far_memory)
told OutOfMemory = memory

-- What is told is the refusal of an input, if there is one; a limit, where nothing is refused and the output passes that limit; or want
-- of memory, at any time.
abbrev pub IsCause : (Limit → Type 0) → Option InputRefusal → Told → Type 0
IsCause passes refusal (refused r) = refusal ≡ Some r
IsCause passes refusal (limit what) = (refusal ≡ None) × passes what
IsCause passes refusal memory = Unit {0}

-- Where nothing is refused, what is answered has a property; an error has its cause.
abbrev pub GivesWithin : {X : Type 0} → (Limit → Type 0) → (X → Type 0) → Option InputRefusal → Result X DebugError → Type 0
GivesWithin passes has refusal (Ok x) = (refusal ≡ None) × has x
GivesWithin passes has refusal (Err e) = IsCause passes refusal (told e)

-- the same where no limit can be passed
abbrev pub Refuses : Option InputRefusal → DebugError → Type 0
Refuses refusal e = IsCause (λ what. ⊥) refusal (told e)

abbrev pub GivesOr : {X : Type 0} → (X → Type 0) → Option InputRefusal → Result X DebugError → Type 0
GivesOr has refusal (Ok x) = (refusal ≡ None) × has x
GivesOr has refusal (Err e) = Refuses refusal e

-- and where something may be refused in the order of reading alone
abbrev pub RefusesReading : Option Refusal → DebugError → Type 0
RefusesReading refusal e = Refuses (option_map in_reading refusal) e

abbrev pub ReadsOr : {X : Type 0} → (X → Type 0) → Option Refusal → Result X DebugError → Type 0
ReadsOr has refusal result = GivesOr has (option_map in_reading refusal) result
