-- The sections that hold DWARF, and the address fields in them.
use Rattle.std.specs.Prelude.{ℕ, ◌==◌, ℤ, List, ◌++◌, Bool, if◌then◌else◌, drop, ◌&&◌, Option, Some, None, Result, Ok, Err, codes}
use Rattle.std.specs.List.{find}
use Rattle.dwc_base.specs.declared.records.Endian.{Endian}
use Rattle.dwc_base.specs.declared.section_name.SectionName.{SectionName}
use Rattle.dwc_base.specs.declared.section_name.SectionName.TheVariants.{Abbrev, Addr, Info, Line, LineStr, Loc, Loclists, Ranges, Rnglists, Str, StrOffsets, CuIndex, Frame}
use Rattle.dwc_base.specs.declared.faults.What.{What}
use Rattle.dwc_base.specs.declared.faults.Kind.{Kind}
use Rattle.dwc_base.specs.declared.records.Address.{Address}
use Rattle.dwc_base.specs.declared.records.Address.TheVariants.{Constant, Symbol}
use Rattle.dwc_base.specs.declared.faults.Flaw.{Flaw}
use Rattle.dwc_base.specs.declared.faults.Flaw.TheVariants.{EndsEarly, TooWide, Malformed, Refused}
use Rattle.dwc_base.specs.Reading.{Unread, Read, ◌>>=◌, number_at}

-- the name of a section, without suffix (DWARF 4 and 5, appendix B)
abbrev pub section_text : SectionName → List ℕ
section_text Abbrev = codes ".debug_abbrev"
section_text Addr = codes ".debug_addr"
section_text Info = codes ".debug_info"
section_text Line = codes ".debug_line"
section_text LineStr = codes ".debug_line_str"
section_text Loc = codes ".debug_loc"
section_text Loclists = codes ".debug_loclists"
section_text Ranges = codes ".debug_ranges"
section_text Rnglists = codes ".debug_rnglists"
section_text Str = codes ".debug_str"
section_text StrOffsets = codes ".debug_str_offsets"
section_text CuIndex = codes ".debug_cu_index"
section_text Frame = codes ".debug_frame"

-- the name of a section of split units (DWARF 5, section 7.3.2.2)
abbrev pub split_text : SectionName → List ℕ
split_text name = section_text name ++ codes ".dwo"

-- a field that is to hold the address of a function plus an addend
pub record Relocation : Type 0 where
  pub offset : ℕ
  pub size : ℕ
  pub function : ℕ
  pub addend : ℤ

-- Sections of an input or of an output. Input has no relocations.
pub record Sections : Type 0 where
  pub order : Endian
  pub bytes : SectionName → List ℕ
  pub relocations : SectionName → List Relocation

-- a section, unread from an offset on
abbrev pub section_from : Sections → SectionName → ℕ → Unread
section_from s name offset = record { order = s.order; place = offset; left = drop offset (s.bytes name) }

-- where something cannot be read, or is of a kind that is refused
pub data Fault : Type 0 where
  unreadable : What → SectionName → ℕ → Fault
  unsupported : Kind → ℕ → Fault

-- the fault that a flaw makes at the place that it is reported at
abbrev pub fault_of : What → SectionName → ℕ → Flaw → Fault
fault_of what section offset EndsEarly = unreadable what section offset
fault_of what section offset TooWide = unreadable what section offset
fault_of what section offset Malformed = unreadable what section offset
fault_of what section offset (Refused kind) = unsupported kind offset

-- a reading whose flaw is reported at a place
abbrev pub reported : {A : Type 0} → What → SectionName → ℕ → Result A Flaw → Result A Fault
reported what section offset (Ok x) = Ok x
reported what section offset (Err flaw) = Err (fault_of what section offset flaw)

-- whether a relocation is of a field of some bytes at an offset
abbrev pub is_of_field : ℕ → ℕ → Relocation → Bool
is_of_field offset size r = (r.offset == offset) && (r.size == size)

-- the address that a relocation gives a field, or else the number that its bytes spell
abbrev pub address_of : ℕ → Option Relocation → Address
address_of spelled None = Constant spelled
address_of spelled (Some r) = Symbol r.function r.addend

-- The address that a field holds: a function's plus the addend where a relocation of the field's size
-- stands at it, else the number that its bytes spell.
abbrev pub field_value : List Relocation → ℕ → ℕ → ℕ → Address
field_value relocations offset size spelled = address_of spelled (find (is_of_field offset size) relocations)

-- the address that one relocation, where there is one, gives a field
abbrev pub given_address : ℕ → ℕ → Option Relocation → Option Address
given_address offset size None = None
given_address offset size (Some r) = if is_of_field offset size r then Some (Symbol r.function r.addend) else None

-- an address field of a section
unfoldable pub address_at : List Relocation → ℕ → Unread → Read Address
address_at relocations size u = do
  spelled ← number_at size u
  Ok (field_value relocations u.place size spelled.0, spelled.1)
