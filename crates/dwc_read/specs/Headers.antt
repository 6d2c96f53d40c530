-- What contracts see of unit headers.
use Rattle.std.specs.Prelude.{Result, Ok, Err}
use Rattle.dwc_base.specs.declared.section_name.SectionName.TheVariants.{Info}
use Rattle.dwc_base.specs.declared.faults.What.TheVariants.{UnitHeader as UnitHeaderRead}
use Rattle.dwc_base.specs.Sections.{Fault, fault_of}
use Rattle.dwc_base.specs.Units.{UnitHeader}
use Rattle.dwc_read.specs.declared.header.Header.{Header}
use Rattle.dwc_read.specs.declared.headers.HeaderFlaw.{HeaderFlaw}

abbrev pub header_view : Header → UnitHeader
header_view h = record { offset = h.offset; end = h.end; version = h.version; address_size = h.address_size; unit_type = h.unit_type; abbreviations = h.abbreviations; dwo_id = h.dwo_id; content = h.content }

-- what is wrong with a header, as a fault of .debug_info
abbrev pub seen_flaw : {A : Type 0} → Result A HeaderFlaw → Result A Fault
seen_flaw (Ok x) = Ok x
seen_flaw (Err e) = Err (fault_of UnitHeaderRead Info e.offset e.flaw)
