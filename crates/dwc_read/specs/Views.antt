-- What contracts see of units.
use Rattle.std.specs.Prelude.{ℕ, Option, Some, None, Ok, Err}
use Rattle.std.specs.Coded.{Coded, codes}
use Rattle.dwc_base.specs.declared.records.Address.{Address}
use Rattle.dwc_base.specs.declared.section_name.SectionName.{SectionName}
use Rattle.dwc_base.specs.Reading.{Read}
use Rattle.dwc_base.specs.Listing.{Listing}
use Rattle.dwc_base.specs.Sections.{Sections, Fault, section_from, address_at}
use Rattle.dwc_base.specs.Units.{UnitHeader}
use Rattle.dwc_read.specs.SectionsSeen.{sections_code}

-- a unit: its header, and the sections that it stands in
pub record UnitView : Type 0 where
  pub sections : Sections
  pub header : UnitHeader

pub unit_code : Coded UnitView
unit_code = hlevel (sections_code, codes)

-- the units that are still to come, by their headers
pub record UnitsView : Type 0 where
  pub sections : Sections
  pub headers : Listing Fault UnitHeader

pub units_code : Coded UnitsView
units_code = hlevel (sections_code, codes)

-- the address that was read, if it could be
abbrev pub address_read : Read Address → Option Address
address_read (Ok read) = Some read.0
address_read (Err flaw) = None

-- The address that a field of a section holds; none where it passes the section's end.
abbrev pub field_at : Sections → SectionName → ℕ → ℕ → Option Address
field_at s name offset size = address_read (address_at (s.relocations name) size (section_from s name offset))
