-- The abbreviation table of a unit, which several units may share.
use Rattle.std.specs.Prelude.{◌≡◌, ℕ, List, Option, Some, None, Result, Ok, Err}
use Rattle.dwc_base.specs.declared.faults.Flaw.{Flaw}
use Rattle.dwc_base.specs.declared.faults.What.TheVariants.{Abbreviation}
use Rattle.dwc_base.specs.declared.section_name.SectionName.TheVariants.{Abbrev}
use Rattle.dwc_base.specs.Abbreviations.{Declaration, abbreviation_table}
use Rattle.dwc_base.specs.Sections.{Sections, Fault, fault_of}
use Rattle.dwc_read.specs.declared.unit_table.UnitTable.{UnitTable}

-- what was read at an offset: a table, or a flaw for which there is none
abbrev pub read_as : ℕ → Option Flaw → List Declaration → Result (List Declaration) Fault
read_as offset None table = Ok table
read_as offset (Some flaw) table = Err (fault_of Abbreviation Abbrev offset flaw)

-- What was read at an offset is the table there, or the flaw for which there is none.
abbrev pub IsTable : Sections → ℕ → UnitTable → Type 0
IsTable sections offset t = abbreviation_table sections offset ≡ read_as offset t.flaw t.table.value

-- What was read is the same as another, wherever that stands.
abbrev pub IsSame : UnitTable → UnitTable → Type 0
IsSame t u = (sections : Sections) (offset : ℕ) → IsTable sections offset t → IsTable sections offset u
