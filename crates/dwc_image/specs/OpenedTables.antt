-- Line tables that are carried as they are read.
use Rattle.std.specs.Prelude.{ℕ, Option, Some, None}
use Rattle.dwc_base.specs.declared.records.Address.{Address}
use Rattle.dwc_base.specs.Sections.{Sections}
use Rattle.dwc_tabs.specs.declared.step.LineStop.{LineStop}
use Rattle.dwc_tabs.specs.declared.step.LineStop.TheVariants.{Start, End}
use Rattle.dwc_tabs.specs.OpenTables.{OpenLines, Opens}

-- A table of which no row is taken, at an offset of some sections.
pub record IsOpen (t : OpenLines) : Type 0 where
  pub sections : Sections
  pub address_size : ℕ
  pub base : ℕ
  pub offset : ℕ
  pub opens : Opens sections address_size base offset t

-- the start of the rows behind a stop
abbrev pub start_behind : LineStop → Option Address
start_behind (Start a) = Some a
start_behind (End e) = None
