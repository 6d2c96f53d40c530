-- The entries of a unit, from its abbreviation table.
use Rattle.std.proofs.Common.{◌≡◌, refl, List, Ok, Err}
use Rattle.std.specs.Prelude.{Option, Some, None}
use Rattle.dwc_base.specs.Listing.{only_fault}
use Rattle.dwc_base.specs.Sections.{Sections, Fault}
use Rattle.dwc_base.specs.Abbreviations.{Declaration, abbreviation_table}
use Rattle.dwc_base.specs.Units.{UnitHeader}
use Rattle.dwc_dwarf.specs.Entries.{entries, entries_from, root_place}
use Rattle.dwc_read.specs.Faults.{Refuses}
use Rattle.dwc_read.specs.EntriesSeen.{BeginsWith}

module _ (s : Sections) (h : UnitHeader) where
  pub entries-table : (table : List Declaration) → abbreviation_table s h.abbreviations ≡ Ok table → entries s h ≡ entries_from s h table (root_place h)
  unfolding entries
  entries-table table read = rw (read, entries) refl

  pub entries-fault : (fault : Fault) → abbreviation_table s h.abbreviations ≡ Err fault → entries s h ≡ only_fault fault
  unfolding entries
  entries-fault fault read = rw (read, entries) refl

  -- where the table is refused, so are the entries
  pub BeginsWith-table : (o : Option Fault) → Refuses (abbreviation_table s h.abbreviations) o → BeginsWith (entries s h) o
  BeginsWith-table None refused = tt
  BeginsWith-table (Some fault) refused = entries-fault fault refused
