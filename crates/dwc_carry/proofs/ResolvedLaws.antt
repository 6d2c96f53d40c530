-- What reading an entry at a place answers, by the entries of its unit.
use Rattle.std.proofs.Common.{◌≡◌, ℕ, List, refl, ap, sym, ◌∙◌, Option, Some, None, Result, Ok, Err}
use Rattle.dwc_base.specs.Reading.{◌>>=◌}
use Rattle.dwc_base.specs.Listing.{only_fault}
use Rattle.dwc_base.specs.Sections.{Sections, Fault}
use Rattle.dwc_base.specs.Abbreviations.{Declaration, abbreviation_table}
use Rattle.dwc_base.specs.Units.{UnitHeader}
use Rattle.dwc_dwarf.specs.Entries.{entries, entries_from, root_place}
use Rattle.dwc_rules.specs.Targets.{entry_in_listing, entry_begun_at}
use Rattle.dwc_read.specs.Faults.{Refuses}

-- the entries of a unit whose abbreviation table is read
entries-by_table : (s : Sections) (h : UnitHeader) (table : List Declaration) → abbreviation_table s h.abbreviations ≡ Ok table → entries s h ≡ entries_from s h table (root_place h)
unfolding entries
entries-by_table s h table is = ap (λ (t : Result (List Declaration) Fault). elim t [ Err fault ↦ only_fault fault | Ok found ↦ entries_from s h found (root_place h) ]) is

-- the entry at a place, where the unit's abbreviation table is read
pub begun-in_listing : (s : Sections) (h : UnitHeader) (place : ℕ) (table : List Declaration) → abbreviation_table s h.abbreviations ≡ Ok table → entry_begun_at s h place ≡ entry_in_listing place (entries s h)
unfolding entry_begun_at
begun-in_listing s h place table is = ap (λ t. t >>= λ found. entry_in_listing place (entries_from s h found (root_place h))) is ∙ ap (entry_in_listing place) (sym (entries-by_table s h table is))

-- and where it cannot be
pub begun-unread : (s : Sections) (h : UnitHeader) (place : ℕ) (fault : Fault) → abbreviation_table s h.abbreviations ≡ Err fault → entry_begun_at s h place ≡ Err fault
unfolding entry_begun_at
begun-unread s h place fault is = rw is refl

-- a refusal of the table is one of the entry
pub table-refuses : (s : Sections) (h : UnitHeader) (place : ℕ) (o : Option Fault) → Refuses (abbreviation_table s h.abbreviations) o → Refuses (entry_begun_at s h place) o
table-refuses s h place None is = tt
table-refuses s h place (Some fault) is = begun-unread s h place fault is
