-- The entry that a reference goes to. (DWARF 4, section 7.5.4; DWARF 5, section 7.5.5: a reference is an offset in its unit, or
-- in `.debug_info`.)
use Rattle.std.specs.Prelude.{ℕ, ◌+◌, ◌==◌, List, [], ◌∷◌, nat_lt, if◌then◌else◌, Option, Some, None, Result, Ok, Err}
use Rattle.std.specs.List.{find}
use Rattle.dwc_base.specs.Reading.{◌>>=◌}
use Rattle.dwc_base.specs.Listing.{Listing}
use Rattle.dwc_base.specs.Sections.{Sections, Fault, unreadable, unsupported}
use Rattle.dwc_base.specs.Abbreviations.{abbreviation_table}
use Rattle.dwc_base.specs.Units.{UnitHeader}
use Rattle.dwc_dwarf.specs.Values.{Value, unit_reference}
use Rattle.dwc_dwarf.specs.Entries.{Entry, entries_from, root_place}
use Rattle.dwc_rules.specs.Kept.{Placed, names_entry}

-- The entry, among those of a section, that a value of an entry refers to: the one that begins at the place; none where none
-- begins there, and for a value that is no reference.
unfoldable pub target_of : List Placed → Placed → Value → Option Placed
target_of es e v = find (λ f. names_entry e f v) es

-- ---- one unit alone, read no further than needed

-- where a fault is
abbrev pub place_of_fault : Fault → ℕ
place_of_fault (unreadable what section offset) = offset
place_of_fault (unsupported kind offset) = offset

-- a fault that stands behind a place plays no part
abbrev pub fault_up_to : ℕ → Option Fault → Result (Option Entry) Fault
fault_up_to place None = Ok None
fault_up_to place (Some fault) = if nat_lt place (place_of_fault fault) then Ok None else Err fault

-- the entry that begins at a place, among some in file order
abbrev pub entry_among : ℕ → List Entry → Option Fault → Result (Option Entry) Fault
entry_among place [] last = fault_up_to place last
entry_among place (e ∷ es) last = if nat_lt place e.offset then Ok None else (if e.offset == place then Ok (Some e) else entry_among place es last)

-- the same of a listing
abbrev pub entry_in_listing : ℕ → Listing Fault Entry → Result (Option Entry) Fault
entry_in_listing place es = entry_among place es.items es.fault

-- The entry of a unit that begins at a place of `.debug_info`, none where none begins there; all entries up to the place are
-- read.
unfoldable pub entry_begun_at : Sections → UnitHeader → ℕ → Result (Option Entry) Fault
entry_begun_at s h place = abbreviation_table s h.abbreviations >>= λ table. entry_in_listing place (entries_from s h table (root_place h))

-- the entry of its unit that a unit reference goes to
abbrev pub entry_resolved : Sections → UnitHeader → Value → Result (Option Entry) Fault
entry_resolved s h (unit_reference n) = entry_begun_at s h (h.offset + n)
entry_resolved s h _ = Ok None
