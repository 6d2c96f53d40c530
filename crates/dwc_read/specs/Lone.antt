-- An entry on its own: the root of a unit, or what stands at any of its places.
use Rattle.std.specs.Prelude.{◌≡◌, ℕ, nat_lt, if◌then◌else◌, List, [], Option, Some, None, Result, Ok, Err}
use Rattle.dwc_base.specs.declared.section_name.SectionName.TheVariants.{Info}
use Rattle.dwc_base.specs.declared.faults.What.TheVariants.{Entry as EntryRead}
use Rattle.dwc_base.specs.Reading.{Unread, ◌>>=◌}
use Rattle.dwc_base.specs.Sections.{Fault, unreadable, reported}
use Rattle.dwc_base.specs.Abbreviations.{Declaration, abbreviation_table}
use Rattle.dwc_dwarf.specs.Entries.{Entry, Found, entry_at}
use Rattle.dwc_dwarf.specs.ExpressionPlaces.{unit_from}
use Rattle.dwc_read.specs.Views.{UnitView}

-- What is unread of a unit's entries from an offset of .debug_info on: nothing before the first of them, which stands behind the header,
-- and from the unit's end on. (DWARF 4 and 5, section 7.5.)
abbrev pub unread_from : UnitView → ℕ → Unread
unread_from u offset = record {
  order = u.sections.order;
  place = offset;
  left = if nat_lt offset (u.header.content).place then [] else (unit_from u.sections u.header offset).left;
}

-- What is unread from an offset on is a cursor's; none where nothing is.
abbrev pub IsUnread : Unread → Option Unread → Type 0
IsUnread u None = u.left ≡ []
IsUnread u (Some v) = v ≡ u

-- the entry that was found; the end of a list of siblings is none
abbrev pub entry_found : ℕ → Option Found → Result Entry Fault
entry_found place (Some found) = Ok found.entry
entry_found place None = Err (unreadable EntryRead Info place)

-- the entry of a unit at the front, at depth 0
unfoldable pub entry_with : UnitView → List Declaration → Unread → Result Entry Fault
entry_with u table at = do
  read ← reported EntryRead Info at.place (entry_at u.sections u.header table 0 at)
  entry_found at.place read.0

-- the same with the unit's abbreviation table, which is read first
unfoldable pub lone_entry : UnitView → Unread → Result Entry Fault
lone_entry u at = do
  table ← abbreviation_table u.sections u.header.abbreviations
  entry_with u table at
