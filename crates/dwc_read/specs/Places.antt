-- What contracts see of the places of entries, and what a step to the next entry says.
use Rattle.std.specs.Prelude.{◌≡◌, ◌+◌, ◌<◌, ◌^◌, length, Bool, true, false, Option, Some, None, Result, Ok, Err}
use Rattle.dwc_base.specs.Listing.{Listing, no_items, only_fault, with_first}
use Rattle.dwc_base.specs.Sections.{Fault}
use Rattle.dwc_dwarf.specs.Entries as spec
use Rattle.dwc_read.specs.declared.fault.ReadFault.{ReadFault}
use Rattle.dwc_read.specs.declared.place.Place.{Place}
use Rattle.dwc_read.specs.declared.steps.Step.{Step}
use Rattle.dwc_read.specs.declared.steps.Step.TheVariants.{End, Siblings, Found}
use Rattle.dwc_read.specs.Faults.{RefusesNext, fault_seen}

abbrev pub place_view : Place → spec.EntryPlace
place_view p = record { depth = p.depth; unread = p.cursor }

-- the depth of a place, with the entries that may still come, fits 32 bits
abbrev pub IsShallow : Option spec.EntryPlace → Type 0
IsShallow None = Unit {0}
IsShallow (Some p) = p.depth + length p.unread.left < 2 ^ 32

-- A step stays at a fault, and where memory is wanting.
abbrev pub Stays : Listing Fault spec.Entry → Option Fault → Type 0
Stays old None = Unit {0}
Stays old (Some fault) = old ≡ only_fault fault

-- A step over the entries from a place: at their end it stays, it passes the end of a list of siblings, or it gives an
-- entry and goes on behind it.
abbrev pub Steps : (Option spec.EntryPlace → Listing Fault spec.Entry) → Option spec.EntryPlace → Option spec.EntryPlace → spec.Entry → Result Step ReadFault → Type 0
Steps list old new entry (Ok End) = (list old ≡ no_items) × (new ≡ old)
Steps list old new entry (Ok Siblings) = (list old ≡ list new) × (spec.entry_places_left new < spec.entry_places_left old)
Steps list old new entry (Ok Found) = list old ≡ with_first entry (list new)
Steps list old new entry (Err e) = Stays (list old) (fault_seen e) × (new ≡ old)

-- A call that goes on to the next entry of a listing: whether there is one, which is then the current one. At the end, and
-- at a fault, it answers the same again; where memory is wanting, the listing is as before.
abbrev pub GoesOn : Listing Fault spec.Entry → Listing Fault spec.Entry → spec.Entry → Result Bool ReadFault → Type 0
GoesOn old new current (Ok true) = old ≡ with_first current new
GoesOn old new current (Ok false) = (old ≡ no_items) × (new ≡ no_items)
GoesOn old new current (Err e) = RefusesNext old new (fault_seen e)
