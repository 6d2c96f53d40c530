-- What contracts see of entries.
use Rattle.std.specs.Prelude.{◌≡◌, ℕ, ℤ, pos, negsuc, map, List, Bool, Option, Some, None, Result, Ok, Err}
use Rattle.std.specs.Coded.{Coded, codes}
use Rattle.dwc_base.specs.Listing.{Listing, only_fault}
use Rattle.dwc_base.specs.Sections.{Fault}
use Rattle.dwc_base.specs.Abbreviations.{Declaration}
use Rattle.dwc_dwarf.specs.Entries as spec
use Rattle.dwc_read.specs.ValuesSeen.{attribute_view}
use Rattle.dwc_read.specs.Faults.{fault_seen}
use Rattle.dwc_read.specs.declared.entry.Entry.{Entry}
use Rattle.dwc_read.specs.declared.fault.ReadFault.{ReadFault}

-- a number that is not below 0
abbrev pub natural : ℤ → ℕ
natural (pos n) = n
natural (negsuc n) = 0

abbrev pub entry_view : Entry → spec.Entry
entry_view e = record { offset = e.offset; depth = natural e.depth; tag = e.tag; attributes = map attribute_view e.attributes.items }

-- an entry, and whether children follow
abbrev pub found_view : Entry → Bool → spec.Found
found_view e children = record { entry = entry_view e; has_children = children }

-- the entries that are still to come, the one that was read last, and the declarations of the unit's table
pub record EntriesView : Type 0 where
  pub left : Listing Fault spec.Entry
  pub current : spec.Entry
  pub table : List Declaration

pub entries_code : Coded EntriesView
entries_code = hlevel codes

-- A refusal is for want of memory, or is the fault that a listing begins with.
abbrev pub BeginsWith : Listing Fault spec.Entry → Option Fault → Type 0
BeginsWith list None = Unit {0}
BeginsWith list (Some fault) = list ≡ only_fault fault

-- The entries of a listing are still to come; or it begins with a fault, which is told.
abbrev pub StartsAt : Listing Fault spec.Entry → Result EntriesView ReadFault → Type 0
StartsAt list (Ok es) = es.left ≡ list
StartsAt list (Err e) = BeginsWith list (fault_seen e)
