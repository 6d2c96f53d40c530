-- Places behind entries and behind the ends of lists of siblings.
use Rattle.std.proofs.Common.{◌≡◌, ℕ, zero, suc, pred, ◌+◌, ◌≤◌, ◌<◌, ◌^◌, arith, length, Bool, true, false, List, Ok, Err}
use Rattle.std.specs.Prelude.{Option, if◌then◌else◌}
use Rattle.dwc_base.specs.Reading.{Unread, Read}
use Rattle.dwc_base.specs.Sections.{Sections, Fault, fault_of}
use Rattle.dwc_base.specs.Abbreviations.{Declaration}
use Rattle.dwc_base.specs.Units.{UnitHeader}
use Rattle.dwc_dwarf.specs.Entries.{Entry, Found, entry_at, entry_place, entry_places_left}
use Rattle.dwc_base.proofs.Takes.{Leaves-at}
use Rattle.dwc_dwarf.proofs.TakesValues.{entry_at-leaves}
use Rattle.dwc_base.specs.declared.faults.Flaw.{Flaw}
use Rattle.dwc_base.specs.declared.faults.NotRead.{NotRead}
use Rattle.dwc_base.specs.declared.faults.NotRead.TheVariants.{OutOfMemory, Flawed}
use Rattle.dwc_base.specs.declared.faults.What.TheVariants.{Entry as EntryRead}
use Rattle.dwc_base.specs.declared.section_name.SectionName.TheVariants.{Info}
use Rattle.dwc_base.specs.Listing.{Listing, only_fault}
use Rattle.dwc_base.specs.Cursors.{Fails}
use Rattle.dwc_read.specs.Faults.{fault_not_read}
use Rattle.dwc_read.specs.Places.{IsShallow, Stays}

-- an entry, and the end of a list of siblings, take a byte
pub entry_at-shrinks : (s : Sections) (h : UnitHeader) (table : List Declaration) (depth : ℕ) (u v : Unread) (found : Option Found) → entry_at s h table depth u ≡ Ok (found, v) → length v.left < length u.left
entry_at-shrinks s h table depth u v found read = Leaves-at read (entry_at-leaves s h table depth u)

pub entry_places_left-place : (depth : ℕ) (u : Unread) → entry_places_left (entry_place depth u) ≤ length u.left
entry_places_left-place zero u = omega arith
entry_places_left-place (suc depth) u = omega arith

pub IsShallow-place : (depth : ℕ) (u : Unread) → depth + length u.left < 2 ^ 32 → IsShallow (entry_place depth u)
IsShallow-place zero u h = tt
IsShallow-place (suc depth) u h = h

pub IsShallow-behind : (has_children : Bool) (depth : ℕ) (u : Unread) → depth + 1 + length u.left < 2 ^ 32 → IsShallow (entry_place (if has_children then suc depth else depth) u)
IsShallow-behind true depth u h = omega arith
IsShallow-behind false depth u h = IsShallow-place depth u (omega arith)

pub IsShallow-siblings : (depth : ℕ) (u : Unread) → depth + length u.left < 2 ^ 32 → IsShallow (entry_place (pred depth) u)
IsShallow-siblings zero u h = tt
IsShallow-siblings (suc depth) u h = IsShallow-place depth u (omega arith)

-- A refused step stays where each flaw of the entry is a fault of the list.
pub Stays-at : {A : Type 0} (offset : ℕ) (e : NotRead) (part : Read A) (list : Listing Fault Entry) → ((flaw : Flaw) → part ≡ Err flaw → list ≡ only_fault (fault_of EntryRead Info offset flaw)) → Fails e part → Stays list (fault_not_read EntryRead Info offset e)
Stays-at offset OutOfMemory part list along fails = tt
Stays-at offset (Flawed flaw) part list along fails = along flaw fails
