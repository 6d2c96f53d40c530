-- What the lending of the next entry says.
use Rattle.std.specs.Prelude.{◌≡◌, ⊤, [], Option, Some, None, Result, Ok, Err}
use Rattle.std.specs.Borrow.{Bor, MutBor, Fml, follows_so}
use mathlib.Core.Option.{none}
use mir.Syntax.{named}
use Rattle.dwc_base.specs.Listing.{Listing, no_items, with_first}
use Rattle.dwc_base.specs.Sections.{Fault}
use Rattle.dwc_dwarf.specs.Entries as spec
use Rattle.dwc_read.specs.declared.entry.Entry.{Entry}
use Rattle.dwc_read.specs.declared.entries.Entries.{Entries}
use Rattle.dwc_read.specs.declared.fault.ReadFault.{ReadFault}
use Rattle.dwc_read.specs.contracts.entries.Entries.{the_row}
use Rattle.dwc_read.specs.Faults.{RefusesNext, fault_seen}
use Rattle.dwc_read.specs.EntriesSeen.{BeginsWith, entry_view}

-- The entry that is lent is the first of the listing; at the end there is none, and a refusal is the fault that comes next.
abbrev pub Lends : Listing Fault spec.Entry → Result (Option (Bor Entry)) ReadFault → Type 0
Lends old (Ok (Some e)) = (rest : Listing Fault spec.Entry) × (old ≡ with_first (entry_view e.now) rest)
Lends old (Ok None) = old ≡ no_items
Lends old (Err e) = BeginsWith old (fault_seen e)

-- Once the entry is given back the others are left; at the end, and at a fault, the same comes again.
abbrev pub LeavesOthers : Listing Fault spec.Entry → Listing Fault spec.Entry → Result (Option (Bor Entry)) ReadFault → Type 0
LeavesOthers old new (Ok (Some e)) = old ≡ with_first (entry_view e.now) new
LeavesOthers old new (Ok None) = (old ≡ no_items) × (new ≡ no_items)
LeavesOthers old new (Err e) = RefusesNext old new (fault_seen e)

-- what a value that is borrowed is, once the borrow is over
abbrev pub Becomes : MutBor Entries → (Entries → Type 0) → Fml
Becomes r P = follows_so (the_row (record { mir = named 1; lft = [] })) (the_row (record { mir = named 1; lft = [] })) r.ghost_name none (λ _ _. ⊤) P
