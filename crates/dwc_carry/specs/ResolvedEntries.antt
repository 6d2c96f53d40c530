-- What a call answers that reads what a reference goes to.
use Rattle.std.specs.Prelude.{◌≡◌, ℕ, nat_lt, true, false, Bool, Option, Some, None, option_map, Result, Ok, Err}
use Rattle.dwc_base.specs.Listing.{Listing}
use Rattle.dwc_base.specs.Sections.{Fault}
use Rattle.dwc_dwarf.specs.Entries.{Entry}
use Rattle.dwc_rules.specs.Refusals.{of_place}
use Rattle.dwc_rules.specs.Targets.{entry_in_listing, place_of_fault, fault_up_to}
use Rattle.dwc_read.specs.declared.fault.ReadFault.{ReadFault}
use Rattle.dwc_read.specs.Faults.{fault_seen}
use Rattle.dwc_carry.specs.declared.error.DebugError.{DebugError}
use Rattle.dwc_carry.specs.Refusals.{ReadsOr}

-- the fault that reading meets, if any
abbrev pub fault_met : {A : Type 0} → Result A Fault → Option Fault
fault_met (Ok x) = None
fault_met (Err fault) = Some fault

-- A call gives what reading gives, seen by `view`; or it tells the fault that reading meets.
abbrev pub GivesRead : {X A : Type 0} → (X → A) → Result A Fault → Result X DebugError → Type 0
GivesRead view read result = ReadsOr (λ x. read ≡ Ok (view x)) (option_map of_place (fault_met read)) result

-- A fault that ends the entries says what begins at a place; want of memory says nothing.
abbrev pub EndsSearch : ℕ → Listing Fault Entry → Option Fault → Type 0
EndsSearch place list None = Unit {0}
EndsSearch place list (Some fault) = entry_in_listing place list ≡ fault_up_to place (Some fault)

-- A call that goes on to the entry of a listing that begins at a place: whether there is one, which is then the current one; or the fault
-- that the entries up to the place end with.
abbrev pub GoesTo : ℕ → Listing Fault Entry → Entry → Result Bool ReadFault → Type 0
GoesTo place list current (Ok true) = entry_in_listing place list ≡ Ok (Some current)
GoesTo place list current (Ok false) = entry_in_listing place list ≡ Ok None
GoesTo place list current (Err e) = EndsSearch place list (fault_seen e)

-- whether a fault stands behind a place
abbrev pub is_fault_behind : ℕ → Option Fault → Bool
is_fault_behind place None = false
is_fault_behind place (Some fault) = nat_lt place (place_of_fault fault)
