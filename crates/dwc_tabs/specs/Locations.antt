-- The intervals of location lists with their expressions, as they are told one at a time. (DWARF 4, section 2.6.2; DWARF 5,
-- section 2.6.2.)
use Rattle.std.specs.Prelude.{◌≡◌, ℕ, List, map, zip, Option, Some, None, Result, Ok, Err}
use Rattle.std.specs.Borrow.{Bor}
use Rattle.dwc_base.specs.declared.records.Address.{Address}
use Rattle.dwc_base.specs.declared.faults.What.TheVariants.{LocationList}
use Rattle.dwc_base.specs.Cursors.{slice_bytes}
use Rattle.dwc_base.specs.Listing.{Listing, no_items, only_fault, with_first}
use Rattle.dwc_base.specs.Sections.{Sections, Fault}
use Rattle.dwc_base.specs.Units.{UnitHeader}
use Rattle.dwc_dwarf.specs.Values.{Value}
use Rattle.dwc_dwarf.specs.Trees.{Interval}
use Rattle.dwc_dwarf.specs.RawLists.{RawEntry, RawLocation, list_fault}
use Rattle.dwc_dwarf.specs.Lists as Definitions
use Rattle.dwc_dwarf.specs.Lists.{ListRefusal, list_source, with_expression, locations_of_value}
use Rattle.dwc_read.specs.declared.fault.ReadFault.{ReadFault}
use Rattle.dwc_read.specs.Faults.{fault_seen}
use Rattle.dwc_tabs.specs.declared.list_fault.ListFault.{ListFault}
use Rattle.dwc_tabs.specs.declared.listed_location.ListedLocation.{ListedLocation}
use Rattle.dwc_tabs.specs.RangeLists.{Tells}
use Rattle.dwc_tabs.specs.RangeEnds.{given_from, refusal_view}
use Rattle.dwc_tabs.specs.LocationLists.{LocationEntriesView, location_list_named}

-- an interval of a location list with its expression, as the definitions have it
abbrev pub listed_view : ListedLocation → Definitions.ListedLocation
listed_view l = record { over = record { begin = l.begin; end = l.end }; holds = record { section = l.section; place = l.place; bytes = l.bytes.now } }

-- what the entries that are left say of addresses
abbrev pub said : Listing Fault RawLocation → Listing Fault RawEntry
said left = record { items = map (λ e. e.says) left.items; fault = left.fault }

-- what each entry gives, with its expression
abbrev pub each_with_expression : List RawLocation → Listing ListRefusal (Option Interval) → Listing ListRefusal (Option Definitions.ListedLocation)
each_with_expression entries given = record { items = map with_expression (zip given.items (map (λ e. e.holds) entries)); fault = given.fault }

-- what the entries of a location list of a unit that are still to come give from a base on
unfoldable pub locations_given : Sections → UnitHeader → LocationEntriesView → Address → Listing ListRefusal (Option Definitions.ListedLocation)
locations_given s h e base = each_with_expression e.left.items (given_from (list_source s h) (list_fault LocationList e.place) (said e.left) base)

-- ---- one call

-- a location without the place of its expression
abbrev pub without_place : Definitions.ListedLocation → Interval × List ℕ
without_place l = (l.over, l.holds.bytes)

-- an interval by its two ends, and the bytes of its expression
abbrev pub location_seen : Address × Address × Bor (List ℕ) → Interval × List ℕ
location_seen p = (record { begin = p.0; end = p.1 }, slice_bytes p.2)

-- The first of a listing is a location whose interval and expression are these, and the others are left.
pub record BeginsWith (old new : Listing ListRefusal Definitions.ListedLocation) (seen : Interval × List ℕ) : Type 0 where
  pub location : Definitions.ListedLocation
  pub first : old ≡ with_first location new
  pub same : without_place location ≡ seen

-- A call answers the next location without the place of its expression: it gives the first, and leaves the others; at the
-- end, and at a refusal, it answers the same again.
abbrev pub GivesNextLocation : Listing ListRefusal Definitions.ListedLocation → Listing ListRefusal Definitions.ListedLocation → Result (Option (Address × Address × Bor (List ℕ))) ListFault → Type 0
GivesNextLocation old new (Ok (Some x)) = BeginsWith old new (location_seen x)
GivesNextLocation old new (Ok None) = (old ≡ no_items) × (new ≡ no_items)
GivesNextLocation old new (Err e) = (old ≡ only_fault (refusal_view e)) × (new ≡ only_fault (refusal_view e))

-- A call begins the locations of the list that a value of a unit names, which are the same wherever they are told.
abbrev pub BeginsLocations : Sections → UnitHeader → Value → Result (Listing ListRefusal Definitions.ListedLocation) ReadFault → Type 0
BeginsLocations s h v (Ok l) = (offset : ℕ) → l ≡ locations_of_value (list_source s h) offset v
BeginsLocations s h v (Err e) = Tells (location_list_named s h v) (fault_seen e)
