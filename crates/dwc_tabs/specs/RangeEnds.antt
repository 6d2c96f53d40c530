-- What the entries of a list give, and the intervals of range lists, as they are told one at a time. (DWARF 4, section 2.17.3; DWARF 5,
-- section 2.17.3.)
use Rattle.std.specs.Prelude.{◌≡◌, ℕ, Option, Some, None, option_map, Result, Ok, Err}
use Rattle.std.specs.List.{filter_map}
use Rattle.dwc_base.specs.declared.records.Address.{Address}
use Rattle.dwc_base.specs.declared.faults.What.TheVariants.{RangeList}
use Rattle.dwc_base.specs.declared.faults.Flaw.{Flaw}
use Rattle.dwc_base.specs.Listing.{Listing, no_items, only_fault, with_first}
use Rattle.dwc_base.specs.Sections.{Sections, Fault, unreadable, unsupported}
use Rattle.dwc_base.specs.Reading.{◌>>=◌}
use Rattle.dwc_dwarf.specs.RawLists.{ListSource, RawEntry, list_fault}
use Rattle.dwc_base.specs.Units.{UnitHeader}
use Rattle.dwc_dwarf.specs.Trees.{Interval}
use Rattle.dwc_dwarf.specs.Lists.{ListRefusal, of_place, long_range, list_source, interval_given, base_behind, intervals_given, ranges_of_value}
use Rattle.dwc_tabs.specs.declared.list_fault.ListFault.{ListFault}
use Rattle.dwc_tabs.specs.declared.list_fault.ListFault.TheVariants.{Read, Unsupported, TooLarge}
use Rattle.dwc_dwarf.specs.Values.{Value}
use Rattle.dwc_read.specs.declared.fault.ReadFault.{ReadFault}
use Rattle.dwc_read.specs.Faults.{fault_seen}
use Rattle.dwc_tabs.specs.RangeLists.{RangeEntriesView, Tells, range_list_named}

-- what a refusal tells
abbrev pub refusal_view : ListFault → ListRefusal
refusal_view (Read what section offset) = of_place (unreadable what section offset)
refusal_view (Unsupported kind offset) = of_place (unsupported kind offset)
refusal_view TooLarge = long_range

-- an interval by its two ends
abbrev pub interval_view : Address × Address → Interval
interval_view p = record { begin = p.0; end = p.1 }

-- a call gives what a definition gives, seen by `view`, or is refused as it is
abbrev pub GivesOrRefusal : {X A : Type 0} → (X → A) → Result A ListRefusal → Result X ListFault → Type 0
GivesOrRefusal view read (Ok x) = read ≡ Ok (view x)
GivesOrRefusal view read (Err e) = read ≡ Err (refusal_view e)

-- what an entry gives: an interval, if it gives one, and the base behind it
abbrev pub given_view : Option (Address × Address) × Address → Option Interval × Address
given_view p = (option_map interval_view p.0, p.1)

-- ---- one call

-- what an entry gives at a base, with the base behind it
unfoldable pub given_at : ListSource → (Flaw → Fault) → Address → RawEntry → Result (Option Interval × Address) ListRefusal
given_at s told base e = interval_given s told base e >>= λ interval. base_behind s told base e >>= λ next. Ok (interval, next)

-- what the entries that are left of a list give from a base on
abbrev pub given_from : ListSource → (Flaw → Fault) → Listing Fault RawEntry → Address → Listing ListRefusal (Option Interval)
given_from s told left base = intervals_given s told base left.items left.fault

-- the same of a range list of a unit
unfoldable pub ranges_given : Sections → UnitHeader → RangeEntriesView → Address → Listing ListRefusal (Option Interval)
ranges_given s h e base = given_from (list_source s h) (list_fault RangeList e.place) e.left base

-- what is given, without the entries that give nothing
abbrev pub among_given : {A : Type 0} → Listing ListRefusal (Option A) → Listing ListRefusal A
among_given given = record { items = filter_map (λ i. i) given.items; fault = given.fault }

-- A call answers the next item of a listing: it gives the first, and leaves the others; at the end, and at a refusal, it
-- answers the same again.
abbrev pub GivesNextOf : {X A : Type 0} → (X → A) → Listing ListRefusal A → Listing ListRefusal A → Result (Option X) ListFault → Type 0
GivesNextOf view old new (Ok (Some x)) = old ≡ with_first (view x) new
GivesNextOf view old new (Ok None) = (old ≡ no_items) × (new ≡ no_items)
GivesNextOf view old new (Err e) = (old ≡ only_fault (refusal_view e)) × (new ≡ only_fault (refusal_view e))

-- A call begins the intervals of the range list that a value of a unit names, which are the same wherever they are told.
abbrev pub BeginsRanges : Sections → UnitHeader → Value → Result (Listing ListRefusal Interval) ReadFault → Type 0
BeginsRanges s h v (Ok r) = (offset : ℕ) → r ≡ ranges_of_value (list_source s h) offset v
BeginsRanges s h v (Err e) = Tells (range_list_named s h v) (fault_seen e)
