-- What the entries of a range list show of its code, one after another, and what cannot be read of them. (This project's own rule.)
use Rattle.std.specs.Prelude.{ℕ, ◌++◌, List, ◌||◌, Option, None, option_map, option_to_list}
use Rattle.std.specs.Option.{option_or}
use Rattle.dwc_base.specs.declared.section_name.SectionName.{SectionName}
use Rattle.dwc_base.specs.declared.faults.What.TheVariants.{RangeList}
use Rattle.dwc_base.specs.Sections.{Fault, unreadable, unsupported}
use Rattle.dwc_base.specs.Listing.{Listing}
use Rattle.dwc_native.specs.Functions.{Function}
use Rattle.dwc_dwarf.specs.RawLists.{ListSource, ListPlace, list_fault, RawEntry, base_addressx, startx_endx, startx_length}
use Rattle.dwc_rules.specs.RangeKept.{base_known, shows_code}
use Rattle.dwc_rules.specs.RangeRefusals.{flaw_in, indexes_faults}
use Rattle.dwc_kept.specs.declared.range_code.CodeSeen.{CodeSeen}

-- a place in a section
abbrev pub list_place : SectionName → ℕ → ListPlace
list_place section offset = record { section = section; offset = offset }

-- a fault told at a list
abbrev pub told_at_list : SectionName → ℕ → Fault → Fault
told_at_list section offset (unreadable what name place) = unreadable RangeList section offset
told_at_list section offset (unsupported kind place) = unsupported kind offset

-- what cannot be read of an address by an index, told at the list
abbrev pub address_fault : ListSource → ListPlace → ℕ → Option Fault
address_fault s l i = option_map (list_fault RangeList l) (flaw_in (s.indexed i))

-- the first that cannot be read of the addresses that an entry names
abbrev pub entry_fault : ListSource → ListPlace → RawEntry → Option Fault
entry_fault s l (base_addressx i) = address_fault s l i
entry_fault s l (startx_endx i j) = option_or (address_fault s l i) (address_fault s l j)
entry_fault s l (startx_length i n) = address_fault s l i
entry_fault s l _ = None

-- what cannot be read of the entries that are left, and of the addresses that they name
abbrev pub faults_left : ListSource → ListPlace → Listing Fault RawEntry → List Fault
faults_left s l left = indexes_faults s l left.items ++ option_to_list left.fault

-- what is known behind an entry
abbrev pub seen_behind : ListSource → List Function → CodeSeen → RawEntry → CodeSeen
seen_behind s fs seen e = record { base = base_known s fs seen.base e; shows_code = shows_code s fs seen.base e || seen.shows_code }
