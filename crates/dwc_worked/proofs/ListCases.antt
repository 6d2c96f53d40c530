-- Range lists and location lists of each kind, as they stand and as they are understood.
use Rattle.std.proofs.Common.{◌≡◌, ℕ, pos, negsuc, List, [], ◌∷◌, Some, None, refl}
use Rattle.dwc_base.specs.declared.records.Address.TheVariants.{Constant, Symbol}
use Rattle.dwc_base.specs.declared.records.Endian.TheVariants.{Little, Big}
use Rattle.dwc_base.specs.declared.section_name.SectionName.TheVariants.{Info, Loc, Loclists, Ranges, Rnglists}
use Rattle.dwc_base.specs.declared.faults.What.TheVariants.{LocationList, RangeList}
use Rattle.dwc_base.specs.Listing.{Listing}
use Rattle.dwc_base.specs.Sections.{unreadable}
use Rattle.dwc_dwarf.specs.Values.{constant, location_index, location_reference, range_index, range_reference}
use Rattle.dwc_dwarf.specs.Trees.{Interval}
use Rattle.dwc_dwarf.specs.RawLists.{ListSource, base_addressx, startx_endx, startx_length, offset_pair, default_location, base_address, start_end, start_length, pair, base_selection, raw_ranges, raw_locations}
use Rattle.dwc_dwarf.specs.Lists.{ListRefusal, of_place, long_range, ranges_at, ranges_of_value, locations_of_value}
use Rattle.dwc_worked.proofs.OnLists.{lists_on_literals}
use Rattle.dwc_worked.proofs.SmallLists.{source_of}

-- lists of a unit of addresses of 4 bytes that has the addresses 2, 5 and 9 by an index, and whose first base is 0x100
abbrev pub ranges_4 : List ℕ → ListSource
ranges_4 bytes = source_of 4 4 (Constant 0x100) (Constant 2 ∷ Constant 5 ∷ Constant 9 ∷ []) Little Ranges bytes []

abbrev pub ranges_5 : List ℕ → ListSource
ranges_5 bytes = source_of 5 4 (Constant 0x100) (Constant 2 ∷ Constant 5 ∷ Constant 9 ∷ []) Little Rnglists bytes []

abbrev pub locations_5 : List ℕ → ListSource
locations_5 bytes = source_of 5 4 (Constant 0x100) (Constant 2 ∷ Constant 5 ∷ Constant 9 ∷ []) Little Loclists bytes []

abbrev pub from_to : ℕ → ℕ → Interval
from_to a b = record { begin = Constant a; end = Constant b }

abbrev pub whole : {A : Type 0} → List A → Listing ListRefusal A
whole xs = record { items = xs; fault = None }

-- ---- up to version 4

-- A pair takes the base that is in force; the greatest address selects the base of the pairs behind it; two zeros end the
-- list. Empty and reversed pairs give nothing.
abbrev pub list_old : List ℕ
list_old =
    0x05 ∷ 0x00 ∷ 0x00 ∷ 0x00 ∷ 0x06 ∷ 0x00 ∷ 0x00 ∷ 0x00 ∷ 0xFF ∷ 0xFF ∷ 0xFF ∷ 0xFF ∷ 0x20 ∷ 0x00 ∷ 0x00 ∷ 0x00 ∷ 0x00 ∷ 0x00 ∷ 0x00 ∷ 0x00 ∷ 0x02 ∷ 0x00 ∷ 0x00 ∷ 0x00
    ∷ 0x03 ∷ 0x00 ∷ 0x00 ∷ 0x00 ∷ 0x03 ∷ 0x00 ∷ 0x00 ∷ 0x00 ∷ 0x04 ∷ 0x00 ∷ 0x00 ∷ 0x00 ∷ 0x03 ∷ 0x00 ∷ 0x00 ∷ 0x00 ∷ 0x00 ∷ 0x00 ∷ 0x00 ∷ 0x00 ∷ 0x00 ∷ 0x00 ∷ 0x00 ∷ 0x00 ∷ []

old-raw : raw_ranges (ranges_4 list_old) (record { section = Ranges; offset = 0 }) ≡ record {
  items = pair (Constant 5) (Constant 6) ∷ base_selection (Constant 0x20) ∷ pair (Constant 0) (Constant 2) ∷ pair (Constant 3) (Constant 3) ∷ pair (Constant 4) (Constant 3) ∷ [];
  fault = None;
}
unfolding lists_on_literals
old-raw = refl

old-intervals : ranges_of_value (ranges_4 list_old) 11 (range_reference 0) ≡ whole (from_to 0x105 0x106 ∷ from_to 0x20 0x22 ∷ [])
unfolding lists_on_literals
old-intervals = refl

-- from the middle on: the list behind the base has the first base
old-behind : ranges_of_value (ranges_4 list_old) 11 (range_reference 16) ≡ whole (from_to 0x100 0x102 ∷ [])
unfolding lists_on_literals
old-behind = refl

-- a list that begins at the end of its section, or past it, cannot be read; nor one without its end
old-past : ranges_of_value (ranges_4 list_old) 11 (range_reference 99) ≡ record { items = []; fault = Some (of_place (unreadable RangeList Ranges 99)) }
unfolding lists_on_literals
old-past = refl

old-cut : ranges_of_value (ranges_4 (0x05 ∷ 0x00 ∷ 0x00 ∷ 0x00 ∷ 0x06 ∷ 0x00 ∷ 0x00 ∷ 0x00 ∷ [])) 11 (range_reference 0) ≡ record { items = from_to 0x105 0x106 ∷ []; fault = Some (of_place (unreadable RangeList Ranges 0)) }
unfolding lists_on_literals
old-cut = refl

-- In an output a function's address takes no base, and no end of a list: a function and a number give nothing, a number
-- from a base that is a function is an address of that function, and a base may be behind the number.
abbrev pub list_output : List ℕ
list_output =
    0x00 ∷ 0x00 ∷ 0x00 ∷ 0x00 ∷ 0x00 ∷ 0x00 ∷ 0x00 ∷ 0x07 ∷ 0x00 ∷ 0x00 ∷ 0x00 ∷ 0x00 ∷ 0x00 ∷ 0x00 ∷ 0x00 ∷ 0x07
    ∷ 0xFF ∷ 0xFF ∷ 0xFF ∷ 0xFF ∷ 0x00 ∷ 0x00 ∷ 0x00 ∷ 0x00 ∷ 0x00 ∷ 0x00 ∷ 0x00 ∷ 0x01 ∷ 0x00 ∷ 0x00 ∷ 0x00 ∷ 0x03 ∷ 0x00 ∷ 0x00 ∷ 0x00 ∷ 0x00 ∷ 0x00 ∷ 0x00 ∷ 0x00 ∷ 0x00 ∷ []

output-intervals :
    ranges_at
    (source_of 4 4 (Constant 0) [] Big Ranges list_output
    (record { offset = 0; size = 4; function = 3; addend = pos 0 } ∷ record { offset = 4; size = 4; function = 3; addend = pos 7 } ∷ record { offset = 8; size = 4; function = 3; addend = pos 0 } ∷ record { offset = 20; size = 4; function = 6; addend = negsuc 0 } ∷ []))
    (record { section = Ranges; offset = 0 })
    ≡ whole (record { begin = Symbol 3 (pos 0); end = Symbol 3 (pos 7) } ∷ record { begin = Symbol 6 (pos 0); end = Symbol 6 (pos 2) } ∷ [])
unfolding lists_on_literals
output-intervals = refl

-- ---- from version 5 on

-- each kind of a range list, its base entries before and behind others
abbrev pub list_each : List ℕ
list_each =
    0x04 ∷ 0x01 ∷ 0x03 ∷ 0x02 ∷ 0x00 ∷ 0x02 ∷ 0x03 ∷ 0x01 ∷ 0x03 ∷ 0x01 ∷ 0x02 ∷ 0x04 ∷ 0x00 ∷ 0x01
    ∷ 0x05 ∷ 0x40 ∷ 0x00 ∷ 0x00 ∷ 0x00 ∷ 0x04 ∷ 0x01 ∷ 0x02 ∷ 0x06 ∷ 0x01 ∷ 0x00 ∷ 0x00 ∷ 0x00 ∷ 0x04 ∷ 0x00 ∷ 0x00 ∷ 0x00
    ∷ 0x07 ∷ 0x10 ∷ 0x00 ∷ 0x00 ∷ 0x00 ∷ 0x80 ∷ 0x01 ∷ 0x07 ∷ 0x10 ∷ 0x00 ∷ 0x00 ∷ 0x00 ∷ 0x00 ∷ 0x00 ∷ []

each-raw : raw_ranges (ranges_5 list_each) (record { section = Rnglists; offset = 0 }) ≡ record {
  items =
      offset_pair 1 3 ∷ startx_endx 0 2 ∷ startx_length 1 3 ∷ base_addressx 2 ∷ offset_pair 0 1 ∷ base_address (Constant 0x40) ∷ offset_pair 1 2
      ∷ start_end (Constant 1) (Constant 4) ∷ start_length (Constant 0x10) 0x80 ∷ start_length (Constant 0x10) 0 ∷ [];
  fault = None;
}
unfolding lists_on_literals
each-raw = refl

each-intervals : ranges_of_value (ranges_5 list_each) 11 (range_reference 0) ≡ whole (from_to 0x101 0x103 ∷ from_to 2 9 ∷ from_to 5 8 ∷ from_to 9 10 ∷ from_to 0x41 0x42 ∷ from_to 1 4 ∷ from_to 0x10 0x90 ∷ [])
unfolding lists_on_literals
each-intervals = refl

-- a code of no kind, and an index without an address: the intervals before it stand
no-kind : ranges_of_value (ranges_5 (0x04 ∷ 0x01 ∷ 0x03 ∷ 0x08 ∷ 0x00 ∷ [])) 11 (range_reference 0) ≡ record { items = from_to 0x101 0x103 ∷ []; fault = Some (of_place (unreadable RangeList Rnglists 0)) }
unfolding lists_on_literals
no-kind = refl

no-address : ranges_of_value (ranges_5 (0x04 ∷ 0x01 ∷ 0x03 ∷ 0x01 ∷ 0x03 ∷ 0x00 ∷ [])) 11 (range_reference 0) ≡ record { items = from_to 0x101 0x103 ∷ []; fault = Some (of_place (unreadable RangeList Rnglists 0)) }
unfolding lists_on_literals
no-address = refl

-- the raw entries name an index without looking it up
raw-index : raw_ranges (ranges_5 (0x01 ∷ 0x03 ∷ 0x00 ∷ [])) (record { section = Rnglists; offset = 0 }) ≡ record { items = base_addressx 3 ∷ []; fault = None }
unfolding lists_on_literals
raw-index = refl

-- a start plus a length of 2 ^ 64 is no address, one below is; and what stands behind is not looked at
abbrev pub list_long : ℕ → List ℕ
list_long low = 0x07 ∷ 0x04 ∷ 0x00 ∷ 0x00 ∷ 0x00 ∷ low ∷ 0xFF ∷ 0xFF ∷ 0xFF ∷ 0xFF ∷ 0xFF ∷ 0xFF ∷ 0xFF ∷ 0xFF ∷ 0x01 ∷ 0x00 ∷ []

long : ranges_of_value (ranges_5 (list_long 0xFC)) 11 (range_reference 0) ≡ record { items = []; fault = Some long_range }
unfolding lists_on_literals
long = refl

not-long : ranges_of_value (ranges_5 (list_long 0xFB)) 11 (range_reference 0) ≡ whole (from_to 4 0xFFFFFFFFFFFFFFFF ∷ [])
unfolding lists_on_literals
not-long = refl

-- of a function's address it is the addend that has 64 signed bits
abbrev pub list_long_output : ℕ → ListSource
list_long_output low = source_of 5 8 (Constant 0) [] Little Rnglists (0x07 ∷ 0x00 ∷ 0x00 ∷ 0x00 ∷ 0x00 ∷ 0x00 ∷ 0x00 ∷ 0x00 ∷ 0x00 ∷ low ∷ 0xFF ∷ 0xFF ∷ 0xFF ∷ 0xFF ∷ 0xFF ∷ 0xFF ∷ 0xFF ∷ 0x7F ∷ 0x00 ∷ []) (record { offset = 1; size = 8; function = 2; addend = pos 4 } ∷ [])

long-output : ranges_of_value (list_long_output 0xFC) 11 (range_reference 0) ≡ record { items = []; fault = Some long_range }
unfolding lists_on_literals
long-output = refl

not-long-output : ranges_of_value (list_long_output 0xFB) 11 (range_reference 0) ≡ whole (record { begin = Symbol 2 (pos 4); end = Symbol 2 (pos 0x7FFFFFFFFFFFFFFF) } ∷ [])
unfolding lists_on_literals
not-long-output = refl

-- a sum with a base wraps at 2 ^ 64, so a pair across it is reversed
wraps : ranges_at (source_of 5 8 (Constant 0xFFFFFFFFFFFFFFFE) [] Little Rnglists (0x04 ∷ 0x03 ∷ 0x05 ∷ 0x04 ∷ 0x01 ∷ 0x05 ∷ 0x00 ∷ []) []) (record { section = Rnglists; offset = 0 }) ≡ whole (from_to 1 3 ∷ [])
unfolding lists_on_literals
wraps = refl

-- ---- location lists

-- a default location has an expression and gives nothing; base entries have none
abbrev pub list_locations : List ℕ
list_locations = 0x05 ∷ 0x01 ∷ 0x30 ∷ 0x06 ∷ 0x40 ∷ 0x00 ∷ 0x00 ∷ 0x00 ∷ 0x04 ∷ 0x01 ∷ 0x02 ∷ 0x02 ∷ 0x91 ∷ 0x12 ∷ 0x08 ∷ 0x01 ∷ 0x00 ∷ 0x00 ∷ 0x00 ∷ 0x03 ∷ 0x00 ∷ 0x04 ∷ 0x03 ∷ 0x03 ∷ 0x01 ∷ 0x9F ∷ 0x00 ∷ []

locations-raw : raw_locations (locations_5 list_locations) (record { section = Loclists; offset = 0 }) ≡ record {
  items =
      record { says = default_location; holds = Some (record { section = Loclists; place = 2; bytes = 0x30 ∷ [] }) } ∷ record { says = base_address (Constant 0x40); holds = None }
      ∷ record { says = offset_pair 1 2; holds = Some (record { section = Loclists; place = 12; bytes = 0x91 ∷ 0x12 ∷ [] }) } ∷ record { says = start_length (Constant 1) 3; holds = Some (record { section = Loclists; place = 21; bytes = [] }) }
      ∷ record { says = offset_pair 3 3; holds = Some (record { section = Loclists; place = 25; bytes = 0x9F ∷ [] }) } ∷ [];
  fault = None;
}
unfolding lists_on_literals
locations-raw = refl

locations-each : locations_of_value (locations_5 list_locations) 11 (location_reference 0) ≡ whole (record { over = from_to 0x41 0x42; holds = record { section = Loclists; place = 12; bytes = 0x91 ∷ 0x12 ∷ [] } } ∷ record { over = from_to 1 4; holds = record { section = Loclists; place = 21; bytes = [] } } ∷ [])
unfolding lists_on_literals
locations-each = refl

-- up to version 4 the length of an expression has two bytes
locations-old :
    locations_of_value
    (source_of 3 4 (Constant 2) [] Big Loc (0x00 ∷ 0x00 ∷ 0x00 ∷ 0x01 ∷ 0x00 ∷ 0x00 ∷ 0x00 ∷ 0x03 ∷ 0x00 ∷ 0x01 ∷ 0x9C ∷ 0xFF ∷ 0xFF ∷ 0xFF ∷ 0xFF ∷ 0x00 ∷ 0x00 ∷ 0x00 ∷ 0x09 ∷ 0x00 ∷ 0x00 ∷ 0x00 ∷ 0x00 ∷ 0x00 ∷ 0x00 ∷ 0x00 ∷ 0x00 ∷ []) [])
    11 (location_reference 0)
    ≡ whole (record { over = from_to 3 5; holds = record { section = Loc; place = 10; bytes = 0x9C ∷ [] } } ∷ [])
unfolding lists_on_literals
locations-old = refl

-- an expression that is cut
locations-cut : locations_of_value (locations_5 (0x04 ∷ 0x01 ∷ 0x02 ∷ 0x02 ∷ 0x91 ∷ [])) 11 (location_reference 0) ≡ record { items = []; fault = Some (of_place (unreadable LocationList Loclists 0)) }
unfolding lists_on_literals
locations-cut = refl

-- ---- by an index

-- the number at the base and 4 times the index is added to the base
indexed : ranges_of_value (ranges_5 (0 ∷ 0 ∷ 0 ∷ 0 ∷ 0 ∷ 0 ∷ 0 ∷ 0 ∷ 0 ∷ 0 ∷ 0 ∷ 0 ∷ 0xEE ∷ 0xEE ∷ 0xEE ∷ 0xEE ∷ 0x08 ∷ 0x00 ∷ 0x00 ∷ 0x00 ∷ 0x04 ∷ 0x01 ∷ 0x03 ∷ 0x00 ∷ [])) 11 (range_index 1) ≡ whole (from_to 0x101 0x103 ∷ [])
unfolding lists_on_literals
indexed = refl

-- an index without its bytes is a fault of the entry; with them, of a list past the section, one of the list
index-cut : ranges_of_value (ranges_5 (0 ∷ 0 ∷ 0 ∷ 0 ∷ 0 ∷ 0 ∷ 0 ∷ 0 ∷ 0 ∷ 0 ∷ 0 ∷ 0 ∷ 0xEE ∷ 0xEE ∷ 0xEE ∷ 0xEE ∷ 0x08 ∷ 0x00 ∷ 0x00 ∷ [])) 11 (range_index 1) ≡ record { items = []; fault = Some (of_place (unreadable RangeList Info 11)) }
unfolding lists_on_literals
index-cut = refl

index-past : locations_of_value (locations_5 (0 ∷ 0 ∷ 0 ∷ 0 ∷ 0 ∷ 0 ∷ 0 ∷ 0 ∷ 0 ∷ 0 ∷ 0 ∷ 0 ∷ 0xEE ∷ 0x00 ∷ 0x00 ∷ 0x00 ∷ [])) 11 (location_index 0) ≡ record { items = []; fault = Some (of_place (unreadable LocationList Loclists 0xFA)) }
unfolding lists_on_literals
index-past = refl

-- a value of another class names no list
no-list : ranges_of_value (ranges_5 []) 11 (constant 0x06 4) ≡ whole []
unfolding lists_on_literals
no-list = refl
