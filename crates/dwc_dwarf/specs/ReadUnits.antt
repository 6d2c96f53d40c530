-- The units of an input or an output, as they are read. (DWARF 5, section 7.5.)
use Rattle.std.specs.Prelude.{ℕ, List, [], ◌∷◌, Option, Some, None, Result, Ok}
use Rattle.dwc_base.specs.Reading.{◌>>=◌}
use Rattle.dwc_base.specs.Listing.{Listing, only_fault, with_first}
use Rattle.dwc_base.specs.Sections.{Sections, Fault}
use Rattle.dwc_base.specs.Units.{UnitHeader, unit_headers}
use Rattle.dwc_dwarf.specs.Values.{Value, line_reference}
use Rattle.dwc_dwarf.specs.Indexed.{text_base}
use Rattle.dwc_dwarf.specs.Entries.{Entry, entries, attribute}
use Rattle.dwc_dwarf.specs.LineRows.{LineTable, line_table, Segment, segments}
use Rattle.dwc_base.specs.declared.constants.TheConstants.{DW_AT_stmt_list}

-- a unit as it is read: its header and its entries
pub record Unit : Type 0 where
  pub header : UnitHeader
  pub entries : List Entry

-- the units of some headers, each with its entries, up to the first fault
abbrev pub units_of_headers : Sections → List UnitHeader → Option Fault → Listing Fault Unit
units_of_headers s [] last = record { items = []; fault = last }
units_of_headers s (h ∷ hs) last = with_entries h (entries s h) (units_of_headers s hs last)
  where
    with_entries : UnitHeader → Listing Fault Entry → Listing Fault Unit → Listing Fault Unit
    with_entries h es others = elim es.fault [ Some fault ↦ only_fault fault | None ↦ with_first (record { header = h; entries = es.items }) others ]

-- the units of .debug_info, in file order
unfoldable pub units : Sections → Listing Fault Unit
units s = units_of_headers s (unit_headers s).items (unit_headers s).fault

-- a unit's first entry, its root
abbrev pub root : Unit → Option Entry
root u = go u.entries
  where
    go : List Entry → Option Entry
    go [] = None
    go (e ∷ es) = Some e

-- the offset of the line table that an entry names
abbrev pub line_offset : Option Value → Option ℕ
line_offset (Some (line_reference offset)) = Some offset
line_offset _ = None

-- The line table that a unit's root names, if it names one.
abbrev pub table_of_root : Sections → Unit → Option Entry → Result (Option LineTable) Fault
table_of_root s u None = Ok None
table_of_root s u (Some e) = elim (line_offset (attribute DW_AT_stmt_list e)) [
  | None ↦ Ok None
  | Some offset ↦ (line_table s u.header.address_size (text_base s u.header) offset >>= λ t. Ok (Some t))
]

-- a unit's line table, if its root names one
unfoldable pub table_of_unit : Sections → Unit → Result (Option LineTable) Fault
table_of_unit s u = table_of_root s u (root u)

-- the segments of a table, none without one
abbrev pub segments_of : Option LineTable → List Segment
segments_of None = []
segments_of (Some t) = segments t

-- a unit's segments, in order; none without a table
unfoldable pub segments_of_unit : Sections → Unit → Result (List Segment) Fault
segments_of_unit s u = table_of_unit s u >>= λ t. Ok (segments_of t)
