-- Where entries stand, and what is written of units: a reference is an offset in its unit, or in `.debug_info`. (DWARF 4, sections
-- 7.5.1 and 7.5.4.)
use Rattle.std.specs.Prelude.{ℕ, ◌+◌, ◌≤◌, ◌==◌, List, [], ◌∷◌, map, length, sum_by, get_or, slice_get, if◌then◌else◌, Option, Some, None}
use Rattle.std.specs.Option.{unwrap_or}
use Rattle.std.specs.List.{flat_map}
use Rattle.dwc_base.specs.declared.records.Endian.{Endian}
use Rattle.dwc_section.specs.Spelled.{at_places}
use Rattle.dwc_unit.specs.SpelledTables.{table_bytes}
use Rattle.dwc_unit.specs.SpelledUnits.{WrittenEntry, shaped, entry_bytes, entries_bytes, header_length}
use Rattle.dwc_write.specs.SpelledSections.{WrittenUnit, WrittenTable, lines_bytes}
use Rattle.dwc_unit.specs.declared.lists.ListPlaces.{ListPlaces}
use Rattle.dwc_unit.specs.LineNames.{own_directory}
use Rattle.dwc_unit.specs.Lists.{behind_attributes, contribution_bytes, lists_begin, ListEntry, locations_in, no_lists, nowhere, ranges_in}
use Rattle.dwc_section.specs.Writers.{most_bytes}
use Rattle.dwc_unit.specs.GivenLines.{GivenLines}
use Rattle.dwc_unit.specs.GivenUnits.{GivenEntry, OrderedUnit, Places, no_places, place_of, size_of, first_uses, shapes_of, shapes_in, numbered, written_entries, lists_of_entries}

-- ---- the entries of a unit

-- the entries of a unit while nothing has a place: they are as long as in the end
abbrev pub unplaced : OrderedUnit → List WrittenEntry
unplaced u = written_entries nowhere no_places no_lists (shapes_in u) u.entries

-- the offsets of a unit's entries in it, in file order
abbrev pub entry_offsets : Endian → ℕ → OrderedUnit → List ℕ
entry_offsets order size u = at_places (entry_bytes order size) (λ place x. place ∷ []) (header_length u.version) (shaped (unplaced u))

-- how long a unit is
abbrev pub unit_length : Endian → ℕ → OrderedUnit → ℕ
unit_length order size u = header_length u.version + length (entries_bytes order size (unplaced u))

-- how long units are together; all are of one size
abbrev pub units_length : Endian → List OrderedUnit → ℕ
units_length order us = sum_by (unit_length order (size_of us)) us

-- the codes of entries in file order
abbrev pub codes_of : List GivenEntry → List ℕ
codes_of es = map (λ e. e.code) (written_entries nowhere no_places no_lists (first_uses [] (shapes_of es)) es)

-- the offset of the entry that was added at a place, among entries in file order with their offsets; 0, where no entry begins,
-- if there is none
abbrev pub offset_among : ℕ → List GivenEntry → List ℕ → ℕ
offset_among place [] offsets = 0
offset_among place (e ∷ es) [] = 0
offset_among place (e ∷ es) (o ∷ os) = if e.place == place then o else offset_among place es os

abbrev pub offset_if_added : List GivenEntry → List ℕ → Option ℕ → ℕ
offset_if_added es offsets None = 0
offset_if_added es offsets (Some place) = offset_among place es offsets

-- the offsets of entries in their unit by their numbers; 0 for a number that is only reserved
abbrev pub offsets_by_number : Endian → ℕ → OrderedUnit → List ℕ
offsets_by_number order size u = map (offset_if_added u.entries (entry_offsets order size u)) u.places

-- ---- units

-- where a unit begins, and the offsets in it of its entries by their numbers
pub record UnitPlaces : Type 0 where
  pub start : ℕ
  pub offsets : List ℕ

-- units one behind another, from a place on
abbrev pub places_of_units : Endian → ℕ → ℕ → List OrderedUnit → List UnitPlaces
places_of_units order size start [] = []
places_of_units order size start (u ∷ us) = record { start = start; offsets = offsets_by_number order size u } ∷ places_of_units order size (start + unit_length order size u) us

-- the offset in `.debug_info` of an entry by the numbers of its unit and its own; 0 where there is no such unit
abbrev pub offset_in_section : List UnitPlaces → ℕ → ℕ → ℕ
offset_in_section units unit id = elim (slice_get units unit) [ None ↦ 0 | Some u ↦ u.start + get_or u.offsets id 0 ]

-- where all units stand, and the texts of a table by their numbers, if they stand; the table, and the texts that line tables name elsewhere
pub record AllPlaces : Type 0 where
  pub units : List UnitPlaces
  pub texts : List (Option ℕ)
  pub table : List (List ℕ)
  pub names : List (List ℕ)

-- the offset in `.debug_str` of a text by its number; 0 for one that does not stand there
abbrev pub offset_of_text : List (Option ℕ) → ℕ → ℕ
offset_of_text texts id = unwrap_or (place_of id texts) 0

-- the places in a unit of a version among others, whose line table stands at an offset
abbrev pub places_in : AllPlaces → ℕ → List ℕ → ℕ → Places
places_in all version offsets line = record { version = version; line = line; entry = λ id. get_or offsets id 0; entry_of = offset_in_section all.units; text = offset_of_text all.texts }

-- All places are below the most bytes that a section holds.
pub record AreShort (p : Places) : Type 0 where
  pub line : p.line ≤ most_bytes
  pub entry : (id : ℕ) → p.entry id ≤ most_bytes
  pub entry_of : (unit id : ℕ) → p.entry_of unit id ≤ most_bytes
  pub text : (id : ℕ) → p.text id ≤ most_bytes

-- ---- what is written of units, whose abbreviation tables and line tables stand at offsets, and whose lists of each kind begin at others

-- where the first of a unit's lists of a kind stands, which begin at a place: behind a header, where there are some
abbrev pub first_place : ℕ → List ListEntry → ℕ → ℕ
first_place version [] place = place
first_place version (l ∷ ls) place = place + lists_begin version

abbrev pub lists_from : ℕ → List GivenEntry → ListPlaces → ListPlaces
lists_from version es lists = record { ranges = first_place version (lists_of_entries ranges_in es) lists.ranges; locations = first_place version (lists_of_entries locations_in es) lists.locations }

abbrev pub written_unit : ℕ → ListPlaces → Places → ℕ → OrderedUnit → WrittenUnit
written_unit size lists places table_offset u = record { version = u.version; table_offset = table_offset; table = numbered 1 (shapes_in u); entries = written_entries (behind_attributes u.version size) places (lists_from u.version u.entries lists) (shapes_in u) u.entries }

-- where the lists stand of the unit behind one
abbrev pub behind_unit : Endian → ℕ → ListPlaces → OrderedUnit → ListPlaces
behind_unit order size lists u = record { ranges = lists.ranges + length (contribution_bytes u.version order size (lists_of_entries ranges_in u.entries)); locations = lists.locations + length (contribution_bytes u.version order size (lists_of_entries locations_in u.entries)) }

-- its line table, where it has one
abbrev pub written_lines : ℕ → List (List ℕ) → List ℕ → GivenLines → List WrittenTable
written_lines version texts own g = elim g.address_size [ None ↦ [] | Some size ↦ record { version = version; texts = texts; own = own; directories = g.directories; files = g.files; sequences = g.sequences } ∷ [] ]

-- the same of a unit among others
abbrev pub table_of : AllPlaces → OrderedUnit → List WrittenTable
table_of all u = written_lines u.version all.names (own_directory all.table u) u.lines

-- units among others, whose tables and lists stand one behind another from some offsets on
abbrev pub written_units : Endian → ℕ → AllPlaces → ℕ → ℕ → ListPlaces → List OrderedUnit → List WrittenUnit
written_units order size all table_offset line_offset lists [] = []
written_units order size all table_offset line_offset lists (u ∷ us) =
    written_unit size lists (places_in all u.version (offsets_by_number order size u) line_offset) table_offset u
    ∷ written_units order size all (table_offset + length (table_bytes (numbered 1 (shapes_in u)))) (line_offset + length (lines_bytes order size (table_of all u))) (behind_unit order size lists u) us

abbrev pub written_tables : AllPlaces → List OrderedUnit → List WrittenTable
written_tables all us = flat_map (table_of all) us
