-- The sections that are written of some units.
use Rattle.std.specs.Prelude.{◌≡◌, ◌<◌, ◌⊎◌, ℕ, List, [], ◌∷◌, ◌++◌, length, false, if◌then◌else◌, None, Result, Ok, Err}
use Rattle.std.specs.List.{All, flat_map}
use Rattle.dwc_base.specs.declared.records.Endian.{Endian}
use Rattle.dwc_base.specs.declared.section_name.SectionName.{SectionName}
use Rattle.dwc_base.specs.declared.section_name.SectionName.TheVariants.{Abbrev, Info, Line, LineStr, Loc, Loclists, Ranges, Rnglists, Str}
use Rattle.dwc_base.specs.Sections.{section_text}
use Rattle.dwc_base.specs.Outputs.{OutputRelocation, OutputSection}
use Rattle.dwc_section.specs.Spelled.{at_places}
use Rattle.dwc_section.specs.declared.error.WriteError.{WriteError}
use Rattle.dwc_unit.specs.SpelledTables.{table_bytes}
use Rattle.dwc_write.specs.SpelledSections.{WrittenUnit, placed_unit_bytes, tables_bytes, info_bytes, lines_bytes}
use Rattle.dwc_write.specs.SpelledRelocations.{unit_relocations, info_relocations, lines_relocations}
use Rattle.dwc_unit.specs.GivenLines.{FitsLines, no_lines}
use Rattle.dwc_unit.specs.GivenUnits.{AreShortUnits, AreWritable, FitsOrdered, GivenEntry, OrderedUnit, Places, size_of, version_of, first_uses, shapes_of, numbered, written_entries, lists_of_entries}
use Rattle.dwc_unit.specs.declared.attributes.AttributeValue.{AttributeValue}
use Rattle.dwc_unit.specs.declared.lists.ListPlaces.{ListPlaces}
use Rattle.dwc_unit.specs.LineNames.{line_texts}
use Rattle.dwc_unit.specs.Lists.{ListEntry, behind_attributes, contribution_bytes, contribution_relocations, locations_in, no_lists, ranges_in}
use Rattle.dwc_unit.specs.TextTables.{AreTexts}
use Rattle.dwc_unit.specs.UsedTexts.{HaveTexts, strings_bytes, text_places}
use Rattle.dwc_write.specs.Layouts.{AllPlaces, offsets_by_number, places_of_units, places_in, table_of, written_unit, written_units, written_tables}
use Rattle.dwc_output.specs.FramesCarried.{others_in}
use Rattle.dwc_dwarf.specs.TreeLaws.{texts_ended}
use Rattle.dwc_output.specs.FieldKinds.{section_of_locations, section_of_ranges}
use Rattle.dwc_output.specs.Versions.{are_short_in, is_old}
use Rattle.dwc_unit.specs.GivenTrees.{given_trees}
use Rattle.dwc_section.specs.Writers.{IsRefusalFor, IsSizeRefusal, Writing, Refuses, appended, most_bytes}

-- a section, where it is not empty
abbrev pub section_unless_empty : SectionName → List ℕ → List OutputRelocation → List OutputSection
section_unless_empty name [] relocations = []
section_unless_empty name (b ∷ bytes) relocations = record { name = section_text name; body = b ∷ bytes; relocations = relocations } ∷ []

-- units among others that have some places, in their section
abbrev pub units_placed : Endian → AllPlaces → List OrderedUnit → List WrittenUnit
units_placed order places us = written_units order (size_of us) places 0 0 no_lists us

abbrev pub abbrev_bytes : Endian → AllPlaces → List OrderedUnit → List ℕ
abbrev_bytes order places us = tables_bytes (units_placed order places us)

abbrev pub all_info_bytes : Endian → AllPlaces → List OrderedUnit → List ℕ
all_info_bytes order places us = info_bytes order (size_of us) (units_placed order places us)

abbrev pub all_lines_bytes : Endian → AllPlaces → List OrderedUnit → List ℕ
all_lines_bytes order places us = lines_bytes order (size_of us) (written_tables places us)

-- the texts that line tables name elsewhere, each ended by a zero; there are none up to version 4 (DWARF 5, section 6.2.4)
abbrev pub names_bytes : AllPlaces → List ℕ
names_bytes places = texts_ended places.names

-- the lists of a unit of a kind, in the order in which its entries name them, and their relocations (DWARF 4 and 5, sections 2.17.3 and 2.6.2)
abbrev pub unit_lists_bytes : (AttributeValue → List ListEntry) → Endian → ℕ → OrderedUnit → List ℕ
unit_lists_bytes lists order size u = contribution_bytes u.version order size (lists_of_entries lists u.entries)

abbrev pub unit_lists_relocations : (AttributeValue → List ListEntry) → Endian → ℕ → ℕ → OrderedUnit → List OutputRelocation
unit_lists_relocations lists order size place u = contribution_relocations u.version order size place (lists_of_entries lists u.entries)

-- those of units, one behind another
abbrev pub all_lists_bytes : (AttributeValue → List ListEntry) → Endian → List OrderedUnit → List ℕ
all_lists_bytes lists order us = flat_map (unit_lists_bytes lists order (size_of us)) us

abbrev pub all_lists_relocations : (AttributeValue → List ListEntry) → Endian → List OrderedUnit → List OutputRelocation
all_lists_relocations lists order us = at_places (unit_lists_bytes lists order (size_of us)) (unit_lists_relocations lists order (size_of us)) 0 us

-- the bytes of a section with units
abbrev pub bytes_of : Endian → AllPlaces → List OrderedUnit → SectionName → List ℕ
bytes_of order places us Abbrev = abbrev_bytes order places us
bytes_of order places us Info = all_info_bytes order places us
bytes_of order places us Line = all_lines_bytes order places us
bytes_of order places us LineStr = names_bytes places
bytes_of order places us Ranges = if is_old (version_of us) then all_lists_bytes ranges_in order us else []
bytes_of order places us Loc = if is_old (version_of us) then all_lists_bytes locations_in order us else []
bytes_of order places us Rnglists = if is_old (version_of us) then [] else all_lists_bytes ranges_in order us
bytes_of order places us Loclists = if is_old (version_of us) then [] else all_lists_bytes locations_in order us
bytes_of order places us name = []

-- abbreviations, entries, line tables and their texts, range lists, location lists and texts, in this order
abbrev pub sections_placed : Endian → AllPlaces → List ℕ → List OrderedUnit → List OutputSection
sections_placed order places strings us =
    section_unless_empty Abbrev (abbrev_bytes order places us) []
    ++ (section_unless_empty Info (all_info_bytes order places us) (info_relocations order (size_of us) 0 (units_placed order places us))
    ++ (section_unless_empty Line (all_lines_bytes order places us) (lines_relocations order (size_of us) 0 (written_tables places us))
    ++ (section_unless_empty LineStr (names_bytes places) []
    ++ (section_unless_empty (section_of_ranges (version_of us)) (all_lists_bytes ranges_in order us) (all_lists_relocations ranges_in order us)
    ++ (section_unless_empty (section_of_locations (version_of us)) (all_lists_bytes locations_in order us) (all_lists_relocations locations_in order us) ++ section_unless_empty Str strings [])))))

-- the places of all units, and of the texts of a table that they name
abbrev pub all_places : Endian → List (List ℕ) → List OrderedUnit → AllPlaces
all_places order texts us = record { units = places_of_units order (size_of us) 0 us; texts = text_places texts us; table = texts; names = line_texts texts us }

abbrev pub spelled_sections : Endian → List (List ℕ) → List OrderedUnit → List OutputSection
spelled_sections order texts us = sections_placed order (all_places order texts us) (strings_bytes texts us) us

-- Units over a table of texts are such that readers see all of them. They have one version. Each has one root, with all its other entries below it (DWARF 4, section 2.3). Each
-- pair of a range list or a location list begins at a symbol and is not empty, so it selects no base and ends no list (2.17.3, 2.6.2), and an
-- expression there is as long as its length says (2.6.2). Each line sequence has a row (6.2.5). No name and no text has a zero byte, and each text that
-- is named is one of the table (6.2.4, 7.5.4).
pub record AreWellMade (texts : List (List ℕ)) (us : List OrderedUnit) : Type 0 where
  pub writable : AreWritable us
  pub units : All FitsOrdered us
  pub lines : All (λ u. FitsLines u.lines) us
  pub expressions : AreShortUnits us
  pub named : HaveTexts texts us
  pub table : AreTexts texts

-- Sections are, but for the call frames, those of some units that are well made, over a table of texts, in the writer's own spelling: no byte stands in
-- them that no reading comes to, no list and no line table has more than what is read of it.
pub record AreSpelled (order : Endian) (sections : List OutputSection) : Type 0 where
  pub texts : List (List ℕ)
  pub given : List OrderedUnit
  pub made : AreWellMade texts given
  pub is : others_in sections ≡ spelled_sections order texts given

-- the bytes of a section
abbrev pub section_bytes : Endian → List (List ℕ) → List OrderedUnit → SectionName → List ℕ
section_bytes order texts us Str = strings_bytes texts us
section_bytes order texts us name = bytes_of order (all_places order texts us) us name

-- ---- what the calls within a writer say

-- A unit, whose first lists stand at some places, is written into both sections, or one of them refuses it.
abbrev pub unit_of : ℕ → ListPlaces → ℕ → Places → List GivenEntry → WrittenUnit
unit_of size lists table_offset places es = record { version = places.version; table_offset = table_offset; table = numbered 1 (first_uses [] (shapes_of es)); entries = written_entries (behind_attributes places.version size) places lists (first_uses [] (shapes_of es)) es }

abbrev pub WritesUnit : Writing → Writing → Writing → Writing → Result (Unit {0}) WriteError → ℕ → ListPlaces → Places → List GivenEntry → Type 0
WritesUnit abbrev_old abbrev_new info_old info_new (Ok done) size lists places es =
    (abbrev_new ≡ appended (table_bytes (unit_of size lists (length abbrev_old.body) places es).table) [] abbrev_old)
    × (info_new ≡ appended (placed_unit_bytes info_old.order size (unit_of size lists (length abbrev_old.body) places es)) (unit_relocations info_old.order size (length info_old.body) (unit_of size lists (length abbrev_old.body) places es)) info_old)
WritesUnit abbrev_old abbrev_new info_old info_new (Err e) size lists places es =
    Refuses e abbrev_old (length (table_bytes (unit_of size lists (length abbrev_old.body) places es).table)) ⊎ Refuses e info_old (length (placed_unit_bytes info_old.order size (unit_of size lists (length abbrev_old.body) places es)))

-- the sections of units as they are written
pub record WrittenSections : Type 0 where
  pub abbrev_section : Writing
  pub info_section : Writing
  pub line_section : Writing
  pub ranges_section : Writing
  pub locations_section : Writing

-- the places in a unit among others, whose line table stands behind what is there
abbrev pub places_there : AllPlaces → WrittenSections → OrderedUnit → Places
places_there places w u = places_in places u.version (offsets_by_number w.info_section.order u.address_size u) (length w.line_section.body)

-- where the lists of a unit begin behind what is there
abbrev pub lists_there : WrittenSections → ListPlaces
lists_there w = record { ranges = length w.ranges_section.body; locations = length w.locations_section.body }

-- a unit with its line table and its lists behind what is there
abbrev pub unit_in : AllPlaces → WrittenSections → OrderedUnit → WrittenUnit
unit_in places w u = written_unit u.address_size (lists_there w) (places_there places w u) (length w.abbrev_section.body) u

-- the bytes of its lists of a kind in their section, and the section with them
abbrev pub lists_bytes : (AttributeValue → List ListEntry) → OrderedUnit → Writing → List ℕ
lists_bytes lists u w = unit_lists_bytes lists w.order u.address_size u

abbrev pub with_lists : (AttributeValue → List ListEntry) → OrderedUnit → Writing → Writing
with_lists lists u w = appended (lists_bytes lists u w) (unit_lists_relocations lists w.order u.address_size (length w.body) u) w

-- a unit that has some entries, and nothing else
abbrev pub entries_alone : ℕ → ℕ → List GivenEntry → OrderedUnit
entries_alone version size es = record { version = version; address_size = size; lines = no_lines None; places = []; entries = es }

-- A unit's lists are written into both their sections, or one of these refuses them.
abbrev pub WritesLists : Writing → Writing → Writing → Writing → Result (Unit {0}) WriteError → OrderedUnit → Type 0
WritesLists ranges_old ranges_new locations_old locations_new (Ok done) u = (ranges_new ≡ with_lists ranges_in u ranges_old) × (locations_new ≡ with_lists locations_in u locations_old)
WritesLists ranges_old ranges_new locations_old locations_new (Err e) u = Refuses e ranges_old (length (lists_bytes ranges_in u ranges_old)) ⊎ Refuses e locations_old (length (lists_bytes locations_in u locations_old))

abbrev pub with_unit : AllPlaces → OrderedUnit → WrittenSections → WrittenSections
with_unit places u w = record {
  abbrev_section = appended (table_bytes (unit_in places w u).table) [] w.abbrev_section;
  info_section = appended (placed_unit_bytes w.info_section.order u.address_size (unit_in places w u)) (unit_relocations w.info_section.order u.address_size (length w.info_section.body) (unit_in places w u)) w.info_section;
  line_section = appended (lines_bytes w.line_section.order u.address_size (table_of places u)) (lines_relocations w.line_section.order u.address_size (length w.line_section.body) (table_of places u)) w.line_section;
  ranges_section = with_lists ranges_in u w.ranges_section;
  locations_section = with_lists locations_in u w.locations_section;
}

-- one of the sections refuses a unit
abbrev pub RefusesUnit : WriteError → AllPlaces → WrittenSections → OrderedUnit → Type 0
RefusesUnit e places w u =
    Refuses e w.abbrev_section (length (table_bytes (unit_in places w u).table))
    ⊎ (Refuses e w.info_section (length (placed_unit_bytes w.info_section.order u.address_size (unit_in places w u)))
    ⊎ (Refuses e w.line_section (length (lines_bytes w.line_section.order u.address_size (table_of places u)))
    ⊎ (Refuses e w.ranges_section (length (lists_bytes ranges_in u w.ranges_section)) ⊎ Refuses e w.locations_section (length (lists_bytes locations_in u w.locations_section)))))

abbrev pub WritesOne : AllPlaces → WrittenSections → WrittenSections → Result (Unit {0}) WriteError → OrderedUnit → Type 0
WritesOne places old new (Ok done) u = new ≡ with_unit places u old
WritesOne places old new (Err e) u = RefusesUnit e places old u

abbrev pub empty_section : Endian → SectionName → Writing
empty_section order name = record { order = order; name = name; body = []; relocations = [] }

abbrev pub with_units : AllPlaces → List OrderedUnit → WrittenSections → WrittenSections
with_units places [] w = w
with_units places (u ∷ us) w = with_units places us (with_unit places u w)

abbrev pub empty_sections : Endian → ℕ → WrittenSections
empty_sections order version = record { abbrev_section = empty_section order Abbrev; info_section = empty_section order Info; line_section = empty_section order Line; ranges_section = empty_section order (section_of_ranges version); locations_section = empty_section order (section_of_locations version) }

abbrev pub all_units : Endian → AllPlaces → List OrderedUnit → WrittenSections
all_units order places us = with_units places us (empty_sections order (version_of us))

-- A refusal of all units that have some places: for want of memory, or for a section's size.
abbrev pub IsRefusalAmong : Endian → AllPlaces → List OrderedUnit → WriteError → Type 0
IsRefusalAmong order places us e = IsSizeRefusal (λ name. most_bytes < length (bytes_of order places us name)) e

-- A refusal of units and of the texts that they name: for want of memory, for a section's size, or, up to version 4, for an expression of a location list.
abbrev pub IsRefusal : Endian → List (List ℕ) → List OrderedUnit → WriteError → Type 0
IsRefusal order texts us e = IsRefusalFor (are_short_in (version_of us) (given_trees texts us) ≡ false) (λ name. most_bytes < length (section_bytes order texts us name)) e

abbrev pub sections_of : WrittenSections → Writing → Writing → List OutputSection
sections_of w names strings =
    section_unless_empty w.abbrev_section.name w.abbrev_section.body w.abbrev_section.relocations
    ++ (section_unless_empty w.info_section.name w.info_section.body w.info_section.relocations
    ++ (section_unless_empty w.line_section.name w.line_section.body w.line_section.relocations
    ++ (section_unless_empty names.name names.body names.relocations
    ++ (section_unless_empty w.ranges_section.name w.ranges_section.body w.ranges_section.relocations
    ++ (section_unless_empty w.locations_section.name w.locations_section.body w.locations_section.relocations ++ section_unless_empty strings.name strings.body strings.relocations)))))
