-- How long the sections of given units can be at most, counted as `Widest` counts them: numbers of variable length have 10
-- bytes and addresses 8, each entry has a declaration of its own, and each row all its instructions.
use Rattle.std.specs.Prelude.{◌≡◌, ℕ, ◌+◌, ◌*◌, ◌<◌, ◌==◌, List, [], ◌∷◌, length, sum_by, false, nat_lt, if◌then◌else◌, Option, Some, None}
use Rattle.dwc_base.specs.declared.section_name.SectionName.{SectionName}
use Rattle.dwc_base.specs.declared.section_name.SectionName.TheVariants.{Abbrev, Info, Line, LineStr, Loc, Loclists, Ranges, Rnglists}
use Rattle.dwc_dwarf.specs.Trees.{Tree}
use Rattle.dwc_output.specs.Versions.{are_short_in, is_old}
use Rattle.dwc_output.specs.NewWidest.{list_header_bytes, widest_header_5, widest_interval, widest_lists, widest_new_locations, widest_new_ranges}
use Rattle.dwc_output.specs.Widest.{variable_bytes, address_bytes, widest_declaration, widest_header, widest_image}
use Rattle.dwc_output.specs.WidestTrees.{constant_bytes, pair_bytes, widest_of_trees}
use Rattle.dwc_unit.specs.declared.attributes.AttributeValue.{AttributeValue}
use Rattle.dwc_unit.specs.declared.attributes.AttributeValue.TheVariants.{Address, Constant, Flag, Block, Exprloc, StringRef, LineProgramRef, RangeListRef, LocationListRef, UnitRef, DebugInfoRef}
use Rattle.dwc_section.specs.declared.error.WriteError.{WriteError}
use Rattle.dwc_unit.specs.Lists.{ListEntry, held_length, locations_in, ranges_in}
use Rattle.dwc_section.specs.Writers.{IsRefusalFor, most_bytes}
use Rattle.dwc_unit.specs.GivenLines.{GivenLines}
use Rattle.dwc_unit.specs.GivenTrees.{given_trees}
use Rattle.dwc_unit.specs.GivenUnits.{GivenEntry, OrderedUnit, first_depth, lists_of_entries, version_of}
use Rattle.dwc_unit.specs.LineNames.{line_texts_bytes}
use Rattle.dwc_unit.specs.SpelledUnits.{header_length}

abbrev pub widest_value : AttributeValue → ℕ
widest_value (Address a) = address_bytes
widest_value (Constant form bits) = constant_bytes form
widest_value (Flag b) = 1
widest_value (Block bytes) = variable_bytes + length bytes.items
widest_value (Exprloc e) = variable_bytes + length e
widest_value (StringRef id) = 4
widest_value LineProgramRef = 4
widest_value (RangeListRef list) = 4
widest_value (LocationListRef list) = 4
widest_value (UnitRef id) = 4
widest_value (DebugInfoRef reference) = 4

-- an expression from version 5 on
abbrev pub widest_held : Option (List ℕ) → ℕ
widest_held None = 0
widest_held (Some bytes) = variable_bytes + length bytes

-- An entry of a list: two addresses, and its expression with a length of two bytes; from version 5 on a kind, an address and a length, or the end.
abbrev pub widest_listed : ℕ → ListEntry → ℕ
widest_listed version e =
    if is_old version then pair_bytes + held_length 4 e.holds
    else (if e.extent == 0 then 1 else widest_interval + widest_held e.holds)

-- the lists of a kind of an entry
abbrev pub widest_lists_of : ℕ → (AttributeValue → List ListEntry) → GivenEntry → ℕ
widest_lists_of version lists e = sum_by (λ a. sum_by (widest_listed version) (lists a.value)) e.attributes

-- The lists of a kind of a unit; from version 5 on they stand behind a header, where there are some.
abbrev pub behind_lists_header : ℕ → List ListEntry → ℕ → ℕ
behind_lists_header version [] size = size
behind_lists_header version (l ∷ ls) size = (if is_old version then 0 else list_header_bytes) + size

abbrev pub widest_contribution : (AttributeValue → List ListEntry) → OrderedUnit → ℕ
widest_contribution lists u = behind_lists_header u.version (lists_of_entries lists u.entries) (sum_by (widest_lists_of u.version lists) u.entries)

-- a code and the values
abbrev pub widest_entry : GivenEntry → ℕ
widest_entry e = variable_bytes + sum_by (λ a. widest_value a.value) e.attributes

-- how many lists of children end
abbrev pub lists_of : List GivenEntry → ℕ
lists_of [] = 0
lists_of (e ∷ es) = (if nat_lt e.depth (first_depth es) then 1 else 0) + lists_of es

-- a line table, where there is one
abbrev pub widest_table_for : ℕ → Option ℕ → GivenLines → ℕ
widest_table_for version None g = 0
widest_table_for version (Some size) g = (if is_old version then widest_header g.directories g.files else widest_header_5 g.directories g.files) + sum_by (λ q. widest_image (length q.rows)) g.sequences

abbrev pub widest_unit : SectionName → OrderedUnit → ℕ
widest_unit Abbrev u = sum_by (λ e. widest_declaration (length e.attributes)) u.entries + variable_bytes
widest_unit Info u = header_length u.version + (sum_by widest_entry u.entries + lists_of u.entries * variable_bytes)
widest_unit Line u = widest_table_for u.version u.lines.address_size u.lines
widest_unit Ranges u = if is_old u.version then widest_contribution ranges_in u else 0
widest_unit Loc u = if is_old u.version then widest_contribution locations_in u else 0
widest_unit Rnglists u = if is_old u.version then 0 else widest_contribution ranges_in u
widest_unit Loclists u = if is_old u.version then 0 else widest_contribution locations_in u
widest_unit name u = 0

-- how long a section can be at most
abbrev pub widest_given : SectionName → List OrderedUnit → ℕ
widest_given name us = sum_by (widest_unit name) us

-- a section of version 5, counted over what the units say
abbrev pub widest_new : SectionName → List Tree → ℕ
widest_new Info ts = widest_of_trees Info ts + length ts
widest_new Rnglists ts = sum_by (widest_lists widest_new_ranges) ts
widest_new Loclists ts = sum_by (widest_lists widest_new_locations) ts
widest_new Ranges ts = 0
widest_new Loc ts = 0
widest_new name ts = widest_of_trees name ts

-- the same of a version; line tables and the names in them say nothing there
abbrev pub widest_said : SectionName → List (List ℕ) → List OrderedUnit → ℕ
widest_said Line texts us = widest_given Line us
widest_said LineStr texts us = length (line_texts_bytes texts us)
widest_said name texts us = if is_old (version_of us) then widest_of_trees name (given_trees texts us) else widest_new name (given_trees texts us)

-- A refusal of all units for want of memory, for a section's widest size, or, up to version 4, for an expression of a location list.
abbrev pub IsWideRefusal : List (List ℕ) → List OrderedUnit → WriteError → Type 0
IsWideRefusal texts us e = IsRefusalFor (are_short_in (version_of us) (given_trees texts us) ≡ false) (λ name. most_bytes < widest_said name texts us) e
