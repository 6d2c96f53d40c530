-- How long the sections that hold entries can be at most, counted over what an output is to say: each number of variable length has
-- 10 bytes and each address 8, each entry has an abbreviation of its own, and each text stands once. (DWARF 4, sections 7.5.1 to 7.5.4.)
use Rattle.std.specs.Prelude.{ℕ, ◌+◌, ◌*◌, List, [], ◌∷◌, length, nat_lt, sum_by, if◌then◌else◌}
use Rattle.std.specs.Option.{unwrap_or}
use Rattle.dwc_base.specs.declared.section_name.SectionName.{SectionName}
use Rattle.dwc_base.specs.declared.section_name.SectionName.TheVariants.{Abbrev, Info, Loc, Ranges, Str}
use Rattle.dwc_base.specs.declared.constants.TheConstants.{DW_FORM_data1, DW_FORM_data2, DW_FORM_data4, DW_FORM_data8}
use Rattle.dwc_base.specs.Reading.{coded}
use Rattle.dwc_dwarf.specs.Trees.{TreeValue, address, constant, flag, block, expression, text, line_table, ranges, locations, entry, nothing, TreeEntry, Tree}
use Rattle.dwc_dwarf.specs.TreeLaws.{distinct_texts, texts_ended, values_of}
use Rattle.dwc_output.specs.Widest.{variable_bytes, address_bytes, widest_declaration}

-- the size of a constant by its form; all others have a variable length
abbrev pub constant_bytes : ℕ → ℕ
constant_bytes form = unwrap_or (coded ((DW_FORM_data1, 1) ∷ (DW_FORM_data2, 2) ∷ (DW_FORM_data4, 4) ∷ (DW_FORM_data8, 8) ∷ []) form) variable_bytes

-- a value where it stands: what is elsewhere, or nowhere, is named by an offset of four bytes
abbrev pub widest_value : TreeValue → ℕ
widest_value (address a) = address_bytes
widest_value (constant form bits) = constant_bytes form
widest_value (flag b) = 1
widest_value (block bytes) = variable_bytes + length bytes
widest_value (expression bytes) = variable_bytes + length bytes
widest_value (text bytes) = 4
widest_value line_table = 4
widest_value (ranges is) = 4
widest_value (locations ls) = 4
widest_value (entry number place) = 4
widest_value nothing = 4

-- a code and the values
abbrev pub widest_entry : TreeEntry → ℕ
widest_entry e = variable_bytes + sum_by (λ a. widest_value a.1) e.attributes

-- the depth of the first of some entries, 0 where there is none
abbrev pub first_depth : Tree → ℕ
first_depth [] = 0
first_depth (e ∷ es) = e.depth

-- how many entries of a unit have children, whose list ends with a zero
abbrev pub lists_of_children : Tree → ℕ
lists_of_children [] = 0
lists_of_children (e ∷ es) = (if nat_lt e.depth (first_depth es) then 1 else 0) + lists_of_children es

-- a header of version 4, the entries, and the ends of their lists
abbrev pub widest_unit : Tree → ℕ
widest_unit t = 11 + (sum_by widest_entry t + lists_of_children t * variable_bytes)

-- the declarations of a unit, and their end
abbrev pub widest_declarations : Tree → ℕ
widest_declarations t = sum_by (λ e. widest_declaration (length e.attributes)) t + variable_bytes

-- two addresses: an interval, or the end of a list
abbrev pub pair_bytes : ℕ
pair_bytes = address_bytes + address_bytes

-- a range list with its end (DWARF 4, section 2.17.3)
abbrev pub widest_ranges : TreeValue → ℕ
widest_ranges (ranges is) = length is * pair_bytes + pair_bytes
widest_ranges _ = 0

-- a location list with its end; each interval has an expression behind a length of two bytes (DWARF 4, section 2.6.2)
abbrev pub widest_locations : TreeValue → ℕ
widest_locations (locations ls) = sum_by (λ l. pair_bytes + (2 + length l.bytes)) ls + pair_bytes
widest_locations _ = 0

-- How long a section with entries, abbreviations, lists or texts can be at most.
abbrev pub widest_of_trees : SectionName → List Tree → ℕ
widest_of_trees Info ts = sum_by widest_unit ts
widest_of_trees Abbrev ts = sum_by widest_declarations ts
widest_of_trees Ranges ts = sum_by (λ t. sum_by widest_ranges (values_of t)) ts
widest_of_trees Loc ts = sum_by (λ t. sum_by widest_locations (values_of t)) ts
widest_of_trees Str ts = length (texts_ended (distinct_texts ts))
widest_of_trees name ts = 0
