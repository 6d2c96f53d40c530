-- The units of the output: the one that a module has of its own, and those that carry units of the input.
use Rattle.std.specs.Prelude.{◌≡◌, ℕ, suc, ◌+◌, ◌<◌, ◌≤◌, List, [], ◌∷◌, map, length, slice_get, Option, Some, None, Ok, All}
use Rattle.std.specs.List.{filter, AllZip}
use Rattle.dwc_base.specs.declared.records.Encoding.{Encoding}
use Rattle.dwc_dwarf.specs.LineHeaders.{LineFile}
use Rattle.dwc_dwarf.specs.LineRows.{LineTable}
use Rattle.dwc_native.specs.Images.{is_carried_segment, IsImageOf}
use Rattle.dwc_rules.specs.Carried.{CarriedUnit, WantedUnit, synthetic_unit, carried_unit, unit_of_simulated}
use Rattle.dwc_dwarf.specs.ReadUnits.{table_of_unit, segments_of}
use Rattle.dwc_native.specs.Functions.{Function}
use Rattle.dwc_output.specs.SimulatedLines.{IsSimulated}
use Rattle.dwc_carried.specs.SimulatedUnitRules.{simulated_in_files, widest_simulated_lines}
use Rattle.dwc_carried.specs.OutputCarried.{widest_lines_of}
use Rattle.dwc_carried.specs.WidestVersions.{widest_lines_5, widest_listed_5}
use Rattle.dwc_dwarf.specs.Trees.{Tree}
use Rattle.dwc_unit.specs.AddedInOrder.{IsInOrder, tree_meant}
use Rattle.dwc_unit.specs.Renumbered.{renumbered_entry, LeadsToEntries}
use Rattle.dwc_unit.specs.GivenLines.{GivenLines, no_lines}
use Rattle.dwc_unit.specs.GivenUnits.{GivenUnit, IsWritable, ordered, place_of}
use Rattle.dwc_unit.specs.GivenSegments.{given_segments}
use Rattle.dwc_unit.specs.UsedTexts.{texts_of_attributes}
use Rattle.dwc_unit.specs.WidestGiven.{widest_table_for}

-- A line program, of an address size, has some directories and files.
pub record HasNames (names : List (List ℕ)) (fs : List LineFile) (g : GivenLines) : Type 0 where
  pub size : ℕ
  pub sized : g.address_size ≡ Some size
  pub directories : g.directories ≡ names
  pub files : g.files ≡ fs

-- It has those of a table, in order; without a table there is none.
abbrev pub HasNamesOf : Option LineTable → GivenLines → Type 0
HasNamesOf None g = g ≡ no_lines None
HasNamesOf (Some t) g = HasNames t.header.directories t.files g

-- The line program of a unit to be written has the lines of a carried unit: it has the directories and files of that unit's table, its
-- segments are, one to one and in order, images of the carried segments of that unit, and it is no longer, at its widest, than what is
-- allowed for it in either version.
pub record HasLinesOf (c : CarriedUnit) (u : GivenUnit) : Type 0 where
  pub table : Option LineTable
  pub table_read : table_of_unit c.module_of.sections c.unit ≡ Ok table
  pub names : HasNamesOf table u.lines
  pub images : AllZip (IsImageOf c.module_of.functions) (filter (is_carried_segment c.module_of.functions) (segments_of table)) (given_segments u.lines)
  pub widest : widest_table_for 4 u.lines.address_size u.lines ≤ widest_lines_of c
  pub widest_new : widest_table_for 5 u.lines.address_size u.lines ≤ widest_lines_5 (carried_unit c)

-- The line program of a unit to be written has, in order, a segment for each of some functions, each with the offset of its own file's
-- code, over one file of a name, in the compilation directory, and is no longer, at its widest, than what is allowed for them in either version.
pub record HasSimulatedLines (name : List ℕ) (fs : List (ℕ × Function)) (u : GivenUnit) : Type 0 where
  pub names : HasNames [] (record { directory = 0; name = name } ∷ []) u.lines
  pub segments : AllZip (λ f segment. IsSimulated name f.0 f.1 segment) fs (given_segments u.lines)
  pub widest : widest_table_for 4 u.lines.address_size u.lines ≤ widest_simulated_lines name fs
  pub widest_new : widest_table_for 5 u.lines.address_size u.lines ≤ widest_listed_5 name fs

-- the lines that a unit is to have; a synthetic one has no line program
abbrev pub HasWantedLines : WantedUnit → GivenUnit → Type 0
HasWantedLines synthetic_unit u = u.lines ≡ no_lines None
HasWantedLines (carried_unit c) u = HasLinesOf c u
HasWantedLines (unit_of_simulated name translated ms) u = HasSimulatedLines name (simulated_in_files translated ms) u

-- Each number of some units, of which the first has a number, that has a place there leads to it.
abbrev pub LeadsTo : (ℕ → ℕ → Option (ℕ × ℕ)) → ℕ → List GivenUnit → Type 0
LeadsTo at first us = (i : ℕ) (u : GivenUnit) → slice_get us i ≡ Some u → (number place : ℕ) → place_of number u.places ≡ Some place → at (first + i) number ≡ Some (first + i, place)

-- A unit to be written, of a number and an encoding, is made as it is wanted, and is to say a tree: it has the lines that it is
-- to have; its entries were added in file order, and say that tree with a table of texts, where the numbers of all units' entries are put
-- to places.
pub record IsMadeOf (at : ℕ → ℕ → Option (ℕ × ℕ)) (encoding : Encoding) (table : List (List ℕ)) (number : ℕ) (w : WantedUnit) (wanted : Tree) (u : GivenUnit) : Type 0 where
  pub has_lines : HasWantedLines w u
  pub depths : List ℕ
  pub order : IsInOrder depths u
  pub leads : LeadsToEntries u
  pub says : map (renumbered_entry at) (tree_meant table number depths u.additions) ≡ wanted
  pub texts : All (λ e. All (λ n. n < length table) (texts_of_attributes e.attributes)) u.additions
  pub writable : IsWritable encoding.version encoding.address_size (ordered u)

-- Units, of which the first has a number, are made as they are wanted, one to one and in order, and are to say some trees.
abbrev pub AreMadeOf : (ℕ → ℕ → Option (ℕ × ℕ)) → Encoding → List (List ℕ) → ℕ → List WantedUnit → List Tree → List GivenUnit → Type 0
AreMadeOf at encoding table number [] [] [] = Unit {0}
AreMadeOf at encoding table number (w ∷ ws) (t ∷ ts) (u ∷ us) = IsMadeOf at encoding table number w t u × AreMadeOf at encoding table (suc number) ws ts us
AreMadeOf at encoding table number _ _ _ = ⊥
