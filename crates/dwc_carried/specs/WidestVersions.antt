-- How long the sections of an output of version 5 can be at most. (DWARF 5, sections 6.2.4, 7.5.1.1, 7.28 and 7.29.)
use Rattle.std.specs.Prelude.{ℕ, suc, ◌+◌, List, [], ◌∷◌, length, zip, sum_by, Option, Some, None, Result, Ok, Err}
use Rattle.std.specs.List.{filter, flat_map}
use Rattle.dwc_base.specs.declared.section_name.SectionName.{SectionName}
use Rattle.dwc_base.specs.declared.section_name.SectionName.TheVariants.{Frame, Info, Line, LineStr, Loc, Loclists, Ranges, Rnglists}
use Rattle.dwc_base.specs.Sections.{Fault}
use Rattle.dwc_dwarf.specs.LineRows.{LineTable, segments}
use Rattle.dwc_native.specs.Functions.{Function, recorded_sources}
use Rattle.dwc_native.specs.Images.{is_carried_segment}
use Rattle.dwc_dwarf.specs.Trees.{Tree}
use Rattle.dwc_dwarf.specs.TreeLaws.{texts_ended}
use Rattle.dwc_output.specs.NewWidest.{directory_said, each_once, names_in, widest_header_5, widest_lists, widest_new_locations, widest_new_ranges}
use Rattle.dwc_output.specs.Widest.{most_rows, widest_image}
use Rattle.dwc_output.specs.WidestTrees.{widest_of_trees}
use Rattle.dwc_rules.specs.Carried.{Compilation, WantedUnit, synthetic_unit, carried_unit, unit_of_simulated}
use Rattle.dwc_dwarf.specs.ReadUnits.{table_of_unit}
use Rattle.dwc_carried.specs.Forests.{frame_descriptions, trees_made, wanted_units}
use Rattle.dwc_output.specs.FramesCarried.{widest_frames}
use Rattle.dwc_carried.specs.SimulatedUnitRules.{simulated_in_files}

-- ---- line tables

-- a line table with the images of its carried segments
abbrev pub widest_table_5 : List Function → Result (Option LineTable) Fault → ℕ
widest_table_5 fs (Err fault) = 0
widest_table_5 fs (Ok None) = 0
widest_table_5 fs (Ok (Some t)) = widest_header_5 t.header.directories t.files + sum_by (λ q. widest_image (most_rows fs q)) (filter (is_carried_segment fs) (segments t))

-- that of the listed functions, whose one file has a name
abbrev pub widest_listed_5 : List ℕ → List (ℕ × Function) → ℕ
widest_listed_5 name fs = widest_header_5 [] (record { directory = 0; name = name } ∷ []) + sum_by (λ f. widest_image (suc (length (recorded_sources f.1)))) fs

-- how long the line table of a wanted unit can be
abbrev pub widest_lines_5 : WantedUnit → ℕ
widest_lines_5 synthetic_unit = 0
widest_lines_5 (carried_unit u) = widest_table_5 u.module_of.functions (table_of_unit u.module_of.sections u.unit)
widest_lines_5 (unit_of_simulated name translated ms) = widest_listed_5 name (simulated_in_files translated ms)

-- ---- the names in line tables

abbrev pub names_of_table : List ℕ → Result (Option LineTable) Fault → List (List ℕ)
names_of_table own (Ok (Some t)) = names_in own t.header.directories t.files
names_of_table own _ = []

-- those of the table of a wanted unit, of which a tree is made
abbrev pub names_of_unit : WantedUnit → Tree → List (List ℕ)
names_of_unit synthetic_unit t = []
names_of_unit (carried_unit u) t = names_of_table (directory_said t) (table_of_unit u.module_of.sections u.unit)
names_of_unit (unit_of_simulated name translated ms) t = names_in (directory_said t) [] (record { directory = 0; name = name } ∷ [])

abbrev pub names_of_units : List WantedUnit → List Tree → List (List ℕ)
names_of_units us ts = flat_map (λ u. names_of_unit u.0 u.1) (zip us ts)

-- ---- all

-- How long a section of an output of version 5 can be at most.
abbrev pub widest_5 : SectionName → Compilation → ℕ
widest_5 Line c = sum_by widest_lines_5 (wanted_units c)
widest_5 LineStr c = length (texts_ended (each_once (names_of_units (wanted_units c) (trees_made c))))
widest_5 Frame c = widest_frames c.common_entry (frame_descriptions c)
widest_5 Info c = widest_of_trees Info (trees_made c) + length (trees_made c)
widest_5 Rnglists c = sum_by (widest_lists widest_new_ranges) (trees_made c)
widest_5 Loclists c = sum_by (widest_lists widest_new_locations) (trees_made c)
widest_5 Ranges c = 0
widest_5 Loc c = 0
widest_5 name c = widest_of_trees name (trees_made c)
