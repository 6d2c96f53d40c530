-- What it means that an output carries the lines of an input. (DWARF 4, section 6.2; this project's own rule.)
use Rattle.std.specs.Prelude.{◌≡◌, ℕ, List, Option, Some, None, All, Ok}
use Rattle.std.specs.List.{filter, AllZip}
use Rattle.dwc_base.specs.Sections.{Sections}
use Rattle.dwc_dwarf.specs.LineRows.{LineTable, Segment}
use Rattle.dwc_native.specs.Images.{is_carried_segment, IsImageOf}
use Rattle.dwc_rules.specs.Carried.{Compilation, CarriedUnit, WantedUnit, synthetic_unit, carried_unit, unit_of_simulated}
use Rattle.dwc_dwarf.specs.ReadUnits.{Unit, units, table_of_unit, segments_of, segments_of_unit}
use Rattle.dwc_output.specs.SimulatedLines.{CarriesSimulated}
use Rattle.dwc_output.specs.Versions.{files_written}
use Rattle.dwc_carried.specs.SimulatedUnitRules.{simulated_in_files}
use Rattle.dwc_carried.specs.Forests.{wanted_units}
use Rattle.dwc_base.specs.Outputs.{OutputSection, output_sections}

-- Some segments of an output are, one to one and in order, images of the carried ones among the segments of a unit.
pub record AreImages (u : CarriedUnit) (images : List Segment) : Type 0 where
  pub input : List Segment
  pub input_read : segments_of_unit u.module_of.sections u.unit ≡ Ok input
  pub each : AllZip (IsImageOf u.module_of.functions) (filter (is_carried_segment u.module_of.functions) input) images

-- A line table of an output is of a version, and has the directories and files of one of the input, in order: so what attributes number,
-- and what rows number, is the same file. The compilation directory is no part of either list.
pub record KeepsFiles (version : ℕ) (input made : LineTable) : Type 0 where
  pub version_is : made.header.version ≡ version
  pub directories : made.header.directories ≡ input.header.directories
  pub files : made.files ≡ files_written version input.files

-- the same of tables that units name; where one names none, the other does not either
abbrev pub KeepFiles : ℕ → Option LineTable → Option LineTable → Type 0
KeepFiles version None None = Prim.Unit {0}
KeepFiles version (Some input) (Some made) = KeepsFiles version input made
KeepFiles version _ _ = ⊥

-- A unit of the output carries the lines of a unit of the input: its table keeps the files of that unit's table, and has images of its
-- carried segments.
pub record CarriesUnit (version : ℕ) (output : Sections) (u : CarriedUnit) (v : Unit) : Type 0 where
  pub input : Option LineTable
  pub input_read : table_of_unit u.module_of.sections u.unit ≡ Ok input
  pub made : Option LineTable
  pub made_read : table_of_unit output v ≡ Ok made
  pub kept : KeepFiles version input made
  pub carried : AreImages u (segments_of made)

-- a unit of the output has the lines that it is to have; a synthetic one has no line table, and the simulated one has those of the
-- simulated functions
abbrev pub HasLines : ℕ → Sections → WantedUnit → Unit → Type 0
HasLines version output synthetic_unit v = table_of_unit output v ≡ Ok None
HasLines version output (carried_unit u) v = CarriesUnit version output u v
HasLines version output (unit_of_simulated name translated ms) v = CarriesSimulated version output name (simulated_in_files translated ms) v

-- The lines of an input are carried by an output: the input's units are read up to their section's end, and the output's
-- units are, in order, for each module its synthetic unit without a line table, and one for each of its carried units, whose segments are
-- the images of that unit's carried segments, over its files, and last the simulated one, with a segment for each simulated function.
pub record LinesCarried (c : Compilation) (s : List OutputSection) : Type 0 where
  pub whole : All (λ m. (units m.sections).fault ≡ None) c.modules
  pub output : List Unit
  pub output_read : units (output_sections c.order s) ≡ record { items = output; fault = None }
  pub each : AllZip (HasLines c.version (output_sections c.order s)) (wanted_units c) output
