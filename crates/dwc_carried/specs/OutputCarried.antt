-- What it means that an output carries an input: its lines, its entries and no others, their scopes and locations, and the form that every
-- reader and linker relies on. (DWARF 4, chapters 2 and 6 and section 7.5.)
use Rattle.std.specs.Prelude.{◌≡◌, ℕ, ◌+◌, List, sum_by, true, if◌then◌else◌, Ok, All}
use Rattle.dwc_base.specs.declared.section_name.SectionName.{SectionName}
use Rattle.dwc_base.specs.declared.section_name.SectionName.TheVariants.{Frame, Line}
use Rattle.dwc_base.specs.Outputs.{OutputSection, output_sections}
use Rattle.dwc_rules.specs.Carried.{Compilation, CarriedUnit}
use Rattle.dwc_dwarf.specs.ReadUnits.{units, table_of_unit}
use Rattle.dwc_carried.specs.Forests.{carried_units, frame_descriptions, wanted_units, is_big, drafts_of, trees_made, forest}
use Rattle.dwc_carried.specs.LinesCarried.{LinesCarried}
use Rattle.dwc_rules.specs.ScopesCarried.{ScopesCarried}
use Rattle.dwc_carried.specs.LocationsCarried.{LocationsCarried}
use Rattle.dwc_carried.specs.ContextsCarried.{ContextsCarried}
use Rattle.dwc_dwarf.specs.Trees.{Tree}
use Rattle.dwc_output.specs.TreeReading.{CarriesTrees}
use Rattle.dwc_dwarf.specs.TreeLaws.{HasAllTargets, HasTextsOnce}
use Rattle.dwc_output.specs.OutputForm.{HaveTargetForm, HasDistinctNames, are_of_output}
use Rattle.dwc_output.specs.Fields.{IsRelocated}
use Rattle.dwc_output.specs.FramesCarried.{FramesCarried, others_in, widest_frames}
use Rattle.dwc_carried.specs.SimulatedUnitRules.{widest_simulated}
use Rattle.dwc_carried.specs.SimulatedFunctions.{is_begun}
use Rattle.dwc_output.specs.WidestTrees.{widest_of_trees}
use Rattle.dwc_output.specs.Widest.{widest_table}
use Rattle.dwc_output.specs.Versions.{is_old}
use Rattle.dwc_output.specs.OwnDirectories.{AreOfVersion5}
use Rattle.dwc_carried.specs.WidestVersions.{widest_5}

-- how long the line table of a carried unit can be at most
abbrev pub widest_lines_of : CarriedUnit → ℕ
widest_lines_of u = widest_table u.module_of.functions (table_of_unit u.module_of.sections u.unit)

-- An output carries an input, of which nothing is refused: its lines; the trees of its forest, and no others, whose references all name
-- entries of these trees; the scopes, the locations and the contexts of the entries that these are made of; equal texts in one place; in
-- units of the version that is asked for, with addresses of the target's size; in sections of names of their own, and none that an output has not, whose
-- relocations are those of the fields in them; and the frames of its functions, byte for byte.
pub record OutputCarried (c : Compilation) (sections : List OutputSection) : Type 0 where
  pub lines : LinesCarried c sections
  pub wanted : List Tree
  pub is_forest : forest c ≡ Ok wanted
  pub trees : CarriesTrees c.order wanted sections
  pub targets : HasAllTargets wanted
  pub scopes : ScopesCarried (drafts_of (is_big c.order)) (wanted_units c) wanted
  pub locations : LocationsCarried (drafts_of (is_big c.order)) (wanted_units c) wanted
  pub contexts : ContextsCarried (drafts_of (is_big c.order)) (wanted_units c) wanted
  pub texts : HasTextsOnce (output_sections c.order sections)
  pub form : HaveTargetForm c.version c.pointer_bytes (units (output_sections c.order sections)).items
  pub names : HasDistinctNames sections
  pub known : are_of_output c.version sections ≡ true
  pub of_5 : AreOfVersion5 c.version (output_sections c.order sections) (units (output_sections c.order sections)).items
  pub relocated : All (IsRelocated (output_sections c.order sections)) (others_in sections)
  pub frames : FramesCarried c.order c.pointer_bytes c.common_entry (frame_descriptions c) sections

-- How long a section of an output of version 4 can be at most: the line tables with the images of the carried sequences and of the
-- simulated functions, what says the trees of all units, and the frames.
abbrev pub widest_4 : SectionName → Compilation → ℕ
widest_4 Line c = sum_by widest_lines_of (carried_units c) + widest_simulated (is_begun c.modules) c.next_id c.modules
widest_4 Frame c = widest_frames c.common_entry (frame_descriptions c)
widest_4 name c = widest_of_trees name (trees_made c)

-- The same in the version that is written.
abbrev pub widest : SectionName → Compilation → ℕ
widest name c = if is_old c.version then widest_4 name c else widest_5 name c
