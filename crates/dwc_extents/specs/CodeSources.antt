-- The rules for the code of a unit that is cloned, and what is in force at its entries.
use Rattle.std.specs.Prelude.{◌≡◌}
use Rattle.dwc_dwarf.specs.Lists.{list_source}
use Rattle.dwc_rules.specs.Clones.{UnitSource, CodeRules}
use Rattle.dwc_rules.specs.EntryRules.{code_rules}
use Rattle.dwc_rules.specs.Kept.{Placed}
use Rattle.dwc_rules.specs.LocationRules.{ExpressionSource, in_force_at}
use Rattle.dwc_rules.specs.Refusals.{Refusal}
use Rattle.dwc_isa.specs.Registers.{Registers}
use Rattle.dwc_extents.specs.declared.in_force.InForce.{InForce}
use Rattle.dwc_source.specs.declared.source.CloneSource.{CloneSource}
use Rattle.dwc_source.specs.CompiledModules.{HasFrames, told_by}
use Rattle.dwc_extents.specs.InForceSeen.{in_force_view}
use Rattle.dwc_extents.specs.Lineages.{AreInForce, Stacks}

-- the rules for the code of the unit that is cloned, for a target that numbers registers
abbrev pub clone_rules : Registers → CloneSource → UnitSource → CodeRules Refusal
clone_rules registers c s = code_rules (told_by registers c.module) c.transform.now c.unit.now.sections c.unit.now.header s.entries

-- what the unit's expressions are carried with
abbrev pub source_with : Registers → CloneSource → UnitSource → ExpressionSource
source_with registers c s = record { sections = c.unit.now.sections; header = c.unit.now.header; functions = c.transform.now; told = told_by registers c.module; entries = s.entries }

-- What is said to be in force at an entry of the unit is.
abbrev pub IsInForce : Registers → CloneSource → UnitSource → Placed → InForce → Type 0
IsInForce registers c s e in_force = in_force_view c.transform.now registers in_force ≡ in_force_at (source_with registers c s) e

-- What is on top of the stacks is in force at an entry of the unit, and the module tells its frames.
abbrev pub GivesInForce : CloneSource → UnitSource → Placed → Stacks → Type 0
GivesInForce c s e stacks = HasFrames c.module c.transform.now × AreInForce (list_source c.unit.now.sections c.unit.now.header) c.transform.now s.entries e stacks
