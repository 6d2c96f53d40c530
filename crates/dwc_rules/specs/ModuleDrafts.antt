-- What is made for a module: its synthetic unit, and those of its carried units. (This project's own rules.)
use Rattle.std.specs.Prelude.{Bool, Some}
use Rattle.dwc_dwarf.specs.ReadUnits.{Unit}
use Rattle.dwc_rules.specs.Carried.{Module}
use Rattle.dwc_rules.specs.CarriedUnits.{kept_of}
use Rattle.dwc_rules.specs.CarriedDrafts.{carried_drafts}
use Rattle.dwc_rules.specs.DraftForests.{ModuleDrafts}
use Rattle.dwc_rules.specs.LocationRules.{ExpressionSource}
use Rattle.dwc_rules.specs.SyntheticUnit as Synthetic

-- what the expressions of a unit of a module are carried with
abbrev pub expressions_of : Module → Unit → ExpressionSource
expressions_of m u = record { sections = m.sections; header = u.header; functions = m.functions; told = m.told; entries = (kept_of m).entries }

-- what is made for a module: its synthetic unit, and those of its carried units
abbrev pub module_drafts : Bool → Module → ModuleDrafts
module_drafts big_endian m = record { synthetic = Some (Synthetic.synthetic_unit m.told.names.set_memory m.told.memory); carried = carried_drafts (expressions_of m) big_endian (kept_of m) }
