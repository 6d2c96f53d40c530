use Rattle.std.proofs.Common.{◌≡◌, ℕ, suc, drop, length}
use Rattle.dwc_rules.specs.Carried.{Module}
use Rattle.dwc_carried.specs.SimulatedFunctions.{begun_in_module}
use Rattle.dwc_source.specs.CompiledModules.{told_by}
use Rattle.dwc_source.specs.KnownTexts.{KnowsTexts}
use Rattle.dwc_carry.specs.LastLines.{IsLast}
use Rattle.dwc_carry.specs.CarriedUnits.{IsOfModule}
use Rattle.dwc_clone.proofs.BegunNumberLaws.{AreNotedSoFar, noted_beside}
use Rattle.dwc_carry.proofs.BegunLaws.{begun_left}
use Rattle.dwc_carry.proofs.UnitLoopLaws.{UnitsSoFar}
use Rattle.dwc_carry.proofs.carry_units.carry_units.Given as goal

-- what is added so far, and what is to be added for the units that are left, is all; so are the noted numbers; and the last table is carried in its unit
abbrev pub invariant-loop-i : goal.invariant-loop-i
invariant-loop-i g l = record {
  added : (c : Module) (synthetic : ℕ) → length l.fn.dwarf.units.units.items ≡ suc synthetic → IsOfModule l.form.encoding.version c l.transform (told_by ((goal.TargetIsa-dyn g l.isa.now).dwarf_registers l.isa.now.1) l.compiled) l.read_module → UnitsSoFar c l.read_module l.form.encoding l.form.big_endian synthetic l.read_module.units.items l.fn.dwarf l.dwarf (drop l.i l.read_module.units.items);
  noted : (c : Module) → IsOfModule l.form.encoding.version c l.transform (told_by ((goal.TargetIsa-dyn g l.isa.now).dwarf_registers l.isa.now.1) l.compiled) l.read_module → AreNotedSoFar (begun_left c l.read_module (drop l.i l.read_module.units.items)) (noted_beside l.fn.translated (begun_in_module c)) l.translated;
  known : (c : Module) → IsOfModule l.form.encoding.version c l.transform (told_by ((goal.TargetIsa-dyn g l.isa.now).dwarf_registers l.isa.now.1) l.compiled) l.read_module → IsLast l.transform l.form.encoding c.sections l.dwarf.units.units.items l.last;
  texts : (c : Module) → IsOfModule l.form.encoding.version c l.transform (told_by ((goal.TargetIsa-dyn g l.isa.now).dwarf_registers l.isa.now.1) l.compiled) l.read_module → KnowsTexts c.sections l.dwarf.strings l.known;
}
