use Rattle.std.proofs.Common.{drop}
use Rattle.dwc_carry.specs.Inputs.{modules_of}
use Rattle.dwc_carry.proofs.ModuleLoopLaws.{ModulesSoFar}
use Rattle.dwc_carry.proofs.carry_modules.carry_modules.Given as goal

-- what is added so far, and what is to be added for the modules that are left, is all; so are the references and the noted numbers
abbrev pub invariant-loop-i : goal.invariant-loop-i
invariant-loop-i g l =
    let ms = modules_of ((goal.TargetIsa-dyn g l.isa.now).dwarf_registers l.isa.now.1) l.compilation in
    ModulesSoFar l.form.encoding l.form.big_endian ms l.fn.dwarf.units.units.items l.fn.dwarf.strings l.dwarf.units.units.items l.dwarf.strings l.vmctx_ptrs.items l.translated (drop l.i ms)
