use Rattle.dwc_clone.specs.BegunNumbers.{is_noted}
use Rattle.dwc_carry.specs.Inputs.{modules_of}
use Rattle.dwc_carry.proofs.SimulatedModuleLaws.{ModulesAdded}
use Rattle.dwc_carry.proofs.simulated_modules.add_modules.Given as goal

-- the entries of the modules so far are added, and those of others are left
abbrev pub invariant-loop-i : goal.invariant-loop-i
invariant-loop-i g l =
    let ms = modules_of ((goal.TargetIsa-dyn g l.isa.now).dwarf_registers l.isa.now.1) l.compilation in
    ModulesAdded (is_noted l.translated) ms l.vmctx_ptrs l.fn.strings l.fn.unit l.strings l.unit l.i
