use Rattle.std.proofs.Common.{◌≡◌, drop}
use Rattle.std.specs.Prelude.{is_some}
use Rattle.std.specs.FinMap as finite
use Rattle.std.specs.List.{list_all}
use Rattle.dwc_isa.specs.LabelRegisters.{register_numbers}
use Rattle.dwc_isa.specs.Registers.{Registers}
use Rattle.dwc_expr.proofs.build.varying.are_numbered.Given as goal

-- those that are left are numbered where all are
abbrev pub invariant-loop-register : goal.invariant-loop-register
invariant-loop-register g l =
    let registers : Registers = (goal.TargetIsa-dyn g l.isa.now).dwarf_registers l.isa.now.1 in
    list_all (λ n. is_some (finite.get registers n)) (register_numbers (drop l.register-index l.registers)) ≡ list_all (λ n. is_some (finite.get registers n)) (register_numbers l.registers)
