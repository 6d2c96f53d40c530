use Rattle.std.proofs.Common.{◌≡◌, ℕ, ap, ◌∙◌, inl, inr, Result, Ok, Err, Vec}
use Rattle.std.specs.Prelude.{◌⊎◌, IfErr, OnOk}
use Rattle.std.specs.Global.{Global}
use Rattle.dwc_base.specs.declared.output.DwarfSection.{DwarfSection}
use Rattle.dwc_isa.specs.Registers.{Registers}
use Rattle.dwc_addr.specs.Compilations.{CompilationValue}
use Rattle.dwc_carry.specs.Inputs.{counted_behind}
use Rattle.dwc_carry.specs.declared.error.DebugError.{DebugError}
use Rattle.dwc_trials.proofs.refusals.refuses.Goals as goal

-- the version that is asked for stays
stays : (registers : Registers) (old new : CompilationValue) (r : Result (Vec DwarfSection Global) DebugError) → OnOk r (new ≡ counted_behind registers old) → IfErr r (λ e. (new ≡ old) ⊎ (new ≡ counted_behind registers old))
    → old.tunables.dwarf_version ≡ 4 → new.tunables.dwarf_version ≡ 4
stays registers old new (Ok s) counted refused four = ap (λ (c : CompilationValue). c.tunables.dwarf_version) counted ∙ four
stays registers old new (Err e) counted (inl same) four = ap (λ (c : CompilationValue). c.tunables.dwarf_version) same ∙ four
stays registers old new (Err e) counted (inr behind) four = ap (λ (c : CompilationValue). c.tunables.dwarf_version) behind ∙ four

pub returns : goal.returns
returns c = stays _ c.args.compilation.now c.emit_dwarf.new.compilation c.emit_dwarf.result c.emit_dwarf.ensures.counter c.emit_dwarf.ensures.refused c.requires
