use Rattle.std.proofs.Common.{ℕ, ap, map, sym, subst, ◌∙◌, All, ◌≡◌}
use Rattle.std.proofs.lemmas.Result.{err_from_is_err_and}
use Rattle.dwc_base.specs.declared.records.Tunables.{Tunables}
use Rattle.dwc_carried.specs.SimulatedUnit.{simulated_unit, output_of}
use Rattle.dwc_image.specs.SimulatedSequences.{simulated_view}
use Rattle.dwc_clone.specs.BegunNumbers.{is_noted}
use Rattle.dwc_carry.specs.Inputs.{modules_of}
use Rattle.dwc_carry.specs.SimulatedUnits.{IsTyped}
use Rattle.dwc_carry.specs.SimulatedCode.{CanWrite, left_in}
use Rattle.dwc_carry.specs.SyntheticUnits.{reference_meant}
use Rattle.dwc_carry.proofs.SimulatedUnitMade.{simulated_unit-made, modules-left}
use Rattle.dwc_carry.proofs.SimulatedCodeLaws.{all-left}
use Rattle.dwc_carry.proofs.MadeLaws.{grows-same, grows-twice}
use Rattle.dwc_carry.proofs.simulated_unit.simulated_unit.Goals as goal
use Rattle.dwc_carry.proofs.CompiledLaws.{output-is}

pub typed_unit-requires-clause-functions : goal.typed_unit-requires-clause-functions
typed_unit-requires-clause-functions g c = subst (λ xs. All CanWrite (map simulated_view xs)) (sym c.deref.ensures.value) c.in_ok-functions.ensures.fit

pub add_modules-requires-clause-dense : goal.add_modules-requires-clause-dense
add_modules-requires-clause-dense g c = c.in_ok-unit.ensures.typed.dense

pub add_modules-requires-clause-some : goal.add_modules-requires-clause-some
add_modules-requires-clause-some g c = c.in_ok-unit.ensures.typed.some

pub returns-in_err-add_modules-clause-unit : goal.returns-in_err-add_modules-clause-unit
returns-in_err-add_modules-clause-unit g c =
    let compilation = c.args.compilation.now in
    let translated = is_noted c.args.translated.now in
    let registers = (goal.TargetIsa-dyn g c.args.isa.now).dwarf_registers c.args.isa.now.1 in
    let ms = modules_of registers compilation in
    let pointers = map reference_meant c.args.vmctx_ptrs.now in
    let encoding = c.args.encoding in
    let path = c.args.path.now in
    let middle = c.typed_unit.new.strings in
    let u = c.in_ok-unit.unit in
    let fs = map simulated_view c.in_ok-functions.functions.items in
    let simulated = c.in_ok-functions.ensures.simulated ∙ ap (left_in translated compilation.translations) c.requires.transforms ∙ all-left registers compilation translated c.in_ok-functions.ensures.counted in
    let asked : c.tunables.result.now.output_for ≡ output_of ms = ap (λ (t : Tunables). t.output_for) c.tunables.ensures ∙ sym (output-is registers compilation c.in_ok-functions.ensures.counted c.requires.some) in
    let typed = subst (λ o. IsTyped o encoding path fs middle u) asked (subst (λ xs. IsTyped c.tunables.result.now.output_for encoding path (map simulated_view xs) middle u) c.deref.ensures.value c.in_ok-unit.ensures.typed) in
    let p = err_from_is_err_and c.from_residual-in_err-add_modules.result c.from_residual-in_err-add_modules.ensures.1 in
    rw (p.1, p.2) (c.in_err-add_modules.ensures.entries 0 (simulated_unit translated path 0 pointers ms) (modules-left translated encoding path 0 pointers ms fs middle u simulated typed))

pub returns-clause-unit : goal.returns-clause-unit
returns-clause-unit g c =
    let compilation = c.args.compilation.now in
    let translated = is_noted c.args.translated.now in
    let registers = (goal.TargetIsa-dyn g c.args.isa.now).dwarf_registers c.args.isa.now.1 in
    let ms = modules_of registers compilation in
    let pointers = map reference_meant c.args.vmctx_ptrs.now in
    let encoding = c.args.encoding in
    let path = c.args.path.now in
    let middle = c.typed_unit.new.strings in
    let u = c.in_ok-unit.unit in
    let fs = map simulated_view c.in_ok-functions.functions.items in
    let simulated = c.in_ok-functions.ensures.simulated ∙ ap (left_in translated compilation.translations) c.requires.transforms ∙ all-left registers compilation translated c.in_ok-functions.ensures.counted in
    let asked : c.tunables.result.now.output_for ≡ output_of ms = ap (λ (t : Tunables). t.output_for) c.tunables.ensures ∙ sym (output-is registers compilation c.in_ok-functions.ensures.counted c.requires.some) in
    let typed = subst (λ o. IsTyped o encoding path fs middle u) asked (subst (λ xs. IsTyped c.tunables.result.now.output_for encoding path (map simulated_view xs) middle u) c.deref.ensures.value c.in_ok-unit.ensures.typed) in
    let entries = λ (number : ℕ). c.in_ok-add_modules.ensures.entries number (simulated_unit translated path number pointers ms) (modules-left translated encoding path number pointers ms fs middle u simulated typed) in (
      (entries 0).0,
      simulated_unit-made translated encoding path ms c.args.vmctx_ptrs.now fs c.args.strings.now middle c.add_modules.new.strings u c.add_modules.new.unit simulated c.in_ok-functions.ensures.fit c.typed_unit.ensures.grows c.add_modules.ensures.grows typed c.in_ok-add_modules.ensures.begins (λ number. (entries number).1),
    )

pub returns-in_err-add_modules-clause-grows : goal.returns-in_err-add_modules-clause-grows
returns-in_err-add_modules-clause-grows g c = grows-twice c.args.strings.now c.typed_unit.new.strings c.add_modules.new.strings c.typed_unit.ensures.grows c.add_modules.ensures.grows

pub returns-clause-grows : goal.returns-clause-grows
returns-clause-grows g c = grows-twice c.args.strings.now c.typed_unit.new.strings c.add_modules.new.strings c.typed_unit.ensures.grows c.add_modules.ensures.grows

pub returns-in_err-functions-clause-grows : goal.returns-in_err-functions-clause-grows
returns-in_err-functions-clause-grows g c = grows-same c.args.strings.now
