use Rattle.std.proofs.Common.{ℕ, ◌+◌, ◌∷◌, ◌<◌, ◌≤◌, drop, length, get_or, arith, ap, sym, ◌∙◌, subst}
use Rattle.std.proofs.lemmas.List.{drop_all}
use Rattle.std.proofs.lemmas.List.Elements.{All-get_or}
use Rattle.std.proofs.lemmas.Result.{err_from_is_err_and}
use Rattle.dwc_native.specs.Addends.{HaveAddends}
use Rattle.dwc_image.specs.CarriedLines.{AreKept}
use Rattle.dwc_source.specs.CompiledModules.{told_by}
use Rattle.dwc_carry.specs.CarriedModules.{transformed_module}
use Rattle.dwc_carry.specs.Inputs.{names_of, modules_of, told_from}
use Rattle.dwc_carry.proofs.CompiledLaws.{module-next, modules-length, transforms-inside}
use Rattle.dwc_unit.specs.declared.units.Dwarf.{Dwarf}
use Rattle.dwc_carried.specs.Forests.{synthetic_refusals}
use Rattle.dwc_base.specs.Listing.{first_of}
use Rattle.dwc_carry.specs.Refusals.{RefusesReading}
use Rattle.dwc_carry.specs.SyntheticUnits.{memory_at}
use Rattle.dwc_carry.proofs.SyntheticModules.{carried-refused, module-both, none-refused, synthetic-counted, synthetic-refused, synthetic-told}
use Rattle.dwc_carry.proofs.ModuleLoopLaws.{ModulesSoFar, modules-begin, modules-one, modules-done, modules-refused}
use Rattle.dwc_carry.proofs.carry_modules.carry_modules.Goals as goal

pub loop-i-init : goal.loop-i-init
loop-i-init g c =
    let ms = modules_of ((goal.TargetIsa-dyn g c.args.isa.now).dwarf_registers c.args.isa.now.1) c.args.compilation.now in
    modules-begin c.args.form.encoding c.args.form.big_endian ms c.args.dwarf.now.units.units.items c.args.dwarf.now.strings c.new-vmctx_ptrs.result.items c.new-translated.result c.new-vmctx_ptrs.ensures.items c.new-translated.ensures.empty

pub bounds-transforms-i : goal.bounds-transforms-i
bounds-transforms-i g c =
    let compilation = c.args.compilation.now in
    let less : c.loop-i.i < length compilation.translations = rw c.translations-translations.ensures.translations at c.loop-i-test.true in
    transforms-inside compilation c.args.transforms.now c.loop-i.i c.translations-translations.ensures.counted less c.requires.transforms

pub carry_module-requires-clause-functions : goal.carry_module-requires-clause-functions
carry_module-requires-clause-functions g c =
    let compilation = c.args.compilation.now in
    let less : c.loop-i.i < length compilation.translations = rw c.translations-translations.ensures.translations at c.loop-i-test.true in
    let inside = transforms-inside compilation c.args.transforms.now c.loop-i.i c.translations-translations.ensures.counted less c.requires.transforms in
    subst AreKept (sym c.index-transforms-i.is) (All-get_or AreKept c.args.transforms.now c.loop-i.i c.index-transforms-i.result inside c.requires.functions)

pub carry_module-requires-clause-addends : goal.carry_module-requires-clause-addends
carry_module-requires-clause-addends g c =
    let compilation = c.args.compilation.now in
    let less : c.loop-i.i < length compilation.translations = rw c.translations-translations.ensures.translations at c.loop-i-test.true in
    let inside = transforms-inside compilation c.args.transforms.now c.loop-i.i c.translations-translations.ensures.counted less c.requires.transforms in
    subst HaveAddends (sym c.index-transforms-i.is) (All-get_or HaveAddends c.args.transforms.now c.loop-i.i c.index-transforms-i.result inside c.requires.addends)

pub carry_module-requires-clause-frames : goal.carry_module-requires-clause-frames
carry_module-requires-clause-frames g c =
    let compilation = c.args.compilation.now in
    let less : c.loop-i.i < length compilation.translations = rw c.translations-translations.ensures.translations at c.loop-i-test.true in
    let registers = (goal.TargetIsa-dyn g c.args.isa.now).dwarf_registers c.args.isa.now.1 in
    let t = c.index-translations-i.result in
    let fs = c.index-transforms-i.result in
    let compiled = c.compiled_module-compiled.result in
    let next = module-next registers compilation c.args.transforms.now c.loop-i.i t fs compiled c.translations-translations.ensures.counted less c.requires.transforms
    (c.index-translations-i.is ∙ ap (λ ts. get_or ts c.loop-i.i t) c.translations-translations.ensures.translations) c.index-transforms-i.is (c.compiled_module-compiled.ensures.told registers) c.compiled_module-compiled.ensures.frames in
    next.frames

pub returns-in_err-synthetic : goal.returns-in_err-synthetic
returns-in_err-synthetic g c =
    let compilation = c.args.compilation.now in
    let less : c.loop-i.i < length compilation.translations = rw c.translations-translations.ensures.translations at c.loop-i-test.true in
    let registers = (goal.TargetIsa-dyn g c.args.isa.now).dwarf_registers c.args.isa.now.1 in
    let t = c.index-translations-i.result in
    let fs = c.index-transforms-i.result in
    let compiled = c.compiled_module-compiled.result in
    let next = module-next registers compilation c.args.transforms.now c.loop-i.i t fs compiled c.translations-translations.ensures.counted less c.requires.transforms
    (c.index-translations-i.is ∙ ap (λ ts. get_or ts c.loop-i.i t) c.translations-translations.ensures.translations) c.index-transforms-i.is (c.compiled_module-compiled.ensures.told registers) c.compiled_module-compiled.ensures.frames in
    let ms = modules_of registers compilation in
    let rest = drop (c.loop-i.i + 1) ms in
    let m = transformed_module c.args.form.encoding.version t fs (told_by registers compiled) in
    let asked = ap (λ (v : ℕ). transformed_module v t fs (told_by registers compiled) ∷ rest) (sym c.requires.asked) in
    let encoding = c.args.form.encoding in
    let big = c.args.form.big_endian in
    let old = c.args.dwarf.now.units.units.items in
    let before = c.args.dwarf.now.strings in
    let new = c.loop-i.dwarf.units.units.items in
    let texts = c.loop-i.dwarf.strings in
    let here : ModulesSoFar encoding big ms old before new texts c.loop-i.vmctx_ptrs.items c.loop-i.translated (m ∷ rest) = subst (λ xs. ModulesSoFar encoding big ms old before new texts c.loop-i.vmctx_ptrs.items c.loop-i.translated xs) (next.left ∙ asked) c.loop-i.invariant in
    let p = err_from_is_err_and c.from_residual.result c.from_residual.ensures.1 in
    rw (p.1, p.2) (modules-refused encoding big ms old before new texts c.loop-i.vmctx_ptrs.items c.loop-i.translated m rest c.in_err-synthetic.field-0.0 here (synthetic-refused big m c.in_err-synthetic.field-0.0 (subst (λ x. RefusesReading (first_of (synthetic_refusals x)) c.in_err-synthetic.field-0.0) (sym c.compiled_module-compiled.ensures.memory) c.in_err-synthetic.ensures.added)))

pub returns-in_err-carry_module : goal.returns-in_err-carry_module
returns-in_err-carry_module g c =
    let compilation = c.args.compilation.now in
    let less : c.loop-i.i < length compilation.translations = rw c.translations-translations.ensures.translations at c.loop-i-test.true in
    let registers = (goal.TargetIsa-dyn g c.args.isa.now).dwarf_registers c.args.isa.now.1 in
    let t = c.index-translations-i.result in
    let fs = c.index-transforms-i.result in
    let compiled = c.compiled_module-compiled.result in
    let next = module-next registers compilation c.args.transforms.now c.loop-i.i t fs compiled c.translations-translations.ensures.counted less c.requires.transforms
    (c.index-translations-i.is ∙ ap (λ ts. get_or ts c.loop-i.i t) c.translations-translations.ensures.translations) c.index-transforms-i.is (c.compiled_module-compiled.ensures.told registers) c.compiled_module-compiled.ensures.frames in
    let ms = modules_of registers compilation in
    let rest = drop (c.loop-i.i + 1) ms in
    let m = transformed_module c.args.form.encoding.version t fs (told_by registers compiled) in
    let asked = ap (λ (v : ℕ). transformed_module v t fs (told_by registers compiled) ∷ rest) (sym c.requires.asked) in
    let encoding = c.args.form.encoding in
    let big = c.args.form.big_endian in
    let old = c.args.dwarf.now.units.units.items in
    let before = c.args.dwarf.now.strings in
    let new = c.loop-i.dwarf.units.units.items in
    let texts = c.loop-i.dwarf.strings in
    let here : ModulesSoFar encoding big ms old before new texts c.loop-i.vmctx_ptrs.items c.loop-i.translated (m ∷ rest) = subst (λ xs. ModulesSoFar encoding big ms old before new texts c.loop-i.vmctx_ptrs.items c.loop-i.translated xs) (next.left ∙ asked) c.loop-i.invariant in
    let p = err_from_is_err_and c.from_residual-in_err-carry_module.result c.from_residual-in_err-carry_module.ensures.1 in
    let middle : Dwarf = record { units = c.new.new.out_units; strings = c.new.new.out_strings } in
    let synthetic = synthetic-told encoding compilation.set_memory m.told.names.set_memory (memory_at compilation c.loop-i.i) m.told.memory c.loop-i.dwarf middle c.in_ok-synthetic.synthetic (sym c.compiled_module-compiled.ensures.set_memory) (sym c.compiled_module-compiled.ensures.memory) c.in_ok-synthetic.ensures.added in
    rw (p.1, p.2) (modules-refused encoding big ms old before new texts c.loop-i.vmctx_ptrs.items c.loop-i.translated m rest c.in_err-carry_module.field-0.0 here (carried-refused big m synthetic.0 c.in_err-carry_module.field-0.0 (c.in_err-carry_module.ensures.added (length new) (synthetic-counted big m encoding c.loop-i.dwarf middle c.in_ok-synthetic.synthetic synthetic.1))))

pub loop-i-preserved : goal.loop-i-preserved
loop-i-preserved g c =
    let compilation = c.args.compilation.now in
    let less : c.loop-i.i < length compilation.translations = rw c.translations-translations.ensures.translations at c.loop-i-test.true in
    let registers = (goal.TargetIsa-dyn g c.args.isa.now).dwarf_registers c.args.isa.now.1 in
    let t = c.index-translations-i.result in
    let fs = c.index-transforms-i.result in
    let compiled = c.compiled_module-compiled.result in
    let next = module-next registers compilation c.args.transforms.now c.loop-i.i t fs compiled c.translations-translations.ensures.counted less c.requires.transforms
    (c.index-translations-i.is ∙ ap (λ ts. get_or ts c.loop-i.i t) c.translations-translations.ensures.translations) c.index-transforms-i.is (c.compiled_module-compiled.ensures.told registers) c.compiled_module-compiled.ensures.frames in
    let ms = modules_of registers compilation in
    let rest = drop (c.loop-i.i + 1) ms in
    let m = transformed_module c.args.form.encoding.version t fs (told_by registers compiled) in
    let asked = ap (λ (v : ℕ). transformed_module v t fs (told_by registers compiled) ∷ rest) (sym c.requires.asked) in
    let encoding = c.args.form.encoding in
    let big = c.args.form.big_endian in
    let old = c.args.dwarf.now.units.units.items in
    let before = c.args.dwarf.now.strings in
    let new = c.loop-i.dwarf.units.units.items in
    let texts = c.loop-i.dwarf.strings in
    let here : ModulesSoFar encoding big ms old before new texts c.loop-i.vmctx_ptrs.items c.loop-i.translated (m ∷ rest) = subst (λ xs. ModulesSoFar encoding big ms old before new texts c.loop-i.vmctx_ptrs.items c.loop-i.translated xs) (next.left ∙ asked) c.loop-i.invariant in
    let middle : Dwarf = record { units = c.new.new.out_units; strings = c.new.new.out_strings } in
    let synthetic = synthetic-told encoding compilation.set_memory m.told.names.set_memory (memory_at compilation c.loop-i.i) m.told.memory c.loop-i.dwarf middle c.in_ok-synthetic.synthetic (sym c.compiled_module-compiled.ensures.set_memory) (sym c.compiled_module-compiled.ensures.memory) c.in_ok-synthetic.ensures.added in
    let carried = c.in_ok-carry_module.ensures.added (length new) (synthetic-counted big m encoding c.loop-i.dwarf middle c.in_ok-synthetic.synthetic synthetic.1) in
    let refers = c.vmctx_ptr_die_ref.ensures ∙ (synthetic.1.refers).context_pointer in
    subst (λ rs. ModulesSoFar encoding big ms old before c.carry_module.new.dwarf.units.units.items c.carry_module.new.dwarf.strings rs c.carry_module.new.translated rest) (sym c.in_ok-push.ensures.items)
    (modules-one encoding big ms old before new c.carry_module.new.dwarf.units.units.items texts c.carry_module.new.dwarf.strings c.loop-i.vmctx_ptrs.items c.vmctx_ptr_die_ref.result c.loop-i.translated c.carry_module.new.translated m rest here
    (none-refused big m synthetic.0 carried.0, module-both big m encoding c.loop-i.dwarf middle c.carry_module.new.dwarf c.in_ok-synthetic.synthetic synthetic.1 carried.1) refers c.in_ok-carry_module.ensures.noted)

pub returns : goal.returns
returns g c =
    let compilation = c.args.compilation.now in
    let registers = (goal.TargetIsa-dyn g c.args.isa.now).dwarf_registers c.args.isa.now.1 in
    let ms = modules_of registers compilation in
    let encoding = c.args.form.encoding in
    let big = c.args.form.big_endian in
    let old = c.args.dwarf.now.units.units.items in
    let before = c.args.dwarf.now.strings in
    let new = c.loop-i.dwarf.units.units.items in
    let texts = c.loop-i.dwarf.strings in
    let behind = rw c.translations-translations.ensures.translations at c.loop-i-test.false in
    let past : length ms ≤ c.loop-i.i = omega (arith, modules-length compilation.tunables.output_for compilation.tunables.dwarf_version compilation.translations compilation.functions (told_from compilation.tunables.output_for registers (names_of compilation) 0 0 compilation.functions compilation.memory_offsets), behind) in
    modules-done encoding big ms old before new texts (record { translated = c.loop-i.translated; vmctx_ptrs = c.loop-i.vmctx_ptrs }) (subst (λ xs. ModulesSoFar encoding big ms old before new texts c.loop-i.vmctx_ptrs.items c.loop-i.translated xs) (drop_all c.loop-i.i ms past) c.loop-i.invariant)
