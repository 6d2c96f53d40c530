use Rattle.std.proofs.Common.{◌<◌, ◌≤◌, length, get_or, arith, ap, refl, sym, ◌∙◌, subst, All}
use Rattle.std.proofs.lemmas.List.{get_or_default}
use Rattle.std.proofs.lemmas.List.Elements.{All-get_or}
use Rattle.std.proofs.lemmas.Result.{err_from_is_err_and}
use Rattle.dwc_native.specs.Addends.{HaveAddends}
use Rattle.dwc_base.specs.TranslationNames.{HasSortedNames}
use Rattle.dwc_image.specs.CarriedLines.{AreKept}
use Rattle.dwc_clone.specs.BegunNumbers.{is_noted}
use Rattle.dwc_source.specs.CompiledModules.{told_by}
use Rattle.dwc_carry.specs.CarriedModules.{transformed_module}
use Rattle.dwc_carry.specs.Inputs.{modules_of, names_of, told_from}
use Rattle.dwc_carry.proofs.CompiledLaws.{module-next, modules-length, transforms-inside}
use Rattle.dwc_carry.proofs.SimulatedCodeLaws.{few-functions, first-lines}
use Rattle.dwc_carry.proofs.MadeLaws.{grows-twice}
use Rattle.dwc_carry.proofs.SimulatedModuleLaws.{added-begin, added-done, added-more, added-refused}
use Rattle.dwc_carry.proofs.simulated_modules.add_modules.Goals as goal

pub loop-i-init : goal.loop-i-init
loop-i-init g c =
    let ms = modules_of ((goal.TargetIsa-dyn g c.args.isa.now).dwarf_registers c.args.isa.now.1) c.args.compilation.now in
    added-begin (is_noted c.args.translated.now) ms c.args.vmctx_ptrs.now c.args.strings.now c.args.unit.now c.requires.dense c.requires.some

pub bounds-transforms-i : goal.bounds-transforms-i
bounds-transforms-i g c =
    let compilation = c.args.compilation.now in
    let less : c.loop-i.i < length compilation.translations = rw c.translations-translations.ensures.translations at c.loop-i-test.true in
    transforms-inside compilation c.args.transforms.now c.loop-i.i c.translations-translations.ensures.counted less c.requires.transforms

pub bounds-vmctx_ptrs-i : goal.bounds-vmctx_ptrs-i
bounds-vmctx_ptrs-i g c =
    let less : c.loop-i.i < length c.args.compilation.now.translations = rw c.translations-translations.ensures.translations at c.loop-i-test.true in
    omega (arith, less, c.requires.contexts)

pub add_module-requires-clause-functions : goal.add_module-requires-clause-functions
add_module-requires-clause-functions g c =
    let compilation = c.args.compilation.now in
    let less : c.loop-i.i < length compilation.translations = rw c.translations-translations.ensures.translations at c.loop-i-test.true in
    let inside = transforms-inside compilation c.args.transforms.now c.loop-i.i c.translations-translations.ensures.counted less c.requires.transforms in
    subst AreKept (sym c.index-transforms-i.is) (All-get_or AreKept c.args.transforms.now c.loop-i.i c.index-transforms-i.result inside c.requires.functions)

pub add_module-requires-clause-addends : goal.add_module-requires-clause-addends
add_module-requires-clause-addends g c =
    let compilation = c.args.compilation.now in
    let less : c.loop-i.i < length compilation.translations = rw c.translations-translations.ensures.translations at c.loop-i-test.true in
    let inside = transforms-inside compilation c.args.transforms.now c.loop-i.i c.translations-translations.ensures.counted less c.requires.transforms in
    subst HaveAddends (sym c.index-transforms-i.is) (All-get_or HaveAddends c.args.transforms.now c.loop-i.i c.index-transforms-i.result inside c.requires.addends)

pub add_module-requires-clause-few : goal.add_module-requires-clause-few
add_module-requires-clause-few g c =
    let compilation = c.args.compilation.now in
    let counted = c.translations-translations.ensures.counted in
    let less : c.loop-i.i < length compilation.translations = rw c.translations-translations.ensures.translations at c.loop-i-test.true in
    let inside = transforms-inside compilation c.args.transforms.now c.loop-i.i counted less c.requires.transforms in
    few-functions compilation c.args.transforms.now c.loop-i.i c.index-transforms-i.result c.requires.transforms inside c.index-transforms-i.is counted

pub add_module-requires-clause-lines : goal.add_module-requires-clause-lines
add_module-requires-clause-lines g c =
    let compilation = c.args.compilation.now in
    let less : c.loop-i.i < length compilation.translations = rw c.translations-translations.ensures.translations at c.loop-i-test.true in
    let inside = transforms-inside compilation c.args.transforms.now c.loop-i.i c.translations-translations.ensures.counted less c.requires.transforms in
    let t = c.index-translations-i.result in
    first-lines compilation c.args.transforms.now c.loop-i.i c.index-transforms-i.result c.requires.transforms inside c.index-transforms-i.is t
    (c.index-translations-i.is ∙ ap (λ ts. get_or ts c.loop-i.i t) c.translations-translations.ensures.translations) c.requires.maps c.requires.low

pub add_module-requires-clause-sorted : goal.add_module-requires-clause-sorted
add_module-requires-clause-sorted g c =
    let sorted : All HasSortedNames c.translations-translations.result.now = subst (All HasSortedNames) (sym c.translations-translations.ensures.translations) c.translations-translations.ensures.sorted in
    subst HasSortedNames (sym c.index-translations-i.is) (All-get_or HasSortedNames c.translations-translations.result.now c.loop-i.i c.index-translations-i.result c.loop-i-test.true sorted)

pub loop-i-preserved : goal.loop-i-preserved
loop-i-preserved g c =
    let compilation = c.args.compilation.now in
    let less : c.loop-i.i < length compilation.translations = rw c.translations-translations.ensures.translations at c.loop-i-test.true in
    let registers = (goal.TargetIsa-dyn g c.args.isa.now).dwarf_registers c.args.isa.now.1 in
    let t = c.index-translations-i.result in
    let fs = c.index-transforms-i.result in
    let compiled = c.compiled_module-compiled.result in
    let next = module-next registers compilation c.args.transforms.now c.loop-i.i t fs compiled c.translations-translations.ensures.counted less c.requires.transforms
    (c.index-translations-i.is ∙ ap (λ ts. get_or ts c.loop-i.i t) c.translations-translations.ensures.translations) c.index-transforms-i.is (c.compiled_module-compiled.ensures.told registers) c.compiled_module-compiled.ensures.frames in
    let ms = modules_of registers compilation in
    let refs = c.args.vmctx_ptrs.now in
    let m = transformed_module compilation.tunables.dwarf_version t fs (told_by registers compiled) in
    let inside : c.loop-i.i < length refs = omega (arith, less, c.requires.contexts) in
    added-more (is_noted c.args.translated.now) ms refs c.args.strings.now c.args.unit.now registers compilation.tunables.dwarf_version c.loop-i.strings c.loop-i.unit c.loop-i.i c.loop-i.invariant t fs compiled _ m refl next.frames next.left inside (get_or_default refs c.loop-i.i _ _ inside)
    c.add_module.new.strings c.add_module.new.unit c.in_ok-add_module.ensures.grows c.in_ok-add_module.ensures.dense c.in_ok-add_module.ensures.some c.in_ok-add_module.ensures.begins c.in_ok-add_module.ensures.functions

pub returns-in_err-add_module-clause-grows : goal.returns-in_err-add_module-clause-grows
returns-in_err-add_module-clause-grows g c = grows-twice c.args.strings.now c.loop-i.strings c.add_module.new.strings c.loop-i.invariant.grows c.add_module.ensures.grows

pub returns-in_err-add_module-clause-entries : goal.returns-in_err-add_module-clause-entries
returns-in_err-add_module-clause-entries g c = λ number whole has.
    let compilation = c.args.compilation.now in
    let less : c.loop-i.i < length compilation.translations = rw c.translations-translations.ensures.translations at c.loop-i-test.true in
    let registers = (goal.TargetIsa-dyn g c.args.isa.now).dwarf_registers c.args.isa.now.1 in
    let t = c.index-translations-i.result in
    let fs = c.index-transforms-i.result in
    let compiled = c.compiled_module-compiled.result in
    let next = module-next registers compilation c.args.transforms.now c.loop-i.i t fs compiled c.translations-translations.ensures.counted less c.requires.transforms
    (c.index-translations-i.is ∙ ap (λ ts. get_or ts c.loop-i.i t) c.translations-translations.ensures.translations) c.index-transforms-i.is (c.compiled_module-compiled.ensures.told registers) c.compiled_module-compiled.ensures.frames in
    let ms = modules_of registers compilation in
    let refs = c.args.vmctx_ptrs.now in
    let m = transformed_module compilation.tunables.dwarf_version t fs (told_by registers compiled) in
    let inside : c.loop-i.i < length refs = omega (arith, less, c.requires.contexts) in
    let p = err_from_is_err_and c.from_residual.result c.from_residual.ensures.1 in
    rw (p.1, p.2)
    (added-refused (is_noted c.args.translated.now) ms refs c.args.strings.now c.args.unit.now registers compilation.tunables.dwarf_version c.loop-i.strings c.loop-i.unit c.loop-i.i c.loop-i.invariant t fs compiled _ m refl next.frames next.left inside (get_or_default refs c.loop-i.i _ _ inside)
    number whole c.add_module.new.strings c.add_module.new.unit c.in_err-add_module.field-0.0 c.in_err-add_module.ensures.functions has)

pub returns-clause-entries : goal.returns-clause-entries
returns-clause-entries g c = λ number whole has.
    let compilation = c.args.compilation.now in
    let registers = (goal.TargetIsa-dyn g c.args.isa.now).dwarf_registers c.args.isa.now.1 in
    let ms = modules_of registers compilation in
    let behind = rw c.translations-translations.ensures.translations at c.loop-i-test.false in
    let past : length ms ≤ c.loop-i.i = omega (arith, modules-length compilation.tunables.output_for compilation.tunables.dwarf_version compilation.translations compilation.functions (told_from compilation.tunables.output_for registers (names_of compilation) 0 0 compilation.functions compilation.memory_offsets), behind) in
    added-done (is_noted c.args.translated.now) ms c.args.vmctx_ptrs.now c.args.strings.now c.args.unit.now c.loop-i.strings c.loop-i.unit c.loop-i.i past c.loop-i.invariant number whole has
