use Rattle.std.proofs.Common.{◌<◌, ◌≤◌, ◌++◌, get_or, length, map, ap, sym, ◌∙◌, subst, All}
use Rattle.dwc_base.specs.declared.translation.ModuleTranslation.{ModuleTranslation}
use Rattle.dwc_native.specs.Addends.{HaveAddends}
use Rattle.dwc_addr.specs.Transforms.{function_view}
use Rattle.dwc_image.specs.SimulatedSequences.{simulated_view}
use Rattle.dwc_clone.specs.BegunNumbers.{is_noted}
use Rattle.dwc_carry.specs.SimulatedCode.{CanWrite, left_in, left_of}
use Rattle.dwc_carry.proofs.CompiledLaws.{transforms-inside}
use Rattle.dwc_carry.proofs.SimulatedCodeLaws.{all-fit}
use Rattle.dwc_carry.proofs.SimulatedFunctionSteps.{module-done, module-more}
use Rattle.dwc_carry.proofs.simulated_code.simulated_functions.Goals as goal

pub bounds-transforms-i : goal.bounds-transforms-i
bounds-transforms-i c =
    let compilation = c.args.compilation.now in
    let less : c.loop-i.i < length compilation.translations = rw c.translations-translations.ensures.translations at c.loop-i-test.true in
    transforms-inside compilation c.args.transforms.now c.loop-i.i c.translations-translations.ensures.counted less c.requires.transforms

pub loop-i-preserved : goal.loop-i-preserved
loop-i-preserved c =
    let compilation = c.args.compilation.now in
    let less : c.loop-i.i < length compilation.translations = rw c.translations-translations.ensures.translations at c.loop-i-test.true in
    let inside = transforms-inside compilation c.args.transforms.now c.loop-i.i c.translations-translations.ensures.counted less c.requires.transforms in
    let t = c.index-translations-i.result in
    let before = map simulated_view c.loop-i.simulated.items in
    module-more (is_noted c.args.translated.now) compilation.translations c.args.transforms.now c.loop-i.i t c.index-transforms-i.result before (map simulated_view c.push_simulated.new.simulated.items) (left_in (is_noted c.args.translated.now) compilation.translations c.args.transforms.now) less inside
    (c.index-translations-i.is ∙ ap (λ ts. get_or ts c.loop-i.i t) c.translations-translations.ensures.translations) c.index-transforms-i.is
    (c.in_ok-push_simulated.ensures ∙ ap (λ (x : ModuleTranslation). before ++ left_of (is_noted c.args.translated.now) x.code_section_offset (map function_view c.map.result.now)) (sym c.index-translations-i.is) ∙ ap (λ fs. before ++ left_of (is_noted c.args.translated.now) t.code_section_offset fs) c.map.ensures) c.loop-i.invariant

pub returns-clause-fit : goal.returns-clause-fit
returns-clause-fit c =
    let compilation = c.args.compilation.now in
    let translated = is_noted c.args.translated.now in
    let past : length compilation.translations ≤ c.loop-i.i = rw c.translations-translations.ensures.translations at c.loop-i-test.false in
    let all = all-fit translated compilation c.requires.maps c.all_ends_are_low.ensures (subst (All HaveAddends) c.requires.transforms c.requires.addends) in
    subst (All CanWrite) (sym (module-done translated compilation.translations c.args.transforms.now c.loop-i.i (map simulated_view c.loop-i.simulated.items) (left_in translated compilation.translations c.args.transforms.now) past c.loop-i.invariant))
    (subst (λ fss. All CanWrite (left_in translated compilation.translations fss)) (sym c.requires.transforms) all)
