use Rattle.std.proofs.Common.{◌+◌, map, drop, Ok, Err, subst}
use Rattle.std.proofs.lemmas.Result.{err_from_is_err_and}
use Rattle.dwc_wasm.specs.FileTranslations.{TranslatesFile}
use Rattle.dwc_cli.specs.Failures.{failure_status}
use Rattle.dwc_cli.proofs.WalkedModules.{Walked, Walked-more, Walked-broken, files-from}
use Rattle.dwc_cli.proofs.answer.translations_of.Goals as goal

pub returns-in_err-translation : goal.returns-in_err-translation
returns-in_err-translation c =
    let modules = c.args.modules.now in
    let i = c.loop-module.module-index in
    let all = map (λ m. m.items) modules in
    let left = map (λ m. m.items) (drop (i + 1) modules) in
    let bytes = c.module-item.result.items in
    let p = err_from_is_err_and c.from_residual-in_err-translation.result c.from_residual-in_err-translation.ensures.1 in
    let broken = subst (λ b. TranslatesFile b (Err c.in_err-translation.field-0.0)) c.deref.ensures.value c.in_err-translation.ensures.translated in
    let walked = subst (λ fs. Walked c.loop-module.translations.items fs all) (files-from modules i c.module-item.result c.loop-module-test.true c.module-item.is) c.loop-module.invariant in
    rw p.1 (Walked-broken c.loop-module.translations.items c.in_err-translation.field-0.0 (failure_status p.0) bytes left all broken p.2 walked)

pub loop-module-preserved : goal.loop-module-preserved
loop-module-preserved c =
    let modules = c.args.modules.now in
    let i = c.loop-module.module-index in
    let all = map (λ m. m.items) modules in
    let left = map (λ m. m.items) (drop (i + 1) modules) in
    let bytes = c.module-item.result.items in
    let read = subst (λ b. TranslatesFile b (Ok c.in_ok-translation.translation)) c.deref.ensures.value c.in_ok-translation.ensures.translated in
    let walked = subst (λ fs. Walked c.loop-module.translations.items fs all) (files-from modules i c.module-item.result c.loop-module-test.true c.module-item.is) c.loop-module.invariant in
    rw c.in_ok-push.ensures.items (Walked-more c.loop-module.translations.items c.in_ok-translation.translation bytes left all read walked)
