use Rattle.std.proofs.Common.{ap, sym, ◌∙◌, Some, slice_get}
use Rattle.std.proofs.lemmas.Option.{slice_get-get_or}
use Rattle.dwc_source.proofs.CompiledModuleLaws.{told-frame, told-labels}
use Rattle.dwc_source.proofs.compiled_module.CompiledModule.frame.Goals as goal

pub returns-clause-frame : goal.returns-clause-frame
returns-clause-frame c = λ registers f named symbol low high.
    let fs = c.args.self.now.functions.now in
    let x = c.in_ok-metadata.field-0.now in
    let found = c.in_ok-metadata.ensures.lookup in
    let at = ap (slice_get fs) (sym c.in_ok-place.ensures.1) ∙ slice_get-get_or fs c.in_ok-place.place x found.3.0 ∙ ap (λ y. Some y) (sym found.1) in
    told-frame registers c.args.self.now f c.args.number x named symbol at

pub returns-clause-labels : goal.returns-clause-labels
returns-clause-labels c = λ registers.
    let fs = c.args.self.now.functions.now in
    let x = c.in_ok-metadata.field-0.now in
    let found = c.in_ok-metadata.ensures.lookup in
    let at = ap (slice_get fs) (sym c.in_ok-place.ensures.1) ∙ slice_get-get_or fs c.in_ok-place.place x found.3.0 ∙ ap (λ y. Some y) (sym found.1) in
    told-labels registers c.args.self.now c.args.number x at
