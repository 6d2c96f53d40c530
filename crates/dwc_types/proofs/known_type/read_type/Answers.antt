use Rattle.std.proofs.Common.{◌∙◌, Ok, ap, sym, subst}
use Rattle.std.proofs.lemmas.Result.{err_from_is_err_and}
use Rattle.std.specs.Option.{option_copied}
use Rattle.dwc_types.specs.TypeReads.{EndsSo}
use Rattle.dwc_types.specs.TypeSteps.{ReadsStep}
use Rattle.dwc_types.proofs.KnownTypeLaws.{ends-kept, ends-last, ends-named}
use Rattle.dwc_types.proofs.known_type.read_type.Goals as goal

pub returns-in-Some-clause-ending : goal.returns-in-Some-clause-ending
returns-in-Some-clause-ending c s known =
    ends-kept c.args.source.now s c.args.offset c.args.types.now c.in-Some.field-0.now (sym c.get.ensures.value ∙ ap option_copied c.in-Some.is) known

pub returns-in_err-name-clause-refused : goal.returns-in_err-name-clause-refused
returns-in_err-name-clause-refused c =
    let p = err_from_is_err_and c.from_residual.result c.from_residual.ensures.1 in
    rw (p.1, p.2) c.in_err-name.ensures.step

pub returns-in_ok-keep_end-in-Named-clause-types : goal.returns-in_ok-keep_end-in-Named-clause-types
returns-in_ok-keep_end-in-Named-clause-types c s away known =
    let src = c.args.source.now in
    let step = subst (λ st. ReadsStep src c.args.offset (Ok st)) c.in-Named.is c.in_ok-name.ensures.step in
    c.in_ok-keep_end-in-Named.ensures.types src s (ends-named src s c.args.offset c.in-Named.name.now step) known

pub returns-in_ok-keep_end-in-Named-clause-ending : goal.returns-in_ok-keep_end-in-Named-clause-ending
returns-in_ok-keep_end-in-Named-clause-ending c s known =
    let src = c.args.source.now in
    let step = subst (λ st. ReadsStep src c.args.offset (Ok st)) c.in-Named.is c.in_ok-name.ensures.step in
    subst (EndsSo src s c.args.offset) (sym c.in_ok-keep_end-in-Named.ensures.name) (ends-named src s c.args.offset c.in-Named.name.now step)

pub returns-in_ok-keep_end-in-Last-clause-types : goal.returns-in_ok-keep_end-in-Last-clause-types
returns-in_ok-keep_end-in-Last-clause-types c s away known =
    let src = c.args.source.now in
    let step = subst (λ st. ReadsStep src c.args.offset (Ok st)) c.in-Last.is c.in_ok-name.ensures.step in
    c.in_ok-keep_end-in-Last.ensures.types src s (ends-last src s c.args.offset step) known

pub returns-in_ok-keep_end-in-Last-clause-ending : goal.returns-in_ok-keep_end-in-Last-clause-ending
returns-in_ok-keep_end-in-Last-clause-ending c s known =
    let src = c.args.source.now in
    let step = subst (λ st. ReadsStep src c.args.offset (Ok st)) c.in-Last.is c.in_ok-name.ensures.step in
    subst (EndsSo src s c.args.offset) (sym c.in_ok-keep_end-in-Last.ensures.name) (ends-last src s c.args.offset step)

pub returns-in_ok-keep_derived-in-Derived-clause-types : goal.returns-in_ok-keep_derived-in-Derived-clause-types
returns-in_ok-keep_derived-in-Derived-clause-types c s away known =
    let src = c.args.source.now in
    let step = subst (λ st. ReadsStep src c.args.offset (Ok st)) c.in-Derived.is c.in_ok-name.ensures.step in
    c.in_ok-keep_derived-in-Derived.ensures.types src s (λ number f source emitted at. step number s f source emitted at) away known
