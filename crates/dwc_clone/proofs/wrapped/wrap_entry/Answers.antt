use Rattle.std.proofs.Common.{ℕ, List, subst}
use Rattle.std.specs.Prelude.{IfOk}
use Rattle.std.proofs.lemmas.Result.{err_from_is_err_and}
use Rattle.dwc_read.specs.EntriesSeen.{entry_view}
use Rattle.dwc_source.specs.Sources.{placed_entry}
use Rattle.dwc_source.specs.KnownTexts.{IsNumbered}
use Rattle.dwc_clone.specs.OpenWrappers.{HasWrapperTexts}
use Rattle.dwc_source.proofs.KnownLaws.{known-grown}
use Rattle.dwc_types.proofs.NotedNameLaws.{names-grown}
use Rattle.dwc_clone.proofs.WrapperNames.{gives-wrapped}
use Rattle.dwc_source.proofs.ErrorLaws.{always-ok}
use Rattle.dwc_clone.proofs.wrapped.wrap_entry.Goals as goal

pub returns-in_err-name-clause-wrapped : goal.returns-in_err-name-clause-wrapped
returns-in_err-name-clause-wrapped g c number s source frames emitted knows tops wrapped =
    let q = err_from_is_err_and c.from_residual.result c.from_residual.ensures.1 in
    rw (q.1, q.2) (c.in_err-name.ensures.named number s source frames emitted knows tops wrapped)

pub returns-in_err-texts-clause-texts : goal.returns-in_err-texts-clause-texts
returns-in_err-texts-clause-texts g c = known-grown c.args.source.now.unit.now.sections c.read_wrapper_name.new.strings c.wrapper_texts.new.strings c.read_wrapper_name.new.known c.wrapper_texts.ensures.grows c.in_ok-name.ensures.texts

pub returns-clause-texts : goal.returns-clause-texts
returns-clause-texts g c = known-grown c.args.source.now.unit.now.sections c.read_wrapper_name.new.strings c.wrapper_texts.new.strings c.read_wrapper_name.new.known c.wrapper_texts.ensures.grows c.in_ok-name.ensures.texts

pub returns-clause-names : goal.returns-clause-names
returns-clause-names g c number s source emitted knows =
    always-ok c.add_wrapper.result (names-grown c.args.source.now s c.read_wrapper_name.new.strings c.wrapper_texts.new.strings c.read_wrapper_name.new.names c.wrapper_texts.ensures.grows (c.in_ok-name.ensures.names number s source emitted knows))

pub returns-clause-wrapped : goal.returns-clause-wrapped
returns-clause-wrapped g c number s source frames emitted knows tops wrapped =
    let registers = (goal.TargetIsa-dyn g c.args.isa.now).dwarf_registers c.args.isa.now.1 in
    let src = c.args.source.now in
    let p = placed_entry src (entry_view c.args.entry.now) in
    let new = c.wrapper_texts.new.strings in
    let resolve = src.module.names.resolve_memory.now in
    let has : (wrapper : List ℕ) → IsNumbered c.read_wrapper_name.new.strings wrapper c.in_ok-name.name → HasWrapperTexts new resolve wrapper c.in_ok-texts.texts = λ wrapper at. subst (λ r. IfOk r (HasWrapperTexts new resolve wrapper)) c.in_ok-texts.ensures (c.wrapper_texts.ensures.texts wrapper at) in
    let named = c.in_ok-name.ensures.named number s source frames emitted knows tops wrapped in
    gives-wrapped registers src s p c.args.strings.now c.read_wrapper_name.new.strings new c.in_ok-name.name c.in_ok-texts.texts c.args.walk.now.parents.items c.add_wrapper.new.parents.items c.args.id c.args.walk.now.opened.items c.add_wrapper.new.wrappers.items
    c.args.unit.now c.add_wrapper.new.unit c.add_wrapper.result named c.wrapper_texts.ensures.grows has c.add_wrapper.ensures.memory c.add_wrapper.ensures.added
