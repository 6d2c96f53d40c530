use Rattle.std.proofs.Common.{ap, sym, ◌∙◌}
use Rattle.std.specs.Prelude.{pos, ◌-ℤ◌, if◌then◌else◌}
use Rattle.std.proofs.lemmas.Result.{err_from_is_err_and}
use Rattle.dwc_rules.specs.Scopes.{top_at}
use Rattle.dwc_read.specs.EntriesSeen.{entry_view}
use Rattle.dwc_clone.specs.declared.object_pointer.Telling.TheVariants.{Plain, ObjectPointer}
use Rattle.dwc_source.specs.Sources.{placed_entry}
use Rattle.dwc_clone.proofs.ParameterLaws.{told-by}
use Rattle.dwc_clone.proofs.object_pointer.parameter_told.Goals as goal

pub returns-in_err-is_object_pointer-clause-told : goal.returns-in_err-is_object_pointer-clause-told
returns-in_err-is_object_pointer-clause-told c = λ number s source emitted.
    let p = err_from_is_err_and c.from_residual.result c.from_residual.ensures.1 in
    rw (p.1, p.2) (c.in_err-is_object_pointer.ensures number s source emitted)

pub returns-then-branch-clause-told : goal.returns-then-branch-clause-told
returns-then-branch-clause-told c = λ number s source emitted.
    let e = entry_view c.args.entry.now in
    sym (
    told-by s.texts s.entries (placed_entry c.args.source.now e) (top_at (pos e.depth -ℤ pos 1) c.args.contexts.now) c.in-Some.context (sym c.context_at.ensures.told ∙ c.in-Some.is)
    ∙ ap (λ b. if b then ObjectPointer else Plain) (sym (c.in_ok-is_object_pointer.ensures number s source emitted) ∙ c.if-branch.true)
    )

pub returns-clause-told : goal.returns-clause-told
returns-clause-told c = λ number s source emitted.
    let e = entry_view c.args.entry.now in
    sym (
    told-by s.texts s.entries (placed_entry c.args.source.now e) (top_at (pos e.depth -ℤ pos 1) c.args.contexts.now) c.in-Some.context (sym c.context_at.ensures.told ∙ c.in-Some.is)
    ∙ ap (λ b. if b then ObjectPointer else Plain) (sym (c.in_ok-is_object_pointer.ensures number s source emitted) ∙ c.if-branch.false)
    )
