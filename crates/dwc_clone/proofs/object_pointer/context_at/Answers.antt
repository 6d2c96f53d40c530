use Rattle.std.proofs.Common.{◌≡◌, pos, to_z, of_z, w64, rules, ◌-ℤ◌, ap, ◌∙◌}
use Rattle.dwc_rules.specs.Scopes.{top_at}
use Rattle.dwc_read.specs.EntriesSeen.{natural}
use Rattle.dwc_clone.specs.ParameterContexts.{next_number}
use Rattle.dwc_extents.specs.StacksByDepth.{with_top}
use Rattle.dwc_clone.proofs.StackDepths.{met-none, met-some}
use Rattle.dwc_clone.proofs.object_pointer.context_at.Goals as goal

pub returns-in_err-context-clause-contexts : goal.returns-in_err-context-clause-contexts
returns-in_err-context-clause-contexts c =
    let depth : to_z w64 (of_z w64 (to_z w64 (of_z w64 c.args.entry.now.depth) -ℤ pos 1)) ≡ pos (natural c.args.entry.now.depth) -ℤ pos 1 = search rules in
    met-none (pos (natural c.args.entry.now.depth) -ℤ pos 1) c.args.contexts.now (c.in_err-context.ensures.value ∙ ap (λ d. top_at d c.args.contexts.now) depth)

pub returns-clause-contexts : goal.returns-clause-contexts
returns-clause-contexts c =
    let depth : to_z w64 (of_z w64 (to_z w64 (of_z w64 c.args.entry.now.depth) -ℤ pos 1)) ≡ pos (natural c.args.entry.now.depth) -ℤ pos 1 = search rules in
    let some = c.in_ok-context.ensures.value ∙ ap (λ d. top_at d c.args.contexts.now) depth in
    let number : to_z w64 (of_z w64 c.next_parameter-context.result) ≡ next_number c.in_ok-context.context.now.param_num = search rules in
    ap (λ n. with_top c.args.contexts.now (record { obj_ptr = c.in_ok-context.context.now.obj_ptr; param_num = n })) number
    ∙ met-some (pos (natural c.args.entry.now.depth) -ℤ pos 1) c.args.contexts.now c.in_ok-context.context.now some
