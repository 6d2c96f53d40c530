use Rattle.std.proofs.Common.{map, sym, ap, ◌∙◌}
use Rattle.std.proofs.lemmas.List.{map_push}
use Rattle.dwc_expr.specs.CodeRanges.{code_range_view}
use Rattle.dwc_expr.specs.JoinedScopes.{begins_in_last}
use Rattle.dwc_expr.proofs.ScopeLaws.{begins_in-end}
use Rattle.dwc_expr.proofs.ranges.scope.begins_in_last.Goals as goal

pub returns-in-Some : goal.returns-in-Some
returns-in-Some c =
    let front = c.in-Some.field-0-1.now in
    let last = c.in-Some.last.now in
    c.begins_in.ensures
    ∙ sym (begins_in-end (map code_range_view front) (code_range_view last) (code_range_view c.args.next.now))
    ∙ ap (λ rs. begins_in_last rs (code_range_view c.args.next.now)) (sym (ap (map code_range_view) c.in-Some.ensures.cases.0 ∙ map_push code_range_view front last))
