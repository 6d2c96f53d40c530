use Rattle.std.proofs.Common.{map, set, ◌-◌, subst, sym, ap, ◌∙◌}
use Rattle.dwc_expr.specs.CodeRanges.{code_range_view}
use Rattle.dwc_expr.specs.JoinedScopes.{begins_in_last, Adds}
use Rattle.dwc_expr.proofs.CodeLaws.{add-longer, add-pushed}
use Rattle.dwc_expr.proofs.ranges.scope.add.Goals as goal

pub returns-then-begins_in_last : goal.returns-then-begins_in_last
returns-then-begins_in_last c =
    let xs = c.args.out.now.items in
    let last = c.index_mut-last.result.now in
    subst (λ end. Adds (code_range_view c.args.range) (map code_range_view xs) (map code_range_view (set xs (c.len-place.result - 1) (record last { end = end })))) (sym c.max-last.ensures)
    (add-longer xs c.len-place.result last c.args.range (c.len-place.ensures ∙ c.args.out.now.ok.0) c.index_mut-last.ensures.value
    (ap (λ zs. begins_in_last (map code_range_view zs) (code_range_view c.args.range)) (sym c.deref.ensures.value) ∙ sym c.begins_in_last.ensures ∙ c.if-begins_in_last.true))

pub returns : goal.returns
returns c =
    add-pushed c.args.out.now.items c.push.new.self.items c.args.range c.in_ok-push.ensures.items
    (ap (λ zs. begins_in_last (map code_range_view zs) (code_range_view c.args.range)) (sym c.deref.ensures.value) ∙ sym c.begins_in_last.ensures ∙ c.if-begins_in_last.false)
