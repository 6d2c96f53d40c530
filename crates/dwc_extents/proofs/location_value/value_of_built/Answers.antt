use Rattle.std.proofs.Common.{◌==◌, ap, sym, ◌∙◌}
use Rattle.dwc_extents.proofs.LocationValueLaws.{one-built}
use Rattle.dwc_extents.proofs.location_value.value_of_built.Goals as goal

pub returns-then-holds_everywhere : goal.returns-then-holds_everywhere
returns-then-holds_everywhere c =
    one-built c.args.name c.args.built.expressions.items c.args.built.covers_entire_scope c.first_expression.result (ap (λ n. n == 0) (sym c.args.built.expressions.ok.0) ∙ sym c.is_empty.ensures ∙ c.if-is_empty.false) c.first_expression.ensures (sym c.holds_everywhere.ensures ∙ c.if-holds_everywhere.true)
