use Rattle.std.proofs.Common.{◌≡◌, suc, ◌-◌, ap, ◌∙◌, arith}
use Rattle.dwc_unit.specs.NameViews.{start_at}
use Rattle.dwc_unit.proofs.NameLaws.{start-behind}
use Rattle.dwc_unit.proofs.names.start_of.Goals as goal

pub returns-else-i-eq0 : goal.returns-else-i-eq0
returns-else-i-eq0 c =
    let above : suc (c.args.i - 1) ≡ c.args.i = omega (arith, c.if-i-eq0.false) in
    start-behind 0 c.args.ends.now (c.args.i - 1) 0 (omega (arith, above, c.requires)) ∙ ap (λ i. start_at 0 c.args.ends.now i) above
