use Rattle.std.proofs.Common.{◌-◌, length, ap}
use Rattle.std.proofs.lemmas.Option.{unwrap_or-slice_get}
use Rattle.dwc_dwarf.specs.ExpressionPlaces.{value_ends}
use Rattle.dwc_read.proofs.unit.Unit.expression_place.Goals as goal

pub returns : goal.returns
returns c =
    let unit = c.args.self.now in
    rw (c.saturating_sub.ensures, c.unwrap_or-end.ensures, c.value_end.ensures)
    (ap (λ end. end - length c.args.expression.now) (unwrap_or-slice_get (value_ends unit.sections unit.header c.args.offset) c.args.number 0))
