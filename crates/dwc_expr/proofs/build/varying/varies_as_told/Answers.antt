use Rattle.std.proofs.Common.{map}
use Rattle.dwc_isa.specs.ValueLabels.{range_view}
use Rattle.dwc_expr.proofs.build.varying.varies_as_told.Goals as goal

pub returns-in-Some-registers : goal.returns-in-Some-registers
returns-in-Some-registers g c = λ varies functions frame x tells good is.
    c.varies_by.ensures varies c.args.told.now functions frame x c.in-Some.ensures.flat.same c.in-Some-registers.ensures (tells (map range_view c.in-Some.pieces.now) c.in-Some.ensures.flat) (good c.in-Some.ensures.good) is
