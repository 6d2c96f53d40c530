use Rattle.std.proofs.Common.{◌≡◌, ap}
use Rattle.dwc_read.proofs.unit.Unit.again.Goals as goal

pub invariant_of-result : goal.invariant_of-result
invariant_of-result c =
    let same : c.again-2.result.abbreviations ≡ c.self.inside.header.abbreviations = ap (λ h. h.abbreviations) c.again-2.ensures in (
      rw (c.again-3.ensures, c.again.ensures) c.self.invariant.0,
      rw (c.again.ensures, same) (c.in_ok-shared.ensures _ _ c.self.invariant.1),
      rw (c.again.ensures, c.again-2.ensures) c.self.invariant.2,
    )
