use Rattle.std.proofs.Common.{ap, refl}
use Rattle.dwc_base.proofs.ReadSteps.{bytes_at-short, bytes_at-whole}
use Rattle.dwc_base.proofs.cursor.Cursor.take.Goals as goal

pub returns-then-self-n-clause-read : goal.returns-then-self-n-clause-read
returns-then-self-n-clause-read c = (rw (← c.self.view_is) (bytes_at-short _ _ c.if-self-n.true), ap (λ u. u.place) c.self.view_is, refl)

pub returns-clause-read : goal.returns-clause-read
returns-clause-read c = rw (← c.self.view_is, c.split_at.ensures.front, c.split_at.ensures.back) (bytes_at-whole _ _ c.if-self-n.false)
