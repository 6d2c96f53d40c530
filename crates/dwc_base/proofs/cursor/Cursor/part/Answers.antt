use Rattle.std.proofs.Common.{ap, refl}
use Rattle.dwc_base.proofs.ReadSteps.{part_at-short, part_at-whole}
use Rattle.dwc_base.proofs.cursor.Cursor.part.Goals as goal

pub returns-then-self-n : goal.returns-then-self-n
returns-then-self-n c = (rw (← c.self.view_is) (part_at-short _ _ c.if-self-n.true), ap (λ u. u.place) c.self.view_is, refl)

pub returns : goal.returns
returns c = rw (← c.self.view_is, c.split_at.ensures.front, c.split_at.ensures.back) (part_at-whole _ _ c.if-self-n.false)
