use Rattle.std.proofs.Common.{ap, sym, refl}
use Rattle.dwc_base.proofs.ReadSteps.{text_at-none, text_at-some}
use Rattle.dwc_base.proofs.cursor.Cursor.text.Goals as goal

pub returns-in_default : goal.returns-in_default
returns-in_default c = (rw (← c.self.view_is) (text_at-none _ (sym c.in_default.ensures.value)), ap (λ u. u.place) c.self.view_is, refl)

pub returns : goal.returns
returns c = rw (← c.self.view_is, c.split_at.ensures.front, c.split_at-2.ensures.back) (text_at-some _ _ (sym c.in-Some.ensures.value))
