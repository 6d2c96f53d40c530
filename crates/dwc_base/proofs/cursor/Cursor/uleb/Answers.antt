use Rattle.std.proofs.Common.{ap, refl}
use Rattle.dwc_base.proofs.LebLaws.{uleb_at-fits, uleb_at-wide, uleb_at-none}
use Rattle.dwc_base.proofs.cursor.Cursor.uleb.Goals as goal

pub returns-in_default : goal.returns-in_default
returns-in_default c = (rw (← c.self.view_is) (uleb_at-none _ c.in_default.ensures.value), ap (λ u. u.place) c.self.view_is, refl)

pub returns-in_default-value : goal.returns-in_default-value
returns-in_default-value c =
    let found = c.in-Some.ensures.value in
    (rw (← c.self.view_is) (uleb_at-wide _ found.0 c.in-Some.count found.1 (rw c.in_default-value.is at found.2)), ap (λ u. u.place) c.self.view_is, refl)

pub returns : goal.returns
returns c =
    let found = c.in-Some.ensures.value in
    let fits = rw c.in-Some-value.is at found.2 in
    rw (← c.self.view_is, c.split_at.ensures.back, fits.1) (uleb_at-fits _ found.0 c.in-Some.count found.1 fits.0)
