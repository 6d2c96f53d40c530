use Rattle.std.proofs.Common.{ap, refl}
use Rattle.std.specs.Prelude.{FitsSigned}
use Rattle.std.specs.Int.{w64}
use Rattle.std.proofs.lemmas.Int.{to_z-of_z}
use Rattle.dwc_base.proofs.SlebLaws.{sleb_at-fits, sleb_at-wide, sleb_at-none}
use Rattle.dwc_base.proofs.cursor.Cursor.sleb.Goals as goal

pub returns-in_default : goal.returns-in_default
returns-in_default c = (rw (← c.self.view_is) (sleb_at-none _ c.in_default.ensures.value), ap (λ u. u.place) c.self.view_is, refl)

pub returns-in_default-value : goal.returns-in_default-value
returns-in_default-value c =
    let found = c.in-Some.ensures.value in
    (rw (← c.self.view_is) (sleb_at-wide _ found.0 c.in-Some.count found.1 (rw c.in_default-value.is at found.2)), ap (λ u. u.place) c.self.view_is, refl)

pub returns : goal.returns
returns c =
    let found = c.in-Some.ensures.value in
    let fits = rw c.in-Some-value.is at found.2 in
    let f : FitsSigned w64 found.0 = fits.0 in
    rw (← c.self.view_is, c.split_at.ensures.back, fits.1, to_z-of_z) (sleb_at-fits _ found.0 c.in-Some.count found.1 fits.0)
