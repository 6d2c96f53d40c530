use Rattle.std.proofs.Common.{sym, ap, ◌∙◌}
use Rattle.std.proofs.lemmas.Result.{err_from_is_err_and}
use Rattle.dwc_base.proofs.ReadSteps.{number_at-no_bytes, four-little, four-big}
use Rattle.dwc_base.proofs.cursor.Cursor.u32.Goals as goal

pub returns-in_err-field : goal.returns-in_err-field
returns-in_err-field c =
    let p = err_from_is_err_and c.from_residual.result c.from_residual.ensures.1 in
    let read = c.in_err-field.ensures.read in
    rw (p.1, p.2) (number_at-no_bytes _ _ _ read.0, read.1, read.2)

pub returns-in-Little : goal.returns-in-Little
returns-in-Little c =
    rw c.from_le_bytes.ensures (four-little _ _ _ c.in_ok-field.ensures.read c.in_ok-field.ensures.length (sym (ap (λ u. u.order) c.self.view_is) ∙ c.in-Little.is))

pub returns-in-Big : goal.returns-in-Big
returns-in-Big c =
    rw c.from_be_bytes.ensures (four-big _ _ _ c.in_ok-field.ensures.read c.in_ok-field.ensures.length (sym (ap (λ u. u.order) c.self.view_is) ∙ c.in-Big.is))
