use Rattle.std.proofs.Common.{◌∙◌}
use Rattle.dwc_addr.proofs.TranslateLaws.{raw-none, raw-some}
use Rattle.dwc_addr.proofs.transform.AddressTransform.translate_ranges_raw.Goals as goal

pub returns-in_err-function : goal.returns-in_err-function
returns-in_err-function c = c.from_residual.ensures ∙ raw-none c.args.self.now c.args.start c.args.end c.in_err-function.ensures.found

pub returns : goal.returns
returns c = raw-some c.args.self.now c.args.start c.args.end c.in_ok-function.function.now c.in_ok-symbol.symbol _ c.in_ok-function.ensures.found c.in_ok-symbol.was c.first_number-number.ensures
