use Rattle.std.proofs.Common.{◌∙◌, arith, w64}
use Rattle.std.proofs.lemmas.Int.{to_z_pos}
use Rattle.dwc_addr.proofs.TranslateLaws.{translated-none, translated-some}
use Rattle.dwc_addr.proofs.transform.AddressTransform.translate.Goals as goal

pub returns-in_err-function : goal.returns-in_err-function
returns-in_err-function c = c.from_residual.ensures ∙ translated-none c.args.self.now c.args.addr c.in_err-function.ensures.found

pub returns : goal.returns
returns c =
    translated-some c.args.self.now c.args.addr c.in_ok-function.function.now c.in_ok-symbol.symbol c.native_offset-addend.result _ c.in_ok-function.ensures.found c.in_ok-symbol.was
    c.native_offset-addend.ensures.offset (to_z_pos w64 c.native_offset-addend.result (omega (arith, c.native_offset-addend.ensures.low)))
