use Rattle.std.proofs.Common.{sym, subst}
use Rattle.std.specs.Prelude.{IfSome}
use Rattle.dwc_native.specs.Addends.{IsSaid}
use Rattle.dwc_extents.proofs.NativeRangeLaws.{said-fits, zero-fits}
use Rattle.dwc_extents.proofs.extent.carried_address.Goals as goal

pub returns-in-Some-clause-fits : goal.returns-in-Some-clause-fits
returns-in-Some-clause-fits c =
    let said = c.translations_are_said.ensures c.args.transform.now c.requires.functions in
    said-fits c.in-Some.native (subst (λ o. IfSome o IsSaid) (sym c.in-Some.ensures) (said.addresses c.in-Constant.address))

pub returns-in-None-clause-fits : goal.returns-in-None-clause-fits
returns-in-None-clause-fits c = zero-fits

pub returns-in-Symbol-clause-fits : goal.returns-in-Symbol-clause-fits
returns-in-Symbol-clause-fits c = zero-fits
