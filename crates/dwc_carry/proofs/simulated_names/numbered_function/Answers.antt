use Rattle.std.proofs.Common.{rules, ◌≡◌, ◌<◌, sym, subst}
use Rattle.std.specs.List.{All}
use Rattle.dwc_carry.specs.SimulatedNames.{numbered_function}
use Rattle.dwc_carry.proofs.PlainNames.{plain-function}
use Rattle.dwc_carry.proofs.simulated_names.numbered_function.Goals as goal

pub returns-clause-text : goal.returns-clause-text
returns-clause-text c =
    let same : c.into_bytes.result.items ≡ numbered_function c.args.index = search rules in
    subst (All (λ b. 0 < b)) (sym same) (plain-function c.args.index c.ranges.index.fits)
