use Rattle.std.proofs.Common.{rules, arith, ◌≡◌, ◌<◌, sym, subst}
use Rattle.std.specs.List.{All}
use Rattle.dwc_carry.specs.SimulatedNames.{numbered_local}
use Rattle.dwc_carry.proofs.PlainNames.{plain-local}
use Rattle.dwc_carry.proofs.simulated_names.numbered_local.Goals as goal

pub returns-clause-text : goal.returns-clause-text
returns-clause-text c =
    let same : c.into_bytes.result.items ≡ numbered_local c.args.local = search rules in
    subst (All (λ b. 0 < b)) (sym same) (plain-local c.args.local (omega (arith, c.ranges.local.fits)))
