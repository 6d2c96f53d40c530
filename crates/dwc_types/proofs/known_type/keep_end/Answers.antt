use Rattle.std.proofs.Common.{◌≡◌, refl, rules}
use Rattle.dwc_types.proofs.KnownTypeLaws.{keeps-end}
use Rattle.dwc_types.proofs.known_type.keep_end.Goals as goal

pub returns-clause-types : goal.returns-clause-types
returns-clause-types c source s ends known =
    let same : c.in_ok-name.name.items ≡ c.args.name.now = search rules in
    keeps-end source s c.args.types.now _ c.args.offset c.in_ok-name.name c.args.name.now same c.in_ok-insert.ensures.updates.0 refl refl refl ends known
