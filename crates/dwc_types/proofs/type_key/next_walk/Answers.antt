use Rattle.std.proofs.Common.{◌≡◌, ◌+◌, refl, rules}
use Rattle.dwc_types.specs.declared.known_type.KnownTypes.{KnownTypes}
use Rattle.dwc_types.proofs.KnownTypeLaws.{keeps-counted}
use Rattle.dwc_types.proofs.type_key.next_walk.Goals as goal

pub returns-clause-types : goal.returns-clause-types
returns-clause-types c source s known =
    let old = c.args.types.now in
    let more : c.in-Some.walk ≡ old.walks + 1 = search rules in
    let new : KnownTypes = record { derived = old.derived; places = old.places; ends = old.ends; walks = c.in-Some.walk } in
    keeps-counted source s old new refl refl refl more known
