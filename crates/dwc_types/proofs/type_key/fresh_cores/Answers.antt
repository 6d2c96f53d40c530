use Rattle.std.proofs.Common.{◌≡◌, ◌+◌, refl, rules}
use Rattle.dwc_types.specs.declared.type_key.TypeKeys.{TypeKeys}
use Rattle.dwc_types.proofs.TypeKeyLaws.{cores-fresh}
use Rattle.dwc_types.proofs.type_key.fresh_cores.Goals as goal

pub returns-clause-cores : goal.returns-clause-cores
returns-clause-cores c source s texts known name =
    let old = c.args.keys.now in
    let more : c.in-Some.count ≡ old.count + c.args.many = search rules in
    let new : TypeKeys = record { types = old.types; cores = old.cores; count = c.in-Some.count; pointers = old.pointers; references = old.references } in
    cores-fresh source s texts old new c.args.many refl refl more refl refl known name
