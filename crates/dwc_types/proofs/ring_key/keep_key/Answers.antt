use Rattle.std.proofs.Common.{refl}
use Rattle.dwc_types.specs.declared.type_key.TypeKeys.{TypeKeys}
use Rattle.dwc_types.proofs.TypeKeyLaws.{core-type-kept}
use Rattle.dwc_types.proofs.ring_key.keep_key.Goals as goal

pub returns : goal.returns
returns c source s texts before count first many j name has below core named =
    let old = c.args.keys.now in
    let new : TypeKeys = record { types = c.insert.new.self; cores = old.cores; count = old.count; pointers = old.pointers; references = old.references } in
    core-type-kept source s texts old new refl c.args.offset c.args.key c.in_ok-insert.ensures.updates.0 refl refl refl before count first many j name has below core named
