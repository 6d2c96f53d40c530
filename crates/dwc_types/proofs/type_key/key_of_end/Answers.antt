use Rattle.std.proofs.Common.{refl}
use Rattle.dwc_types.specs.declared.type_key.TypeKey.{TypeKey}
use Rattle.dwc_types.specs.declared.type_key.TypeKeys.{TypeKeys}
use Rattle.dwc_types.proofs.TypeKeyLaws.{end-kept}
use Rattle.dwc_types.proofs.type_key.key_of_end.Goals as goal

pub returns-clause-key : goal.returns-clause-key
returns-clause-key c source s texts name next at ends known =
    let before = c.args.keys.now in
    let old = c.fresh_core.new.keys in
    let new : TypeKeys = record { types = c.insert.new.self; cores = old.cores; count = old.count; pointers = old.pointers; references = old.references } in
    let key : TypeKey = record { core = c.in_ok-core.core; consts = 0; but = c.args.offset } in
    end-kept source s texts old new refl c.args.offset key c.in_ok-insert.ensures.updates.0 refl refl refl known.text before.count name refl refl ends (c.in_ok-core.ensures.core source s texts known name) next at
