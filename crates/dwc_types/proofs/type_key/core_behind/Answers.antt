use Rattle.std.proofs.Common.{◌∙◌, ap, refl, sym}
use Rattle.std.specs.Option.{option_copied}
use Rattle.std.specs.Prelude.{◌++◌}
use Rattle.dwc_types.specs.declared.type_key.TypeKeys.{TypeKeys}
use Rattle.dwc_types.specs.TypeChains.{behind_name}
use Rattle.dwc_types.proofs.TypeKeyLaws.{core-kept, core-known}
use Rattle.dwc_types.proofs.type_key.core_behind.Goals as goal

pub returns-in-Some-clause-core : goal.returns-in-Some-clause-core
returns-in-Some-clause-core c source s texts known below =
    core-known source s texts c.args.keys.now known c.args.core c.args.tag c.in-Some.found.now (sym c.get.ensures.value ∙ ap option_copied c.in-Some.is)

pub returns-clause-core : goal.returns-clause-core
returns-clause-core c source s texts known below =
    let before = c.args.keys.now in
    let old = c.fresh_core.new.keys in
    let new : TypeKeys = record { types = old.types; cores = c.insert.new.self; count = old.count; pointers = old.pointers; references = old.references } in
    core-kept source s texts old new refl c.args.core c.args.tag c.in_ok-fresh.fresh c.in_ok-insert.ensures.updates.0 refl refl refl known.text before.count below
    (c.in_ok-fresh.ensures.core source s texts known (known.text c.args.core ++ behind_name c.args.tag))
