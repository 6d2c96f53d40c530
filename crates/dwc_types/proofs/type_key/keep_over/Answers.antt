use Rattle.std.proofs.Common.{refl}
use Rattle.dwc_types.specs.declared.type_key.TypeKeys.{TypeKeys}
use Rattle.dwc_types.specs.KeyedTypes.{key_text}
use Rattle.dwc_types.proofs.TypeKeyLaws.{over-kept}
use Rattle.dwc_types.proofs.type_key.keep_over.Goals as goal

pub returns-clause-key : goal.returns-clause-key
returns-clause-key c source s texts next at read of =
    let met = c.args.met.now in
    let key = c.args.key in
    let old = c.key_over.new.keys in
    let new : TypeKeys = record { types = c.insert.new.self; cores = old.cores; count = old.count; pointers = old.pointers; references = old.references } in
    over-kept source s texts old new refl met.offset c.in_ok-over.over c.in_ok-insert.ensures.updates.0 refl refl refl met.tag key.but met.next (key_text of.knows.text key) c.if-met-key.false c.in_ok-over.ensures.but read of.named
    (c.in_ok-over.ensures.text source s texts of.knows of.below) next at

pub returns-then-met-key-clause-key : goal.returns-then-met-key-clause-key
returns-then-met-key-clause-key c source s texts next at read of = of.knows
