use Rattle.std.proofs.Common.{refl}
use Rattle.std.proofs.lemmas.Bool.{eq-eqb, ne_eqb}
use Rattle.dwc_base.specs.declared.constants.TheConstants.{DW_TAG_pointer_type}
use Rattle.dwc_types.specs.declared.type_key.TypeKeys.{TypeKeys}
use Rattle.dwc_types.proofs.TypeKeyLaws.{pointer-noted, reference-noted}
use Rattle.dwc_types.proofs.type_key.note_key.Goals as goal

pub returns-in_ok-insert : goal.returns-in_ok-insert
returns-in_ok-insert c source s texts known below numbered =
    let old = c.args.keys.now in
    let new : TypeKeys = record { types = old.types; cores = old.cores; count = old.count; pointers = c.insert.new.self; references = old.references } in
    pointer-noted source s texts old new refl refl refl known c.args.key.now c.args.tag c.args.name below numbered (eq-eqb c.args.tag DW_TAG_pointer_type c.if-tag-eq-DW_TAG_pointer_type.true) c.in_ok-insert.ensures.updates.0 refl

pub returns-in_ok-insert-2 : goal.returns-in_ok-insert-2
returns-in_ok-insert-2 c source s texts known below numbered =
    let old = c.args.keys.now in
    let new : TypeKeys = record { types = old.types; cores = old.cores; count = old.count; pointers = old.pointers; references = c.insert-else-tag-eq-DW_TAG_pointer_type.new.self } in
    reference-noted source s texts old new refl refl refl known c.args.key.now c.args.tag c.args.name below numbered (ne_eqb c.args.tag DW_TAG_pointer_type c.if-tag-eq-DW_TAG_pointer_type.false) c.in_ok-insert-2.ensures.updates.0 refl
