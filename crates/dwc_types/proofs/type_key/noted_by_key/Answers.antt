use Rattle.std.proofs.Common.{subst, sym, true, false}
use Rattle.std.specs.Prelude.{IfSome}
use Rattle.std.specs.BTreeMap.{get}
use Rattle.std.proofs.lemmas.Bool.{eq-eqb, ne_eqb}
use Rattle.dwc_base.specs.declared.constants.TheConstants.{DW_TAG_pointer_type}
use Rattle.dwc_base.specs.SortedEntries.{pair_cmp}
use Rattle.dwc_rules.specs.Wrappers.{wrapper_name}
use Rattle.dwc_source.specs.KnownTexts.{IsNumbered}
use Rattle.dwc_types.specs.KeyedTypes.{IsKeyName, key_text}
use Rattle.dwc_types.proofs.TypeKeyLaws.{if-so}
use Rattle.dwc_types.proofs.type_key.noted_by_key.Goals as goal

pub returns-then-tag-eq-DW_TAG_pointer_type : goal.returns-then-tag-eq-DW_TAG_pointer_type
returns-then-tag-eq-DW_TAG_pointer_type c source s texts known =
    let keys = c.args.keys.now in
    let key = c.args.key.now in
    let kind = eq-eqb c.args.tag DW_TAG_pointer_type c.if-tag-eq-DW_TAG_pointer_type.true in
    subst (λ o. IfSome o (λ id. IsNumbered texts (wrapper_name c.args.tag (key_text known.text key)) id)) (sym c.noted_in.ensures)
    (if-so (λ id. IsKeyName texts known.text keys.count true key.core key.consts id) (λ id. IsNumbered texts (wrapper_name c.args.tag (key_text known.text key)) id) (get pair_cmp keys.pointers (key.core, key.consts)) (λ id k. k.number c.args.tag kind) (known.pointers (key.core, key.consts)))

pub returns : goal.returns
returns c source s texts known =
    let keys = c.args.keys.now in
    let key = c.args.key.now in
    let kind = ne_eqb c.args.tag DW_TAG_pointer_type c.if-tag-eq-DW_TAG_pointer_type.false in
    subst (λ o. IfSome o (λ id. IsNumbered texts (wrapper_name c.args.tag (key_text known.text key)) id)) (sym c.noted_in-2.ensures)
    (if-so (λ id. IsKeyName texts known.text keys.count false key.core key.consts id) (λ id. IsNumbered texts (wrapper_name c.args.tag (key_text known.text key)) id) (get pair_cmp keys.references (key.core, key.consts)) (λ id k. k.number c.args.tag kind) (known.references (key.core, key.consts)))
