use Rattle.std.proofs.lemmas.Bool.{ne_eqb}
use Rattle.dwc_base.specs.declared.constants.TheConstants.{DW_TAG_const_type}
use Rattle.dwc_types.specs.declared.type_key.TypeKey.{TypeKey}
use Rattle.std.proofs.Common.{refl}
use Rattle.dwc_types.proofs.TypeKeyLaws.{const-answer, other-over}
use Rattle.dwc_types.proofs.type_key.key_over.Goals as goal

pub returns-then-tag-eq-DW_TAG_const_type-clause-text : goal.returns-then-tag-eq-DW_TAG_const_type-clause-text
returns-then-tag-eq-DW_TAG_const_type-clause-text c source s texts known below =
    const-answer source s texts c.args.keys.now known c.args.key c.args.tag c.if-tag-eq-DW_TAG_const_type.true below c.const_over.result c.const_over.ensures.core c.const_over.ensures.consts

pub returns-clause-text : goal.returns-clause-text
returns-clause-text c source s texts known below =
    let key = c.args.key in
    let over : TypeKey = record { core = c.in_ok-core.core; consts = key.consts; but = key.but } in
    other-over source s texts c.core_behind.new.keys known.text c.args.keys.now.count key over c.args.tag (ne_eqb c.args.tag DW_TAG_const_type c.if-tag-eq-DW_TAG_const_type.false) refl (c.in_ok-core.ensures.core source s texts known below)
