use Rattle.std.proofs.Common.{sym, ap, subst, ◌∙◌, [], ◌∷◌}
use Rattle.std.specs.Prelude.{filter_map}
use Rattle.dwc_base.specs.declared.constants.TheConstants.{DW_AT_endianity, DW_END_little, DW_FORM_data1}
use Rattle.dwc_dwarf.specs.Trees.{constant}
use Rattle.dwc_unit.specs.declared.attributes.AttributeValue.TheVariants.{Constant}
use Rattle.dwc_unit.specs.GivenUnits.{with_value}
use Rattle.dwc_rules.specs.DraftForests.{settled}
use Rattle.dwc_clone.specs.ClonedEntries.{IsGiven}
use Rattle.dwc_clone.proofs.EntryValues.{endianity-given, endianity-there, on-ok}
use Rattle.dwc_clone.proofs.entry.set_endianity.Goals as goal

pub returns-clause-given : goal.returns-clause-given
returns-clause-given c number texts places base e p last is =
    let given = endianity-given number texts c.args.id base e c.args.unit.now last in
    let there = endianity-there c.args.big_endian p c.args.tag is c.if-not-big_endian.false c.if-tag-ne-DW_TAG_base_type.false in
    on-ok c.set.result
    (λ now. let given-now = now ∙ ap (λ bits. with_value c.args.id.index DW_AT_endianity (Constant DW_FORM_data1 bits) c.args.unit.now) c.from.ensures in subst (λ ds. IsGiven number texts texts (filter_map (settled places) ds) base e c.set.new.self) (sym there) (subst (λ u. IsGiven number texts texts ((DW_AT_endianity, constant DW_FORM_data1 DW_END_little) ∷ []) base e u) (sym given-now) given))
    c.set.ensures.ok
