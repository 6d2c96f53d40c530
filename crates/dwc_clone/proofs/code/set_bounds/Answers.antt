use Rattle.std.proofs.Common.{sym, ap, subst, ◌∙◌}
use Rattle.dwc_base.specs.declared.constants.TheConstants.{DW_AT_high_pc, DW_FORM_udata}
use Rattle.dwc_rules.specs.RangeAttributes.{bounds}
use Rattle.dwc_unit.specs.declared.attributes.AttributeValue.TheVariants.{Constant}
use Rattle.dwc_unit.specs.GivenUnits.{with_value}
use Rattle.dwc_clone.specs.ClonedEntries.{IsGiven}
use Rattle.dwc_clone.proofs.EntryValues.{on-ok}
use Rattle.dwc_clone.proofs.CodeLaws.{bounds-given}
use Rattle.dwc_clone.proofs.code.set_bounds.Goals as goal

pub set-requires-clause-fits : goal.set-requires-clause-fits
set-requires-clause-fits c = c.requires.fits c.args.unit.now.address_size

pub returns-clause-given : goal.returns-clause-given
returns-clause-given c number texts base e last =
    let given = bounds-given number texts c.args.id base e c.args.unit.now c.args.begin c.args.length last in
    let one = ap (with_value c.args.id.index DW_AT_high_pc (Constant DW_FORM_udata c.args.length)) c.in_ok-set.ensures.ok in
    on-ok c.set-2.result (λ now. subst (λ u. IsGiven number texts texts (bounds c.args.begin c.args.length) base e u) (sym (now ∙ one)) given) c.set-2.ensures.ok
