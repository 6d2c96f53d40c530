use Rattle.std.proofs.Common.{◌==◌, sym, subst, length}
use Rattle.std.specs.Prelude.{◌<◌}
use Rattle.std.proofs.lemmas.List.Elements.{All-nil}
use Rattle.dwc_base.specs.declared.constants.TheConstants.{DW_AT_low_pc, DW_TAG_compile_unit}
use Rattle.dwc_rules.specs.RangeAttributes.{with_base}
use Rattle.dwc_unit.specs.declared.attributes.AttributeValue.TheVariants.{Address}
use Rattle.dwc_clone.specs.ClonedEntries.{IsGiven}
use Rattle.dwc_extents.specs.NativeExtents.{FitsExtent, said_by}
use Rattle.dwc_extents.specs.declared.extent.NativeExtent.TheVariants.{Position}
use Rattle.dwc_clone.proofs.EntryValues.{given-value, grows-not, on-ok}
use Rattle.dwc_clone.proofs.code.set_extent.Goals as goal

pub set-requires-clause-fits : goal.set-requires-clause-fits
set-requires-clause-fits c = subst FitsExtent c.in-Position.is c.requires.fits c.args.unit.now.address_size

pub returns-in-Position-clause-given : goal.returns-in-Position-clause-given
returns-in-Position-clause-given c number texts base e last =
    let a = c.in-Position.address in
    let given = given-value number texts texts c.args.id base e c.args.unit.now DW_AT_low_pc (Address a) last (grows-not texts) (All-nil (λ n. n < length texts)) in
    on-ok c.set.result (λ now. subst (λ x. IsGiven number texts texts (with_base c.args.output_for (c.args.tag == DW_TAG_compile_unit) (said_by c.args.tag x)) base e c.set.new.self) (sym c.in-Position.is) (subst (λ u. IsGiven number texts texts (with_base c.args.output_for (c.args.tag == DW_TAG_compile_unit) (said_by c.args.tag (Position a))) base e u) (sym now) given)) c.set.ensures.ok
