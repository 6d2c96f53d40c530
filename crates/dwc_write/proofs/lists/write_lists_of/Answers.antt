use Rattle.std.proofs.Common.{add-one}
use Rattle.std.proofs.lemmas.Result.{err_from_is_err_and}
use Rattle.dwc_unit.specs.declared.attributes.Attribute.{Attribute}
use Rattle.dwc_unit.specs.declared.attributes.AttributeValue.TheVariants.{LineProgramRef}
use Rattle.dwc_unit.specs.Lists.{FitsListed, lists_by}
use Rattle.dwc_write.proofs.ListLaws.{lists-done, lists-more, lists-refused}
use Rattle.dwc_unit.proofs.ReadValues.{all-of-part}
use Rattle.dwc_write.proofs.lists.write_lists_of.Goals as goal

pub write_list_of-requires-clause-fits : goal.write_list_of-requires-clause-fits
write_list_of-requires-clause-fits c =
    rw (c.index-attributes-i.is)
    (all-of-part (FitsListed c.args.version c.args.size) (λ (a : Attribute). lists_by c.args.kind a.value) c.args.attributes.now c.loop-i.i c.index-attributes-i.result c.loop-i-test.true c.requires.fits)

pub loop-i-preserved : goal.loop-i-preserved
loop-i-preserved c =
    rw add-one (lists-more c.args.version c.args.size (λ (a : Attribute). lists_by c.args.kind a.value) c.args.attributes.now c.loop-i.i c.index-attributes-i.result c.args.lists.now c.loop-i.lists c.write_list_of.new.lists c.loop-i-test.true c.loop-i.invariant (rw (← c.index-attributes-i.is) c.in_ok-write_list_of.ensures))

pub returns-in_err-write_list_of : goal.returns-in_err-write_list_of
returns-in_err-write_list_of c =
    let p = err_from_is_err_and c.from_residual.result c.from_residual.ensures.1 in
    lists-refused c.args.version c.args.size (λ (a : Attribute). lists_by c.args.kind a.value) c.args.attributes.now c.loop-i.i c.index-attributes-i.result c.args.lists.now c.loop-i.lists _ _ _ _ c.loop-i-test.true c.loop-i.invariant p (rw (← c.index-attributes-i.is) c.in_err-write_list_of.ensures)

pub returns : goal.returns
returns c = lists-done c.args.version c.args.size (λ (a : Attribute). lists_by c.args.kind a.value) c.args.attributes.now c.loop-i.i (record { name = 0; value = LineProgramRef }) c.args.lists.now c.loop-i.lists c.loop-i-test.false c.loop-i.invariant
