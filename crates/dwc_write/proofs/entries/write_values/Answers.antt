use Rattle.std.proofs.Common.{◌∙◌, add-one, ap, drop, get_or, subst, suc, sym}
use Rattle.std.proofs.lemmas.Result.{err_from_is_err_and}
use Rattle.dwc_unit.specs.declared.attributes.AttributeValue.TheVariants.{LineProgramRef}
use Rattle.dwc_write.specs.LayoutViews.{spelling_places}
use Rattle.dwc_unit.specs.Lists.{AreWithin, behind_attributes, behind_value}
use Rattle.dwc_write.proofs.EntriesLaws.{next-place, values-done, values-more, values-order, values-refused}
use Rattle.dwc_write.proofs.ListPlaces.{within-attributes}
use Rattle.dwc_write.proofs.ListLaws.{drop-more}
use Rattle.dwc_unit.proofs.UnitLaws.{operand-fits}
use Rattle.dwc_write.proofs.entries.write_values.Goals as goal

pub write_value-requires-clause-order : goal.write_value-requires-clause-order
write_value-requires-clause-order c =
    c.requires.order ∙ sym (values-order c.args.spelling.now.version c.args.spelling.now.size (spelling_places c.args.spelling.now) c.args.attributes.now c.loop-i.i c.index-attributes-i.result c.loop-i.lists c.args.lists.now c.args.info.now c.loop-i.info c.loop-i.invariant.values)

pub write_value-requires-clause-fits : goal.write_value-requires-clause-fits
write_value-requires-clause-fits c = rw (c.index-attributes-i.is) (operand-fits c.args.spelling.now.size _ (c.requires.fits c.loop-i.i c.index-attributes-i.result c.loop-i-test.true))

pub loop-i-preserved : goal.loop-i-preserved
loop-i-preserved c =
    let size = c.args.spelling.now.size in
    let p = spelling_places c.args.spelling.now in
    let x = c.index-attributes-i.result in
    rw add-one
    (record {
      values = values-more c.args.spelling.now.version size p c.args.attributes.now c.loop-i.i x c.loop-i.lists c.args.lists.now c.args.info.now c.loop-i.info c.write_value.new.info c.behind_value.result c.loop-i-test.true c.loop-i.invariant.values (rw (← c.index-attributes-i.is) c.behind_value.ensures) (rw (← c.index-attributes-i.is) c.in_ok-write_value.ensures);
      lists = next-place c.args.spelling.now.version size p c.args.attributes.now c.loop-i.i x c.loop-i.lists c.args.lists.now c.args.info.now c.loop-i.info c.behind_value.result c.loop-i-test.true c.loop-i.invariant.lists (rw (← c.index-attributes-i.is) c.behind_value.ensures);
    })

pub returns-in_err-write_value-clause-bytes : goal.returns-in_err-write_value-clause-bytes
returns-in_err-write_value-clause-bytes c =
    let p = err_from_is_err_and c.from_residual.result c.from_residual.ensures.1 in
    values-refused c.args.spelling.now.version c.args.spelling.now.size (spelling_places c.args.spelling.now) c.args.attributes.now c.loop-i.i c.index-attributes-i.result c.loop-i.lists c.args.lists.now c.args.info.now c.loop-i.info _ _ _ _ c.loop-i-test.true c.loop-i.invariant.values p (rw (← c.index-attributes-i.is) c.in_err-write_value.ensures)

pub returns-clause-bytes : goal.returns-clause-bytes
returns-clause-bytes c = values-done c.args.spelling.now.version c.args.spelling.now.size (spelling_places c.args.spelling.now) c.args.attributes.now c.loop-i.i (record { name = 0; value = LineProgramRef }) c.loop-i.lists c.args.lists.now c.args.info.now c.loop-i.info c.loop-i-test.false c.loop-i.invariant.values

pub behind_value-requires : goal.behind_value-requires
behind_value-requires c =
    let xs = c.args.attributes.now in
    let size = c.args.spelling.now.size in
    let x = get_or xs c.loop-i.i c.index-attributes-i.result in
    let all = ap (behind_attributes c.args.spelling.now.version size c.loop-i.lists) (sym (drop-more xs c.loop-i.i c.index-attributes-i.result c.loop-i-test.true)) ∙ c.loop-i.invariant.lists in
    rw (c.index-attributes-i.is) (within-attributes c.args.spelling.now.version size (behind_value c.args.spelling.now.version size c.loop-i.lists x.value) (drop (suc c.loop-i.i) xs) (subst AreWithin (sym all) c.requires.lists))

pub write_value-requires-clause-lists : goal.write_value-requires-clause-lists
write_value-requires-clause-lists c =
    let size = c.args.spelling.now.size in
    within-attributes c.args.spelling.now.version size c.loop-i.lists (drop c.loop-i.i c.args.attributes.now) (subst AreWithin (sym c.loop-i.invariant.lists) c.requires.lists)
