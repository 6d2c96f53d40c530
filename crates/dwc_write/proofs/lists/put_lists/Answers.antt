use Rattle.std.proofs.Common.{◌≡◌, ◌<◌, add-one, arith, length, map, subst, sym}
use Rattle.std.specs.List.{All}
use Rattle.std.proofs.lemmas.List.{get_or-map, length-map}
use Rattle.std.proofs.lemmas.Result.{err_from_is_err_and}
use Rattle.dwc_unit.specs.FileOrders.{looked_up}
use Rattle.dwc_unit.specs.GivenUnits.{GivenEntry}
use Rattle.dwc_unit.specs.Lists.{FitsListed, list_bytes, list_relocations, lists_by, lists_of_attributes}
use Rattle.dwc_section.specs.Writers.{Refuses, appended}
use Rattle.dwc_unit.proofs.FileOrderLaws.{first_place}
use Rattle.dwc_write.proofs.ListLaws.{lists-done, lists-more, lists-refused}
use Rattle.dwc_unit.proofs.ReadValues.{all-of-part}
use Rattle.dwc_write.proofs.lists.put_lists.Goals as goal

pub write_lists_of-requires-clause-fits : goal.write_lists_of-requires-clause-fits
write_lists_of-requires-clause-fits c =
    let f = looked_up c.args.additions.now in
    let es = map f c.args.order.now in
    let d = f first_place in
    let lists = λ (e : GivenEntry). lists_of_attributes (lists_by c.args.kind) e.attributes in
    let within : c.loop-i.i < length es = omega (arith, c.loop-i-test.true, length-map c.args.order.now f) in
    let at = get_or-map f c.args.order.now c.loop-i.i first_place d c.loop-i-test.true in
    let P : GivenEntry → Type 0 = λ e. All (FitsListed c.args.version c.args.size) (lists e) in
    rw (c.attributes.ensures) (subst P at (all-of-part (FitsListed c.args.version c.args.size) lists es c.loop-i.i d within c.requires.fits))

pub loop-i-preserved : goal.loop-i-preserved
loop-i-preserved c =
    let f = looked_up c.args.additions.now in
    let es = map f c.args.order.now in
    let d = f first_place in
    let within : c.loop-i.i < length es = omega (arith, c.loop-i-test.true, length-map c.args.order.now f) in
    let at = get_or-map f c.args.order.now c.loop-i.i first_place d c.loop-i-test.true in
    let P : GivenEntry → Type 0 = λ e. c.write_lists_of.new.lists ≡ appended (list_bytes c.args.version c.loop-i.lists.order c.args.size (lists_of_attributes (lists_by c.args.kind) e.attributes)) (list_relocations c.args.version c.loop-i.lists.order c.args.size (length c.loop-i.lists.body) (lists_of_attributes (lists_by c.args.kind) e.attributes)) c.loop-i.lists in
    rw add-one
    (lists-more c.args.version c.args.size (λ (e : GivenEntry). lists_of_attributes (lists_by c.args.kind) e.attributes) es c.loop-i.i d c.args.lists.now c.loop-i.lists _ within c.loop-i.invariant
    (subst P (sym at) (rw (c.attributes.ensures) at c.in_ok-write_lists_of.ensures)))

pub returns-in_err-write_lists_of : goal.returns-in_err-write_lists_of
returns-in_err-write_lists_of c =
    let p = err_from_is_err_and c.from_residual.result c.from_residual.ensures.1 in
    let f = looked_up c.args.additions.now in
    let es = map f c.args.order.now in
    let d = f first_place in
    let within : c.loop-i.i < length es = omega (arith, c.loop-i-test.true, length-map c.args.order.now f) in
    let at = get_or-map f c.args.order.now c.loop-i.i first_place d c.loop-i-test.true in
    let P : GivenEntry → Type 0 = λ e. Refuses c.in_err-write_lists_of.field-0.0 c.loop-i.lists (length (list_bytes c.args.version c.loop-i.lists.order c.args.size (lists_of_attributes (lists_by c.args.kind) e.attributes))) in
    lists-refused c.args.version c.args.size (λ (e : GivenEntry). lists_of_attributes (lists_by c.args.kind) e.attributes) es c.loop-i.i d c.args.lists.now c.loop-i.lists _ _ _ _ within c.loop-i.invariant p
    (subst P (sym at) (rw (c.attributes.ensures) at c.in_err-write_lists_of.ensures))

pub returns : goal.returns
returns c =
    let f = looked_up c.args.additions.now in
    let es = map f c.args.order.now in
    lists-done c.args.version c.args.size (λ (e : GivenEntry). lists_of_attributes (lists_by c.args.kind) e.attributes) es c.loop-i.i (f first_place) c.args.lists.now c.loop-i.lists (omega (arith, c.loop-i-test.false, length-map c.args.order.now f)) c.loop-i.invariant
