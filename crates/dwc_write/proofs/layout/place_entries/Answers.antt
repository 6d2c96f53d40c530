use Rattle.std.proofs.Common.{◌≡◌, ◌+◌, ◌∙◌, sym, suc, add-one, drop, map, length, get_or, append-nil, Err}
use Rattle.std.proofs.lemmas.List.{drop_all, take_rest}
use Rattle.std.proofs.lemmas.Result.{err_from_is_err_and}
use Rattle.dwc_base.specs.declared.records.Endian.{Endian}
use Rattle.dwc_base.specs.declared.records.Endian.TheVariants.{Little}
use Rattle.dwc_unit.specs.SpelledUnits.{entry_bytes, header_length}
use Rattle.dwc_unit.specs.GivenUnits.{GivenEntry, first_depth, no_places, shape_of, with_use}
use Rattle.dwc_unit.specs.FileOrders.{looked_up}
use Rattle.dwc_write.specs.LayoutViews.{AdvancesOrMemory}
use Rattle.dwc_unit.specs.Lists.{no_lists, nowhere}
use Rattle.dwc_write.specs.ShapeViews.{shape_view}
use Rattle.dwc_write.proofs.LayoutLaws.{advance-free}
use Rattle.dwc_write.proofs.EntriesLaws.{entry_with, seen-more, step-more, step-refused}
use Rattle.dwc_unit.proofs.FileOrderLaws.{first_place}
use Rattle.dwc_write.proofs.NotedLaws.{noting-done, noting-more}
use Rattle.dwc_write.proofs.ShapePlaces.{own-more}
use Rattle.dwc_write.proofs.layout.place_entries.Goals as goal

pub place_entry-requires-clause-place : goal.place_entry-requires-clause-place
place_entry-requires-clause-place c = c.loop-i.invariant.short

pub loop-i-preserved : goal.loop-i-preserved
loop-i-preserved c =
    let f = looked_up c.args.additions.now in
    let es = map f c.args.order.now in
    let place = get_or c.args.order.now c.loop-i.i first_place in
    let behind = map f (drop (suc c.loop-i.i) c.args.order.now) in
    let next : c.depth_of_first-next.result ≡ first_depth behind = rw (take_rest, add-one) at (c.depth_of_first-next.ensures c.args.additions.now) in
    let grown : map shape_view c.code_of_entry.new.shapes.shapes.items ≡ with_use (shape_of (f place) behind) (map shape_view c.loop-i.coded.shapes.shapes.items) = rw (c.tag-tag.ensures, c.attributes-attributes.ensures, next) at c.in_ok-code.ensures.shapes in
    let P : Endian → GivenEntry → Type 0 = λ o e. c.in_ok-place.place ≡ c.loop-i.place + length (entry_bytes o c.args.size (entry_with nowhere no_places no_lists c.in_ok-code.code e behind)) in
    rw add-one
    (record {
      short = (c.in_ok-place.ensures.end Little).1;
      step = λ o.
          rw (c.in_ok-push.ensures.items, c.in_ok-push-2.ensures.items, c.in_ok-in_four_bytes.ensures, c.in_ok-in_four_bytes-2.ensures)
          (step-more o c.args.size _ _ _ _ _ _ _ _ _ _ _ (f place) behind (rw (seen-more f c.args.order.now c.loop-i.i first_place c.loop-i-test.true) at (c.loop-i.invariant.step o))
          grown (rw (c.tag-tag.ensures, c.attributes-attributes.ensures, next) at c.in_ok-code.ensures.code)
          (rw (c.attributes-attributes.ensures, c.saturating_sub.ensures, next) at ((c.in_ok-place.ensures.end o).0)));
      own = rw (grown) (own-more (shape_of (f place) behind) (map shape_view c.loop-i.coded.shapes.shapes.items) c.loop-i.invariant.own);
      found = c.in_ok-code.ensures.found;
      notes = noting-more c.args.additions.now c.loop-i.coded.notes es c.place_entry.new.notes place c.attributes-attributes.result.now behind (rw (seen-more f c.args.order.now c.loop-i.i first_place c.loop-i-test.true) at c.loop-i.invariant.notes) c.attributes-attributes.ensures (c.requires.known c.loop-i.i first_place c.loop-i-test.true) c.in_ok-place.ensures.ranged c.in_ok-place.ensures.located c.in_ok-place.ensures.texts c.in_ok-place.ensures.short;
    })

pub returns-in_err-place-clause-end : goal.returns-in_err-place-clause-end
returns-in_err-place-clause-end c = λ o.
    let p = err_from_is_err_and c.from_residual-in_err-place.result c.from_residual-in_err-place.ensures.1 in
    let f = looked_up c.args.additions.now in
    let place = get_or c.args.order.now c.loop-i.i first_place in
    let behind = map f (drop (suc c.loop-i.i) c.args.order.now) in
    let next : c.depth_of_first-next.result ≡ first_depth behind = rw (take_rest, add-one) at (c.depth_of_first-next.ensures c.args.additions.now) in
    let less = step-refused o c.args.size _ _ _ _ _ c.in_ok-code.code _ _ _ (f place) behind (rw (seen-more f c.args.order.now c.loop-i.i first_place c.loop-i-test.true) at (c.loop-i.invariant.step o)) (rw (c.tag-tag.ensures, c.attributes-attributes.ensures, next) at c.in_ok-code.ensures.code) in
    let P : GivenEntry → Type 0 = λ e. AdvancesOrMemory (Err c.in_err-place.field-0.0) c.loop-i.place (length (entry_bytes o c.args.size (entry_with nowhere no_places no_lists c.in_ok-code.code e behind))) in
    advance-free c.from_residual-in_err-place.result _ c.loop-i.place _ (header_length c.args.version) _ p (rw (c.attributes-attributes.ensures, c.saturating_sub.ensures, next) at (c.in_err-place.ensures.end o)) less

pub returns-clause-shapes : goal.returns-clause-shapes
returns-clause-shapes c =
    let step = rw (drop_all c.loop-i.i c.args.order.now c.loop-i-test.false) at (c.loop-i.invariant.step Little) in
    step.used

pub returns-clause-codes : goal.returns-clause-codes
returns-clause-codes c =
    let step = rw (drop_all c.loop-i.i c.args.order.now c.loop-i-test.false) at (c.loop-i.invariant.step Little) in
    sym (append-nil c.loop-i.coded.codes.items) ∙ step.coded

pub returns-clause-notes : goal.returns-clause-notes
returns-clause-notes c =
    let added = c.args.additions.now in
    noting-done added c.loop-i.coded.notes (map (looked_up added) c.args.order.now) (rw (drop_all c.loop-i.i c.args.order.now c.loop-i-test.false) at c.loop-i.invariant.notes)
