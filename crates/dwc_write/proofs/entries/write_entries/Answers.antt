use Rattle.std.proofs.Common.{◌≡◌, ℕ, List, ◌∷◌, ◌∙◌, sym, ap, subst, arith, [], suc, add-one, drop, map, length, get_or}
use Rattle.std.proofs.lemmas.List.{length-map, take_rest}
use Rattle.std.proofs.lemmas.Result.{err_from_is_err_and}
use Rattle.dwc_unit.specs.SpelledUnits.{entry_bytes, shaped}
use Rattle.dwc_write.specs.SpelledRelocations.{entry_relocations}
use Rattle.dwc_unit.specs.GivenUnits.{GivenEntry, behind_entries, FitsEntry, code_in, first_depth, first_uses, shape_of, shapes_of, written_entries}
use Rattle.dwc_unit.specs.FileOrders.{looked_up}
use Rattle.dwc_write.specs.LayoutViews.{spelling_places}
use Rattle.dwc_unit.specs.declared.lists.ListPlaces.{ListPlaces}
use Rattle.dwc_section.specs.Writers.{Refuses, appended}
use Rattle.dwc_section.proofs.WritesLaws.{all-seen, whole-order}
use Rattle.dwc_write.proofs.EntriesLaws.{code-at, codes-long, entry_with, loop-entries, loop-entries-refused, seen-more}
use Rattle.dwc_write.proofs.ListPlaces.{within-entries}
use Rattle.dwc_unit.specs.Lists.{AreWithin, behind_attributes}
use Rattle.dwc_unit.proofs.FileOrderLaws.{first_place}
use Rattle.dwc_write.proofs.entries.write_entries.Goals as goal

pub write_entry-requires-clause-order : goal.write_entry-requires-clause-order
write_entry-requires-clause-order c =
    let f = looked_up c.args.additions.now in
    let uses = first_uses [] (shapes_of (map f c.args.order.now)) in
    let spell = entry_bytes c.args.info.now.order c.args.spelling.now.size in
    let at = entry_relocations c.args.info.now.order c.args.spelling.now.size in
    c.requires.order ∙ sym (whole-order spell at (shaped (written_entries (behind_attributes c.args.spelling.now.version c.args.spelling.now.size) (spelling_places c.args.spelling.now) c.loop-i.lists uses (map f (drop c.loop-i.i c.args.order.now)))) _ c.loop-i.info c.args.info.now c.loop-i.invariant.entries)

pub write_entry-requires-clause-fits : goal.write_entry-requires-clause-fits
write_entry-requires-clause-fits c =
    let f = looked_up c.args.additions.now in
    let here = all-seen (FitsEntry c.args.spelling.now.size) f c.args.order.now c.loop-i.i first_place c.loop-i-test.true c.requires.fits in
    rw (c.attributes-attributes.ensures) here.attributes

pub loop-i-preserved : goal.loop-i-preserved
loop-i-preserved c =
    let f = looked_up c.args.additions.now in
    let place = get_or c.args.order.now c.loop-i.i first_place in
    let behind = map f (drop (suc c.loop-i.i) c.args.order.now) in
    let p = spelling_places c.args.spelling.now in
    let uses = first_uses [] (shapes_of (map f c.args.order.now)) in
    let spell = entry_bytes c.args.info.now.order c.args.spelling.now.size in
    let at = entry_relocations c.args.info.now.order c.args.spelling.now.size in
    let order = whole-order spell at (shaped (written_entries (behind_attributes c.args.spelling.now.version c.args.spelling.now.size) p c.loop-i.lists uses (map f (drop c.loop-i.i c.args.order.now)))) _ c.loop-i.info c.args.info.now c.loop-i.invariant.entries in
    let next : c.depth_of_first.result ≡ first_depth behind = rw (take_rest, add-one) at (c.depth_of_first.ensures c.args.additions.now) in
    let code : get_or c.args.codes.now c.loop-i.i 0 ≡ code_in uses (shape_of (f place) behind) = code-at f c.args.order.now c.args.codes.now c.loop-i.i first_place c.loop-i-test.true c.requires.codes in
    let P : GivenEntry → Type 0 = λ e. c.write_entry.new.info ≡ appended (spell (entry_with (behind_attributes c.args.spelling.now.version c.args.spelling.now.size) p c.loop-i.lists (get_or c.args.codes.now c.loop-i.i 0) e behind)) (at (length c.loop-i.info.body) (entry_with (behind_attributes c.args.spelling.now.version c.args.spelling.now.size) p c.loop-i.lists (get_or c.args.codes.now c.loop-i.i 0) e behind)) c.loop-i.info in
    let Q : GivenEntry → Type 0 = λ e. c.write_entry.new.lists ≡ behind_attributes c.args.spelling.now.version c.args.spelling.now.size c.loop-i.lists e.attributes in
    let onwards : Q (f place) = rw (c.attributes-attributes.ensures) at c.in_ok-write_entry.ensures.lists in
    rw add-one
    (record {
      entries = loop-entries f c.args.info.now.order c.args.spelling.now.size (behind_attributes c.args.spelling.now.version c.args.spelling.now.size) p c.loop-i.lists _ c.args.order.now c.loop-i.i first_place uses c.loop-i.info c.write_entry.new.info _ (get_or c.args.codes.now c.loop-i.i 0) c.loop-i-test.true onwards
          c.loop-i.invariant.entries code
          (rw (← order) (rw (c.from-code.ensures, c.attributes-attributes.ensures, c.saturating_sub-ends.ensures, next) at c.in_ok-write_entry.ensures.bytes));
      lists = rw (onwards) (ap (behind_entries c.args.spelling.now.version c.args.spelling.now.size c.loop-i.lists) (sym (seen-more f c.args.order.now c.loop-i.i first_place c.loop-i-test.true)) ∙ c.loop-i.invariant.lists);
    })

pub returns-in_err-write_entry : goal.returns-in_err-write_entry
returns-in_err-write_entry c =
    let met = err_from_is_err_and c.from_residual.result c.from_residual.ensures.1 in
    let f = looked_up c.args.additions.now in
    let place = get_or c.args.order.now c.loop-i.i first_place in
    let behind = map f (drop (suc c.loop-i.i) c.args.order.now) in
    let p = spelling_places c.args.spelling.now in
    let uses = first_uses [] (shapes_of (map f c.args.order.now)) in
    let spell = entry_bytes c.args.info.now.order c.args.spelling.now.size in
    let at = entry_relocations c.args.info.now.order c.args.spelling.now.size in
    let order = whole-order spell at (shaped (written_entries (behind_attributes c.args.spelling.now.version c.args.spelling.now.size) p c.loop-i.lists uses (map f (drop c.loop-i.i c.args.order.now)))) _ c.loop-i.info c.args.info.now c.loop-i.invariant.entries in
    let next : c.depth_of_first.result ≡ first_depth behind = rw (take_rest, add-one) at (c.depth_of_first.ensures c.args.additions.now) in
    let code : get_or c.args.codes.now c.loop-i.i 0 ≡ code_in uses (shape_of (f place) behind) = code-at f c.args.order.now c.args.codes.now c.loop-i.i first_place c.loop-i-test.true c.requires.codes in
    let P : GivenEntry → Type 0 = λ e. Refuses c.in_err-write_entry.field-0.0 c.loop-i.info (length (spell (entry_with (behind_attributes c.args.spelling.now.version c.args.spelling.now.size) p c.loop-i.lists (get_or c.args.codes.now c.loop-i.i 0) e behind))) in
    loop-entries-refused f c.args.info.now.order c.args.spelling.now.size (behind_attributes c.args.spelling.now.version c.args.spelling.now.size) p c.loop-i.lists c.args.order.now c.loop-i.i first_place uses _ c.loop-i.info c.args.info.now _ (get_or c.args.codes.now c.loop-i.i 0) _ _ _ c.loop-i-test.true
    c.loop-i.invariant.entries code met
    (rw (← order) (rw (c.from-code.ensures, c.attributes-attributes.ensures, c.saturating_sub-ends.ensures, next) at c.in_err-write_entry.ensures.bytes))

pub bounds-codes-i : goal.bounds-codes-i
bounds-codes-i c =
    let es = map (looked_up c.args.additions.now) c.args.order.now in
    omega (arith, c.loop-i-test.true, ap length c.requires.codes, codes-long (first_uses [] (shapes_of es)) es, length-map c.args.order.now (looked_up c.args.additions.now))

lists-left : (version size : ℕ) (places total : ListPlaces) (e : GivenEntry) (es : List GivenEntry) → AreWithin total → behind_entries version size places (e ∷ es) ≡ total → AreWithin (behind_attributes version size places e.attributes)
lists-left version size places total e es short is = within-entries version size (behind_attributes version size places e.attributes) es (subst AreWithin (sym is) short)

pub write_entry-requires-clause-lists : goal.write_entry-requires-clause-lists
write_entry-requires-clause-lists c =
    let f = looked_up c.args.additions.now in
    let place = get_or c.args.order.now c.loop-i.i first_place in
    let behind = map f (drop (suc c.loop-i.i) c.args.order.now) in
    rw (c.attributes-attributes.ensures)
    (lists-left c.args.spelling.now.version c.args.spelling.now.size c.loop-i.lists _ (f place) behind c.requires.lists (ap (behind_entries c.args.spelling.now.version c.args.spelling.now.size c.loop-i.lists) (sym (seen-more f c.args.order.now c.loop-i.i first_place c.loop-i-test.true)) ∙ c.loop-i.invariant.lists))
