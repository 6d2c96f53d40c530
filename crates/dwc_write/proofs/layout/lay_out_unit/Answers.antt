use Rattle.std.proofs.Common.{◌≡◌, ◌∙◌, ap, subst, ℕ, List, [], ◌∷◌, map, length}
use Rattle.std.proofs.lemmas.List.{length-map}
use Rattle.std.proofs.lemmas.List.Elements.{All-nil}
use Rattle.std.proofs.lemmas.Result.{err_from_is_err_and}
use Rattle.dwc_base.specs.declared.records.Endian.{Endian}
use Rattle.dwc_base.specs.declared.records.Endian.TheVariants.{Little}
use Rattle.dwc_unit.specs.FileOrders.{looked_up}
use Rattle.dwc_unit.specs.Lists.{no_lists, nowhere}
use Rattle.dwc_unit.specs.GivenUnits.{FitsOrdered, IsPlainShape, GivenEntry, GivenUnit, first_uses, in_file_order, no_places, ordered, shapes_of, written_entries}
use Rattle.dwc_write.specs.Layouts.{UnitPlaces, offsets_by_number, unit_length}
use Rattle.dwc_write.specs.LayoutViews.{IsTooLong}
use Rattle.dwc_section.specs.Spelled.{at_places}
use Rattle.dwc_unit.specs.SpelledUnits.{entry_bytes, header_length, shaped}
use Rattle.dwc_write.proofs.EntriesLaws.{uses-plain}
use Rattle.dwc_write.proofs.LayoutLaws.{offsets-known, offsets-many, shaped-many}
use Rattle.dwc_write.proofs.OrderedLaws.{ordered-fits}
use Rattle.dwc_write.proofs.WideLaws.{err-exit}
use Rattle.dwc_write.proofs.layout.lay_out_unit.Goals as goal

pub offsets_by_place-requires-clause-each : goal.offsets_by_place-requires-clause-each
offsets_by_place-requires-clause-each c =
    let size = c.unit.inside.address_size in
    let es = map (looked_up c.unit.inside.additions) c.deref.result.now in
    let uses = first_uses [] (shapes_of es) in
    let is = c.in_ok-length.ensures.offsets Little in
    rw (c.deref-3.ensures.value, c.deref-2.ensures.value)
    (ap length is ∙ offsets-many (entry_bytes Little size) (header_length c.unit.inside.version) (shaped (written_entries nowhere no_places no_lists uses es)) ∙ shaped-many uses es ∙ length-map c.deref.result.now (looked_up c.unit.inside.additions) ∙ ap length c.deref.ensures.value)

pub returns-clause-places : goal.returns-clause-places
returns-clause-places c = λ order.
    let v = c.unit.inside in
    let size = v.address_size in
    let added = v.additions in
    let es = in_file_order added in
    let offsets = at_places (entry_bytes order size) (λ place x. place ∷ []) (header_length c.unit.inside.version) (shaped (written_entries nowhere no_places no_lists (first_uses [] (shapes_of es)) es)) in
    let in_order : map (looked_up added) c.in_ok-order.order.items ≡ es = c.in_ok-order.ensures.order in
    let is : c.place_entries.new.coded.offsets.items ≡ offsets =
    (rw (c.deref.ensures.value) at (c.in_ok-length.ensures.offsets order)) ∙ ap (λ (xs : List GivenEntry). at_places (entry_bytes order size) (λ place x. place ∷ []) (header_length c.unit.inside.version) (shaped (written_entries nowhere no_places no_lists (first_uses [] (shapes_of xs)) xs))) in_order in
    let found = λ (place : ℕ). rw (c.deref-2.ensures.value, c.deref-3.ensures.value, in_order, is) at (c.in_ok-by_place.ensures added place) in
    let numbered = (rw (c.deref-4.ensures.value, c.deref-5.ensures.value) at c.in_ok-offsets_by_number.ensures) ∙ offsets-known c.in_ok-by_place.by_place.items es offsets v.places.items found in
    let P : GivenUnit → Type 0 = λ u. ◌≡◌ {A = UnitPlaces} (record { start = c.args.start; offsets = c.in_ok-offsets_by_number.field-0.items }) (record { start = c.args.start; offsets = offsets_by_number order u.address_size (ordered u) }) in
    subst P c.unit.view_is (ap (λ xs. record { start = c.args.start; offsets = xs }) numbered)

pub returns-in_err-order-clause-fits : goal.returns-in_err-order-clause-fits
returns-in_err-order-clause-fits c =
    let P : GivenUnit → Type 0 = λ u. FitsOrdered (ordered u) in
    subst P c.unit.view_is (ordered-fits _ c.unit.invariant)

pub returns-in_err-with_capacity-clause-fits : goal.returns-in_err-with_capacity-clause-fits
returns-in_err-with_capacity-clause-fits c =
    let P : GivenUnit → Type 0 = λ u. FitsOrdered (ordered u) in
    subst P c.unit.view_is (ordered-fits _ c.unit.invariant)

pub returns-in_err-with_capacity-2-clause-fits : goal.returns-in_err-with_capacity-2-clause-fits
returns-in_err-with_capacity-2-clause-fits c =
    let P : GivenUnit → Type 0 = λ u. FitsOrdered (ordered u) in
    subst P c.unit.view_is (ordered-fits _ c.unit.invariant)

pub returns-in_err-with_capacity-3-clause-fits : goal.returns-in_err-with_capacity-3-clause-fits
returns-in_err-with_capacity-3-clause-fits c =
    let P : GivenUnit → Type 0 = λ u. FitsOrdered (ordered u) in
    subst P c.unit.view_is (ordered-fits _ c.unit.invariant)

pub returns-in_err-new-clause-fits : goal.returns-in_err-new-clause-fits
returns-in_err-new-clause-fits c =
    let P : GivenUnit → Type 0 = λ u. FitsOrdered (ordered u) in
    subst P c.unit.view_is (ordered-fits _ c.unit.invariant)

pub returns-in_err-length-clause-fits : goal.returns-in_err-length-clause-fits
returns-in_err-length-clause-fits c =
    let P : GivenUnit → Type 0 = λ u. FitsOrdered (ordered u) in
    subst P c.unit.view_is (ordered-fits _ c.unit.invariant)

pub returns-in_err-by_place-clause-fits : goal.returns-in_err-by_place-clause-fits
returns-in_err-by_place-clause-fits c =
    let P : GivenUnit → Type 0 = λ u. FitsOrdered (ordered u) in
    subst P c.unit.view_is (ordered-fits _ c.unit.invariant)

pub returns-in_err-offsets_by_number-clause-fits : goal.returns-in_err-offsets_by_number-clause-fits
returns-in_err-offsets_by_number-clause-fits c =
    let P : GivenUnit → Type 0 = λ u. FitsOrdered (ordered u) in
    subst P c.unit.view_is (ordered-fits _ c.unit.invariant)

pub returns-clause-fits : goal.returns-clause-fits
returns-clause-fits c =
    let P : GivenUnit → Type 0 = λ u. FitsOrdered (ordered u) in
    subst P c.unit.view_is (ordered-fits _ c.unit.invariant)

pub returns-in_err-length-clause-large : goal.returns-in_err-length-clause-large
returns-in_err-length-clause-large c =
    let added = c.unit.inside.additions in
    let in_order : map (looked_up added) c.in_ok-order.order.items ≡ in_file_order added = c.in_ok-order.ensures.order in
    let p = err_from_is_err_and c.from_residual-in_err-length.result c.from_residual-in_err-length.ensures.1 in
    let P : GivenUnit → Type 0 = λ u. (order : Endian) → IsTooLong c.in_err-length.field-0.0 (unit_length order u.address_size (ordered u)) in
    err-exit (λ e. (order : Endian) → IsTooLong e (unit_length order c.args.unit.now.address_size (ordered c.args.unit.now))) _ _ p
    (subst P c.unit.view_is (λ order. rw (c.deref.ensures.value, in_order) at (c.in_err-length.ensures.end order)))

pub put_table-requires : goal.put_table-requires
put_table-requires c =
    let es = map (looked_up c.unit.inside.additions) c.deref.result.now in
    rw (c.as_slice.ensures, c.in_ok-length.ensures.shapes) (uses-plain [] es (All-nil IsPlainShape))

pub returns-in_err-table-clause-fits : goal.returns-in_err-table-clause-fits
returns-in_err-table-clause-fits c =
    let P : GivenUnit → Type 0 = λ u. FitsOrdered (ordered u) in
    subst P c.unit.view_is (ordered-fits _ c.unit.invariant)

pub returns-in_err-put_table-clause-fits : goal.returns-in_err-put_table-clause-fits
returns-in_err-put_table-clause-fits c =
    let P : GivenUnit → Type 0 = λ u. FitsOrdered (ordered u) in
    subst P c.unit.view_is (ordered-fits _ c.unit.invariant)
