use Rattle.std.proofs.Common.{◌≡◌, ◌∙◌, ℕ, List, ap, length, map, refl, subst, sym}
use Rattle.std.specs.List.{All}
use Rattle.std.proofs.lemmas.Result.{err_from_is_err_and}
use Rattle.dwc_write.specs.declared.layout.UnitLayout.{UnitLayout}
use Rattle.dwc_unit.specs.FileOrders.{looked_up}
use Rattle.dwc_unit.specs.GivenUnits.{GivenEntry, GivenUnit, FitsEntry, FitsOrdered, HaveShortLists, behind_entries, in_file_order, ordered}
use Rattle.dwc_write.specs.LayoutViews.{IsLaidOut, IsNoting}
use Rattle.dwc_write.specs.Layouts.{lists_from, offsets_by_number, written_lines}
use Rattle.dwc_unit.specs.LineNames.{own_directory}
use Rattle.dwc_unit.specs.declared.lists.ListPlaces.{ListPlaces}
use Rattle.dwc_unit.specs.GivenLines.{GivenLines}
use Rattle.dwc_unit.specs.Lists.{AreWithin}
use Rattle.dwc_write.specs.SpelledRelocations.{lines_relocations}
use Rattle.dwc_write.specs.SpelledSections.{lines_bytes}
use Rattle.dwc_section.specs.Writers.{appended}
use Rattle.dwc_write.specs.SectionViews.{sections_view, tables_view}
use Rattle.dwc_write.specs.SpelledOutput.{WritesOne}
use Rattle.dwc_write.proofs.OrderedLaws.{ordered-fits}
use Rattle.dwc_write.proofs.OutputLaws.{lists-ended, lists-inside, one-refused-lists, one-written}
use Rattle.dwc_write.proofs.sections.write_one.Goals as goal

pub returns-in_err-write_lines-clause-fits : goal.returns-in_err-write_lines-clause-fits
returns-in_err-write_lines-clause-fits c =
    let P : GivenUnit → Type 0 = λ u. FitsOrdered (ordered u) in
    subst P c.unit.view_is (ordered-fits _ c.unit.invariant)

pub returns-in_err-write_unit_lists-clause-fits : goal.returns-in_err-write_unit_lists-clause-fits
returns-in_err-write_unit_lists-clause-fits c =
    let P : GivenUnit → Type 0 = λ u. FitsOrdered (ordered u) in
    subst P c.unit.view_is (ordered-fits _ c.unit.invariant)

pub returns-clause-fits : goal.returns-clause-fits
returns-clause-fits c =
    let P : GivenUnit → Type 0 = λ u. FitsOrdered (ordered u) in
    subst P c.unit.view_is (ordered-fits _ c.unit.invariant)

pub write_unit_lists-requires-clause-size : goal.write_unit_lists-requires-clause-size
write_unit_lists-requires-clause-size c = c.unit.invariant.size

pub write_unit_lists-requires-clause-fits : goal.write_unit_lists-requires-clause-fits
write_unit_lists-requires-clause-fits c = (ordered-fits _ c.unit.invariant).entries

pub write_unit_lists-requires-clause-noted : goal.write_unit_lists-requires-clause-noted
write_unit_lists-requires-clause-noted c =
    let l = c.index-layouts-place.result in
    let L : UnitLayout → Type 0 = λ x. IsLaidOut c.args.unit x in
    let laid : IsLaidOut c.args.unit l = subst L (sym c.index-layouts-place.is) (c.requires.laid l) in
    let N : GivenUnit → Type 0 = λ u. IsNoting u.additions l.notes (in_file_order u.additions) in
    subst N (sym c.unit.view_is) laid.notes

pub write_unit_lists-requires-clause-short : goal.write_unit_lists-requires-clause-short
write_unit_lists-requires-clause-short c =
    let S : GivenUnit → Type 0 = λ u. HaveShortLists u.version (ordered u).entries in
    subst S (sym c.unit.view_is) c.requires.expressions

pub write_unit-requires-clause-fits : goal.write_unit-requires-clause-fits
write_unit-requires-clause-fits c =
    let l = c.index-layouts-place.result in
    let size = c.unit.inside.address_size in
    let L : UnitLayout → Type 0 = λ x. IsLaidOut c.args.unit x in
    let laid : IsLaidOut c.args.unit l = subst L (sym c.index-layouts-place.is) (c.requires.laid l) in
    let O : GivenUnit → Type 0 = λ u. map (looked_up u.additions) l.order.items ≡ in_file_order u.additions in
    let order = subst O (sym c.unit.view_is) laid.order in
    (subst (All (FitsEntry size)) (sym order) (ordered-fits _ c.unit.invariant).entries)

pub write_unit-requires-clause-short : goal.write_unit-requires-clause-short
write_unit-requires-clause-short c =
    let l = c.index-layouts-place.result in
    let U : UnitLayout → Type 0 = λ x. x.offsets.items ≡ offsets_by_number c.args.order c.args.unit.address_size (ordered c.args.unit) in
    let offsets : U l = subst U (sym c.index-layouts-place.is) (c.requires.offsets l) in
    let short = c.requires.short c.place-line_offset.result c.place-line_offset.ensures.short in
    rw (c.deref-2.ensures.value, offsets) (record { line = short.line; entry = short.entry; entry_of = short.entry_of; text = short.text })

pub write_unit-requires-clause-lists : goal.write_unit-requires-clause-lists
write_unit-requires-clause-lists c =
    let l = c.index-layouts-place.result in
    let size = c.unit.inside.address_size in
    let L : UnitLayout → Type 0 = λ x. IsLaidOut c.args.unit x in
    let laid : IsLaidOut c.args.unit l = subst L (sym c.index-layouts-place.is) (c.requires.laid l) in
    let O : GivenUnit → Type 0 = λ u. map (looked_up u.additions) l.order.items ≡ in_file_order u.additions in
    let order = subst O (sym c.unit.view_is) laid.order in
    let unit : GivenUnit = record { version = c.unit.inside.version; address_size = size; lines = c.unit.inside.lines.value; places = c.unit.inside.places.items; additions = c.unit.inside.additions } in
    let es = in_file_order c.unit.inside.additions in
    let ended = lists-ended c.args.sections.now.ranges c.write_unit_lists.new.ranges c.args.sections.now.locations c.write_unit_lists.new.locations (ordered unit) c.places_behind-begins.result c.places_behind-ends.result c.places_behind-begins.ensures.places c.places_behind-ends.ensures.places c.in_ok-write_unit_lists.ensures.0 c.in_ok-write_unit_lists.ensures.1 in
    let lists = c.first_lists.ensures c.args.sections.now.ranges.order c.args.sections.now.locations.order size es ended.ranges ended.locations in
    let P : ListPlaces → List GivenEntry → Type 0 = λ ps gs. AreWithin (behind_entries c.unit.inside.version size ps gs) in
    subst (P c.first_lists.result) (sym order) (subst (λ ps. P ps es) (sym lists) (lists-inside c.args.sections.now.ranges c.args.sections.now.locations (ordered unit) c.places_behind-begins.result c.places_behind-ends.result ended c.places_behind-ends.ensures.short))

pub returns-in_err-write_unit_lists-clause-bytes : goal.returns-in_err-write_unit_lists-clause-bytes
returns-in_err-write_unit_lists-clause-bytes c =
    let p = err_from_is_err_and c.from_residual-in_err-write_unit_lists.result c.from_residual-in_err-write_unit_lists.ensures.1 in
    let W : GivenUnit → Type 0 = λ u. WritesOne (tables_view c.args.tables.now) (sections_view c.args.sections.now) (sections_view (record { «abbrev» = c.args.sections.now.«abbrev»; info = c.args.sections.now.info; line = c.write_lines.new.line; ranges = c.write_unit_lists.new.ranges; locations = c.write_unit_lists.new.locations })) c.from_residual-in_err-write_unit_lists.result (ordered u) in
    subst W c.unit.view_is (one-refused-lists _ _ (tables_view c.args.tables.now) (sections_view c.args.sections.now) _ _ p c.in_err-write_unit_lists.ensures)

pub returns-clause-bytes : goal.returns-clause-bytes
returns-clause-bytes c =
    let l = c.index-layouts-place.result in
    let L : UnitLayout → Type 0 = λ x. IsLaidOut c.args.unit x in
    let laid : IsLaidOut c.args.unit l = subst L (sym c.index-layouts-place.is) (c.requires.laid l) in
    let U : UnitLayout → Type 0 = λ x. x.offsets.items ≡ offsets_by_number c.args.order c.args.unit.address_size (ordered c.args.unit) in
    let offsets_are : U l = subst U (sym c.index-layouts-place.is) (c.requires.offsets l) in
    let O : GivenUnit → Type 0 = λ u. map (looked_up u.additions) l.order.items ≡ in_file_order u.additions in
    let order = subst O (sym c.unit.view_is) laid.order in
    let F : GivenUnit → Type 0 = λ u. l.offsets.items ≡ offsets_by_number c.args.sections.now.info.order u.address_size (ordered u) in
    let offsets = subst F (sym c.unit.view_is) (offsets_are ∙ ap (λ o. offsets_by_number o c.args.unit.address_size (ordered c.args.unit)) c.requires.info) in
    let W : GivenUnit → Type 0 = λ u. WritesOne (tables_view c.args.tables.now) (sections_view c.args.sections.now) (sections_view (record { «abbrev» = c.write_unit.new.tables; info = c.write_unit.new.info; line = c.write_lines.new.line; ranges = c.write_unit_lists.new.ranges; locations = c.write_unit_lists.new.locations })) c.write_unit.result (ordered u) in
    let unit : GivenUnit = record { version = c.unit.inside.version; address_size = c.unit.inside.address_size; lines = c.unit.inside.lines.value; places = c.unit.inside.places.items; additions = c.unit.inside.additions } in
    let names = c.args.tables.now.names.now.texts in
    let G : List ℕ → GivenLines → Type 0 = λ own g. c.write_lines.new.line ≡ appended (lines_bytes c.args.sections.now.line.order c.unit.inside.address_size (written_lines c.unit.inside.version names own g)) (lines_relocations c.args.sections.now.line.order c.unit.inside.address_size (length c.args.sections.now.line.body) (written_lines c.unit.inside.version names own g)) c.args.sections.now.line in
    let own : c.own_directory-own.result.now ≡ own_directory c.args.tables.now.texts.now (ordered unit) = c.own_directory-own.ensures ∙ ap (λ u. own_directory c.args.tables.now.texts.now (ordered u)) (sym c.unit.view_is) in
    let tables = subst (λ o. G o unit.lines) own (subst (G c.own_directory-own.result.now) c.deref.ensures c.in_ok-write_lines.ensures.bytes) in
    let ended = lists-ended c.args.sections.now.ranges c.write_unit_lists.new.ranges c.args.sections.now.locations c.write_unit_lists.new.locations (ordered unit) c.places_behind-begins.result c.places_behind-ends.result c.places_behind-begins.ensures.places c.places_behind-ends.ensures.places c.in_ok-write_unit_lists.ensures.0 c.in_ok-write_unit_lists.ensures.1 in
    let lists = c.first_lists.ensures c.args.sections.now.ranges.order c.args.sections.now.locations.order c.unit.inside.address_size (in_file_order c.unit.inside.additions) ended.ranges ended.locations ∙ ap (lists_from c.unit.inside.version (in_file_order c.unit.inside.additions)) c.places_behind-begins.ensures.places in
    let written = rw (c.deref-2.ensures.value, order, offsets, c.place-line_offset.ensures.place, lists) at c.write_unit.ensures in
    subst W c.unit.view_is
    (one-written c.write_unit.result (tables_view c.args.tables.now) (sections_view c.args.sections.now) _ _ c.write_unit.new.tables c.write_unit.new.info c.write_lines.new.line c.write_unit_lists.new.ranges c.write_unit_lists.new.locations tables
    c.in_ok-write_unit_lists.ensures.0 c.in_ok-write_unit_lists.ensures.1 written refl)
