use Rattle.std.proofs.Common.{◌≡◌, refl, ℕ, List, ◌<◌, ◌≤◌, ap, sym, subst, ◌∙◌, arith, length, map, add-one, get_or}
use Rattle.std.proofs.lemmas.List.{length-map}
use Rattle.std.proofs.lemmas.Result.{err_from_is_err_and}
use Rattle.dwc_unit.specs.GivenLines.{FitsLines}
use Rattle.dwc_unit.specs.GivenUnits.{GivenUnit, OrderedUnit, FitsOrdered, HaveShortLists, ordered, size_of}
use Rattle.dwc_write.specs.SpelledOutput.{IsRefusalAmong, WrittenSections, with_unit}
use Rattle.dwc_write.specs.LayoutViews.{IsLaidOut}
use Rattle.dwc_write.specs.SectionViews.{tables_view}
use Rattle.dwc_write.specs.Layouts.{offsets_by_number}
use Rattle.dwc_unit.specs.WidestGiven.{IsWideRefusal}
use Rattle.dwc_unit.proofs.AddedInOrder.{drop-behind, drop-head, drop-within}
use Rattle.dwc_write.proofs.LayoutLaws.{offsets-at, unit-within, zip-at, zip-long}
use Rattle.dwc_write.proofs.PlacedEntries.{offset-within, places-short}
use Rattle.dwc_write.proofs.OutputLaws.{units-more, units-refused, all-taken-more, all-taken, units-done}
use Rattle.dwc_write.proofs.WideLaws.{err-exit, names-short, units-taken, widely-refused}
use Rattle.dwc_write.proofs.OrderedLaws.{unit-seen}
use Rattle.dwc_write.proofs.sections.write_units.Goals as goal

pub loop-unit-preserved : goal.loop-unit-preserved
loop-unit-preserved c =
    let next = sym c.loop-unit.invariant.left ∙ c.in-Some.ensures.steps.0 in
    let inside = drop-within c.args.units.items c.loop-unit.place c.in-Some.unit c.next.new.self.rest.items next in
    let seen = sym (drop-head c.args.units.items c.loop-unit.place c.in-Some.unit c.in-Some.unit c.next.new.self.rest.items next) in
    let us = map ordered c.args.units.items in
    let units = tables_view c.args.tables.now in
    let within : c.loop-unit.place < length us = omega (arith, inside, length-map c.args.units.items ordered) in
    let one = unit-seen c.args.units.items c.loop-unit.place c.in-Some.unit inside seen in
    rw add-one
    (record {
      left = sym (drop-behind c.args.units.items c.loop-unit.place c.in-Some.unit c.next.new.self.rest.items next);
      many = omega (arith, c.loop-unit.invariant.many, c.in-Some.ensures.steps.1);
      units = units-more c.args.order units us us c.loop-unit.place (ordered c.in-Some.unit) _ _ within c.loop-unit.invariant.units (rw (one) c.in_ok-write_one.ensures.bytes);
      done = rw (one) c.in_ok-write_one.ensures.bytes ∙ ap (with_unit units (get_or us c.loop-unit.place (ordered c.in-Some.unit))) c.loop-unit.invariant.done ∙ sym (units-taken units us c.loop-unit.place (ordered c.in-Some.unit) _ within);
      info = ap (λ (w : WrittenSections). w.info_section.order) c.in_ok-write_one.ensures.bytes ∙ c.loop-unit.invariant.info;
      line = ap (λ (w : WrittenSections). w.line_section.order) c.in_ok-write_one.ensures.bytes ∙ c.loop-unit.invariant.line;
      fits = all-taken-more FitsOrdered us c.loop-unit.place (ordered c.in-Some.unit) within c.loop-unit.invariant.fits (rw (one) c.in_ok-write_one.ensures.fits);
      lines = all-taken-more (λ (u : OrderedUnit). FitsLines u.lines) us c.loop-unit.place (ordered c.in-Some.unit) within c.loop-unit.invariant.lines (rw (one) c.in_ok-write_one.ensures.lines);
    })

pub returns-in_err-write_one-clause-large : goal.returns-in_err-write_one-clause-large
returns-in_err-write_one-clause-large c =
    let next = sym c.loop-unit.invariant.left ∙ c.in-Some.ensures.steps.0 in
    let inside = drop-within c.args.units.items c.loop-unit.place c.in-Some.unit c.next.new.self.rest.items next in
    let seen = sym (drop-head c.args.units.items c.loop-unit.place c.in-Some.unit c.in-Some.unit c.next.new.self.rest.items next) in
    let us = map ordered c.args.units.items in
    let units = tables_view c.args.tables.now in
    let within : c.loop-unit.place < length us = omega (arith, inside, length-map c.args.units.items ordered) in
    let one = unit-seen c.args.units.items c.loop-unit.place c.in-Some.unit inside seen in
    let p = err_from_is_err_and c.from_residual-in_err-write_one.result c.from_residual-in_err-write_one.ensures.1 in
    err-exit (λ e. IsRefusalAmong c.args.order units us e) _ _ p (units-refused c.args.order units us c.loop-unit.place (ordered c.in-Some.unit) _ _ within c.requires.writable c.loop-unit.invariant.units (rw (one) c.in_err-write_one.ensures.bytes))

pub returns-in_err-write_one-clause-widest : goal.returns-in_err-write_one-clause-widest
returns-in_err-write_one-clause-widest c =
    let next = sym c.loop-unit.invariant.left ∙ c.in-Some.ensures.steps.0 in
    let inside = drop-within c.args.units.items c.loop-unit.place c.in-Some.unit c.next.new.self.rest.items next in
    let seen = sym (drop-head c.args.units.items c.loop-unit.place c.in-Some.unit c.in-Some.unit c.next.new.self.rest.items next) in
    let us = map ordered c.args.units.items in
    let units = tables_view c.args.tables.now in
    let within : c.loop-unit.place < length us = omega (arith, inside, length-map c.args.units.items ordered) in
    let one = unit-seen c.args.units.items c.loop-unit.place c.in-Some.unit inside seen in
    let p = err_from_is_err_and c.from_residual-in_err-write_one.result c.from_residual-in_err-write_one.ensures.1 in
    let fits = all-taken-more FitsOrdered us c.loop-unit.place (ordered c.in-Some.unit) within c.loop-unit.invariant.fits (rw (one) c.in_err-write_one.ensures.fits) in
    let lines = all-taken-more (λ (u : OrderedUnit). FitsLines u.lines) us c.loop-unit.place (ordered c.in-Some.unit) within c.loop-unit.invariant.lines (rw (one) c.in_err-write_one.ensures.lines) in
    err-exit (λ e. IsWideRefusal c.args.tables.now.texts.now us e) _ _ p (widely-refused c.args.order units c.args.tables.now.texts.now us c.loop-unit.place (ordered c.in-Some.unit) _ _ within c.requires.writable fits lines (names-short units c.args.tables.now.names.now refl c.requires.names) c.loop-unit.invariant.done (rw (one) c.in_err-write_one.ensures.bytes))

pub returns-clause-ok : goal.returns-clause-ok
returns-clause-ok c =
    let us = map ordered c.args.units.items in
    let units = tables_view c.args.tables.now in
    let past : length us ≤ c.loop-unit.place = omega (arith, c.loop-unit.invariant.many, c.in-None.ensures.steps.0, length-map c.args.units.items ordered) in
    units-done c.args.order units us c.loop-unit.place _ past c.loop-unit.invariant.units

pub returns-clause-fits : goal.returns-clause-fits
returns-clause-fits c =
    let us = map ordered c.args.units.items in
    let units = tables_view c.args.tables.now in
    let past : length us ≤ c.loop-unit.place = omega (arith, c.loop-unit.invariant.many, c.in-None.ensures.steps.0, length-map c.args.units.items ordered) in
    all-taken FitsOrdered us c.loop-unit.place past c.loop-unit.invariant.fits

pub returns-clause-lines : goal.returns-clause-lines
returns-clause-lines c =
    let us = map ordered c.args.units.items in
    let units = tables_view c.args.tables.now in
    let past : length us ≤ c.loop-unit.place = omega (arith, c.loop-unit.invariant.many, c.in-None.ensures.steps.0, length-map c.args.units.items ordered) in
    all-taken (λ (u : OrderedUnit). FitsLines u.lines) us c.loop-unit.place past c.loop-unit.invariant.lines

pub write_one-requires-clause-place : goal.write_one-requires-clause-place
write_one-requires-clause-place c =
    let next = sym c.loop-unit.invariant.left ∙ c.in-Some.ensures.steps.0 in
    let inside = drop-within c.args.units.items c.loop-unit.place c.in-Some.unit c.next.new.self.rest.items next in
    (omega (arith, inside, zip-long IsLaidOut c.args.units.items c.args.tables.now.layouts.now c.requires.laid))

pub write_one-requires-clause-laid : goal.write_one-requires-clause-laid
write_one-requires-clause-laid c = λ d.
    let next = sym c.loop-unit.invariant.left ∙ c.in-Some.ensures.steps.0 in
    let inside = drop-within c.args.units.items c.loop-unit.place c.in-Some.unit c.next.new.self.rest.items next in
    let seen = sym (drop-head c.args.units.items c.loop-unit.place c.in-Some.unit c.in-Some.unit c.next.new.self.rest.items next) in
    let u = c.in-Some.unit in
    let P : GivenUnit → Type 0 = λ v. IsLaidOut v (get_or c.args.tables.now.layouts.now c.loop-unit.place d) in
    (subst P (sym seen) (zip-at IsLaidOut c.args.units.items c.args.tables.now.layouts.now c.loop-unit.place u d c.requires.laid inside))

pub write_one-requires-clause-offsets : goal.write_one-requires-clause-offsets
write_one-requires-clause-offsets c = λ d.
    let next = sym c.loop-unit.invariant.left ∙ c.in-Some.ensures.steps.0 in
    let inside = drop-within c.args.units.items c.loop-unit.place c.in-Some.unit c.next.new.self.rest.items next in
    let seen = sym (drop-head c.args.units.items c.loop-unit.place c.in-Some.unit c.in-Some.unit c.next.new.self.rest.items next) in
    let us = map ordered c.args.units.items in
    let u = c.in-Some.unit in
    let within : c.loop-unit.place < length us = omega (arith, inside, length-map c.args.units.items ordered) in
    let one = unit-seen c.args.units.items c.loop-unit.place u inside seen in
    let same : u.address_size ≡ size_of us = ap (λ (v : OrderedUnit). v.address_size) (sym one) ∙ (c.requires.writable c.loop-unit.place (ordered u) within).size in
    let found = offsets-at c.args.order (size_of us) 0 us c.args.tables.now.layouts.now c.loop-unit.place (ordered u) d within c.requires.placed in
    (found ∙ ap (offsets_by_number c.args.order (size_of us)) one ∙ ap (λ n. offsets_by_number c.args.order n (ordered u)) (sym same))

pub write_one-requires-clause-short : goal.write_one-requires-clause-short
write_one-requires-clause-short c = λ line low.
    let next = sym c.loop-unit.invariant.left ∙ c.in-Some.ensures.steps.0 in
    let inside = drop-within c.args.units.items c.loop-unit.place c.in-Some.unit c.next.new.self.rest.items next in
    let seen = sym (drop-head c.args.units.items c.loop-unit.place c.in-Some.unit c.in-Some.unit c.next.new.self.rest.items next) in
    let us = map ordered c.args.units.items in
    let u = c.in-Some.unit in
    let within : c.loop-unit.place < length us = omega (arith, inside, length-map c.args.units.items ordered) in
    let one = unit-seen c.args.units.items c.loop-unit.place u inside seen in
    let same : u.address_size ≡ size_of us = ap (λ (v : OrderedUnit). v.address_size) (sym one) ∙ (c.requires.writable c.loop-unit.place (ordered u) within).size in
    let total = c.requires.short in
    let placed = c.requires.placed in
    rw (placed, same)
    (record {
      line = low;
      entry = λ id. omega (arith, total, offset-within c.args.order (size_of us) (ordered u) id, unit-within c.args.order (size_of us) us c.loop-unit.place (ordered u) (ordered u) within one);
      entry_of = λ unit id. omega (arith, total, places-short c.args.order (size_of us) 0 us unit id);
      text = c.requires.texts;
    })

pub write_one-requires-clause-expressions : goal.write_one-requires-clause-expressions
write_one-requires-clause-expressions c =
    let next = sym c.loop-unit.invariant.left ∙ c.in-Some.ensures.steps.0 in
    let inside = drop-within c.args.units.items c.loop-unit.place c.in-Some.unit c.next.new.self.rest.items next in
    let seen = sym (drop-head c.args.units.items c.loop-unit.place c.in-Some.unit c.in-Some.unit c.next.new.self.rest.items next) in
    let us = map ordered c.args.units.items in
    let u = c.in-Some.unit in
    let within : c.loop-unit.place < length us = omega (arith, inside, length-map c.args.units.items ordered) in
    let one = unit-seen c.args.units.items c.loop-unit.place u inside seen in
    let P : OrderedUnit → Type 0 = λ v. HaveShortLists v.version v.entries in
    subst P one (c.requires.expressions c.loop-unit.place (ordered u) within)
