use Rattle.std.proofs.Common.{◌≡◌, ◌∙◌, refl, subst, None}
use Rattle.std.proofs.lemmas.Result.{err_from_is_err_and}
use Rattle.dwc_base.specs.Sections.{Sections}
use Rattle.dwc_dwarf.specs.Entries.{entries}
use Rattle.dwc_rules.specs.EntryRules.{is_required, named_faults}
use Rattle.dwc_rules.specs.ReachedEntries.{listing_faults}
use Rattle.dwc_base.specs.Listing.{first_of}
use Rattle.dwc_read.specs.Faults.{fault_seen}
use Rattle.dwc_kept.specs.RootsSaid.{first_said}
use Rattle.dwc_kept.specs.ReadEntries.{with_entries_read, TellsFirst}
use Rattle.dwc_kept.specs.ReadingSeen.{reading_view, HasRead}
use Rattle.dwc_kept.proofs.ReadLaws.{units-begin, unit-stands, units-go, units-end, unit-tells, is-read-unit}
use Rattle.dwc_kept.proofs.walk.read_entries.Goals as goal

pub loop-units-init : goal.loop-units-init
loop-units-init c =
    let s = c.args.headers.sections in
    units-begin (is_required c.args.transform.now s) (named_faults s) s c.args.headers.headers c.args.headers (reading_view c.none_read-reading.result) c.new-units.result.items refl c.none_read-reading.ensures c.new-units.ensures.items c.requires

pub add_unit-requires-clause-before : goal.add_unit-requires-clause-before
add_unit-requires-clause-before c =
    let s = c.args.headers.sections in
    let next = rw c.in-Some.is at c.in_ok-unit.ensures.unit in
    (unit-stands (is_required c.args.transform.now s) (named_faults s) s c.args.headers.headers c.loop-units.headers c.next_unit.new.self.headers (reading_view c.loop-units.reading) c.loop-units.units.items c.in-Some.unit.header c.loop-units.invariant next).0

pub returns-in_err-root : goal.returns-in_err-root
returns-in_err-root c =
    let s = c.args.headers.sections in
    let h = c.in-Some.unit.header in
    let next = rw c.in-Some.is at c.in_ok-unit.ensures.unit in
    let stands = rw c.in-Some.is at c.in_ok-unit.ensures.stands_in in
    let p = err_from_is_err_and c.from_residual-in_err-root.result c.from_residual-in_err-root.ensures.1 in
    rw (p.1, p.2)
    (unit-tells (is_required c.args.transform.now s) (named_faults s) s c.args.headers.headers c.loop-units.headers c.next_unit.new.self.headers (reading_view c.loop-units.reading) c.loop-units.units.items h (fault_seen c.in_err-root.field-0.0) c.loop-units.invariant next
    (subst (λ (k : Sections). TellsFirst (first_of (listing_faults (named_faults k h) (entries k h))) (fault_seen c.in_err-root.field-0.0)) (stands ∙ c.loop-units.invariant.sections) c.in_err-root.ensures))

pub loop-units-preserved : goal.loop-units-preserved
loop-units-preserved c =
    let s = c.args.headers.sections in
    let h = c.in-Some.unit.header in
    let next = rw c.in-Some.is at c.in_ok-unit.ensures.unit in
    let stands = rw c.in-Some.is at c.in_ok-unit.ensures.stands_in in
    let same : c.in-Some.unit.sections ≡ s = stands ∙ c.loop-units.invariant.sections in
    let done = c.in_ok-root.ensures in
    units-go (is_required c.args.transform.now s) (named_faults s) s c.args.headers.headers c.loop-units.headers c.next_unit.new.self (reading_view c.loop-units.reading) (reading_view c.add_unit.new.reading) c.loop-units.units.items c.push.new.self.items h
    (record { unit = c.in-Some.unit; is_compile_unit = c.is_compile_unit-is_compile_unit.result; line_table = c.table_named-line_table.result }) c.loop-units.invariant next c.in_ok-unit.ensures.sections
    (subst (λ (k : Sections). first_of (listing_faults (named_faults k h) (entries k h)) ≡ None) same done.0)
    (subst (λ (k : Sections). HasRead (with_entries_read (is_required c.args.transform.now k h) h (entries k h).items (reading_view c.loop-units.reading)) h.end (reading_view c.add_unit.new.reading)) same done.1.0)
    (is-read-unit s c.in-Some.unit c.in_ok-root.root c.is_compile_unit-is_compile_unit.result c.table_named-line_table.result same (subst (λ (k : Sections). c.in_ok-root.root ≡ first_said (entries k h).items) same done.1.1) c.is_compile_unit-is_compile_unit.ensures c.table_named-line_table.ensures)
    c.in_ok-push.ensures.items

pub returns : goal.returns
returns c =
    let s = c.args.headers.sections in
    let none = rw c.in_default.is at c.in_ok-unit.ensures.unit in
    units-end (is_required c.args.transform.now s) (named_faults s) s c.args.headers.headers c.loop-units.headers (reading_view c.loop-units.reading) c.loop-units.units.items c.loop-units.invariant none.0
