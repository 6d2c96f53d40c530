use Rattle.std.proofs.Common.{◌≡◌, sym, subst}
use Rattle.std.proofs.lemmas.Result.{err_from_is_err_and}
use Rattle.dwc_base.specs.Listing.{Listing}
use Rattle.dwc_base.specs.Sections.{Fault}
use Rattle.dwc_dwarf.specs.Entries.{Entry, entries}
use Rattle.dwc_rules.specs.EntryRules.{is_required, named_faults}
use Rattle.dwc_rules.specs.ReachedEntries.{listing_faults}
use Rattle.dwc_base.specs.Listing.{first_of}
use Rattle.dwc_dwarf.specs.UnitOffsets.{RiseIn}
use Rattle.dwc_read.specs.Faults.{fault_seen}
use Rattle.dwc_kept.specs.ReadEntries.{with_entries_read, ReadsOrTells}
use Rattle.dwc_kept.specs.ReadingSeen.{reading_view, HasRead}
use Rattle.dwc_kept.specs.RootsSaid.{first_said}
use Rattle.dwc_kept.proofs.LinkedLaws.{RiseIn-linked, reads-linked, tells-linked}
use Rattle.dwc_kept.proofs.walk.add_unit.Goals as goal

pub add_entries-requires-clause-rise : goal.add_entries-requires-clause-rise
add_entries-requires-clause-rise c =
    let unit = c.args.unit.now in
    let h = unit.header in
    subst (λ (l : Listing Fault Entry). RiseIn h.offset h.end l.items) (sym c.in_ok-entries.ensures) (RiseIn-linked h.offset h.end (entries unit.sections h).items c.requires.rise)

pub returns-in_err-entries : goal.returns-in_err-entries
returns-in_err-entries c =
    let p = err_from_is_err_and c.from_residual.result c.from_residual.ensures.1 in
    let unit = c.args.unit.now in
    rw (p.1, p.2) (tells-linked (named_faults unit.sections unit.header) (entries unit.sections unit.header) (fault_seen c.in_err-entries.field-0.0) c.in_err-entries.ensures)

pub returns : goal.returns
returns c =
    let unit = c.args.unit.now in
    let h = unit.header in
    let s = unit.sections in
    let fs = c.args.transform.now in
    let before = reading_view c.args.reading.now in
    let after = reading_view c.add_entries.new.reading in
    reads-linked fs s h (entries s h) before after c.add_entries.result
    (subst (λ (l : Listing Fault Entry). ReadsOrTells (λ root. HasRead (with_entries_read (is_required fs s h) h l.items before) h.end after × (root ≡ first_said l.items)) (first_of (listing_faults (named_faults s h) l)) c.add_entries.result) c.in_ok-entries.ensures c.add_entries.ensures)
