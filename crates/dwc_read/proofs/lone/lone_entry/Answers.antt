use Rattle.std.proofs.Common.{◌≡◌, Ok, Some, None}
use Rattle.dwc_base.specs.declared.faults.What.TheVariants.{Entry as EntryRead}
use Rattle.dwc_base.specs.declared.section_name.SectionName.TheVariants.{Info}
use Rattle.dwc_dwarf.specs.Entries.{entry_at}
use Rattle.dwc_read.specs.EntriesSeen.{found_view}
use Rattle.dwc_read.proofs.FailsLaws.{Refuses-whole}
use Rattle.dwc_read.proofs.LoneLaws.{entry_with-found, entry_with-end, entry_with-flaw}
use Rattle.dwc_read.proofs.lone.lone_entry.Goals as goal

pub returns-in-Ok-Some : goal.returns-in-Ok-Some
returns-in-Ok-Some c =
    let unit = c.args.unit.now in
    let read : entry_at unit.sections unit.header c.args.table.now 0 c.args.cursor ≡ Ok (Some (found_view c.read.new.self c.in-Ok-Some.field-0-0), c.read.new.cursor) = rw c.in-Ok-Some.field-0-is at c.in-Ok-Some.ensures in
    entry_with-found unit c.args.table.now c.args.cursor c.read.new.cursor _ read

pub returns-in-Ok-None : goal.returns-in-Ok-None
returns-in-Ok-None c =
    let unit = c.args.unit.now in
    let read : entry_at unit.sections unit.header c.args.table.now 0 c.args.cursor ≡ Ok (None, c.read.new.cursor) = rw c.in-Ok-None.field-0-is at c.in-Ok-None.ensures in
    rw (c.no_entry.ensures, c.place-offset.ensures) (entry_with-end unit c.args.table.now c.args.cursor c.read.new.cursor read)

pub returns : goal.returns
returns c =
    let unit = c.args.unit.now in
    let u = c.args.cursor in
    let part = entry_at unit.sections unit.header c.args.table.now 0 u in
    rw (c.refusal.ensures, c.place-offset.ensures) (Refuses-whole EntryRead Info u.place c.in-Err.e part _ (λ flaw read. entry_with-flaw unit c.args.table.now u u flaw read) c.in-Err.ensures)
