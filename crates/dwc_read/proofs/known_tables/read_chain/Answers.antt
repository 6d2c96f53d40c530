use Rattle.std.proofs.Common.{◌≡◌, refl, drop, map}
use Rattle.dwc_base.specs.declared.section_name.SectionName.TheVariants.{Abbrev}
use Rattle.dwc_base.specs.Sections.{section_from}
use Rattle.dwc_read.specs.KnownTables.{AreNumbered}
use Rattle.dwc_read.specs.Tables.{declaration_view}
use Rattle.dwc_read.proofs.TableLaws.{abbreviation_table-told}
use Rattle.dwc_read.proofs.known_tables.read_chain.Goals as goal

pub returns : goal.returns
returns c = λ number offset here.
    let s = c.args.sections.now in
    let read = c.in_ok-read.read in
    let at : c.at-cursor.result ≡ section_from s Abbrev c.args.offset = rw (← c.bytes-bytes.ensures.bytes, ← c.order.ensures) c.at-cursor.ensures in
    let numbered : AreNumbered s.order (s.bytes Abbrev) read = (rw at at c.in_ok-read.ensures) (s.bytes Abbrev) refl in
    let told = abbreviation_table-told s offset read.flaw (drop number (map declaration_view read.declarations.items)) (numbered.told number offset here) in
    rw (c.in_ok-new-2.ensures.ok, c.in_ok-new.ensures) told
