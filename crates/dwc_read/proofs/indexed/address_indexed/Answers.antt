use Rattle.std.proofs.Common.{ap, ◌∙◌}
use Rattle.dwc_dwarf.specs.Indexed.{address_from}
use Rattle.dwc_read.specs.Headers.{header_view}
use Rattle.dwc_read.proofs.NumberLaws.{field_size-some}
use Rattle.dwc_read.proofs.IndexedLaws.{address_from-past}
use Rattle.dwc_read.proofs.indexed.address_indexed.Goals as goal

pub returns-in_default-item_from : goal.returns-in_default-item_from
returns-in_default-item_from c =
    let s = c.args.sections.now in
    let h = header_view c.args.header.now in
    let some = field_size-some h.address_size c.args.header.now.known_size in
    ap (λ base. address_from s h base c.args.index) c.in-Some.is ∙ address_from-past s h c.in-Some.base c.args.index some (rw c.bytes-bytes.ensures.bytes at c.in_default-item_from.ensures)
