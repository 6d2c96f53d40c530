use Rattle.dwc_read.proofs.IndexedLaws.{text_in-past}
use Rattle.dwc_read.proofs.indexed.text_in.Goals as goal

pub returns-in_default : goal.returns-in_default
returns-in_default c =
    let s = c.args.sections.now in
    text_in-past s.order (s.bytes c.args.name) c.args.offset (rw c.bytes.ensures.bytes at c.in_default.ensures)
