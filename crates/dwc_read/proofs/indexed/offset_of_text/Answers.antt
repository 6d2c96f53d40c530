use Rattle.dwc_read.specs.Elsewhere.{texts_from}
use Rattle.dwc_read.proofs.IndexedLaws.{offset_of_text-past}
use Rattle.dwc_read.proofs.indexed.offset_of_text.Goals as goal

pub returns-in_default : goal.returns-in_default
returns-in_default c = offset_of_text-past (texts_from c.args.sections.now c.args.base) c.args.index (rw c.bytes-bytes.ensures.bytes at c.in_default.ensures)
