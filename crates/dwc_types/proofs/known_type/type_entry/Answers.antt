use Rattle.dwc_read.specs.EntriesSeen.{entry_view}
use Rattle.dwc_read.proofs.ReadValueLaws.{entry-read}
use Rattle.dwc_types.proofs.TypeFoundLaws.{read-alike}
use Rattle.dwc_types.proofs.known_type.type_entry.Goals as goal

pub returns-clause-alike : goal.returns-clause-alike
returns-clause-alike c number s f source emitted at = read-alike c.args.source.now number s f c.args.offset (entry_view c.in_ok-entry_at.field-0) source emitted at c.in_ok-entry_at.ensures

pub returns-clause-read : goal.returns-clause-read
returns-clause-read c = entry-read c.args.source.now.unit.now c.args.offset (entry_view c.in_ok-entry_at.field-0) c.section.ensures.below c.in_ok-entry_at.ensures
