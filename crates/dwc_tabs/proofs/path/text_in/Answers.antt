use Rattle.dwc_tabs.proofs.EntryLaws.{text_in-past}
use Rattle.dwc_tabs.proofs.path.text_in.Goals as goal

pub returns-in_default : goal.returns-in_default
returns-in_default c = text_in-past c.args.order c.args.section.now c.args.offset c.in_default.ensures
