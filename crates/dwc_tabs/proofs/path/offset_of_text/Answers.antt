use Rattle.dwc_tabs.specs.Headers.{texts_view}
use Rattle.dwc_tabs.proofs.EntryLaws.{offset_of_text-past}
use Rattle.dwc_tabs.proofs.path.offset_of_text.Goals as goal

pub returns-in_default : goal.returns-in_default
returns-in_default c = offset_of_text-past (texts_view c.args.source.now) c.args.index c.in_default.ensures
