use Rattle.std.proofs.Common.{◌∙◌, sym}
use Rattle.dwc_addr.proofs.StretchLaws.{first-kept, first-none}
use Rattle.dwc_addr.proofs.shown.first_source.Goals as goal

pub returns-in-Some : goal.returns-in-Some
returns-in-Some c = first-kept c.args.sources.now c.in-Some.source c.args.start (sym c.get.ensures ∙ c.in-Some.is)

pub returns-in-None : goal.returns-in-None
returns-in-None c = first-none c.args.sources.now c.args.start (sym c.get.ensures ∙ c.in-None.is)
