use Rattle.std.proofs.Common.{arith, refl}
use Rattle.dwc_addr.proofs.EntryLaws.{within-once}
use Rattle.dwc_addr.proofs.maps.lies_within.Goals as goal

pub returns : goal.returns
returns c = within-once c.args.start c.args.end c.args.offset _ refl c.requires (omega arith) (omega arith)
