use Rattle.dwc_read.proofs.SkipLaws.{passed_bytes-longer}
use Rattle.dwc_read.proofs.skips.longer_skip.Goals as goal

pub returns : goal.returns
returns c = λ spec specs sized skip. passed_bytes-longer spec specs c.args.skip.attributes c.args.skip.bytes c.args.size sized skip
