use Rattle.std.proofs.Common.{length}
use Rattle.dwc_base.specs.Units.{unit_headers_from}
use Rattle.dwc_read.proofs.known_tables.named_tables.Given as goal

abbrev pub decreases-loop-header : goal.decreases-loop-header
decreases-loop-header l = length (unit_headers_from l.ahead).items
