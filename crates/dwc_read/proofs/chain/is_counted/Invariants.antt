use Rattle.std.proofs.Common.{◌≡◌, ◌+◌, drop, map}
use Rattle.dwc_read.specs.Codes.{counts_from}
use Rattle.dwc_read.specs.Tables.{declaration_view}
use Rattle.dwc_read.proofs.chain.is_counted.Given as goal

-- they count where what is left goes on counting
abbrev pub invariant-loop-i : goal.invariant-loop-i
invariant-loop-i l = counts_from (l.i + 1) (map declaration_view (drop l.i l.declarations)) ≡ counts_from 1 (map declaration_view l.declarations)
