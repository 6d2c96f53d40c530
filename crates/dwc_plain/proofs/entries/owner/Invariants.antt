use Rattle.std.proofs.Common.{◌≡◌, ◌≤◌, map, option_map, length, drop}
use Rattle.dwc_native.specs.Functions.{owner}
use Rattle.dwc_plain.specs.PlainEntries.{function_view}
use Rattle.dwc_plain.proofs.entries.owner.Given as goal

-- the owner among the functions from k on was found
abbrev pub invariant-loop-k : goal.invariant-loop-k
invariant-loop-k l = (option_map function_view l.found ≡ owner (map function_view (drop l.k l.functions)) l.address) × (l.k ≤ length l.functions)

abbrev pub decreases-loop-k : goal.decreases-loop-k
decreases-loop-k l = l.k
