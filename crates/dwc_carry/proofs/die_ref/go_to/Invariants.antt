use Rattle.std.proofs.Common.{◌≡◌, length}
use Rattle.dwc_rules.specs.Targets.{entry_in_listing}
use Rattle.dwc_carry.proofs.die_ref.go_to.Given as goal

-- what is left answers what all answer
abbrev pub invariant-loop-entries : goal.invariant-loop-entries
invariant-loop-entries l = entry_in_listing l.place l.entries.left ≡ entry_in_listing l.fn.place l.fn.entries.left

abbrev pub decreases-loop-entries : goal.decreases-loop-entries
decreases-loop-entries l = length l.entries.left.items
