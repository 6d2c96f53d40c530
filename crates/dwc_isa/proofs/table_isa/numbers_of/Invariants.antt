use Rattle.std.proofs.Common.{◌≡◌, ℕ, ◌≤◌, drop, length, nat_cmp}
use Rattle.std.specs.BTreeMap.{get}
use Rattle.dwc_isa.specs.Registers.{number_in}
use Rattle.dwc_isa.proofs.table_isa.numbers_of.Given as goal

-- the numbers are those of the entries from k on
abbrev pub invariant-loop-k : goal.invariant-loop-k
invariant-loop-k l = ((register : ℕ) → get nat_cmp l.numbers register ≡ number_in (drop l.k l.table) register) × (l.k ≤ length l.table)

abbrev pub decreases-loop-k : goal.decreases-loop-k
decreases-loop-k l = l.k
