use Rattle.std.proofs.Common.{◌≡◌, ℕ, ◌≤◌, map, drop, length, nat_cmp, true}
use Rattle.std.specs.BTreeSet.{contains}
use Rattle.dwc_isa.specs.Registers.{numbers}
use Rattle.dwc_map.specs.MapValues.{has_key, have_distinct_keys}
use Rattle.dwc_map.proofs.registers.are_distinct.Given as goal

-- the registers from k on are distinct, and are those that were seen
abbrev pub invariant-loop-k : goal.invariant-loop-k
invariant-loop-k l = record {
  inside : l.k ≤ length l.registers;
  distinct : have_distinct_keys (map numbers (drop l.k l.registers)) ≡ true;
  seen : (register : ℕ) → contains nat_cmp l.seen register ≡ has_key (map numbers (drop l.k l.registers)) register;
}

abbrev pub decreases-loop-k : goal.decreases-loop-k
decreases-loop-k l = l.k
