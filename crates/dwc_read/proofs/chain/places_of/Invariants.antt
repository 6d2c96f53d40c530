use Rattle.std.proofs.Common.{◌≡◌, ℕ, ◌≤◌, drop, length, map, nat_cmp}
use Rattle.std.specs.BTreeMap.{get}
use Rattle.dwc_read.specs.Codes.{place_from}
use Rattle.dwc_read.specs.Tables.{declaration_view}
use Rattle.dwc_read.proofs.chain.places_of.Given as goal

-- the index has the places of the declarations from k on
abbrev pub invariant-loop-k : goal.invariant-loop-k
invariant-loop-k l = ((code : ℕ) → get nat_cmp l.places code ≡ place_from l.k (map declaration_view (drop l.k l.declarations)) code) × (l.k ≤ length l.declarations)

abbrev pub decreases-loop-k : goal.decreases-loop-k
decreases-loop-k l = l.k
