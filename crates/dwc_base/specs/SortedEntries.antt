-- Finite maps as lists: entries in rising order of their keys.
use Rattle.std.specs.Prelude.{ℕ, List, []}
use Rattle.std.specs.List.{fold}
use Rattle.std.specs.declared.cmp.Ordering.{Ordering}
use Rattle.std.specs.Ordering.{nat_cmp, then_cmp}
use Rattle.std.specs.FinMap.{put}

-- The entries of the map that a list of entries gives, in rising order of their keys. Of two entries of one key the later counts.
abbrev pub sorted_entries : {K X : Type 0} → (K → K → Ordering) → List (K × X) → List (K × X)
sorted_entries order entries = fold (λ sorted entry. put order entry.0 entry.1 sorted) [] entries

-- the order of pairs of numbers: by the first, and then by the second
abbrev pub pair_cmp : ℕ × ℕ → ℕ × ℕ → Ordering
pair_cmp = then_cmp (λ x y. nat_cmp x.0 y.0) (λ x y. nat_cmp x.1 y.1)
