-- What searches by halves find among the sources of a run.
use Rattle.std.specs.Prelude.{◌≡◌, ℕ, ◌+◌, ◌<◌, ◌≤◌, ◌==◌, ◌&&◌, nat_lt, List, length, slice_index_or, if◌then◌else◌, Option, Some, None}
use Rattle.dwc_addr.specs.declared.address_map.AddressMap.{AddressMap}
use Rattle.dwc_addr.specs.RunViews.{no_source}

-- so many of a list have a number below one, and the others do not
pub record IsCountBelow {X : Type 0} (n : X → ℕ) (xs : List X) (a count : ℕ) : Type 0 where
  pub inside : count ≤ length xs
  pub below : (i : ℕ) (d : X) → i < count → n (slice_index_or xs i d) < a
  pub above : (i : ℕ) (d : X) → count ≤ i → i < length xs → a ≤ n (slice_index_or xs i d)

-- so many have a number that is not above one, and the others do not
pub record IsCountUpTo {X : Type 0} (n : X → ℕ) (xs : List X) (a count : ℕ) : Type 0 where
  pub inside : count ≤ length xs
  pub below : (i : ℕ) (d : X) → i < count → n (slice_index_or xs i d) ≤ a
  pub above : (i : ℕ) (d : X) → count ≤ i → i < length xs → a < n (slice_index_or xs i d)

-- There are so many, and the last of them has a number below one. Where the numbers do not fall, all of them have.
abbrev pub AreBelow : {X : Type 0} → (X → ℕ) → List X → ℕ → ℕ → Type 0
AreBelow {X} n xs a count = (count ≤ length xs) × ((k : ℕ) (d : X) → k + 1 ≡ count → n (slice_index_or xs k d) < a)

-- where the source at a place begins, if there is one with a wasm offset
abbrev pub start_at : List AddressMap → ℕ → ℕ → Option ℕ
start_at xs place a = if nat_lt place (length xs) && ((slice_index_or xs place no_source).wasm == a) then Some (slice_index_or xs place no_source).generated else None

-- where it begins, or else another native offset
abbrev pub start_or : List AddressMap → ℕ → ℕ → ℕ
start_or xs place other = if nat_lt place (length xs) then (slice_index_or xs place no_source).generated else other
