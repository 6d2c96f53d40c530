-- The keys by which functions are found by their starts.
use Rattle.std.specs.Prelude.{ℕ, suc, ◌+◌, ◌*◌, ◌^◌, ◌<◌, ◌≤◌, List, [], ◌∷◌, length, slice_index_or, Option, Some, None, All}
use Rattle.std.specs.List.Sorted.{IsNonDecreasing, IsPermutation}
use Rattle.dwc_native.specs.Functions.{Function}

-- a function's key: its start above its place
abbrev pub start_key : ℕ → ℕ → ℕ
start_key start place = start * 2 ^ 32 + place

-- the keys of some functions, of which the first has a place
abbrev pub start_keys : ℕ → List Function → List ℕ
start_keys place [] = []
start_keys place (f ∷ fs) = start_key f.start place ∷ start_keys (suc place) fs

-- The keys of some functions in rising order.
pub record IsStartTable (fs : List Function) (keys : List ℕ) : Type 0 where
  pub few : length fs ≤ 2 ^ 32
  pub rises : IsNonDecreasing keys
  pub moved : IsPermutation (start_keys 0 fs) keys

-- The place of the owner of an address: its function begins at or below the address, none that does so begins above it,
-- and none of those behind it begins where it does.
pub record IsOwnerPlace (fs : List Function) (a k : ℕ) : Type 0 where
  pub inside : k < length fs
  pub below : (d : Function) → (slice_index_or fs k d).start ≤ a
  pub greatest : (j : ℕ) (d : Function) → j < length fs → (slice_index_or fs j d).start ≤ a → (slice_index_or fs j d).start ≤ (slice_index_or fs k d).start
  pub last : (j : ℕ) (d : Function) → k < j → j < length fs → (slice_index_or fs j d).start ≤ a → (slice_index_or fs j d).start < (slice_index_or fs k d).start

-- that place, or none where all functions begin above the address
abbrev pub IsOwnerPlaceIf : List Function → ℕ → Option ℕ → Type 0
IsOwnerPlaceIf fs a None = All (λ f. a < f.start) fs
IsOwnerPlaceIf fs a (Some k) = IsOwnerPlace fs a k
