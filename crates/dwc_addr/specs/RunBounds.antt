-- Bounds of the runs of a function in the wasm code.
use Rattle.std.specs.Prelude.{ℕ, zero, suc, ◌+◌, ◌-◌, ◌*◌, ◌≤◌, ◌<◌, nat_lt, List, length, if◌then◌else◌, slice_index_or, ◌⊎◌}
use Rattle.dwc_addr.specs.declared.address_map.AddressMap.{AddressMap}
use Rattle.dwc_addr.specs.declared.bounds.Bounds.{Bounds}

-- what stands past the end of sources, and of bounds
abbrev pub no_source : AddressMap
no_source = record { generated = 0; wasm = 0 }

abbrev pub no_bounds : Bounds
no_bounds = record { begin = 0; end = 0 }

-- where the run with a number begins, of a function that begins at a wasm offset
abbrev pub wasm_begin : ℕ → List AddressMap → List ℕ → ℕ → ℕ
wasm_begin start sources later zero = start
wasm_begin start sources later (suc k) = (slice_index_or sources (slice_index_or later k 0) no_source).wasm

-- where it ends, of a function that ends at a wasm offset
abbrev pub wasm_end : ℕ → List AddressMap → List ℕ → ℕ → ℕ
wasm_end end sources later k = if nat_lt k (length later) then (slice_index_or sources (slice_index_or later k 0 - 1) no_source).wasm else end

-- bounds enclose others
abbrev pub Encloses : Bounds → ℕ → ℕ → Type 0
Encloses b begin end = (b.begin ≤ begin) × (end ≤ b.end)

-- The bounds of runs, by where each begins and ends up to the last; runs behind the list have none.
abbrev pub AreRunBounds : (ℕ → ℕ) → (ℕ → ℕ) → ℕ → List Bounds → Type 0
AreRunBounds begins ends last bounds = (k : ℕ) → k < length bounds → k ≤ last → Encloses (slice_index_or bounds k no_bounds) (begins k) (ends k)

-- The bounds of blocks of 64 runs, by those of the runs.
abbrev pub AreBlockBounds : List Bounds → List Bounds → Type 0
AreBlockBounds bounds blocks = (b i : ℕ) → b < length blocks → 64 * b ≤ i → i < 64 * b + 64
    → (i < length bounds) × Encloses (slice_index_or blocks b no_bounds) (slice_index_or bounds i no_bounds).begin (slice_index_or bounds i no_bounds).end

-- an interval begins behind bounds, or ends in front of them
abbrev pub IsApart : Bounds → ℕ → ℕ → Type 0
IsApart b start end = (end ≤ b.begin) ⊎ (b.end < start)
