-- The runs of a function's recorded sources, along which the sources do not fall.
use Rattle.std.specs.Prelude.{ℕ, suc, nat_lt, List, [], ◌∷◌, if◌then◌else◌}
use Rattle.dwc_native.specs.Functions.{Recorded}
use Rattle.dwc_addr.specs.declared.address_map.AddressMap.{AddressMap}

-- a recorded source
abbrev pub recorded_view : AddressMap → Recorded
recorded_view e = record { native = e.generated; wasm = e.wasm }

-- The places of the sources that lie below the one before. The first source has a place, and before it is a source.
abbrev pub run_starts : ℕ → ℕ → List Recorded → List ℕ
run_starts place before [] = []
run_starts place before (e ∷ es) = if nat_lt e.wasm before then place ∷ run_starts (suc place) e.wasm es else run_starts (suc place) e.wasm es
