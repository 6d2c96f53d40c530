-- The runs of a function as an address transform finds them.
use Rattle.std.specs.Prelude.{ℕ, zero, suc, ◌-◌, ◌≤◌, nat_lt, if◌then◌else◌, List, map, length, take, drop, slice_index_or}
use Rattle.std.specs.List.Sorted.{IsNonDecreasingBy}
use Rattle.dwc_native.specs.Runs as base
use Rattle.dwc_native.specs.Runs.{Position, source_positions, joined_positions}
use Rattle.dwc_addr.specs.declared.address_map.AddressMap.{AddressMap}
use Rattle.dwc_addr.specs.declared.function_map.FunctionMap.{FunctionMap}
use Rattle.dwc_addr.specs.declared.run.Run.{Run}
use Rattle.dwc_compiled.specs.Gaps.{merged}
pub use Rattle.dwc_addr.specs.RunBounds.{no_source}
use Rattle.dwc_addr.specs.Runs.{recorded_view}

-- the positions of a function's sources, one for each
abbrev pub positions_of : FunctionMap → List Position
positions_of m = source_positions m.len (merged m.gaps.now 0 (map recorded_view m.addresses))

-- the positions of a run's sources
abbrev pub positions_in : FunctionMap → Run → List Position
positions_in m r = take (r.behind - r.first) (drop r.first (positions_of m))

-- a run, with its positions
abbrev pub run_view : FunctionMap → Run → base.Run
run_view m r = record { wasm_start = r.wasm_start; wasm_end = r.wasm_end; start = r.start; end = r.end; positions = joined_positions (positions_in m r) }

-- the source at a place
abbrev pub source_at : FunctionMap → ℕ → AddressMap
source_at m place = slice_index_or m.addresses place no_source

-- where a run begins: the place of its first source, and where it begins in the wasm code and in the native code
abbrev pub begin_of : FunctionMap → ℕ → ℕ × ℕ × ℕ
begin_of m zero = (0, m.wasm_start, 0)
begin_of m (suc k) = (slice_index_or m.later_runs.items k 0, (source_at m (slice_index_or m.later_runs.items k 0)).wasm, (source_at m (slice_index_or m.later_runs.items k 0)).generated)

-- where it ends: the place behind its last source, and where it ends in the wasm code and in the native code
abbrev pub end_of : FunctionMap → ℕ → ℕ × ℕ × ℕ
end_of m k =
    if nat_lt k (length m.later_runs.items)
    then (slice_index_or m.later_runs.items k 0, (source_at m (slice_index_or m.later_runs.items k 0 - 1)).wasm, (source_at m (slice_index_or m.later_runs.items k 0)).generated)
    else (length m.addresses, m.wasm_end, m.len)

-- A run's sources are some of its function's, and do not fall.
pub record IsRunOf (m : FunctionMap) (r : Run) : Type 0 where
  pub low : r.first ≤ r.behind
  pub inside : r.behind ≤ length m.addresses
  pub rises : IsNonDecreasingBy (λ e. e.wasm) (take (r.behind - r.first) (drop r.first m.addresses))
