use Rattle.std.proofs.Common.{◌≡◌, length}
use Rattle.dwc_addr.specs.RunBounds.{wasm_begin, wasm_end, AreRunBounds}
use Rattle.dwc_addr.proofs.bounds.run_bounds.Given as goal

-- as many runs as were passed, each with its bounds, and the next one's begin
abbrev pub invariant-loop-place : goal.invariant-loop-place
invariant-loop-place l =
    (length l.bounds.items ≡ l.place-index)
    × (l.begin ≡ wasm_begin l.start l.sources l.later_runs l.place-index)
    × AreRunBounds (wasm_begin l.start l.sources l.later_runs) (wasm_end l.end l.sources l.later_runs) (length l.later_runs) l.bounds.items
