use Rattle.std.proofs.Common.{ℕ, ◌≡◌, ◌++◌, ◌<◌, ◌^◌, get_or, drop}
use Rattle.dwc_addr.specs.declared.stretch.Stretch.{Stretch}
use Rattle.dwc_addr.specs.Stretches.{source_keys}
use Rattle.dwc_addr.proofs.shown.source_table.Given as goal

-- the keys so far, and those of the stretches that are left, are all
abbrev pub invariant-loop-i : goal.invariant-loop-i
invariant-loop-i l =
    ((k : ℕ) (d : Stretch) → k < l.i → (get_or l.stretches k d).source < 2 ^ 32)
    × (l.keys.items ++ source_keys l.block l.i (drop l.i l.stretches) ≡ source_keys l.block 0 l.stretches)
