use Rattle.std.proofs.Common.{◌+◌, ◌-◌, ◌<◌, ◌≤◌, get_or}
use Rattle.dwc_addr.specs.declared.address_map.AddressMap.{AddressMap}
use Rattle.dwc_image.proofs.RunLaws.{AreBelow}
use Rattle.dwc_image.proofs.image.behind_by_halves.Given as goal

-- those in front of what is left are below the limit, and the one behind it, if there is one, is not
abbrev pub invariant-loop-low : goal.invariant-loop-low
invariant-loop-low l =
    (l.from ≤ l.low) × (l.low ≤ l.high) × (l.high ≤ l.end)
    × AreBelow (λ s. s.wasm) l.sources l.from (l.start + l.offset) l.low
    × ((d : AddressMap) → l.high < l.end → l.start + l.offset ≤ (get_or l.sources l.high d).wasm)

abbrev pub decreases-loop-low : goal.decreases-loop-low
decreases-loop-low l = l.high - l.low
