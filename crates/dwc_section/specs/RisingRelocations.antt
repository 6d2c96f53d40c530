-- Relocations in the order of their places.
use Rattle.std.specs.Prelude.{ℕ, ◌+◌, ◌≤◌, List, [], ◌∷◌, length}
use Rattle.dwc_base.specs.Outputs.{OutputRelocation, OutputSection}

-- one behind another between two places
abbrev pub RelocationsRise : ℕ → ℕ → List OutputRelocation → Type 0
RelocationsRise low high [] = low ≤ high
RelocationsRise low high (r ∷ rs) = (low ≤ r.offset) × RelocationsRise (r.offset + r.size) high rs

-- those of a section, within its body
abbrev pub DoRelocationsRise : OutputSection → Type 0
DoRelocationsRise s = RelocationsRise 0 (length s.body) s.relocations
