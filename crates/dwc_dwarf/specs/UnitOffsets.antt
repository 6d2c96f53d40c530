-- Where units and their entries stand.
use Rattle.std.specs.Prelude.{ℕ, suc, ◌<◌, ◌≤◌, List, [], ◌∷◌}
use Rattle.dwc_base.specs.Sections.{Sections}
use Rattle.dwc_base.specs.Units.{UnitHeader}
use Rattle.dwc_dwarf.specs.Entries.{Entry, entries}

-- offsets of entries rise, from a place on and before another
abbrev pub RiseIn : ℕ → ℕ → List Entry → Type 0
RiseIn from end [] = Unit {0}
RiseIn from end (e ∷ es) = (from ≤ e.offset) × (e.offset < end) × RiseIn (suc e.offset) end es

-- units stand one behind another, from a place on, and in each its entries
abbrev pub StandFrom : Sections → ℕ → List UnitHeader → Type 0
StandFrom s from [] = Unit {0}
StandFrom s from (h ∷ hs) = (from ≤ h.offset) × (h.offset < h.end) × RiseIn h.offset h.end (entries s h).items × StandFrom s h.end hs
