-- Trees that tell entries by their numbers, where these are told by their places instead.
use Rattle.std.specs.Prelude.{ℕ, List, map, length, Option, option_map, option_and_then, slice_get}
use Rattle.std.specs.List.{All}
use Rattle.dwc_dwarf.specs.Trees.{TreeValue, entry, TreeEntry, Tree}
use Rattle.dwc_output.specs.TreeReading.{entry_or_nothing}
use Rattle.dwc_unit.specs.GivenUnits.{GivenUnit, IsPlaceBelow, place_of}

-- a value with the entry of a unit and a number told by its unit and place: nothing where none has that number
abbrev pub renumbered : (ℕ → ℕ → Option (ℕ × ℕ)) → TreeValue → TreeValue
renumbered places (entry unit number) = entry_or_nothing (places unit number)
renumbered places v = v

-- the same of an attribute
abbrev pub renumbered_attribute : (ℕ → ℕ → Option (ℕ × ℕ)) → ℕ × TreeValue → ℕ × TreeValue
renumbered_attribute places a = (a.0, renumbered places a.1)

-- the same of an entry
abbrev pub renumbered_entry : (ℕ → ℕ → Option (ℕ × ℕ)) → TreeEntry → TreeEntry
renumbered_entry places e = record { depth = e.depth; tag = e.tag; attributes = map (renumbered_attribute places) e.attributes }

-- the same of trees
abbrev pub renumbered_trees : (ℕ → ℕ → Option (ℕ × ℕ)) → List Tree → List Tree
renumbered_trees places ts = map (map (renumbered_entry places)) ts

-- the unit and the place of the entry of a unit and a number among given units: none where the number is only reserved
abbrev pub place_at : List GivenUnit → ℕ → ℕ → Option (ℕ × ℕ)
place_at us unit number = option_map (λ place. (unit, place)) (option_and_then (λ u. place_of number u.places) (slice_get us unit))

-- Each number of a unit that is not only reserved is that of an entry which is there.
abbrev pub LeadsToEntries : GivenUnit → Type 0
LeadsToEntries u = All (IsPlaceBelow (length u.additions)) u.places
