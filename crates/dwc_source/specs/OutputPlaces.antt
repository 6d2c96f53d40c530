-- Where the entries of a module stand in the output.
use Rattle.std.specs.Prelude.{◌≡◌, ℕ, suc, ◌+◌, ◌<◌, ◌≤◌, ◌==◌, List, length, get_or, [], ◌∷◌, map, if◌then◌else◌, Option, Some, None, option_map}
use Rattle.std.specs.List.{find}
use Rattle.dwc_source.specs.declared.places.EmittedEntry.{EmittedEntry}
use Rattle.dwc_source.specs.declared.places.OutputPlace.{OutputPlace}

-- entries of a unit by their offsets, the first of them with a number
abbrev pub numbered : ℕ → ℕ → List ℕ → List EmittedEntry
numbered unit entry [] = []
numbered unit entry (o ∷ os) = record { offset = o; unit = unit; entry = entry } ∷ numbered unit (suc entry) os

-- the offsets of entries
abbrev pub offsets_of : List EmittedEntry → List ℕ
offsets_of es = map (λ e. e.offset) es

-- a unit's number, and an entry's number there
abbrev pub place_pair : OutputPlace → ℕ × ℕ
place_pair p = (p.unit, p.entry)

-- where an entry stands, if it is at an offset
abbrev pub place_at : ℕ → EmittedEntry → Option (ℕ × ℕ)
place_at offset e = if e.offset == offset then Some (e.unit, e.entry) else None

-- where the entry at an offset stands, if it is in the output
abbrev pub place_of : List EmittedEntry → ℕ → Option (ℕ × ℕ)
place_of es offset = option_map (λ e. (e.unit, e.entry)) (find (λ e. e.offset == offset) es)

-- So many entries are there, and the last of them is before an offset. Where offsets do not fall, all of them are.
abbrev pub AreBefore : ℕ → List EmittedEntry → ℕ → Type 0
AreBefore offset es count = (count ≤ length es) × ((k : ℕ) (d : EmittedEntry) → k + 1 ≡ count → (get_or es k d).offset < offset)
