-- The entries that are kept from some required ones on, and what it means that they are the fewest. (This project's own rule.)
use Rattle.std.specs.Prelude.{◌≢◌, ℕ, ◌==◌, Bool, List, length, IsTrue, Contains, AllPairs}
use Rattle.std.specs.List.{list_any}
use Rattle.dwc_rules.specs.Kept.{Placed, keeps, steps_of}

-- the entries kept with some required ones: as many steps from these as there are entries
unfoldable pub kept_with : List Placed → List Placed → List Placed
kept_with es required = steps_of (length es) es required

-- some entries lie in a set of places
abbrev pub LieIn : (ℕ → Bool) → List Placed → Type 0
LieIn set es = (e : Placed) → Contains es e → IsTrue (set e.entry.offset)

-- a set of places is closed: it holds what an entry in it keeps
abbrev pub IsClosed : List Placed → (ℕ → Bool) → Type 0
IsClosed es set = (e f : Placed) → Contains es e → Contains es f → IsTrue (set e.entry.offset) → IsTrue (keeps es e f) → IsTrue (set f.entry.offset)

-- whether an entry at a place is among some
abbrev pub has_place : List Placed → ℕ → Bool
has_place es place = list_any (λ e. e.entry.offset == place) es

-- Some entries are the least closed set that holds the required ones.
pub record AreLeast (es required kept : List Placed) : Type 0 where
  pub among : (e : Placed) → Contains kept e → Contains es e
  pub required_kept : LieIn (has_place kept) required
  pub closed : IsClosed es (has_place kept)
  pub least : (set : ℕ → Bool) → LieIn set required → IsClosed es set → LieIn set kept

-- The law: of entries at places of their own, those kept from some of them on are the least closed set that holds these.
abbrev pub KeptAreLeast : List Placed → List Placed → Type 0
KeptAreLeast es required = AllPairs (λ e f. e.entry.offset ≢ f.entry.offset) es → ((e : Placed) → Contains required e → Contains es e) → AreLeast es required (kept_with es required)
