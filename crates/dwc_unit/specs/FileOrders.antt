-- The links between the entries of a unit by which file order is found.
use Rattle.std.specs.Prelude.{◌≡◌, ℕ, suc, ◌<◌, ◌≤◌, ◌⊎◌, List, [], ◌∷◌, length, drop, get_or, ◌==◌, if◌then◌else◌}
use Rattle.dwc_unit.specs.declared.file_order.FilePlace.{FilePlace}
use Rattle.dwc_unit.specs.GivenUnits.{Addition, GivenEntry, below, entry_at}

abbrev pub no_addition : Addition
no_addition = record { parent = 0; tag = 0; attributes = [] }

-- an entry in file order, of the entry at its place
abbrev pub looked_up : List Addition → FilePlace → GivenEntry
looked_up added f = entry_at f.depth f.index (get_or added f.index no_addition)

-- an entry at a depth, where there is one
abbrev pub linked_place : ℕ → ℕ → List FilePlace
linked_place index depth = if index == 0 then [] else record { index = index; depth = depth } ∷ []

-- What a link to an entry of some depth stands for: the entry with what is below it, its next sibling and so on; 0 for none.
abbrev pub linked : List Addition → ℕ → ℕ → List GivenEntry
linked added depth index = if index == 0 then [] else below depth (get_or added index no_addition).parent index (drop index added)

-- A link leads to a place or behind it, and stands for the entries below a parent from that place on.
pub record IsLink (added : List Addition) (parent place index : ℕ) : Type 0 where
  pub behind : (index ≡ 0) ⊎ ((place ≤ index) × (index < length added))
  pub entries : (depth : ℕ) → linked added depth index ≡ below depth parent place (drop place added)

-- Each entry has a link to its first child, and each but the root one to its next sibling.
pub record AreLinked (added : List Addition) (first_children next_siblings : List ℕ) : Type 0 where
  pub first_length : length first_children ≡ length added
  pub next_length : length next_siblings ≡ length added
  pub first : (place : ℕ) → place < length added → IsLink added place (suc place) (get_or first_children place 0)
  pub next : (place : ℕ) → 0 < place → place < length added → IsLink added (get_or added place no_addition).parent (suc place) (get_or next_siblings place 0)
