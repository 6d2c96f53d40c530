-- Entries, as a unit keeps them: their attributes stand in one list of all, or in lists of their own.
use Rattle.std.specs.Prelude.{◌≡◌, ◌⊎◌, ℕ, ◌+◌, ◌<◌, ◌≤◌, Bool, true, List, [], ◌∷◌, length, drop, take, get_or, Some, None}
use Rattle.dwc_unit.specs.declared.additions.Entry.{Entry}
use Rattle.dwc_unit.specs.declared.attributes.Attribute.{Attribute}
use Rattle.dwc_unit.specs.GivenUnits.{Addition}

-- so many of a list from a place on
abbrev pub part_of : ℕ → ℕ → List Attribute → List Attribute
part_of begin count shared = take count (drop begin shared)

abbrev pub attributes_in : List Attribute → List (List Attribute) → Entry → List Attribute
attributes_in shared own e = elim e.own [ None ↦ part_of e.begin e.count shared | Some place ↦ get_or own place [] ]

abbrev pub addition_in : List Attribute → List (List Attribute) → Entry → Addition
addition_in shared own e = record { parent = e.parent; tag = e.tag; attributes = attributes_in shared own e }

-- The parts of entries stand from a place on, one behind another.
abbrev pub AreApart : ℕ → List Attribute → List Entry → Type 0
AreApart from shared [] = from ≤ length shared
AreApart from shared (e ∷ es) = (from ≤ e.begin) × AreApart (e.begin + e.count) shared es

-- The list of an entry's own, where it has one, is one of so many.
abbrev pub IsOwnWithin : ℕ → Entry → Type 0
IsOwnWithin many e = (place : ℕ) → e.own ≡ Some place → place < many

-- No two entries have one list of their own.
pub record AreOwned (many : ℕ) (es : List Entry) : Type 0 where
  pub within : (i : ℕ) (d : Entry) → i < length es → IsOwnWithin many (get_or es i d)
  pub apart : (i j place : ℕ) (d : Entry) → i < length es → j < length es → (get_or es i d).own ≡ Some place → (get_or es j d).own ≡ Some place → i ≡ j

-- The attributes of each entry stand where those of no other do.
pub record AreHeld (shared : List Attribute) (many : ℕ) (es : List Entry) : Type 0 where
  pub apart : AreApart 0 shared es
  pub owned : AreOwned many es

-- Of lists, those at other places than one stay.
pub record AreOthersKept (place : ℕ) (own own_now : List (List Attribute)) : Type 0 where
  pub many : length own_now ≡ length own
  pub others : (i : ℕ) → (i ≡ place → ⊥) → get_or own_now i [] ≡ get_or own i []

-- Of the list of all, what stands outside of an entry's part stays.
pub record IsPartChanged (e : Entry) (shared shared_now : List Attribute) : Type 0 where
  pub many : length shared_now ≡ length shared
  pub outside : (i : ℕ) (d : Attribute) → i < length shared → (i < e.begin) ⊎ (e.begin + e.count ≤ i) → get_or shared_now i d ≡ get_or shared i d

-- An entry has changed: its part begins where it did, and grows only where it is the last one's; all outside of it stays, and so do the
-- lists of other entries' own.
pub record IsChanged (is_last : Bool) (e : Entry) (shared : List Attribute) (own : List (List Attribute)) (now : Entry) (shared_now : List Attribute) (own_now : List (List Attribute)) : Type 0 where
  pub begin : now.begin ≡ e.begin
  pub count : (now.count ≡ e.count) ⊎ ((is_last ≡ true) × (e.begin + now.count ≤ length shared_now))
  pub longer : length shared ≤ length shared_now
  pub outside : (i : ℕ) (d : Attribute) → i < length shared → (i < e.begin) ⊎ (e.begin + e.count ≤ i) → get_or shared_now i d ≡ get_or shared i d
  pub owned : (now.own ≡ e.own) ⊎ ((now.own ≡ Some (length own)) × (length own < length own_now))
  pub more : length own ≤ length own_now
  pub others : (i : ℕ) → i < length own → (e.own ≡ Some i → ⊥) → get_or own_now i [] ≡ get_or own i []

-- The part of an entry can grow: nothing stands behind it.
pub record IsOpen (e : Entry) (shared : List Attribute) : Type 0 where
  pub last : e.begin + e.count ≡ length shared
  pub few : e.count < 65535
