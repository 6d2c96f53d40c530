-- The attributes of an entry by their names.
use Rattle.std.specs.Prelude.{◌≡◌, ℕ, ◌==◌, List, Option}
use Rattle.std.specs.List.{position_from}
use Rattle.std.specs.Option.{ForSome}
use Rattle.std.specs.Ordering.{nat_cmp}
use Rattle.std.specs.BTreeMap.{BTreeMap, get}
use Rattle.dwc_unit.specs.declared.attributes.Attribute.{Attribute}

-- the place of the first attribute of a name, among those from a place on
abbrev pub place_from : ℕ → List Attribute → ℕ → Option ℕ
place_from start list name = position_from (λ a. a.name == name) start list

-- An index, where there is one, has the first place of each name.
abbrev pub IsIndexed : List Attribute → Option (BTreeMap ℕ ℕ) → Type 0
IsIndexed list index = ForSome index (λ m. (name : ℕ) → get nat_cmp m name ≡ place_from 0 list name)
