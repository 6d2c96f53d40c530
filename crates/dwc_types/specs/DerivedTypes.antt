-- The derived types that were read of a unit.
use Rattle.std.specs.Prelude.{◌≡◌, ℕ, ◌+◌, ◌-◌, ◌^◌, ◌<◌, ◌≤◌, ◌==◌, ◌&&◌, if◌then◌else◌, Bool, false, List, length, slice_get, Option, Some, None}
use Rattle.std.specs.Ordering.{nat_cmp}
use Rattle.std.specs.BTreeMap.{get}
use Rattle.std.specs.List.{list_any, sum_by}
use Rattle.dwc_rules.specs.TypeNames.{unknown}
use Rattle.dwc_types.specs.declared.known_type.DerivedType.{DerivedType}
use Rattle.dwc_types.specs.declared.known_type.KnownTypes.{KnownTypes}

-- whether one of them is there, and is that at an offset
abbrev pub is_found : Option DerivedType → ℕ → Bool
is_found None offset = false
is_found (Some t) offset = t.offset == offset

-- whether that at a place is the one at an offset
abbrev pub is_at : List DerivedType → ℕ → ℕ → Bool
is_at types place offset = is_found (slice_get types place) offset

-- one of them, met on the chain of a number
abbrev pub at_walk : ℕ → DerivedType → DerivedType
at_walk walk t = record { offset = t.offset; tag = t.tag; next = t.next; near = t.near; walk = walk }

-- whether that at an offset was met on the chain of a number
abbrev pub met_in : ℕ → List DerivedType → ℕ → Bool
met_in walk types offset = list_any (λ t. (t.walk == walk) && (t.offset == offset)) types

-- how many are left to be read or to be met on a chain
abbrev pub room : ℕ → List DerivedType → ℕ
room walk types = (2 ^ 64 - length types) + sum_by (λ t. if t.walk == walk then 0 else 1) types

-- Some are added, of which none was met on a chain.
pub record AddsUnmet (old new : List DerivedType) : Type 0 where
  pub marks : (walk offset : ℕ) → 0 < walk → met_in walk new offset ≡ met_in walk old offset
  pub fewer : (walk : ℕ) → room walk new ≤ room walk old

-- the name that is kept of the type at an offset
abbrev pub end_of : KnownTypes → ℕ → List ℕ
end_of types offset = elim (get nat_cmp types.ends offset) [ None ↦ unknown | Some name ↦ name.items ]
