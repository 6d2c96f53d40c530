-- The units of an output as trees, put together from entries whose references still go to goals. (This project's own order of
-- units.)
use Rattle.std.specs.Prelude.{ℕ, ◌+◌, ◌==◌, List, [], ◌∷◌, ◌++◌, map, length, Bool, false, nat_lt, ◌&&◌, if◌then◌else◌, Option, Some, None, option_map, option_to_list}
use Rattle.std.specs.List.{filter_map}
use Rattle.dwc_dwarf.specs.Trees.{TreeValue, entry, TreeEntry, Tree, set_in_order, place_among}
use Rattle.dwc_rules.specs.Drafts.{Role, itself, pointer_to_wrapper, reference_to_target, pointer_to_target, Goal, made_of, synthetic_entry, DraftValue, done, goes_to, Draft}

-- ---- goals

-- The entries of the units of a module, before their places are known: of its synthetic unit, where it has one, and of its carried units
-- in order.
pub record ModuleDrafts : Type 0 where
  pub synthetic : Option (List Draft)
  pub carried : List (List Draft)

-- the units in the order of the output
abbrev pub units_drafted : ModuleDrafts → List (List Draft)
units_drafted m = option_to_list m.synthetic ++ m.carried

-- roles by number
abbrev pub role_number : Role → ℕ
role_number itself = 0
role_number pointer_to_wrapper = 1
role_number reference_to_target = 2
role_number pointer_to_target = 3

-- whether an entry is made of an input entry, in a role
abbrev pub is_made_of : ℕ → Role → Draft → Bool
is_made_of offset role d = is_it d.origin
  where
    is_it : Option (ℕ × Role) → Bool
    is_it None = false
    is_it (Some o) = (o.0 == offset) && (role_number o.1 == role_number role)

-- an entry's place in a unit, where the unit is there and has so many
abbrev pub place_in : ℕ → ℕ → Option (List Draft) → Option (ℕ × ℕ)
place_in number place None = None
place_in number place (Some ds) = if nat_lt place (length ds) then Some (number, place) else None

-- Where a goal is, in a module whose first unit has a number: a unit's number and a place there; none where it is not in the output.
abbrev pub place_of_goal : ℕ → ModuleDrafts → Goal → Option (ℕ × ℕ)
place_of_goal number m (made_of offset role) = place_among (is_made_of offset role) number (units_drafted m)
place_of_goal number m (synthetic_entry place) = place_in number place m.synthetic

-- ---- trees

-- what a value says where goals are at places; one that goes nowhere says nothing
abbrev pub settled_value : (Goal → Option (ℕ × ℕ)) → DraftValue → Option TreeValue
settled_value places (done v) = Some v
settled_value places (goes_to goal) = option_map (λ p. entry p.0 p.1) (places goal)

-- the same of an attribute
abbrev pub settled : (Goal → Option (ℕ × ℕ)) → ℕ × DraftValue → Option (ℕ × TreeValue)
settled places a = option_map (λ v. (a.0, v)) (settled_value places a.1)

-- an entry; what goes nowhere is dropped before names are set
abbrev pub settled_entry : (Goal → Option (ℕ × ℕ)) → Draft → TreeEntry
settled_entry places d = record { depth = d.depth; tag = d.tag; attributes = set_in_order (filter_map (settled places) d.attributes) }

-- a unit
abbrev pub settled_unit : (Goal → Option (ℕ × ℕ)) → List Draft → Tree
settled_unit places ds = map (settled_entry places) ds

-- the units of modules, of which the first unit has a number
abbrev pub trees_from : ℕ → List ModuleDrafts → List Tree
trees_from number [] = []
trees_from number (m ∷ ms) = map (settled_unit (place_of_goal number m)) (units_drafted m) ++ trees_from (number + length (units_drafted m)) ms

-- The trees of an output: module by module its synthetic unit and its carried ones, and last, where there is one, a unit whose references
-- go to places already.
unfoldable pub forest : List ModuleDrafts → Option (List Draft) → List Tree
forest ms last = trees_from 0 ms ++ map (settled_unit (λ goal. None)) (option_to_list last)
