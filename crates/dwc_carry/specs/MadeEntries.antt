-- Entries that stem from none of the input, as they are added to a unit of the output.
use Rattle.std.specs.Prelude.{◌≡◌, ℕ, ◌<◌, suc, List, [], ◌∷◌, fold, true, All}
use Rattle.std.specs.List.{position_or_len}
use Rattle.std.specs.Str.{bytes_eq}
use Rattle.dwc_dwarf.specs.TreeLaws.{with_new_text}
use Rattle.dwc_unit.specs.declared.attributes.AttributeValue.{AttributeValue}
use Rattle.dwc_unit.specs.declared.attributes.AttributeValue.TheVariants as write
use Rattle.dwc_unit.specs.declared.strings.StringId.{StringId}
use Rattle.dwc_unit.specs.GivenUnits.{Addition, GivenUnit, constant_bound, is_constant_form, places_from, set_attribute, with_value}
use Rattle.dwc_unit.specs.AddedInOrder.{with_entry}
use Rattle.dwc_carry.specs.declared.made_entries.MadeEntry.{MadeEntry}
use Rattle.dwc_carry.specs.declared.made_entries.MadeValue.{MadeValue}
use Rattle.dwc_carry.specs.declared.made_entries.MadeValue.TheVariants.{Text, Constant, Flag, Entry}

-- ---- texts

-- a table with some texts more, each unless it is there
abbrev pub texts_added : List (List ℕ) → List (List ℕ) → List (List ℕ)
texts_added table ts = fold with_new_text table ts

-- the numbers that they have
abbrev pub numbers_added : List (List ℕ) → List (List ℕ) → List ℕ
numbers_added table [] = []
numbers_added table (t ∷ ts) = position_or_len (bytes_eq t) table ∷ numbers_added (with_new_text table t) ts

abbrev pub number_of : StringId → ℕ
number_of id = id.index

-- ---- attributes

-- a value as one of the output
abbrev pub given_value : MadeValue → AttributeValue
given_value (Text id) = write.StringRef id
given_value (Constant form bits) = write.Constant form bits
given_value (Flag b) = write.Flag b
given_value (Entry place) = write.UnitRef (record { index = place })

-- a constant has a form of one, and fits it
abbrev pub FitsMade : ℕ × MadeValue → Type 0
FitsMade (name, Constant form bits) = (is_constant_form form ≡ true) × (bits < constant_bound form)
FitsMade (name, _) = Unit {0}

-- a unit whose entry of a number was given attributes
abbrev pub with_attributes : ℕ → List (ℕ × MadeValue) → GivenUnit → GivenUnit
with_attributes id attributes u = fold (λ v a. with_value id a.0 (given_value a.1) v) u attributes

-- ---- entries

-- an entry with its attributes, set in order
abbrev pub addition_of : MadeEntry → Addition
addition_of e = record { parent = e.parent; tag = e.tag; attributes = fold (λ before a. set_attribute a.0 (given_value a.1) before) [] e.attributes.now }

-- a unit with further entries, whose numbers are the next ones
abbrev pub with_additions : List Addition → GivenUnit → GivenUnit
with_additions es u = fold (λ v e. with_entry e v) u es

abbrev pub HaveFittingAttributes : MadeEntry → Type 0
HaveFittingAttributes e = All FitsMade e.attributes.now

-- Each entry, of which the first is added at a place, has its parent before it.
abbrev pub AreBehind : ℕ → List MadeEntry → Type 0
AreBehind place [] = Unit {0}
AreBehind place (e ∷ es) = (e.parent < place) × AreBehind (suc place) es

-- The entries of a unit are numbered by their places.
abbrev pub IsDense : GivenUnit → Type 0
IsDense u = u.places ≡ places_from 0 u.additions
