-- Units as trees of entries, without the spelling of a section: what a reader of DWARF is told. An output is compared
-- with what it is to say in this form. (DWARF 4 and 5, chapter 2.)
use Rattle.std.specs.Prelude.{ℕ, suc, ◌==◌, List, [], ◌∷◌, Bool, if◌then◌else◌, Option, None, option_map, fold, position}
use Rattle.std.specs.Option.{option_or}
use Rattle.dwc_base.specs.declared.records.Address.{Address}

-- An interval of addresses: from the first up to, and without, the second.
pub record Interval : Type 0 where
  pub begin : Address
  pub end : Address

-- an interval with the expression that holds there
pub record Location : Type 0 where
  pub over : Interval
  pub bytes : List ℕ

-- What an attribute says. A text is its bytes, a list its intervals, a reference the number of a unit and the place of an
-- entry among those of the unit; of a line table nothing but that it is there.
pub data TreeValue : Type 0 where
  address : Address → TreeValue
  constant : ℕ → ℕ → TreeValue
  flag : Bool → TreeValue
  block : List ℕ → TreeValue
  expression : List ℕ → TreeValue
  text : List ℕ → TreeValue
  line_table : TreeValue
  ranges : List Interval → TreeValue
  locations : List Location → TreeValue
  entry : ℕ → ℕ → TreeValue
  nothing : TreeValue

-- an entry: its depth below the root, its tag, and its attributes by name, in order
pub record TreeEntry : Type 0 where
  pub depth : ℕ
  pub tag : ℕ
  pub attributes : List (ℕ × TreeValue)

-- a unit: its entries in order, the root first
abbrev pub Tree : Type 0
Tree = List TreeEntry

-- ---- attributes by name

-- a value set under a name: it takes the place of the one that the name has, or else stands last
abbrev pub set_attribute : {A : Type 0} → ℕ × A → List (ℕ × A) → List (ℕ × A)
set_attribute a [] = a ∷ []
set_attribute a (b ∷ bs) = if a.0 == b.0 then a ∷ bs else b ∷ set_attribute a bs

-- attributes set one after another
abbrev pub set_in_order : {A : Type 0} → List (ℕ × A) → List (ℕ × A)
set_in_order attributes = fold (λ before a. set_attribute a before) [] attributes

-- ---- places

-- The first entry that passes a test among units, of which the first has a number: its unit's number, and its place there.
abbrev pub place_among : {A : Type 0} → (A → Bool) → ℕ → List (List A) → Option (ℕ × ℕ)
place_among test number [] = None
place_among test number (u ∷ us) = option_or (option_map (λ place. (number, place)) (position test u)) (place_among test (suc number) us)
