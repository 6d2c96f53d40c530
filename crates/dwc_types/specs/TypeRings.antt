-- Types that are derived from one another in a ring.
use Rattle.std.specs.Prelude.{◌≡◌, ℕ, suc, ◌==◌, ◌+◌, ◌≢◌, ◌⊎◌, false, is_some, List, [], ◌∷◌, ◌++◌, drop, map, take, true, if◌then◌else◌, slice_get, Some, None, Ok}
use Rattle.dwc_base.specs.declared.constants.TheConstants.{DW_TAG_const_type}
use Rattle.dwc_dwarf.specs.Texts.{TextSource}
use Rattle.dwc_dwarf.specs.Values.{is_one_of}
use Rattle.dwc_rules.specs.Kept.{Placed}
use Rattle.dwc_rules.specs.TypeNames.{derived_name, name_of, type_of}
use Rattle.dwc_types.specs.declared.type_entry.TypeEntry.{TypeEntry}
use Rattle.dwc_types.specs.declared.known_type.DerivedType.{DerivedType}
use Rattle.dwc_types.specs.declared.known_type.KnownTypes.{KnownTypes}

-- ---- chains of entries

abbrev pub offsets_of : List Placed → List ℕ
offsets_of es = map (λ e. e.entry.offset) es

abbrev pub tags_of : List Placed → List ℕ
tags_of es = map (λ e. e.entry.tag) es

-- Each of some entries is the type of the one before it, the first that of an entry.
abbrev pub Leads : List Placed → Placed → List Placed → Type 0
Leads es x [] = Unit {0}
Leads es x (y ∷ ys) = (type_of es x ≡ Some y) × Leads es y ys

-- A type has no name and is derived from another, and has a property.
pub record IsLink (Has : Placed → Type 0) (texts : TextSource) (e : Placed) : Type 0 where
  pub unnamed : name_of texts e ≡ Ok None
  pub derived : is_some (derived_name e.entry.tag) ≡ true
  pub has : Has e

abbrev pub AreLinks : (Placed → Type 0) → TextSource → List Placed → Type 0
AreLinks Has texts [] = Unit {0}
AreLinks Has texts (y ∷ ys) = IsLink Has texts y × AreLinks Has texts ys

-- No two are at one offset.
abbrev pub Distinct : List Placed → Type 0
Distinct [] = Unit {0}
Distinct (y ∷ ys) = (is_one_of (offsets_of ys) y.entry.offset ≡ false) × Distinct ys

-- the offset of the last of some entries, or else another
abbrev pub last_at : ℕ → List Placed → ℕ
last_at offset [] = offset
last_at offset (y ∷ ys) = last_at y.entry.offset ys

-- ---- rings

-- A derived type is kept, and is the one at an offset.
pub record IsKeptAt (types : KnownTypes) (offset : ℕ) (t : DerivedType) : Type 0 where
  pub place : ℕ
  pub kept : slice_get types.derived.items place ≡ Some t
  pub at : t.offset ≡ offset

-- So it is, and it is derived from another.
pub record IsStep (types : KnownTypes) (from : ℕ) (t : DerivedType) : Type 0 where
  pub here : IsKeptAt types from t
  pub next : TypeEntry
  pub next_is : t.next ≡ Some next

-- Kept types, the first of them at an offset, are each derived from the next, and the last from the one at another offset; none of those that
-- they are derived from is the one at a third.
abbrev pub IsPath : KnownTypes → ℕ → ℕ → List DerivedType → ℕ → Type 0
IsPath types own from [] next = from ≡ next
IsPath types own from (t ∷ ts) next = (step : IsStep types from t) × (step.next.offset ≢ own) × IsPath types own step.next.offset ts next

-- Kept types, the first of them at an offset, are each derived from the next, and the last from the first; no other is at that offset.
pub record IsRound (types : KnownTypes) (own : ℕ) (ring : List DerivedType) : Type 0 where
  pub front : List DerivedType
  pub last : DerivedType
  pub is : ring ≡ front ++ last ∷ []
  pub at : ℕ
  pub path : IsPath types own own front at
  pub step : IsStep types at last
  pub closes : step.next.offset ≡ own

abbrev pub IsRoundOrNone : KnownTypes → ℕ → List DerivedType → Type 0
IsRoundOrNone types own ring = (ring ≡ []) ⊎ IsRound types own ring

-- ---- the tags that tell the names apart

-- the tags of some types, but for constants
abbrev pub spelt_of : List DerivedType → List ℕ
spelt_of [] = []
spelt_of (t ∷ ts) = if t.tag == DW_TAG_const_type then spelt_of ts else t.tag ∷ spelt_of ts

-- how many of some types are constants
abbrev pub consts_of : List DerivedType → ℕ
consts_of [] = 0
consts_of (t ∷ ts) = if t.tag == DW_TAG_const_type then suc (consts_of ts) else consts_of ts

-- Some tags are the same again where so many go from the front to the end.
abbrev pub IsTurn : ℕ → List ℕ → Type 0
IsTurn turn tags = drop turn tags ++ take turn tags ≡ tags

-- how many tags of a turn are passed behind a type, by those that are passed in front of it
abbrev pub passed_with : ℕ → ℕ → ℕ → ℕ
passed_with tag turn passed = if tag == DW_TAG_const_type then passed else (if passed == turn then 1 else passed + 1)

-- the offset of the last of some types, or else another
abbrev pub last_type_at : ℕ → List DerivedType → ℕ
last_type_at offset [] = offset
last_type_at offset (t ∷ ts) = last_type_at t.offset ts
