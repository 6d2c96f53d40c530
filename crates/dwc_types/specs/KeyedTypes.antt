-- The chains of types, which come to an end or to a ring, and keys for their names: two types of one key have names that are the same text.
use Rattle.std.specs.Prelude.{◌≡◌, ℕ, zero, suc, ◌<◌, ◌≤◌, ◌+◌, ◌==◌, ◌⊎◌, Bool, true, false, List, [], ◌∷◌, ◌++◌, drop, take, is_some, if◌then◌else◌, Option, Some, None, option_map, IfSome, Result, Ok, Err, codes}
use Rattle.std.specs.Ordering.{nat_cmp}
use Rattle.std.specs.BTreeMap.{BTreeMap, get}
use Rattle.dwc_base.specs.declared.constants.TheConstants.{DW_TAG_const_type, DW_TAG_pointer_type}
use Rattle.dwc_base.specs.SortedEntries.{pair_cmp}
use Rattle.dwc_rules.specs.Kept.{Placed}
use Rattle.dwc_rules.specs.Clones.{UnitSource}
use Rattle.dwc_dwarf.specs.Values.{is_one_of}
use Rattle.dwc_rules.specs.TypeNames.{derived_name, name_of, type_of, unknown}
use Rattle.dwc_rules.specs.Wrappers.{wrapper_name}
use Rattle.dwc_unit.specs.declared.strings.StringId.{StringId}
use Rattle.dwc_source.specs.declared.error.CloneError.{CloneError}
use Rattle.dwc_source.specs.declared.source.CloneSource.{CloneSource}
use Rattle.dwc_source.specs.KnownTexts.{IsNumbered}
use Rattle.dwc_source.specs.Sources.{IsEmitted, IsSource}
use Rattle.dwc_types.specs.declared.type_entry.TypeEntry.{TypeEntry}
use Rattle.dwc_types.specs.declared.known_type.DerivedType.{DerivedType}
use Rattle.dwc_types.specs.declared.type_key.TypeKey.{TypeKey}
use Rattle.dwc_types.specs.declared.type_key.TypeKeys.{TypeKeys}
use Rattle.dwc_types.specs.declared.type_key.WayEnd.{WayEnd}
use Rattle.dwc_types.specs.declared.type_key.WayEnd.TheVariants.{Keyed, Named, Open, Ring, Lost}
use Rattle.dwc_types.specs.TypeChains.{behind, behind_name, named_chain, type_found, type_view}
use Rattle.dwc_types.specs.TypeReads.{EndsSo, IsRead}
use Rattle.dwc_types.specs.TypeRings.{AreLinks, Distinct, Leads, last_at, last_type_at, offsets_of, spelt_of, tags_of}

-- ---- texts

-- what so many constants put in front of a name
abbrev pub consts_front : ℕ → List ℕ
consts_front zero = []
consts_front (suc n) = codes "const " ++ consts_front n

-- a name with what a type of a tag puts in front of it and behind it
abbrev pub over_name : ℕ → List ℕ → List ℕ
over_name tag name = (if tag == DW_TAG_const_type then codes "const " else []) ++ (name ++ behind_name tag)

-- the text of a key, by the texts of the cores
abbrev pub key_text : (ℕ → List ℕ) → TypeKey → List ℕ
key_text text key = consts_front key.consts ++ text key.core

-- ---- chains that come to an end

-- The type of an entry ends a chain with a name.
pub record EndsAtType (c : CloneSource) (s : UnitSource) (x : Placed) (offset : ℕ) (name : List ℕ) : Type 0 where
  pub found : Placed
  pub is : type_of s.entries x ≡ Some found
  pub at : found.entry.offset ≡ offset
  pub emitted : IsEmitted c s found
  pub ends : (name_of s.texts found ≡ Ok (Some name)) ⊎ ((name_of s.texts found ≡ Ok None) × (derived_name found.entry.tag ≡ None) × (name ≡ unknown))

-- So it does, or the entry has no type.
abbrev pub EndsAt : CloneSource → UnitSource → Placed → ℕ → List ℕ → Type 0
EndsAt c s x offset name = ((type_of s.entries x ≡ None) × (name ≡ unknown)) ⊎ EndsAtType c s x offset name

-- The type of an entry has no name and is derived from another, which has a name by which it is named.
pub record IsLinked (c : CloneSource) (s : UnitSource) (x y : Placed) (name : List ℕ) : Type 0 where
  pub is : type_of s.entries x ≡ Some y
  pub emitted : IsEmitted c s y
  pub unnamed : name_of s.texts y ≡ Ok None
  pub derived : is_some (derived_name y.entry.tag) ≡ true
  pub inner : List ℕ
  pub name_is : name ≡ over_name y.entry.tag inner

-- Each of some entries is the type of the one before it, and the last ends the chain, or has a type at an offset that does; a name is made so.
abbrev pub IsChain : CloneSource → UnitSource → Placed → List Placed → ℕ → List ℕ → Type 0
IsChain c s x [] offset name = EndsAt c s x offset name
IsChain c s x (y ∷ ys) offset name = (link : IsLinked c s x y name) × IsChain c s y ys offset link.inner

pub record IsNamedToEnd (c : CloneSource) (s : UnitSource) (x : Placed) (offset : ℕ) (name : List ℕ) : Type 0 where
  pub chain : List Placed
  pub is : IsChain c s x chain offset name

-- ---- chains that come to a ring

-- Types are derived from one another, the first of them that of an entry, up to the last, which is at an offset and is derived from one of them; a
-- name is made so.
pub record IsNamedToRing (c : CloneSource) (s : UnitSource) (x : Placed) (offset : ℕ) (name : List ℕ) : Type 0 where
  pub first : Placed
  pub others : List Placed
  pub again : Placed
  pub leads : Leads s.entries x ((first ∷ others) ++ again ∷ [])
  pub links : AreLinks (IsEmitted c s) s.texts (first ∷ others)
  pub distinct : Distinct (first ∷ others)
  pub met : is_one_of (offsets_of (first ∷ others)) again.entry.offset ≡ true
  pub last : last_at first.entry.offset others ≡ offset
  pub name_is : name ≡ named_chain (tags_of (first ∷ others)) unknown

abbrev pub IsNamedAlong : CloneSource → UnitSource → Placed → ℕ → List ℕ → Type 0
IsNamedAlong c s x offset name = IsNamedToEnd c s x offset name ⊎ IsNamedToRing c s x offset name

-- So it is for each entry that has a type.
abbrev pub NamesNext : CloneSource → UnitSource → Option (ℕ × ℕ) → ℕ → List ℕ → Type 0
NamesNext c s next offset name = (number : ℕ) (x : Placed) → IsSource c number s → IsEmitted c s x → type_found c x.entry ≡ next → IsNamedAlong c s x offset name

-- ---- keys

-- A key is that of the type at an offset, by the texts of the first cores.
pub record IsKeyed (c : CloneSource) (s : UnitSource) (text : ℕ → List ℕ) (count offset : ℕ) (key : TypeKey) : Type 0 where
  pub below : key.core < count
  pub named : (id : ℕ) → NamesNext c s (Some (offset, id)) key.but (key_text text key)

-- A core is made of another by what a tag puts behind it.
pub record IsBehind (text : ℕ → List ℕ) (count core tag found : ℕ) : Type 0 where
  pub below : core < count
  pub within : found < count
  pub text_is : text found ≡ text core ++ behind_name tag

-- A number is that of the name of the wrapper of a pointer, or of a reference, by the name of a core and so many constants.
pub record IsKeyName (texts : List (List ℕ)) (text : ℕ → List ℕ) (count : ℕ) (pointer : Bool) (core consts : ℕ) (id : StringId) : Type 0 where
  pub below : core < count
  pub number : (tag : ℕ) → (tag == DW_TAG_pointer_type) ≡ pointer → IsNumbered texts (wrapper_name tag (consts_front consts ++ text core)) id

abbrev pub AreKeyNames : List (List ℕ) → (ℕ → List ℕ) → ℕ → Bool → BTreeMap (ℕ × ℕ) StringId → Type 0
AreKeyNames texts text count pointer names = (q : ℕ × ℕ) → IfSome (get pair_cmp names q) (λ id. IsKeyName texts text count pointer q.0 q.1 id)

-- The keys that are kept are those of types, and the numbers that are noted of keys those of names, by the texts of the cores.
pub record KnowsKeys (c : CloneSource) (s : UnitSource) (texts : List (List ℕ)) (keys : TypeKeys) : Type 0 where
  pub text : ℕ → List ℕ
  pub one : 0 < keys.count
  pub first : text 0 ≡ unknown
  pub types : (offset : ℕ) → IfSome (get nat_cmp keys.types offset) (λ key. IsKeyed c s text keys.count offset key)
  pub cores : (q : ℕ × ℕ) → IfSome (get pair_cmp keys.cores q) (λ found. IsBehind text keys.count q.0 q.1 found)
  pub pointers : AreKeyNames texts text keys.count true keys.pointers
  pub references : AreKeyNames texts text keys.count false keys.references

-- They are known, and a core has a text; the texts of those before it are the same as before.
pub record HasCore (c : CloneSource) (s : UnitSource) (texts : List (List ℕ)) (before : ℕ → List ℕ) (count : ℕ) (keys : TypeKeys) (core : ℕ) (name : List ℕ) : Type 0 where
  pub knows : KnowsKeys c s texts keys
  pub below : core < keys.count
  pub is : knows.text core ≡ name
  pub grown : count ≤ keys.count
  pub same : (n : ℕ) → n < count → knows.text n ≡ before n

-- So it is of so many cores from a first one on.
pub record HasCores (c : CloneSource) (s : UnitSource) (texts : List (List ℕ)) (before : ℕ → List ℕ) (count : ℕ) (keys : TypeKeys) (first many : ℕ) (name : ℕ → List ℕ) : Type 0 where
  pub knows : KnowsKeys c s texts keys
  pub within : first + many ≤ keys.count
  pub is : (j : ℕ) → j < many → knows.text (first + j) ≡ name j
  pub grown : count ≤ keys.count
  pub same : (n : ℕ) → n < count → knows.text n ≡ before n

-- what the tags of a ring put behind what has no name, from where so many of them were passed
abbrev pub turned_name : List ℕ → ℕ → List ℕ
turned_name tags passed = unknown ++ behind (drop passed tags ++ take passed tags)

-- The name of each type of a ring has so many constants in front of what the tags from it on put behind, for all but the type in front of it.
abbrev pub NamesAround : CloneSource → UnitSource → ℕ → List DerivedType → Type 0
NamesAround c s consts ring = (front left : List DerivedType) (t : DerivedType) → ring ≡ front ++ t ∷ left → (id : ℕ) → NamesNext c s (Some (t.offset, id)) (last_type_at t.offset (left ++ front)) (consts_front consts ++ (unknown ++ behind (spelt_of (t ∷ (left ++ front)))))

-- They are known, and a key has a text.
pub record HasText (c : CloneSource) (s : UnitSource) (texts : List (List ℕ)) (keys : TypeKeys) (key : TypeKey) (name : List ℕ) : Type 0 where
  pub knows : KnowsKeys c s texts keys
  pub below : key.core < keys.count
  pub is : key_text knows.text key ≡ name

-- They are known, and a key is that of what an entry with a type, or without one, has.
pub record IsKeyOf (c : CloneSource) (s : UnitSource) (texts : List (List ℕ)) (keys : TypeKeys) (next : Option TypeEntry) (key : TypeKey) : Type 0 where
  pub knows : KnowsKeys c s texts keys
  pub below : key.core < keys.count
  pub named : NamesNext c s (option_map type_view next) key.but (key_text knows.text key)

-- So it is of a key that is found.
abbrev pub KnowsWith : CloneSource → UnitSource → List (List ℕ) → TypeKeys → TypeEntry → Option TypeKey → Type 0
KnowsWith c s texts keys first None = KnowsKeys c s texts keys
KnowsWith c s texts keys first (Some key) = IsKeyOf c s texts keys (Some first) key

-- ---- ways

-- A derived type that was read is the one to come.
pub record IsWayStep (c : CloneSource) (s : UnitSource) (from : Option TypeEntry) (t : DerivedType) : Type 0 where
  pub type : TypeEntry
  pub is : from ≡ Some type
  pub at : type.offset ≡ t.offset
  pub read : IsRead c s t.offset t.tag t.next

-- Derived types that were read lead from a type to another, or to none.
abbrev pub IsWay : CloneSource → UnitSource → Option TypeEntry → List DerivedType → Option TypeEntry → Type 0
IsWay c s from [] next = from ≡ next
IsWay c s from (t ∷ ts) next = IsWayStep c s from t × IsWay c s t.next ts next

-- A way leads to a type that is in front of another.
pub record IsWayTo (c : CloneSource) (s : UnitSource) (first : TypeEntry) (way : List DerivedType) (offset : ℕ) : Type 0 where
  pub type : TypeEntry
  pub leads : IsWay c s (Some first) way (Some type)
  pub at : type.offset ≡ offset

-- A way leads to a type that ends the chain.
pub record EndsWayAt (c : CloneSource) (s : UnitSource) (first : TypeEntry) (way : List DerivedType) (offset : ℕ) : Type 0 where
  pub to : IsWayTo c s first way offset
  pub name : List ℕ
  pub ends : EndsSo c s offset name

-- A way leads to a type whose key is kept.
pub record EndsWayKeyed (c : CloneSource) (s : UnitSource) (keys : TypeKeys) (first : TypeEntry) (way : List DerivedType) (key : TypeKey) : Type 0 where
  pub offset : ℕ
  pub to : IsWayTo c s first way offset
  pub is : get nat_cmp keys.types offset ≡ Some key

-- What a way leads to is so.
abbrev pub EndsWay : CloneSource → UnitSource → TypeKeys → TypeEntry → List DerivedType → WayEnd → Type 0
EndsWay c s keys first way (Keyed key) = EndsWayKeyed c s keys first way key
EndsWay c s keys first way (Named offset) = EndsWayAt c s first way offset
EndsWay c s keys first way Open = IsWay c s (Some first) way None
EndsWay c s keys first way (Ring offset) = Unit {0}
EndsWay c s keys first way Lost = Unit {0}

-- The types of a way are left, and a key is that of what the last is derived from.
pub record IsKeyBehind (c : CloneSource) (s : UnitSource) (texts : List (List ℕ)) (keys : TypeKeys) (first : TypeEntry) (way : List DerivedType) (key : TypeKey) : Type 0 where
  pub next : Option TypeEntry
  pub leads : IsWay c s (Some first) way next
  pub of : IsKeyOf c s texts keys next key

abbrev pub KnowsBehind : CloneSource → UnitSource → List (List ℕ) → TypeKeys → TypeEntry → List DerivedType → Option TypeKey → Type 0
KnowsBehind c s texts keys first way None = KnowsKeys c s texts keys
KnowsBehind c s texts keys first way (Some key) = IsKeyBehind c s texts keys first way key

-- ---- tries

-- something holds of the place of a derived type that is found
abbrev pub IfDerived : Result (Option (Option ℕ)) CloneError → (ℕ → Type 0) → Type 0
IfDerived (Ok (Some (Some place))) P = P place
IfDerived (Ok (Some None)) P = Unit {0}
IfDerived (Ok None) P = Unit {0}
IfDerived (Err e) P = Unit {0}

-- something holds where a type is found that ends a chain
abbrev pub IfEnding : Result (Option (Option ℕ)) CloneError → Type 0 → Type 0
IfEnding (Ok (Some (Some place))) P = Unit {0}
IfEnding (Ok (Some None)) P = P
IfEnding (Ok None) P = Unit {0}
IfEnding (Err e) P = Unit {0}
