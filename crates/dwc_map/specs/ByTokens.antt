-- What is read of a map file token by token, over the grammar of JSON texts.
use Rattle.std.specs.Prelude.{◌≡◌, ◌≢◌, ℕ, ◌-◌, ◌^◌, ◌<◌, List, ◌∷◌, length, Option, Some, None, option_and_then, codes}
use Rattle.std.specs.FinMap as finite
use Rattle.std.specs.Ordering.{nat_cmp}
use Rattle.json.specs.Token.{Token, null, number}
use Rattle.json.specs.Json.{items, members, value}
use Rattle.serde_json.specs.Data.{Data, object, Members, no_members, put, unsigned}
use Rattle.serde_json.specs.Find.{get_member}
use Rattle.serde_json.specs.Read.{of_json, of_items, of_members, converted, number_of}
use Rattle.dwc_native.specs.CallFrames.{FrameDescription}
use Rattle.dwc_native.specs.Compiled.{Place}
use Rattle.dwc_isa.specs.ValueLabels.{LabelledRanges}
use Rattle.dwc_map.specs.MapFile.{entries_of, labels_of, place_of}
use Rattle.dwc_map.specs.MapFrames.{frame_in, frame_of}
use Rattle.dwc_map.specs.MapValues.{all_items, pair_of, required, table_by, u32_of, with_default}

-- A value of a kind stands in front of some tokens, nested no deeper than a number.
pub record Tells {A : Type 0} (depth : ℕ) (kind : Data → Option A) (old : List Token) (x : A) (new : List Token) : Type 0 where
  pub found : Data
  pub read : converted of_json (value depth old) ≡ Some (found, new)
  pub is : kind found ≡ Some x

-- The items of a list stand in front of some tokens, each of a kind.
abbrev pub TellsItems : {A : Type 0} → ℕ → (Data → Option A) → List Token → List A → List Token → Type 0
TellsItems depth kind old xs new = converted (λ js. option_and_then (all_items kind) (of_items js)) (items (value depth) (length old) old) ≡ Some (xs, new)

-- Two objects have the same members, but for those of a name.
abbrev pub AreSameBut : List ℕ → Members → Members → Type 0
AreSameBut name ms ns = (other : List ℕ) → other ≢ name → get_member other ms ≡ get_member other ns

-- Two objects of functions have the same members, but for the entries, the labels and the frame.
abbrev pub AreSameFields : Members → Members → Type 0
AreSameFields ms ns = (other : List ℕ) → other ≢ codes "map" → other ≢ codes "labels" → other ≢ codes "frame" → get_member other ms ≡ get_member other ns

-- The members of an object stand in front of some tokens: the one of a name is of a kind, and the others are some fields.
pub record TellsMembers {A : Type 0} (depth : ℕ) (name : List ℕ) (kind : Data → Option A) (old : List Token) (fields : Members) (x : A) (new : List Token) : Type 0 where
  pub all : Members
  pub read : converted (λ ms. of_members ms no_members) (members (value depth) (length old) old) ≡ Some (all, new)
  pub same : AreSameBut name all fields
  pub is : required name kind all ≡ Some x

-- The members of a function's object stand in front of some tokens: its entries, its labels and its frame, and the others are some fields.
pub record TellsFunction (depth : ℕ) (old : List Token) (fields : Members) (entries : List (ℕ × Option ℕ)) (labels : LabelledRanges) (frame : Option FrameDescription) (new : List Token) : Type 0 where
  pub all : Members
  pub read : converted (λ ms. of_members ms no_members) (members (value depth) (length old) old) ≡ Some (all, new)
  pub same : AreSameFields all fields
  pub entries_are : required (codes "map") entries_of all ≡ Some entries
  pub labels_are : with_default (codes "labels") finite.empty labels_of all ≡ Some labels
  pub frame_is : frame_in all ≡ Some frame

-- The items of a list stand in front of some tokens, which are a table.
pub record TellsTable {X : Type 0} (depth : ℕ) (kind : Data → Option X) (old : List Token) (table : finite.FinMap nat_cmp X) (new : List Token) : Type 0 where
  pub rows : List (ℕ × X)
  pub read : TellsItems depth (pair_of u32_of kind) old rows new
  pub is : table_by rows ≡ Some table

-- The name of a place and the place stand in front of some tokens, one value behind the other.
pub record TellsPlace (depth : ℕ) (old : List Token) (place : Place) (new : List Token) : Type 0 where
  pub between : List Token
  pub name : Data
  pub number : Data
  pub named : converted of_json (value depth old) ≡ Some (name, between)
  pub numbered : converted of_json (value depth between) ≡ Some (number, new)
  pub is : place_of name number ≡ Some place

-- The members of a frame record stand in front of some tokens.
pub record TellsDescription (depth : ℕ) (old : List Token) (frame : FrameDescription) (new : List Token) : Type 0 where
  pub all : Members
  pub read : converted (λ ms. of_members ms no_members) (members (value depth) (length old) old) ≡ Some (all, new)
  pub is : frame_of (object all) ≡ Some frame

-- A value stands in front of some tokens, and is put at a name among some fields.
pub record Puts (depth : ℕ) (name : List ℕ) (old : List Token) (before after : Members) (new : List Token) : Type 0 where
  pub found : Data
  pub read : converted of_json (value depth old) ≡ Some (found, new)
  pub is : after ≡ put name found before

-- a text is that of a whole number below 2 ^ 32
abbrev pub IsNumber : List ℕ → ℕ → Type 0
IsNumber text n = (number_of text ≡ Some (unsigned n)) × (n < 2 ^ 32)

-- the first token is a source's offset, or null for none
abbrev pub IsSource : List Token → Option ℕ → List Token → Type 0
IsSource old None new = old ≡ null ∷ new
IsSource old (Some n) new = (text : List ℕ) × (old ≡ number text ∷ new) × IsNumber text n × (n < 2 ^ 32 - 1)
