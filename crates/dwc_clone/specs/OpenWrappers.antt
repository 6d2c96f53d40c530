-- Wrappers as they are added: their texts, and those whose types are still to be added.
use Rattle.std.specs.Prelude.{◌≡◌, ◌≢◌, ℕ, zero, suc, ◌<◌, ◌≤◌, ◌⊎◌, nat_lt, if◌then◌else◌, List, [], ◌∷◌, length, true, Option, Some, None, codes}
use Rattle.dwc_base.specs.declared.constants.TheConstants.{DW_AT_artificial, DW_AT_byte_size, DW_AT_data_member_location, DW_AT_linkage_name, DW_AT_name, DW_AT_type, DW_FORM_data1, DW_TAG_formal_parameter, DW_TAG_member, DW_TAG_pointer_type, DW_TAG_reference_type, DW_TAG_subprogram, DW_TAG_template_type_parameter}
use Rattle.dwc_unit.specs.declared.attributes.AttributeValue.TheVariants.{UnitRef}
use Rattle.dwc_unit.specs.declared.attributes.DebugInfoRef.{DebugInfoRef}
use Rattle.dwc_unit.specs.declared.strings.StringId.{StringId}
use Rattle.dwc_unit.specs.declared.units.UnitEntryId.{UnitEntryId}
use Rattle.dwc_unit.specs.GivenUnits.{GivenUnit, IsAdded, IsReserved, with_child, with_known, with_reserved, with_value}
use Rattle.dwc_clone.specs.declared.made.MadeValue.TheVariants.{Text, Constant, Flag, Entry, AnyEntry}
use Rattle.dwc_clone.specs.MadeAttributes.{with_made_entry, with_values}
use Rattle.dwc_clone.specs.declared.wrapper.OpenWrapper.{OpenWrapper}
use Rattle.dwc_clone.specs.declared.wrapper.WrapperTexts.{WrapperTexts}
use Rattle.dwc_clone.specs.declared.wrapper.WrapperTypes.{WrapperTypes}
use Rattle.dwc_source.specs.KnownTexts.{IsNumbered}

-- The texts of a wrapper of a name are in a table, with the function that makes a native pointer.
pub record HasWrapperTexts (table : List (List ℕ)) (function wrapper : List ℕ) (texts : WrapperTexts) : Type 0 where
  pub name : IsNumbered table wrapper texts.name
  pub target : IsNumbered table (codes "T") texts.target
  pub address : IsNumbered table (codes "__ptr") texts.address
  pub resolve : IsNumbered table function texts.resolve
  pub pointer : IsNumbered table (codes "ptr") texts.pointer
  pub dereference : IsNumbered table (codes "operator*") texts.dereference
  pub arrow : IsNumbered table (codes "operator->") texts.arrow

-- The types have the next three numbers from one on.
pub record AreNext (number : ℕ) (types : WrapperTypes) : Type 0 where
  pub to_wrapper : types.to_wrapper.index ≡ number
  pub reference : types.reference.index ≡ suc number
  pub pointer : types.pointer.index ≡ suc (suc number)

-- a unit whose entry of a number has a type, if there is one
abbrev pub with_type : ℕ → Option UnitEntryId → GivenUnit → GivenUnit
with_type id None u = u
with_type id (Some target) u = with_value id DW_AT_type (UnitRef target) u

-- a unit with an entry more under a number that was reserved, which has a type
abbrev pub with_typed : ℕ → ℕ → ℕ → Option UnitEntryId → GivenUnit → GivenUnit
with_typed id parent tag target u = with_type id target (with_child parent tag (with_known id u))

-- a unit with the types of a wrapper
abbrev pub types_added : OpenWrapper → GivenUnit → GivenUnit
types_added w u =
    with_typed w.types.pointer.index w.parent.index DW_TAG_pointer_type w.target
    (with_typed w.types.reference.index w.parent.index DW_TAG_reference_type w.target
    (with_typed w.types.to_wrapper.index w.parent.index DW_TAG_pointer_type (Some w.wrapper) u))

-- a unit with an entry more below one, which has some values
abbrev pub members_added : OpenWrapper → WrapperTexts → DebugInfoRef → GivenUnit → GivenUnit
members_added w texts address u =
    with_made_entry w.wrapper.index DW_TAG_member ((DW_AT_name, Text texts.address) ∷ (DW_AT_type, AnyEntry address) ∷ (DW_AT_data_member_location, Constant DW_FORM_data1 0) ∷ [])
    (with_type (length u.places) w.target (with_made_entry w.wrapper.index DW_TAG_template_type_parameter ((DW_AT_name, Text texts.target) ∷ []) u))

-- a unit with a function of a wrapper, of a name and a type, which takes a pointer to the wrapper
abbrev pub method_added : OpenWrapper → WrapperTexts → StringId → UnitEntryId → GivenUnit → GivenUnit
method_added w texts name gives u =
    with_made_entry (length u.places) DW_TAG_formal_parameter ((DW_AT_type, Entry w.types.to_wrapper) ∷ (DW_AT_artificial, Flag true) ∷ [])
    (with_made_entry w.wrapper.index DW_TAG_subprogram ((DW_AT_linkage_name, Text texts.resolve) ∷ (DW_AT_name, Text name) ∷ (DW_AT_type, Entry gives) ∷ []) u)

-- a unit with a wrapper, whose entry is there: with its name and size, its members and functions, behind the numbers of its types
abbrev pub wrapper_added : OpenWrapper → WrapperTexts → DebugInfoRef → GivenUnit → GivenUnit
wrapper_added w texts address u =
    method_added w texts texts.arrow w.types.pointer
    (method_added w texts texts.dereference w.types.reference
    (method_added w texts texts.pointer w.types.pointer
    (members_added w texts address
    (with_values w.wrapper.index ((DW_AT_name, Text texts.name) ∷ (DW_AT_byte_size, Constant DW_FORM_data1 4) ∷ []) (with_reserved (with_reserved (with_reserved u)))))))

-- A wrapper of a depth is open, with a parent, an entry and the type that it goes to; its types have the next numbers from one on.
pub record IsOpened (depth : ℕ) (parent wrapper : UnitEntryId) (target : Option UnitEntryId) (number : ℕ) (w : OpenWrapper) : Type 0 where
  pub depth_is : w.depth ≡ depth
  pub parent_is : w.parent ≡ parent
  pub wrapper_is : w.wrapper ≡ wrapper
  pub target_is : w.target ≡ target
  pub types : AreNext number w.types

-- The types of a wrapper can be added: its parent is there, and their numbers are reserved.
pub record CanClose (u : GivenUnit) (w : OpenWrapper) : Type 0 where
  pub parent : IsAdded w.parent.index u
  pub to_wrapper : IsReserved w.types.to_wrapper.index u
  pub reference : IsReserved w.types.reference.index u
  pub pointer : IsReserved w.types.pointer.index u
  pub first : ℕ
  pub next : AreNext first w.types

-- a unit with so many numbers more, only reserved
abbrev pub reserved_more : ℕ → GivenUnit → GivenUnit
reserved_more zero u = u
reserved_more (suc n) u = reserved_more n (with_reserved u)

-- ---- closing, the innermost first

-- a unit with the types of those wrappers in front that do not lie above a depth
abbrev pub closed_from : ℕ → List OpenWrapper → GivenUnit → GivenUnit
closed_from depth [] u = u
closed_from depth (w ∷ ws) u = if nat_lt w.depth depth then u else closed_from depth ws (types_added w u)

-- those that stay open
abbrev pub still_open : ℕ → List OpenWrapper → List OpenWrapper
still_open depth [] = []
still_open depth (w ∷ ws) = if nat_lt w.depth depth then w ∷ ws else still_open depth ws

-- Wrappers can be closed, the first one first; the numbers of their types stand below one, and those of each below those of the one
-- before it.
abbrev pub CanCloseAll : ℕ → GivenUnit → List OpenWrapper → Type 0
CanCloseAll above u [] = Unit {0}
CanCloseAll above u (w ∷ ws) = CanClose u w × (w.types.pointer.index < above) × CanCloseAll w.types.to_wrapper.index u ws

-- a number is none of those of the types of some wrappers
abbrev pub IsOther : ℕ → List OpenWrapper → Type 0
IsOther id [] = Unit {0}
IsOther id (w ∷ ws) = ((id < w.types.to_wrapper.index) ⊎ (w.types.pointer.index < id)) × IsOther id ws

-- What was added stays so, and what was only reserved, but for one number; none goes.
pub record KeepsNumbers (but : ℕ) (u v : GivenUnit) : Type 0 where
  pub added : (k : ℕ) → IsAdded k u → IsAdded k v
  pub reserved : (k : ℕ) → k ≢ but → IsReserved k u → IsReserved k v
  pub longer : length u.places ≤ length v.places
