-- How many numbers a unit has when entries were added.
use Rattle.std.proofs.Common.{◌≡◌, ℕ, suc, ◌+◌, refl, ap, ◌∙◌, arith, List, [], ◌∷◌, length, length-append, true, Option, Some, None, Result}
use Rattle.dwc_base.specs.declared.constants.TheConstants.{DW_AT_artificial, DW_AT_byte_size, DW_AT_data_member_location, DW_AT_linkage_name, DW_AT_location, DW_AT_name, DW_AT_type, DW_FORM_data1, DW_TAG_formal_parameter, DW_TAG_member, DW_TAG_subprogram, DW_TAG_template_type_parameter, DW_TAG_variable}
use Rattle.dwc_native.specs.BuiltExpressions.{BuildRefusal}
use Rattle.dwc_dwarf.specs.Trees.{Location}
use Rattle.dwc_unit.specs.declared.attributes.AttributeValue.TheVariants.{DebugInfoRef as Reference, LocationListRef, StringRef, UnitRef}
use Rattle.dwc_unit.specs.declared.attributes.DebugInfoRef.{DebugInfoRef}
use Rattle.dwc_unit.specs.declared.strings.StringId.{StringId}
use Rattle.dwc_unit.specs.declared.units.UnitEntryId.{UnitEntryId}
use Rattle.dwc_unit.specs.GivenUnits.{GivenUnit, with_child, with_next, with_reserved, with_value}
use Rattle.dwc_unit.proofs.NumberLaws.{child-places, value-places}
use Rattle.dwc_clone.specs.declared.made.MadeValue.{MadeValue}
use Rattle.dwc_clone.specs.declared.made.MadeValue.TheVariants.{AnyEntry, Constant, Entry, Flag, Text}
use Rattle.dwc_clone.specs.declared.wrapper.OpenWrapper.{OpenWrapper}
use Rattle.dwc_clone.specs.declared.wrapper.WrapperTexts.{WrapperTexts}
use Rattle.dwc_clone.specs.MadeAttributes.{given_value, with_made_entry, with_values}
use Rattle.dwc_clone.specs.ContextPlaces.{HasContext}
use Rattle.dwc_clone.specs.OpenWrappers.{members_added, method_added, with_type, wrapper_added}

abbrev pub numbers_in : GivenUnit → ℕ
numbers_in u = length u.places

values-count : (id : ℕ) (attributes : List (ℕ × MadeValue)) (u : GivenUnit) → numbers_in (with_values id attributes u) ≡ numbers_in u
values-count id [] u = refl
values-count id (a ∷ others) u = values-count id others (with_value id a.0 (given_value a.1) u) ∙ ap length (value-places u id a.0 (given_value a.1))

next-count : (parent tag : ℕ) (u : GivenUnit) → numbers_in (with_child parent tag (with_next u)) ≡ suc (numbers_in u)
next-count parent tag u = ap length (child-places (with_next u) parent tag) ∙ length-append u.places (Some (length u.additions) ∷ []) ∙ omega arith

made-count : (parent tag : ℕ) (attributes : List (ℕ × MadeValue)) (u : GivenUnit) → numbers_in (with_made_entry parent tag attributes u) ≡ suc (numbers_in u)
made-count parent tag attributes u = values-count (length u.places) attributes (with_child parent tag (with_next u)) ∙ next-count parent tag u

type-count : (id : ℕ) (target : Option UnitEntryId) (u : GivenUnit) → numbers_in (with_type id target u) ≡ numbers_in u
type-count id None u = refl
type-count id (Some t) u = ap length (value-places u id DW_AT_type (UnitRef t))

reserved-count : (u : GivenUnit) → numbers_in (with_reserved u) ≡ suc (numbers_in u)
reserved-count u = length-append u.places (None ∷ []) ∙ omega arith

-- A wrapper takes the numbers of its three types, and of its eight entries.
module _ (w : OpenWrapper) (known : WrapperTexts) where
  members-count : (address : DebugInfoRef) (u : GivenUnit) → numbers_in (members_added w known address u) ≡ suc (suc (numbers_in u))
  members-count address u =
      let u1 = with_made_entry w.wrapper.index DW_TAG_template_type_parameter ((DW_AT_name, Text known.target) ∷ []) u in
      let u2 = with_type (length u.places) w.target u1 in
      made-count w.wrapper.index DW_TAG_member ((DW_AT_name, Text known.address) ∷ (DW_AT_type, AnyEntry address) ∷ (DW_AT_data_member_location, Constant DW_FORM_data1 0) ∷ []) u2
      ∙ ap suc (type-count (length u.places) w.target u1 ∙ made-count w.wrapper.index DW_TAG_template_type_parameter ((DW_AT_name, Text known.target) ∷ []) u)

  method-count : (name : StringId) (gives : UnitEntryId) (u : GivenUnit) → numbers_in (method_added w known name gives u) ≡ suc (suc (numbers_in u))
  method-count name gives u =
      let attributes : List (ℕ × MadeValue) = (DW_AT_linkage_name, Text known.resolve) ∷ (DW_AT_name, Text name) ∷ (DW_AT_type, Entry gives) ∷ [] in
      let u1 = with_made_entry w.wrapper.index DW_TAG_subprogram attributes u in
      made-count (length u.places) DW_TAG_formal_parameter ((DW_AT_type, Entry w.types.to_wrapper) ∷ (DW_AT_artificial, Flag true) ∷ []) u1 ∙ ap suc (made-count w.wrapper.index DW_TAG_subprogram attributes u)

  pub wrapper-count : (address : DebugInfoRef) (u : GivenUnit) → numbers_in (wrapper_added w known address u) ≡ numbers_in u + 11
  wrapper-count address u =
      let u1 = with_reserved u in
      let u2 = with_reserved u1 in
      let u3 = with_reserved u2 in
      let attributes : List (ℕ × MadeValue) = (DW_AT_name, Text known.name) ∷ (DW_AT_byte_size, Constant DW_FORM_data1 4) ∷ [] in
      let u4 = with_values w.wrapper.index attributes u3 in
      let u5 = members_added w known address u4 in
      let u6 = method_added w known known.pointer w.types.pointer u5 in
      let u7 = method_added w known known.dereference w.types.reference u6 in
      let a = reserved-count u in
      let b = reserved-count u1 in
      let d = reserved-count u2 in
      let e = values-count w.wrapper.index attributes u3 in
      let f = members-count address u4 in
      let h = method-count known.pointer w.types.pointer u5 in
      let i = method-count known.dereference w.types.reference u6 in
      let j = method-count known.arrow w.types.pointer u7 in
      omega (arith, a, b, d, e, f, h, i, j)

-- The variable of the context takes one.
pub variable-count : (expected : Result (List Location) BuildRefusal) (parent : ℕ) (type : DebugInfoRef) (texts : List (List ℕ)) (u v : GivenUnit) → HasContext expected parent type texts u v → numbers_in v ≡ numbers_in u + 1
variable-count expected parent type texts u v has =
    let id = length u.places in
    let u1 = with_child parent DW_TAG_variable (with_next u) in
    let u2 = with_value id DW_AT_name (StringRef has.name) u1 in
    let u3 = with_value id DW_AT_type (Reference type) u2 in
    ap numbers_in has.is
    ∙ ap length (value-places u3 id DW_AT_location (LocationListRef has.list))
    ∙ ap length (value-places u2 id DW_AT_type (Reference type))
    ∙ ap length (value-places u1 id DW_AT_name (StringRef has.name))
    ∙ next-count parent DW_TAG_variable u ∙ omega arith
