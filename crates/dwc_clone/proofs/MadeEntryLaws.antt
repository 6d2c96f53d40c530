-- Entries that are made: they are there, and those that were stay so.
use Rattle.std.proofs.Common.{ℕ, List, [], ◌∷◌, length, true, Option, Some, None}
use Rattle.dwc_base.specs.declared.constants.TheConstants.{DW_AT_artificial, DW_AT_data_member_location, DW_AT_linkage_name, DW_AT_name, DW_AT_type, DW_FORM_data1, DW_TAG_formal_parameter, DW_TAG_member, DW_TAG_subprogram, DW_TAG_template_type_parameter}
use Rattle.dwc_unit.specs.declared.attributes.AttributeValue.TheVariants.{UnitRef}
use Rattle.dwc_unit.specs.declared.attributes.DebugInfoRef.{DebugInfoRef}
use Rattle.dwc_unit.specs.declared.strings.StringId.{StringId}
use Rattle.dwc_unit.specs.declared.units.UnitEntryId.{UnitEntryId}
use Rattle.dwc_unit.specs.GivenUnits.{GivenUnit, IsAdded, with_child, with_next, with_value}
use Rattle.dwc_unit.proofs.NumberLaws.{added-on-child, added-on-next, added-on-value}
use Rattle.dwc_clone.specs.declared.made.MadeValue.{MadeValue}
use Rattle.dwc_clone.specs.declared.made.MadeValue.TheVariants.{Text, Constant, Flag, Entry, AnyEntry}
use Rattle.dwc_clone.specs.declared.wrapper.OpenWrapper.{OpenWrapper}
use Rattle.dwc_clone.specs.declared.wrapper.WrapperTexts.{WrapperTexts}
use Rattle.dwc_clone.specs.MadeAttributes.{given_value, with_made_entry, with_values}
use Rattle.dwc_clone.specs.OpenWrappers.{members_added, method_added, with_type}
use Rattle.dwc_clone.proofs.EntryPaths.{added-next}

pub values-kept : (id k : ℕ) (attributes : List (ℕ × MadeValue)) (u : GivenUnit) → IsAdded k u → IsAdded k (with_values id attributes u)
values-kept id k [] u added = added
values-kept id k (a ∷ others) u added = values-kept id k others (with_value id a.0 (given_value a.1) u) (added-on-value u k id a.0 (given_value a.1) added)

pub type-kept : (id k : ℕ) (target : Option UnitEntryId) (u : GivenUnit) → IsAdded k u → IsAdded k (with_type id target u)
type-kept id k None u added = added
type-kept id k (Some target) u added = added-on-value u k id DW_AT_type (UnitRef target) added

pub made-here : (parent tag : ℕ) (attributes : List (ℕ × MadeValue)) (u : GivenUnit) → IsAdded (length u.places) (with_made_entry parent tag attributes u)
made-here parent tag attributes u = values-kept (length u.places) (length u.places) attributes (with_child parent tag (with_next u)) (added-next parent tag u)

pub made-kept : (parent tag k : ℕ) (attributes : List (ℕ × MadeValue)) (u : GivenUnit) → IsAdded k u → IsAdded k (with_made_entry parent tag attributes u)
made-kept parent tag k attributes u added = values-kept (length u.places) k attributes (with_child parent tag (with_next u)) (added-on-child (with_next u) k parent tag (added-on-next u k added))

-- the members of a wrapper and a function of it take nothing away
pub members-kept : (w : OpenWrapper) (texts : WrapperTexts) (address : DebugInfoRef) (k : ℕ) (u : GivenUnit) → IsAdded k u → IsAdded k (members_added w texts address u)
members-kept w texts address k u added =
    let target : List (ℕ × MadeValue) = (DW_AT_name, Text texts.target) ∷ [] in
    let held : List (ℕ × MadeValue) = (DW_AT_name, Text texts.address) ∷ (DW_AT_type, AnyEntry address) ∷ (DW_AT_data_member_location, Constant DW_FORM_data1 0) ∷ [] in
    let first = with_made_entry w.wrapper.index DW_TAG_template_type_parameter target u in
    made-kept w.wrapper.index DW_TAG_member k held (with_type (length u.places) w.target first) (type-kept (length u.places) k w.target first (made-kept w.wrapper.index DW_TAG_template_type_parameter k target u added))

pub method-kept : (w : OpenWrapper) (texts : WrapperTexts) (name : StringId) (gives : UnitEntryId) (k : ℕ) (u : GivenUnit) → IsAdded k u → IsAdded k (method_added w texts name gives u)
method-kept w texts name gives k u added =
    let says : List (ℕ × MadeValue) = (DW_AT_linkage_name, Text texts.resolve) ∷ (DW_AT_name, Text name) ∷ (DW_AT_type, Entry gives) ∷ [] in
    let takes : List (ℕ × MadeValue) = (DW_AT_type, Entry w.types.to_wrapper) ∷ (DW_AT_artificial, Flag true) ∷ [] in
    made-kept (length u.places) DW_TAG_formal_parameter k takes (with_made_entry w.wrapper.index DW_TAG_subprogram says u) (made-kept w.wrapper.index DW_TAG_subprogram k says u added)
