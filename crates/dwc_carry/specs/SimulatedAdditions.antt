-- The entries of the unit for functions without debugging information, as they are added: their texts by numbers, and the places of their
-- parents.
use Rattle.std.specs.Prelude.{ℕ, pos, List, [], ◌∷◌, ◌++◌, Some, codes}
use Rattle.dwc_base.specs.declared.constants.TheConstants.{DW_AT_byte_size, DW_AT_comp_dir, DW_AT_decl_file, DW_AT_decl_line, DW_AT_encoding, DW_AT_high_pc, DW_AT_language, DW_AT_location, DW_AT_low_pc, DW_AT_name, DW_AT_producer, DW_AT_ranges, DW_AT_stmt_list, DW_AT_type, DW_ATE_float, DW_ATE_signed, DW_FORM_data1, DW_FORM_data2, DW_FORM_udata, DW_LANG_C11, DW_TAG_base_type, DW_TAG_compile_unit, DW_TAG_subprogram, DW_TAG_variable}
use Rattle.dwc_base.specs.declared.records.Address.TheVariants.{Constant, Symbol}
use Rattle.dwc_base.specs.declared.records.OutputFor.{OutputFor}
use Rattle.dwc_base.specs.declared.records.OutputFor.TheVariants.{Default, Debugger}
use Rattle.dwc_carried.specs.UnitPaths.{path_directory, path_name}
use Rattle.dwc_clone.specs.GivenAttributes.{Attribute}
use Rattle.dwc_unit.specs.declared.attributes.AttributeValue.TheVariants as write
use Rattle.dwc_unit.specs.declared.attributes.DebugInfoRef.{DebugInfoRef}
use Rattle.dwc_unit.specs.LocationLists.{LocationList}
use Rattle.dwc_unit.specs.declared.lists.RangeList.{RangeList}
use Rattle.dwc_unit.specs.declared.strings.StringId.{StringId}
use Rattle.dwc_unit.specs.GivenLines.{GivenLines}
use Rattle.dwc_unit.specs.GivenUnits.{Addition, GivenUnit, with_value}
use Rattle.dwc_carry.specs.declared.simulated_entries.TypeTexts.{TypeTexts}
use Rattle.dwc_carry.specs.declared.simulated_root.RootTexts.{RootTexts}
use Rattle.dwc_carry.specs.SyntheticAdditions.{below, numbered, texted, typed}

-- ---- attributes

abbrev pub location_attribute : LocationList → Attribute
location_attribute list = record { name = DW_AT_location; value = write.LocationListRef list }

-- ---- the root

-- the texts of the root of a unit of a path, and the numbers of these
abbrev pub root_names : List ℕ → List (List ℕ)
root_names path = codes "wasmtime" ∷ path_name path ∷ path_directory path ∷ []

abbrev pub root_texts_of : RootTexts → List StringId
root_texts_of t = t.producer ∷ t.name ∷ t.directory ∷ []

-- its attributes but for those that say where its code is
abbrev pub name_attributes : RootTexts → List Attribute
name_attributes t =
    texted DW_AT_producer t.producer
    ∷ numbered DW_AT_language DW_FORM_data2 DW_LANG_C11
    ∷ texted DW_AT_name t.name
    ∷ record { name = DW_AT_stmt_list; value = write.LineProgramRef }
    ∷ texted DW_AT_comp_dir t.directory ∷ []

-- what its list counts from, for a debugger
abbrev pub base_attributes : OutputFor → List Attribute
base_attributes Default = []
base_attributes Debugger = record { name = DW_AT_low_pc; value = write.Address (Constant 0) } ∷ []

abbrev pub simulated_root_addition : OutputFor → RootTexts → RangeList → Addition
simulated_root_addition output t list = below 0 DW_TAG_compile_unit (name_attributes t ++ base_attributes output ++ record { name = DW_AT_ranges; value = write.RangeListRef list } ∷ [])

-- the unit of a version with its root alone
abbrev pub root_given : OutputFor → ℕ → ℕ → GivenLines → RootTexts → RangeList → GivenUnit
root_given output version size lines t list = record { version = version; address_size = size; lines = lines; places = Some 0 ∷ []; additions = simulated_root_addition output t list ∷ [] }

-- the same, before it is said where its code is
abbrev pub root_named : ℕ → ℕ → GivenLines → RootTexts → GivenUnit
root_named version size lines t = record { version = version; address_size = size; lines = lines; places = Some 0 ∷ []; additions = below 0 DW_TAG_compile_unit (name_attributes t) ∷ [] }

-- a unit whose root was given the list of its code, for some output
abbrev pub with_code : OutputFor → RangeList → GivenUnit → GivenUnit
with_code Default list u = with_value 0 DW_AT_ranges (write.RangeListRef list) u
with_code Debugger list u = with_value 0 DW_AT_ranges (write.RangeListRef list) (with_value 0 DW_AT_low_pc (write.Address (Constant 0)) u)

-- ---- types

-- the names of the types, and the numbers of these
abbrev pub type_names : List (List ℕ)
type_names = codes "i32" ∷ codes "i64" ∷ codes "f32" ∷ codes "f64" ∷ []

abbrev pub type_texts_of : TypeTexts → List StringId
type_texts_of t = t.int32 ∷ t.int64 ∷ t.float32 ∷ t.float64 ∷ []

abbrev pub type_addition : StringId → ℕ → ℕ → Addition
type_addition name size encoding = below 0 DW_TAG_base_type (texted DW_AT_name name ∷ numbered DW_AT_byte_size DW_FORM_data1 size ∷ numbered DW_AT_encoding DW_FORM_data1 encoding ∷ [])

abbrev pub type_additions : TypeTexts → List Addition
type_additions t =
    type_addition t.int32 4 DW_ATE_signed ∷ type_addition t.int64 8 DW_ATE_signed ∷ type_addition t.float32 4 DW_ATE_float ∷ type_addition t.float64 8 DW_ATE_float ∷ []

-- ---- functions and what is below them

-- a function of a symbol
abbrev pub subprogram_addition : StringId → ℕ → ℕ → ℕ → Addition
subprogram_addition name symbol size line =
    below 0 DW_TAG_subprogram (
    record { name = DW_AT_low_pc; value = write.Address (Symbol symbol (pos 0)) }
    ∷ numbered DW_AT_high_pc DW_FORM_udata size
    ∷ texted DW_AT_name name
    ∷ numbered DW_AT_decl_file DW_FORM_udata 1
    ∷ numbered DW_AT_decl_line DW_FORM_udata line ∷ [])

-- a parameter or a variable of a function at a place, whose type is at another
abbrev pub local_addition : ℕ → ℕ → StringId → ℕ → LocationList → Addition
local_addition parent tag name type list = below parent tag (texted DW_AT_name name ∷ typed type ∷ location_attribute list ∷ [])

-- the variable of the context
abbrev pub context_addition : ℕ → StringId → DebugInfoRef → LocationList → Addition
context_addition parent name type list =
    below parent DW_TAG_variable (texted DW_AT_name name ∷ record { name = DW_AT_type; value = write.DebugInfoRef type } ∷ location_attribute list ∷ [])
