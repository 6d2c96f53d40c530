-- The entries of a module's synthetic unit, as they are added: their texts by numbers, and the places of their parents.
use Rattle.std.specs.Prelude.{ℕ, ◌+◌, List, [], ◌∷◌, ◌++◌, length, true, None, codes}
use Rattle.dwc_base.specs.declared.records.Encoding.{Encoding}
use Rattle.dwc_base.specs.declared.constants.TheConstants.{DW_AT_artificial, DW_AT_byte_size, DW_AT_data_member_location, DW_AT_encoding, DW_AT_language, DW_AT_linkage_name, DW_AT_name, DW_AT_producer, DW_AT_type, DW_ATE_unsigned, DW_FORM_data1, DW_FORM_data2, DW_FORM_data4, DW_FORM_udata, DW_LANG_C11, DW_TAG_base_type, DW_TAG_compile_unit, DW_TAG_formal_parameter, DW_TAG_member, DW_TAG_pointer_type, DW_TAG_structure_type, DW_TAG_subprogram}
use Rattle.dwc_native.specs.Compiled.{Memory, no_memory, defined, imported}
use Rattle.dwc_rules.specs.SyntheticUnit.{memory_members}
use Rattle.dwc_clone.specs.GivenAttributes.{Attribute}
use Rattle.dwc_unit.specs.declared.attributes.AttributeValue.TheVariants as write
use Rattle.dwc_unit.specs.declared.strings.StringId.{StringId}
use Rattle.dwc_unit.specs.GivenLines.{no_lines}
use Rattle.dwc_unit.specs.GivenUnits.{Addition, GivenUnit, places_from}
use Rattle.dwc_carry.specs.declared.made_entries.MadeValue.{MadeValue}
use Rattle.dwc_carry.specs.declared.made_entries.MadeValue.TheVariants.{Text, Constant}
use Rattle.dwc_carry.specs.declared.synthetic_entries.SyntheticTexts.{SyntheticTexts}

-- the texts of the unit, and the numbers of these
abbrev pub synthetic_texts : List ℕ → List (List ℕ)
synthetic_texts set_memory =
    codes "WasmtimeModuleSyntheticUnit" ∷ codes "wasmtime" ∷ codes "u8" ∷ codes "u8*" ∷ codes "WasmtimeVMContext" ∷ codes "memory" ∷ set_memory ∷ codes "set" ∷ codes "WasmtimeVMContext*" ∷ codes "WebAssemblyPtr" ∷ []

abbrev pub synthetic_numbers : SyntheticTexts → List ℕ
synthetic_numbers t =
    t.unit.index ∷ t.producer.index ∷ t.byte.index ∷ t.byte_pointer.index ∷ t.context.index ∷ t.memory.index ∷ t.set_memory.index ∷ t.set.index ∷ t.context_pointer.index ∷ t.wasm_pointer.index ∷ []

-- ---- attributes

abbrev pub texted : ℕ → StringId → Attribute
texted name id = record { name = name; value = write.StringRef id }

abbrev pub typed : ℕ → Attribute
typed place = record { name = DW_AT_type; value = write.UnitRef (record { index = place }) }

abbrev pub numbered : ℕ → ℕ → ℕ → Attribute
numbered name form bits = record { name = name; value = write.Constant form bits }

abbrev pub below : ℕ → ℕ → List Attribute → Addition
below parent tag attributes = record { parent = parent; tag = tag; attributes = attributes }

-- ---- entries

abbrev pub root_attributes : SyntheticTexts → List (ℕ × MadeValue)
root_attributes t = (DW_AT_name, Text t.unit) ∷ (DW_AT_producer, Text t.producer) ∷ (DW_AT_language, Constant DW_FORM_data2 DW_LANG_C11) ∷ []

abbrev pub root_addition : SyntheticTexts → Addition
root_addition t = below 0 DW_TAG_compile_unit (texted DW_AT_name t.unit ∷ texted DW_AT_producer t.producer ∷ numbered DW_AT_language DW_FORM_data2 DW_LANG_C11 ∷ [])

abbrev pub first_additions : SyntheticTexts → List Addition
first_additions t =
    below 0 DW_TAG_base_type (texted DW_AT_name t.byte ∷ numbered DW_AT_encoding DW_FORM_data1 DW_ATE_unsigned ∷ numbered DW_AT_byte_size DW_FORM_data1 1 ∷ [])
    ∷ below 0 DW_TAG_pointer_type (texted DW_AT_name t.byte_pointer ∷ typed 1 ∷ []) ∷ []

abbrev pub context_additions : SyntheticTexts → Memory → List Addition
context_additions t (defined offset) =
    below 0 DW_TAG_structure_type (texted DW_AT_name t.context ∷ numbered DW_AT_byte_size DW_FORM_data4 (offset + 8) ∷ [])
    ∷ below 3 DW_TAG_member (texted DW_AT_name t.memory ∷ typed 2 ∷ numbered DW_AT_data_member_location DW_FORM_udata offset ∷ []) ∷ []
context_additions t no_memory = below 0 DW_TAG_structure_type (texted DW_AT_name t.context ∷ []) ∷ []
context_additions t (imported definition base) = below 0 DW_TAG_structure_type (texted DW_AT_name t.context ∷ []) ∷ []

-- the function that makes a context the one in use stands at a place
abbrev pub last_additions : SyntheticTexts → ℕ → List Addition
last_additions t set =
    below 3 DW_TAG_subprogram (texted DW_AT_linkage_name t.set_memory ∷ texted DW_AT_name t.set ∷ [])
    ∷ below set DW_TAG_formal_parameter (typed (set + 2) ∷ record { name = DW_AT_artificial; value = write.Flag true } ∷ [])
    ∷ below 0 DW_TAG_pointer_type (texted DW_AT_name t.context_pointer ∷ typed 3 ∷ [])
    ∷ below 0 DW_TAG_base_type (texted DW_AT_name t.wasm_pointer ∷ numbered DW_AT_byte_size DW_FORM_data1 4 ∷ numbered DW_AT_encoding DW_FORM_data1 DW_ATE_unsigned ∷ []) ∷ []

-- the place of that function, behind the context and its memory
abbrev pub place_of_set : Memory → ℕ
place_of_set m = 4 + length (memory_members m)

abbrev pub synthetic_additions : SyntheticTexts → Memory → List Addition
synthetic_additions t m = root_addition t ∷ (first_additions t ++ (context_additions t m ++ last_additions t (place_of_set m)))

-- The unit, which has no line program.
abbrev pub synthetic_given : Encoding → SyntheticTexts → Memory → GivenUnit
synthetic_given encoding t m = record { version = encoding.version; address_size = encoding.address_size; lines = no_lines None; places = places_from 0 (synthetic_additions t m); additions = synthetic_additions t m }
