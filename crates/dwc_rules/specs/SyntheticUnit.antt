-- The synthetic unit, which each module of an output has of its own: the type of the module's context, in which its linear memory is found,
-- and the type of an address in that memory. (This project's own tree; DWARF 4 and 5, section 3.1.1 and chapter 5.)
use Rattle.std.specs.Prelude.{ℕ, suc, ◌+◌, ◌^◌, List, [], ◌∷◌, ◌++◌, length, Bool, true, false, nat_le, codes}
use Rattle.dwc_base.specs.declared.constants.TheConstants.{DW_AT_artificial, DW_AT_byte_size, DW_AT_data_member_location, DW_AT_encoding, DW_AT_language, DW_AT_linkage_name, DW_AT_name, DW_AT_producer, DW_AT_type, DW_ATE_unsigned, DW_FORM_data2, DW_FORM_data4, DW_LANG_C11, DW_TAG_base_type, DW_TAG_compile_unit, DW_TAG_formal_parameter, DW_TAG_member, DW_TAG_pointer_type, DW_TAG_structure_type, DW_TAG_subprogram}
use Rattle.dwc_native.specs.Compiled.{Memory, no_memory, defined, imported}
use Rattle.dwc_dwarf.specs.Trees.{constant, flag, text}
use Rattle.dwc_rules.specs.Drafts.{synthetic_entry, DraftValue, goes_to, Draft}
use Rattle.dwc_rules.specs.MadeEntries.{named, data1, udata, made}

-- ---- the memory in the context

-- A memory that the module defines is a member of the context.
abbrev pub memory_members : Memory → List Draft
memory_members (defined offset) =
    made 2 DW_TAG_member (
    named DW_AT_name (text (codes "memory"))
    ∷ (DW_AT_type, goes_to (synthetic_entry 2))
    ∷ named DW_AT_data_member_location (udata offset) ∷ []) ∷ []
memory_members no_memory = []
memory_members (imported definition base) = []

-- The context is known up to that member, a pointer of 8 bytes.
abbrev pub context_size : Memory → List (ℕ × DraftValue)
context_size (defined offset) = named DW_AT_byte_size (constant DW_FORM_data4 (offset + 8)) ∷ []
context_size no_memory = []
context_size (imported definition base) = []

-- whether the context up to its memory has no size of 32 bits, which is refused
abbrev pub is_too_far : Memory → Bool
is_too_far (defined offset) = nat_le (2 ^ 32) (offset + 8)
is_too_far no_memory = false
is_too_far (imported definition base) = false

-- ---- the places that others refer to

-- the place of the type of a pointer to the context
abbrev pub place_of_context_pointer : Memory → ℕ
place_of_context_pointer m = 6 + length (memory_members m)

-- the place of the type of an address in a linear memory
abbrev pub place_of_wasm_pointer : Memory → ℕ
place_of_wasm_pointer m = suc (place_of_context_pointer m)

-- ---- the unit

-- an unsigned number
abbrev pub unsigned_encoding : ℕ × DraftValue
unsigned_encoding = named DW_AT_encoding (data1 DW_ATE_unsigned)

-- The unit of a module: `set_memory` is the name of the function that makes a context the one in use. At place 1 stands the type of a
-- byte, at 2 that of a pointer to bytes, and at 3 the context.
unfoldable pub synthetic_unit : List ℕ → Memory → List Draft
synthetic_unit set_memory m =
    made 0 DW_TAG_compile_unit (
    named DW_AT_name (text (codes "WasmtimeModuleSyntheticUnit"))
    ∷ named DW_AT_producer (text (codes "wasmtime"))
    ∷ named DW_AT_language (constant DW_FORM_data2 DW_LANG_C11) ∷ [])
    ∷ made 1 DW_TAG_base_type (named DW_AT_name (text (codes "u8")) ∷ unsigned_encoding ∷ named DW_AT_byte_size (data1 1) ∷ [])
    ∷ made 1 DW_TAG_pointer_type (named DW_AT_name (text (codes "u8*")) ∷ (DW_AT_type, goes_to (synthetic_entry 1)) ∷ [])
    ∷ made 1 DW_TAG_structure_type (named DW_AT_name (text (codes "WasmtimeVMContext")) ∷ context_size m)
    ∷ memory_members m
    ++ made 2 DW_TAG_subprogram (named DW_AT_linkage_name (text set_memory) ∷ named DW_AT_name (text (codes "set")) ∷ [])
    ∷ made 3 DW_TAG_formal_parameter ((DW_AT_type, goes_to (synthetic_entry (place_of_context_pointer m))) ∷ named DW_AT_artificial (flag true) ∷ [])
    ∷ made 1 DW_TAG_pointer_type (named DW_AT_name (text (codes "WasmtimeVMContext*")) ∷ (DW_AT_type, goes_to (synthetic_entry 3)) ∷ [])
    ∷ made 1 DW_TAG_base_type (named DW_AT_name (text (codes "WebAssemblyPtr")) ∷ named DW_AT_byte_size (data1 4) ∷ unsigned_encoding ∷ []) ∷ []
