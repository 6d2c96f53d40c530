-- The sections of a file that tell of its functions, along its sections; and what they tell.
use Rattle.std.proofs.Common.{◌≡◌, ℕ, List, [], ◌∷◌, ◌++◌, sym, ap, ◌∙◌, Option}
use Rattle.std.specs.Prelude.{codes}
use Rattle.std.specs.List.{flat_map}
use Rattle.std.specs.Option.{unwrap_or}
use Rattle.std.specs.Ordering.{nat_cmp}
use Rattle.dwc_wasm.specs.declared.function_sections.FunctionSections.{FunctionSections}
use Rattle.dwc_wasm.specs.FunctionSections.{HoldsLast, NotesContents}
use Rattle.dwc_base.specs.Reading.{Unread, uleb_at}
use Rattle.dwc_base.specs.Wasm.{Contents, WasmSection, contents_named, custom_section, last_of, module_from_sections, name_at}
use Rattle.dwc_base.specs.SortedEntries.{pair_cmp, sorted_entries}
use Rattle.dwc_base.specs.WasmFunctions.{all_local_types, bodies, body_at, code_contents, function_contents, last_contents, local_types, no_bytes, parameter_types, parameter_types_at, type_contents, type_numbers}
use Rattle.dwc_base.specs.WasmNames.{local_name_map_at, name_map_at, name_of_module, names_of_functions, names_of_locals, said_function_names, said_in, said_local_names}
use Rattle.dwc_base.specs.WasmVectors.{readable_vector, vector_at}
use Rattle.dwc_wasm.proofs.Translated.{custom-more}
use Rattle.dwc_base.proofs.LastOf.{last_of-more}

module _ (done : List WasmSection) (s : WasmSection) where
  last-more : (pick : Contents → Option Unread) → last_contents pick (module_from_sections (done ++ s ∷ [])) ≡ unwrap_or (pick s.contents) (last_contents pick (module_from_sections done))
  unfolding last_contents module_from_sections
  last-more pick = last_of-more (λ x. pick x.contents) done s no_bytes

-- One more section of a file is taken note of.
pub HoldsLast-more : (old new : FunctionSections) (done : List WasmSection) (s : WasmSection) → NotesContents old new s.contents → HoldsLast old done → HoldsLast new (done ++ s ∷ [])
HoldsLast-more old new done s n h = record {
  types = n.types ∙ ap (unwrap_or (type_contents s.contents)) h.types ∙ sym (last-more done s type_contents);
  functions = n.functions ∙ ap (unwrap_or (function_contents s.contents)) h.functions ∙ sym (last-more done s function_contents);
  «code» = n.code ∙ ap (unwrap_or (code_contents s.contents)) h.code ∙ sym (last-more done s code_contents);
  names = n.names ∙ ap (unwrap_or (contents_named (codes "name") s.contents)) h.names ∙ sym (custom-more done s (codes "name"));
}

-- The types that are read from them are those of the module.
pub types-told : (f : FunctionSections) (all : List WasmSection) → HoldsLast f all → all_local_types (readable_vector parameter_types_at f.types) (readable_vector uleb_at f.functions) (readable_vector body_at f.code) ≡ local_types (module_from_sections all)
unfolding local_types parameter_types type_numbers bodies
types-told f all h =
    ap (λ u. all_local_types (readable_vector parameter_types_at u) (readable_vector uleb_at f.functions) (readable_vector body_at f.code)) h.types
    ∙ ap (λ u. all_local_types (readable_vector parameter_types_at (last_contents type_contents (module_from_sections all))) (readable_vector uleb_at u) (readable_vector body_at f.code)) h.functions
    ∙ ap (λ u. all_local_types (readable_vector parameter_types_at (last_contents type_contents (module_from_sections all))) (readable_vector uleb_at (last_contents function_contents (module_from_sections all))) (readable_vector body_at u)) h.code

-- The names that the bytes of the section `name` tell are those of the module.
module _ (all : List WasmSection) (bytes : List ℕ) (is : bytes ≡ custom_section (codes "name") all) where
  pub module-named : last_of (said_in 0 name_at bytes) ≡ name_of_module (module_from_sections all)
  unfolding name_of_module module_from_sections
  module-named = ap (λ b. last_of (said_in 0 name_at b)) is

  pub functions-named : sorted_entries nat_cmp (flat_map (λ names. names) (said_in 1 name_map_at bytes)) ≡ names_of_functions (module_from_sections all)
  unfolding names_of_functions said_function_names module_from_sections
  functions-named = ap (λ b. sorted_entries nat_cmp (flat_map (λ names. names) (said_in 1 name_map_at b))) is

  pub locals-named : sorted_entries pair_cmp (flat_map (λ maps. flat_map (λ names. names) maps) (said_in 2 (vector_at local_name_map_at) bytes)) ≡ names_of_locals (module_from_sections all)
  unfolding names_of_locals said_local_names module_from_sections
  locals-named = ap (λ b. sorted_entries pair_cmp (flat_map (λ maps. flat_map (λ names. names) maps) (said_in 2 (vector_at local_name_map_at) b))) is
