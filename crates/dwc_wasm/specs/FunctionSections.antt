-- The sections of a file that tell of its functions, as they are met.
use Rattle.std.specs.Prelude.{◌≡◌, List, codes}
use Rattle.std.specs.Option.{unwrap_or}
use Rattle.dwc_wasm.specs.declared.function_sections.FunctionSections.{FunctionSections}
use Rattle.dwc_base.specs.Wasm.{Contents, WasmSection, contents_named, custom_section, module_from_sections}
use Rattle.dwc_base.specs.WasmFunctions.{code_contents, function_contents, last_contents, type_contents}

-- They are the last ones of their kinds.
pub record HoldsLast (s : FunctionSections) (done : List WasmSection) : Type 0 where
  pub types : s.types ≡ last_contents type_contents (module_from_sections done)
  pub functions : s.functions ≡ last_contents function_contents (module_from_sections done)
  pub «code» : s.code ≡ last_contents code_contents (module_from_sections done)
  pub names : (s.names).left ≡ custom_section (codes "name") done

-- A further section is taken note of.
pub record NotesContents (old new : FunctionSections) (c : Contents) : Type 0 where
  pub types : new.types ≡ unwrap_or (type_contents c) old.types
  pub functions : new.functions ≡ unwrap_or (function_contents c) old.functions
  pub «code» : new.code ≡ unwrap_or (code_contents c) old.code
  pub names : (new.names).left ≡ unwrap_or (contents_named (codes "name") c) (old.names).left
