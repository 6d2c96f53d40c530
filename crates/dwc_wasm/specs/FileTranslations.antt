-- What the reader of WebAssembly files answers.
use Rattle.std.specs.Prelude.{◌≡◌, ℕ, List, Result, Ok, Err}
use Rattle.dwc_base.specs.declared.translation.ModuleTranslation.{ModuleTranslation}
use Rattle.dwc_wasm.specs.declared.split.WasmFault.{WasmFault}
use Rattle.dwc_wasm.specs.declared.split.WasmFault.TheVariants.{Malformed, OutOfMemory}
use Rattle.dwc_base.specs.Wasm.{WasmModule, wasm_module}
use Rattle.dwc_base.specs.Translations.{IsWholeTranslation}

-- What a translation of a file is: one of the module that the file is; else the place of the first field that breaks
-- the grammar, or want of memory.
abbrev pub TranslatesFile : List ℕ → Result ModuleTranslation WasmFault → Type 0
TranslatesFile bytes (Ok t) = (m : WasmModule) × (wasm_module bytes ≡ Ok m) × IsWholeTranslation t m
TranslatesFile bytes (Err (Malformed offset)) = wasm_module bytes ≡ Err offset
TranslatesFile bytes (Err OutOfMemory) = Unit {0}
