-- A compilation: modules and the functions compiled from them.
use Rattle.std.specs.Prelude.{◌≡◌, ℕ, ◌<◌, ◌^◌, List, [], map, length, slice_get, slice_index_or, Option, None, option_map, Vec, All}
use Rattle.std.specs.Option.{unwrap_or}
use Rattle.std.specs.Global.{Global}
use Rattle.dwc_base.specs.declared.records.Tunables.{Tunables}
use Rattle.dwc_base.specs.declared.translation.ModuleTranslation.{ModuleTranslation}
use Rattle.dwc_native.specs.SharedSymbols.{shared_symbol}
use Rattle.dwc_isa.specs.declared.memory_offset.ModuleMemoryOffset.{ModuleMemoryOffset}
use Rattle.dwc_compiled.specs.declared.metadata.CompiledFunctionMetadata.{CompiledFunctionMetadata}
use Rattle.dwc_addr.specs.Numbers.{Compiled, function_count, all_symbols, symbol_view}

-- modules by their places, each with its functions in order and the offset of its memory; the bytes of a package; names of
-- functions of the run time; and a counter of names that are made up
pub record CompilationValue : Type 0 where
  pub translations : List ModuleTranslation
  pub functions : List (List Compiled)
  pub memory_offsets : List ModuleMemoryOffset
  pub package_bytes : Option (List ℕ)
  pub tunables : Tunables
  pub set_memory : List ℕ
  pub resolve_memory : List ℕ
  pub next_id : ℕ

-- the functions of each module
abbrev pub lists : List (Vec Compiled Global) → List (List Compiled)
lists modules = map (λ fs. fs.items) modules

-- the functions of a module
abbrev pub functions_at : CompilationValue → ℕ → List Compiled
functions_at c place = slice_index_or c.functions place []

-- where the contents of a module's code section begin in its file
abbrev pub code_offset_at : CompilationValue → ℕ → ℕ
code_offset_at c place = unwrap_or (option_map (λ t. t.code_section_offset) (slice_get c.translations place)) 0

-- A function's number, where it has a symbol, and what is known of it.
abbrev pub numbered : ℕ → Compiled → Option ℕ × CompiledFunctionMetadata
numbered number f = (option_map (λ s. number) f.0, f.1)

-- modules have as many functions as they define, and each has the offset of its memory; there are fewer than 2 ^ 32 of both
pub record IsCounted (translations : List ModuleTranslation) (functions : List (List Compiled)) (offsets : List ModuleMemoryOffset) : Type 0 where
  pub defined : map length functions ≡ map (λ t. t.defined_funcs) translations
  pub offsets_given : length offsets ≡ length translations
  pub few_modules : length translations < 2 ^ 32
  pub few_functions : function_count functions < 2 ^ 32

-- no two functions have one symbol
abbrev pub HasDistinctSymbols : List (List Compiled) → Type 0
HasDistinctSymbols functions = shared_symbol (map symbol_view (all_symbols functions)) ≡ None
