-- Functions are numbered over all modules in order.
use Rattle.std.specs.Prelude.{◌≡◌, ℕ, ◌+◌, List, [], ◌∷◌, map, length, take, Option, Some, None, option_map, Result, Ok, Err}
use Rattle.std.specs.List.{flat_map}
use Rattle.dwc_base.specs.declared.records.SymbolId.{SymbolId}
use Rattle.dwc_native.specs.SharedSymbols.{shared_symbol}
use Rattle.dwc_compiled.specs.declared.metadata.CompiledFunctionMetadata.{CompiledFunctionMetadata}
use Rattle.dwc_addr.specs.declared.compilation_error.CompilationError.{CompilationError}
use Rattle.dwc_addr.specs.declared.compilation_error.CompilationError.TheVariants.{SharedSymbol, OutOfMemory}

-- a function's symbol, if it has one, and what is known of it
abbrev pub Compiled : Type 0
Compiled = Option SymbolId × CompiledFunctionMetadata

-- how many functions some modules have
abbrev pub function_count : List (List Compiled) → ℕ
function_count [] = 0
function_count (fs ∷ modules) = length fs + function_count modules

-- the number of a module's first function: how many functions the modules before it have
abbrev pub first_number : List (List Compiled) → ℕ → ℕ
first_number modules place = function_count (take place modules)

-- the numbers of the first functions of modules, of which the first has a number
abbrev pub numbers_from : ℕ → List (List Compiled) → List ℕ
numbers_from number [] = []
numbers_from number (fs ∷ modules) = number ∷ numbers_from (number + length fs) modules

-- the symbols of a module's functions
abbrev pub symbols_in : List Compiled → List (Option SymbolId)
symbols_in fs = map (λ f. f.0) fs

-- the symbols of the functions of all modules, by the functions' numbers
abbrev pub all_symbols : List (List Compiled) → List (Option SymbolId)
all_symbols modules = flat_map symbols_in modules

abbrev pub symbol_view : Option SymbolId → Option ℕ
symbol_view symbol = option_map (λ s. s.0) symbol

-- No two functions share a symbol, or the first that do are named, or memory was wanting.
abbrev pub AreDistinct : {A : Type 0} → List (Option SymbolId) → Result A CompilationError → Type 0
AreDistinct symbols (Ok x) = shared_symbol (map symbol_view symbols) ≡ None
AreDistinct symbols (Err (SharedSymbol first second)) = shared_symbol (map symbol_view symbols) ≡ Some (first, second)
AreDistinct symbols (Err OutOfMemory) = Unit {0}
