-- What the operations of an expression compile to where all are supported.
use Rattle.std.specs.Prelude.{ℕ, List, if◌then◌else◌, Option, Some, None, Result, Ok}
use Rattle.dwc_dwarf.specs.Operations.{Operation}
use Rattle.dwc_native.specs.Parts.{CompiledParts, has_whole_jumps, compiled_operations}

-- the parts of supported operations of an expression of a length; nothing where a jump goes into an operation
abbrev pub compiled_supported : Option CompiledParts → ℕ → List Operation → Result (Option CompiledParts) ℕ
compiled_supported base size os = if has_whole_jumps size os then Ok (Some (compiled_operations base size os)) else Ok None
