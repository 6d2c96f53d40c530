-- The functions that a module defines, and what its file tells of them.
use Rattle.std.specs.Prelude.{ℕ, ◌==◌, List, ◌&&◌, slice_get, Option, option_map}
use Rattle.std.specs.List.{find}
use Rattle.std.specs.Option.{unwrap_or}
use Rattle.dwc_rules.specs.Carried.{Module}
use Rattle.dwc_native.specs.Functions.{Function}
use Rattle.dwc_base.specs.WasmFunctions.{LocalTypes, no_local_types}

-- a function that a module defines, with its place among these
pub record DefinedFunction : Type 0 where
  pub place : ℕ
  pub function : Function

-- the types of the locals of a defined function
abbrev pub types_at : Module → DefinedFunction → LocalTypes
types_at m d = unwrap_or (slice_get m.file.local_types d.place) no_local_types

-- the name that is told of a local of a function, if one is
abbrev pub told_local_name : Module → ℕ → ℕ → Option (List ℕ)
told_local_name m index n = option_map (λ row. row.1) (find (λ row. ((row.0).0 == index) && ((row.0).1 == n)) m.file.local_names)
