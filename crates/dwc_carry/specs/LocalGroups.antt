-- The types of the locals of a function, in groups that are told by where they end. (WebAssembly 1.0, section 2.5.3.)
use Rattle.std.specs.Prelude.{ℕ, ◌-◌, List, [], ◌∷◌}
use Rattle.dwc_base.specs.declared.translation.ValType.{ValType}
use Rattle.dwc_base.specs.WasmFunctions.{LocalTypes}
use Rattle.dwc_carry.specs.declared.local_types.LocalGroup.{LocalGroup}

-- groups with their sizes, of which the first begins at a number
abbrev pub groups_from : ℕ → List LocalGroup → List (ℕ × ValType)
groups_from start [] = []
groups_from start (g ∷ gs) = (g.end - start, g.value_type) ∷ groups_from g.end gs

-- the types of parameters, and of groups behind them
abbrev pub types_of : List ValType → List LocalGroup → LocalTypes
types_of params groups = record { params = params; locals = groups_from 0 groups }
