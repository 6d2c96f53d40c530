-- The functions without debugging information: those with a symbol that are not translated, that is to say that no carried unit tells of.
-- (This project's own rule.)
use Rattle.std.specs.Prelude.{ℕ, suc, List, [], ◌∷◌, Bool, not, ◌&&◌, is_some}
use Rattle.std.specs.List.{filter, filter_map, flat_map}
use Rattle.dwc_native.specs.Functions.{Function}
use Rattle.dwc_rules.specs.Carried.{Module, CarriedUnit}
use Rattle.dwc_rules.specs.KeptModules.{kept_in}
use Rattle.dwc_rules.specs.RangeAttributes.{begun_in_unit, is_number_of}
use Rattle.dwc_rules.specs.CarriedUnits.{kept_of, carried_units_of}
use Rattle.dwc_carried.specs.DefinedFunctions.{DefinedFunction}

-- the functions that kept subprograms of a carried unit begin in
abbrev pub begun_functions : CarriedUnit → List Function
begun_functions u = filter_map (λ e. begun_in_unit u e.entry) (kept_in (kept_of u.module_of) u.unit)

-- the same of all carried units of a module
abbrev pub begun_in_module : Module → List Function
begun_in_module m = flat_map begun_functions (carried_units_of m)

-- Whether a kept subprogram of a carried unit of some modules begins in the function of a number.
abbrev pub is_begun : List Module → ℕ → Bool
is_begun ms = is_number_of (flat_map begun_in_module ms)

-- functions with their places, of which the first has one
abbrev pub defined_from : ℕ → List Function → List DefinedFunction
defined_from place [] = []
defined_from place (f ∷ fs) = record { place = place; function = f } ∷ defined_from (suc place) fs

-- whether a function has a symbol and its number is none of those that are translated
abbrev pub is_simulated : (ℕ → Bool) → Function → Bool
is_simulated translated f = is_some f.symbol && not (translated f.number)

-- those of some functions
abbrev pub simulated_among : (ℕ → Bool) → List DefinedFunction → List DefinedFunction
simulated_among translated ds = filter (λ d. is_simulated translated d.function) ds

-- The simulated functions of a module, in order: those with a symbol whose numbers are none of the translated ones.
unfoldable pub simulated_functions : (ℕ → Bool) → Module → List DefinedFunction
simulated_functions translated m = simulated_among translated (defined_from 0 m.functions)
