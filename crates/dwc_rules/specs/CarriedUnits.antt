-- The carried units of modules, and the units that an output has for a module. (This project's own order of units.)
use Rattle.std.specs.Prelude.{List, ◌∷◌, map}
use Rattle.dwc_rules.specs.Carried.{Module, CarriedUnit, WantedUnit, synthetic_unit, carried_unit}
use Rattle.dwc_rules.specs.KeptModules.{KeptModule, kept_module, carried_in}
use Rattle.dwc_rules.specs.EntryRules.{is_required}

-- a module with its kept entries
abbrev pub kept_of : Module → KeptModule
kept_of m = kept_module (λ u. is_required m.functions m.sections u.header) m

-- the carried units of a module, in order
abbrev pub carried_units_of : Module → List CarriedUnit
carried_units_of m = map (λ u. record { module_of = m; unit = u }) (carried_in (kept_of m))

-- The units of an output for a module, in order: its own, and those of its carried units.
abbrev pub wanted_units_of : Module → List WantedUnit
wanted_units_of m = synthetic_unit ∷ map carried_unit (carried_units_of m)
