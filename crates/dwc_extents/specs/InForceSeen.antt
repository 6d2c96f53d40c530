-- What is in force at an entry, as the definitions have it.
use Rattle.std.specs.Prelude.{List, option_map}
use Rattle.dwc_native.specs.Functions.{Function}
use Rattle.dwc_rules.specs.LocationAttributes as definitions
use Rattle.dwc_isa.specs.Registers.{Registers}
use Rattle.dwc_expr.specs.Builds.{surroundings}
use Rattle.dwc_extents.specs.declared.in_force.InForce.{InForce}

-- with the functions of a module and the numbers of a target's registers
abbrev pub in_force_view : List Function → Registers → InForce → definitions.InForce
in_force_view fs registers e = record {
  surroundings = surroundings fs (option_map (λ f. f.now) e.frame) registers;
  scope = option_map (λ s. s.now) e.scope;
  base = option_map (λ x. x.now) e.base;
}
