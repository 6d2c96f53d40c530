-- Location lists as contracts see them.
use Rattle.std.specs.Prelude.{ℕ, List}
use Rattle.dwc_base.specs.declared.records.Address.{Address}
use Rattle.dwc_unit.specs.declared.expressions.Expression.{Expression}

-- intervals of addresses in order: where each begins, how many bytes it has, and the expression that holds there
pub record Locations : Type 0 where
  pub items : List (Address × ℕ × Expression)

-- a location list
pub record LocationList : Type 0 where
  pub locations : Locations
