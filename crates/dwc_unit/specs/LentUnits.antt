-- A unit of a table that is lent to be changed.
use Rattle.std.specs.Prelude.{ℕ}
use Rattle.std.specs.Vec.{with_item}
use Rattle.std.specs.Borrow.{Lends, Fml, MutBor}
use Rattle.dwc_unit.specs.declared.units.UnitTable.{UnitTable}
use Rattle.dwc_unit.specs.contracts.units.UnitTable.{the_row as row_of_table}
use Rattle.dwc_unit.specs.contracts.units.Unit.{the_row as row_of_unit}
use Rattle.dwc_unit.specs.GivenUnits.{GivenUnit}

-- Once the borrow ends, the unit at a place is the last that was written through it, and all others are as they were.
abbrev pub lends_unit : MutBor UnitTable → ℕ → MutBor GivenUnit → Fml
lends_unit table place r = Lends row_of_table row_of_unit table r (λ u. record { units = with_item table.now.units place u })
