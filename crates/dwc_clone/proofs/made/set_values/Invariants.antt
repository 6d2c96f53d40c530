use Rattle.std.proofs.Common.{◌≡◌, drop, take}
use Rattle.dwc_unit.specs.GivenUnits.{IsAdded}
use Rattle.dwc_clone.specs.MadeAttributes.{with_values}
use Rattle.dwc_clone.proofs.made.set_values.Given as goal

-- what is set so far, and what is left to be set, is all
abbrev pub invariant-loop-i : goal.invariant-loop-i
invariant-loop-i l = record {
  known : IsAdded l.id.index l.unit;
  left : with_values l.id.index (drop l.i l.attributes) l.unit ≡ with_values l.id.index l.attributes l.fn.unit;
  done : l.unit ≡ with_values l.id.index (take l.i l.attributes) l.fn.unit;
}
