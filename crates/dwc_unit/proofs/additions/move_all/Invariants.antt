use Rattle.dwc_unit.proofs.AdditionLaws.{AreMoved}
use Rattle.dwc_unit.proofs.additions.move_all.Given as goal

-- the first ones are moved, the others are not
abbrev pub invariant-loop-i : goal.invariant-loop-i
invariant-loop-i l = AreMoved l.i l.from l.to l.initial.from
