use Rattle.std.proofs.Common.{◌≡◌, drop}
use Rattle.dwc_unit.specs.GivenUnits.{forms_of, same_forms}
use Rattle.dwc_write.proofs.abbreviations.are_forms_of.Given as goal

-- those that are left are the same exactly where all are
abbrev pub invariant-loop-i : goal.invariant-loop-i
invariant-loop-i l = same_forms (drop l.i l.forms) (forms_of (drop l.i l.attributes)) ≡ same_forms l.forms (forms_of l.attributes)
