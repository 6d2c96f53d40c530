use Rattle.std.proofs.Common.{◌≡◌, ◌++◌, drop}
use Rattle.dwc_unit.specs.GivenUnits.{forms_of}
use Rattle.dwc_write.proofs.shapes.push_forms.Given as goal

-- what is there, and what is left to append
abbrev pub invariant-loop-attribute : goal.invariant-loop-attribute
invariant-loop-attribute l = l.forms.items ++ forms_of (drop l.attribute-index l.attributes) ≡ l.initial.forms.items ++ forms_of l.attributes
