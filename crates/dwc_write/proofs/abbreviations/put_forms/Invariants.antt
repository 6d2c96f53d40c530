use Rattle.std.proofs.Common.{◌≡◌, ◌++◌, drop}
use Rattle.std.specs.List.{flat_map}
use Rattle.dwc_unit.specs.GivenUnits.{form_bytes}
use Rattle.dwc_write.proofs.abbreviations.put_forms.Given as goal

-- what is there, and what is left to append
abbrev pub invariant-loop-form : goal.invariant-loop-form
invariant-loop-form l = l.out.items ++ flat_map form_bytes (drop l.form-index l.forms) ≡ l.initial.out.items ++ flat_map form_bytes l.forms
