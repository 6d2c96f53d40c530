use Rattle.std.proofs.Common.{◌≡◌, ◌++◌, drop}
use Rattle.std.specs.List.{flat_map}
use Rattle.dwc_unit.specs.GivenUnits.{forms_of}
use Rattle.dwc_write.specs.ShapeViews.{form_words}
use Rattle.dwc_write.proofs.shapes.push_words.Given as goal

-- what is there, and what is left to append
abbrev pub invariant-loop-attribute : goal.invariant-loop-attribute
invariant-loop-attribute l = l.words.items ++ flat_map form_words (forms_of (drop l.attribute-index l.attributes)) ≡ l.initial.words.items ++ flat_map form_words (forms_of l.attributes)
