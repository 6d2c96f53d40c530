use Rattle.std.proofs.Common.{◌≡◌, drop, map}
use Rattle.dwc_read.specs.ValuesSeen.{attribute_view, first_value}
use Rattle.dwc_read.proofs.attribute.first_of_name.Given as goal

-- the first of that name stands among what is left
abbrev pub invariant-loop-attribute : goal.invariant-loop-attribute
invariant-loop-attribute l = first_value l.name (map attribute_view (drop l.attribute-index l.attributes)) ≡ first_value l.name (map attribute_view l.attributes)
