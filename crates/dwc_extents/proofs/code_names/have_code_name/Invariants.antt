use Rattle.std.proofs.Common.{◌≡◌, drop, map}
use Rattle.dwc_read.specs.ValuesSeen.{attribute_view}
use Rattle.dwc_extents.specs.CodeNames.{have_code_name}
use Rattle.dwc_extents.proofs.code_names.have_code_name.Given as goal

-- one stands among what is left, or none does
abbrev pub invariant-loop-attribute : goal.invariant-loop-attribute
invariant-loop-attribute l = have_code_name (map attribute_view (drop l.attribute-index l.attributes)) ≡ have_code_name (map attribute_view l.attributes)
