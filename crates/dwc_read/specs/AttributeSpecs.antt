-- What contracts see of an attribute of a declaration.
use Rattle.dwc_base.specs.Abbreviations as table
use Rattle.dwc_read.specs.declared.attribute_spec.AttributeSpec.{AttributeSpec}

abbrev pub spec_view : AttributeSpec → table.AttributeSpec
spec_view s = record { name = s.name; form = s.form; implicit = s.implicit }
