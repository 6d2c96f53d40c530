-- What contracts see of abbreviation tables.
use Rattle.std.specs.Prelude.{map}
use Rattle.dwc_base.specs.Abbreviations as table
use Rattle.dwc_read.specs.declared.declaration.Declaration.{Declaration}
use Rattle.dwc_read.specs.AttributeSpecs.{spec_view}

abbrev pub declaration_view : Declaration → table.Declaration
declaration_view d = record { code = d.code; tag = d.tag; has_children = d.has_children; attributes = map spec_view d.attributes.items }
