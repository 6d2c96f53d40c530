use Rattle.std.proofs.Common.{◌≡◌, drop, map}
use Rattle.std.specs.Prelude.{slice_get}
use Rattle.dwc_dwarf.specs.ExpressionPlaces.{attribute_ends}
use Rattle.dwc_read.specs.AttributeSpecs.{spec_view}
use Rattle.dwc_read.proofs.value_end.attribute_end.Given as goal

-- the end that is wanted stands among those of what is left
abbrev pub invariant-loop-spec : goal.invariant-loop-spec
invariant-loop-spec l =
    slice_get (attribute_ends l.unit.sections l.unit.header (map spec_view (drop l.spec-index l.specs)) l.cursor) l.before
    ≡ slice_get (attribute_ends l.unit.sections l.unit.header (map spec_view l.specs) l.fn.cursor) l.number
