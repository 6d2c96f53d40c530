use Rattle.std.proofs.Common.{◌≡◌, ◌++◌, drop, map}
use Rattle.dwc_base.specs.Reading.{seen_as}
use Rattle.dwc_dwarf.specs.Entries.{attributes_at}
use Rattle.dwc_read.specs.AttributeSpecs.{spec_view}
use Rattle.dwc_read.specs.ValuesSeen.{attribute_view}
use Rattle.dwc_read.proofs.attribute.attributes.Given as goal

-- what was read so far, and what is still unread, is all
abbrev pub invariant-loop-spec : goal.invariant-loop-spec
invariant-loop-spec l =
    seen_as (λ ys. map attribute_view l.found.items ++ ys) (attributes_at l.unit.sections l.unit.header (map spec_view (drop l.spec-index l.specs)) l.cursor)
    ≡ attributes_at l.unit.sections l.unit.header (map spec_view l.specs) l.fn.cursor
