use Rattle.std.proofs.Common.{◌≡◌, ◌++◌, map, length}
use Rattle.dwc_base.specs.Reading.{seen_as, items_at}
use Rattle.dwc_base.specs.Abbreviations.{attribute_spec_at}
use Rattle.dwc_read.specs.AttributeSpecs.{spec_view}
use Rattle.dwc_read.proofs.abbreviation.attribute_specs.Given as goal

-- what was read so far, and what is still unread, is all
abbrev pub invariant-loop-specs : goal.invariant-loop-specs
invariant-loop-specs l = seen_as (λ ys. map spec_view l.specs.items ++ ys) (items_at attribute_spec_at l.cursor) ≡ items_at attribute_spec_at l.fn.cursor

abbrev pub decreases-loop-specs : goal.decreases-loop-specs
decreases-loop-specs l = length l.cursor.left
