use Rattle.std.proofs.Common.{◌≡◌, ◌-◌, ◌++◌, drop, map, length}
use Rattle.dwc_base.specs.Reading.{seen_as}
use Rattle.dwc_read.specs.Links.{links_at}
use Rattle.dwc_read.specs.AttributeSpecs.{spec_view}
use Rattle.dwc_read.specs.ValuesSeen.{attribute_view}
use Rattle.dwc_read.proofs.links.links.Given as goal

-- the links that were found so far, and those that are still unread, are all
abbrev pub invariant-loop-at : goal.invariant-loop-at
invariant-loop-at l =
    seen_as (λ ys. map attribute_view l.found.items ++ ys) (links_at l.unit.sections l.unit.header (map spec_view (drop l.at l.specs)) l.cursor)
    ≡ links_at l.unit.sections l.unit.header (map spec_view l.specs) l.fn.cursor

abbrev pub decreases-loop-at : goal.decreases-loop-at
decreases-loop-at l = length l.specs - l.at
