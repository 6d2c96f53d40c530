use Rattle.std.proofs.Common.{◌≡◌, drop, map, None}
use Rattle.dwc_read.specs.Headers.{header_view}
use Rattle.dwc_read.specs.AttributeSpecs.{spec_view}
use Rattle.dwc_read.specs.RootValues.{HoldsForEach, first_among, named_offsets}
use Rattle.dwc_read.proofs.root_values.first_values.Given as goal

-- the first values of what was read and of what is left are those of all
abbrev pub invariant-loop-spec : goal.invariant-loop-spec
invariant-loop-spec l =
    HoldsForEach (λ name seen. first_among name seen (named_offsets l.sections (header_view l.header) (map spec_view (drop l.spec-index l.specs)) l.cursor)
    ≡ first_among name None (named_offsets l.sections (header_view l.header) (map spec_view l.specs) l.fn.cursor)) l.values
