use Rattle.std.proofs.Common.{◌≡◌, drop, flat_map}
use Rattle.dwc_base.specs.Listing.{first_of}
use Rattle.dwc_isa.specs.Registers.{Registers}
use Rattle.dwc_expr.specs.NeededLabels.{numbers}
use Rattle.dwc_expr.specs.Refusals.{refusals_on}
use Rattle.dwc_expr.proofs.build.places.check_places.Given as goal

-- the first refusal on the ranges that are left is that on all
abbrev pub invariant-loop-range : goal.invariant-loop-range
invariant-loop-range g l =
    let registers : Registers = (goal.TargetIsa-dyn g l.isa.now).dwarf_registers l.isa.now.1 in
    first_of (flat_map (refusals_on l.lacks_memory (numbers l.labels) registers) (drop l.range-index l.ranges)) ≡ first_of (flat_map (refusals_on l.lacks_memory (numbers l.labels) registers) l.ranges)
