use Rattle.std.proofs.Common.{◌≡◌, ◌++◌, drop, flat_map, map}
use Rattle.dwc_base.specs.Listing.{first_of}
use Rattle.dwc_isa.specs.Registers.{Registers}
use Rattle.dwc_expr.specs.Builds.{location_view}
use Rattle.dwc_isa.specs.ToldModules.{memory_view}
use Rattle.dwc_expr.specs.PartsToBuild.{all_parts}
use Rattle.dwc_expr.specs.RangeExpressions.{jumps_refused, location_on}
use Rattle.dwc_expr.proofs.build.on_ranges.expressions_on.Given as goal

-- what was built, with the expressions on the ranges that are left, is the whole; and the first refusal on these is that on all
abbrev pub invariant-loop-range : goal.invariant-loop-range
invariant-loop-range g l =
    let registers : Registers = (goal.TargetIsa-dyn g l.isa.now).dwarf_registers l.isa.now.1 in
    record {
      expressions : map location_view l.expressions.items ++ map (location_on (all_parts l.parts) registers (memory_view l.memory)) (drop l.range-index l.ranges) ≡ map (location_on (all_parts l.parts) registers (memory_view l.memory)) l.ranges;
      refusals : first_of (flat_map (jumps_refused (all_parts l.parts) registers (memory_view l.memory)) (drop l.range-index l.ranges)) ≡ first_of (flat_map (jumps_refused (all_parts l.parts) registers (memory_view l.memory)) l.ranges);
    }
