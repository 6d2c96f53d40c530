use Rattle.std.proofs.Common.{◌≡◌, ◌++◌, List, drop, length, map}
use Rattle.dwc_native.specs.Built.{Setting, bytes_from, jumps_fit_from}
use Rattle.dwc_native.specs.Parts.{Part}
use Rattle.dwc_expr.specs.PartViews.{part_view}
use Rattle.dwc_expr.specs.PartsToBuild.{all_parts}
use Rattle.dwc_expr.specs.RangeSettings.{setting_on}
use Rattle.dwc_expr.proofs.build.on_ranges.put_parts.Given as goal

-- what was put, with the bytes of the parts that are left, is the whole; all jumps fit where those that are left do
abbrev pub invariant-loop-part : goal.invariant-loop-part
invariant-loop-part g l =
    let s : Setting = setting_on l.setting ((goal.TargetIsa-dyn g l.isa.now).dwarf_registers l.isa.now.1) in
    let left : List Part = map part_view (drop l.part-index l.parts.parts.now) in
    record {
      bytes : l.out ++ bytes_from s (all_parts l.parts) (length l.out) left ≡ l.fn.out ++ bytes_from s (all_parts l.parts) (length l.fn.out) (map part_view l.parts.parts.now);
      fit : jumps_fit_from s (all_parts l.parts) (length l.out) left ≡ jumps_fit_from s (all_parts l.parts) (length l.fn.out) (map part_view l.parts.parts.now);
    }
