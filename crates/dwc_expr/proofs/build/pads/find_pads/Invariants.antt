use Rattle.std.proofs.Common.{◌≡◌, ◌+◌, ◌++◌, ◌∷◌, [], ◌||◌, ℕ, List, drop, if◌then◌else◌, is_some, length, map, nat_cmp, unwrap_or}
use Rattle.std.specs.BTreeMap.{get}
use Rattle.dwc_native.specs.Built.{Setting, pad_offset}
use Rattle.dwc_native.specs.Parts.{Part, dereference}
use Rattle.dwc_expr.specs.PartViews.{part_view}
use Rattle.dwc_expr.specs.PartsToBuild.{all_parts}
use Rattle.dwc_expr.specs.RangeSettings.{setting_on}
use Rattle.dwc_expr.specs.WholeParts.{has_pad}
use Rattle.dwc_expr.proofs.build.pads.find_pads.Given as goal

-- by what is noted, and else by the parts that are left, each pad lies where it does among all; and a place that has one is noted, or
-- has one among the parts that are left
abbrev pub invariant-loop-part : goal.invariant-loop-part
invariant-loop-part g l =
    let s : Setting = setting_on l.setting ((goal.TargetIsa-dyn g l.isa.now).dwarf_registers l.isa.now.1) in
    let left : List Part = map part_view (drop l.part-index l.parts.parts.now) in
    record {
      offsets : (place : ℕ) → unwrap_or (get nat_cmp l.offsets place) (length l.bytes + pad_offset s place (left ++ (if l.parts.then_dereference then dereference ∷ [] else []))) ≡ pad_offset s place (all_parts l.parts);
      pads : (place : ℕ) → (is_some (get nat_cmp l.offsets place) || has_pad left place) ≡ has_pad (map part_view l.parts.parts.now) place;
    }
