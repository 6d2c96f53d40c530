use Rattle.std.proofs.Common.{◌≡◌, drop, filter_map}
use Rattle.dwc_native.specs.Compiled.{no_memory}
use Rattle.dwc_native.specs.BuiltExpressions.{register_refusal}
use Rattle.dwc_native.specs.Built.{Setting}
use Rattle.dwc_base.specs.Listing.{first_of}
use Rattle.dwc_expr.specs.NeededLabels.{numbers}
use Rattle.dwc_expr.specs.RangeSettings.{setting_in}
use Rattle.dwc_expr.proofs.build.places.check_places_on.Given as goal

-- the first refusal at the labels that are left is that at all
abbrev pub invariant-loop-label : goal.invariant-loop-label
invariant-loop-label g l =
    let s : Setting = setting_in l.range ((goal.TargetIsa-dyn g l.isa.now).dwarf_registers l.isa.now.1) no_memory in
    first_of (filter_map (register_refusal s) (numbers (drop l.label-index l.labels))) ≡ first_of (filter_map (register_refusal s) (numbers l.labels))
