use Rattle.std.proofs.Common.{◌≡◌, drop, filter_map, option_map, take}
use Rattle.dwc_base.specs.Listing.{first_of}
use Rattle.dwc_native.specs.BuiltExpressions.{label_refusal}
use Rattle.dwc_expr.specs.Frames.{told_frame}
use Rattle.dwc_expr.specs.LabelRanges.{Gathered, gathered_of, gathered_frame}
use Rattle.dwc_expr.specs.NarrowedRanges.{Gives}
use Rattle.dwc_expr.specs.NeededLabels.{numbers, with_labels}
use Rattle.dwc_expr.proofs.build.labels.ranges_of_labels.Given as goal

-- the ranges give what is gathered with the labels so far, and the first label that is refused of those that are left is that of all
abbrev pub invariant-loop-label : goal.invariant-loop-label
invariant-loop-label l =
    let g : Gathered = gathered_of l.addr_tr (option_map (λ f. told_frame f.now) l.frame_info) l.scope in
    record {
      given : Gives (with_labels (numbers (take l.label-index l.labels)) g) l.built;
      refusals : first_of (filter_map (label_refusal (gathered_frame g)) (numbers (drop l.label-index l.labels))) ≡ first_of (filter_map (label_refusal (gathered_frame g)) (numbers l.labels));
    }
