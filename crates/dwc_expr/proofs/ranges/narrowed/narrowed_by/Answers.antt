use Rattle.std.proofs.Common.{◌≡◌, ◌∙◌, List, sym, subst, map, ap}
use Rattle.std.specs.Prelude.{◌&&◌}
use Rattle.std.specs.List.{AllZip}
use Rattle.dwc_isa.specs.ValueLabels.{range_view}
use Rattle.dwc_expr.specs.declared.ranges.cached_range.CachedValueLabelRange.{CachedValueLabelRange}
use Rattle.dwc_expr.specs.LabelRanges.{bounds_of}
use Rattle.dwc_expr.specs.NarrowedRanges.{IsMadeIn}
use Rattle.dwc_expr.specs.OwnPlaces.{are_filled}
use Rattle.dwc_expr.specs.PlacedParts.{cuts_from}
use Rattle.dwc_expr.proofs.GatherLaws.{narrowed-given}
use Rattle.dwc_expr.proofs.ranges.narrowed.narrowed_by.Goals as goal
use Rattle.dwc_expr.proofs.ranges.narrowed.narrowed_by.Goals.{then-built, else-built}

pub returns : goal.returns
returns c = λ g tells old.
    let own = c.args.own in
    let pieces = map range_view c.args.pieces.now in
    let ranges = c.args.built.now.ranges.items in
    let made = c.in_ok-ranges.ranges.items in
    let zip : AllZip (IsMadeIn c.args.label.0 ranges) (cuts_from own pieces 0 (map bounds_of ranges)) made =
    subst (λ (rs : List CachedValueLabelRange). AllZip (IsMadeIn c.args.label.0 rs) (cuts_from own pieces 0 (map bounds_of rs)) made) c.as_slice-old.ensures.value c.in_ok-ranges.ensures in
    let all : c.if-built.covers_entire_scope ≡ (c.args.built.now.covers_entire_scope && are_filled own pieces (map bounds_of ranges)) =
    elim c.if-built.branch [
      | then-built w ↦
          w.covers_entire_scope-is
          ∙ w.are_filled-covers_entire_scope.ensures
          ∙ ap (λ rs. are_filled own pieces (map bounds_of rs)) c.as_slice-old.ensures.value
          ∙ ap (λ b. b && are_filled own pieces (map bounds_of ranges)) (sym w.if-built.true)
      | else-built w ↦ w.covers_entire_scope-is ∙ w.if-built.false ∙ ap (λ b. b && are_filled own pieces (map bounds_of ranges)) (sym w.if-built.false)
    ] in
    narrowed-given g c.args.label.0 own pieces ranges c.args.built.now.covers_entire_scope tells old made c.if-built.covers_entire_scope zip all
