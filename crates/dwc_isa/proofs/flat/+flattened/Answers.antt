use Rattle.std.proofs.Common.{◌≡◌, ◌++◌, ◌/◌, length, map, subst, sym, ap, ap₂, ◌∙◌}
use Rattle.std.proofs.lemmas.List.{map-append, take-append-drop}
use Rattle.std.proofs.lemmas.Result.{IfOk-weaker}
use Rattle.dwc_native.specs.Placed.{last_place}
use Rattle.dwc_isa.specs.ValueLabels.{range_view}
use Rattle.dwc_isa.specs.FlatRanges.{Flattens}
use Rattle.dwc_isa.proofs.OverlayLaws.{halves-flat}
use Rattle.dwc_isa.proofs.flat.+flattened.Goals as goal

pub returns-clause-same : goal.returns-clause-same
returns-clause-same t c =
    let xs = c.args.ranges.now in
    let below = map range_view c.in_ok-below.below.items in
    let above = map range_view c.in_ok-above.above.items in
    let earlier = map range_view c.split_at.result.0.now in
    let later = map range_view c.split_at.result.1.now in
    let under : Flattens earlier below = record { flat = c.in_ok-below.ensures.flat; same = c.in_ok-below.ensures.same } in
    let over : Flattens later above = record { flat = c.in_ok-above.ensures.flat; same = c.in_ok-above.ensures.same } in
    let lent = ap₂ (λ b a. map range_view b ++ map range_view a) c.deref.ensures.value c.deref-2.ensures.value in
    let whole : earlier ++ later ≡ map range_view xs =
    sym (map-append range_view c.split_at.result.0.now c.split_at.result.1.now)
    ∙ ap (map range_view) (ap₂ (λ a b. a ++ b) c.split_at.ensures.front c.split_at.ensures.back ∙ take-append-drop (length xs / 2) xs) in
    IfOk-weaker c.overlaid.result (λ out. Flattens (map range_view c.deref.result.now ++ map range_view c.deref-2.result.now) (map range_view out.items))
    (λ out. (byte : _) → last_place (map range_view out.items) byte ≡ last_place (map range_view xs) byte)
    (λ out h. (subst (λ rs. Flattens rs (map range_view out.items)) whole (halves-flat earlier later below above (map range_view out.items) under over (subst (λ rs. Flattens rs (map range_view out.items)) lent h))).same)
    c.overlaid.ensures
