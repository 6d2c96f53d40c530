use Rattle.std.proofs.Common.{map, sym, ap, ◌∙◌}
use Rattle.std.proofs.lemmas.List.{map_push}
use Rattle.dwc_isa.specs.ValueLabels.{range_view}
use Rattle.dwc_isa.specs.FlatRanges.{goes_on_last}
use Rattle.dwc_isa.proofs.FlatLaws.{goes_on-end}
use Rattle.dwc_isa.proofs.told_ranges.goes_on_last.Goals as goal

pub returns-in-Some : goal.returns-in-Some
returns-in-Some c =
    let front = c.in-Some.field-0-1.now in
    let last = c.in-Some.last.now in
    c.goes_on.ensures
    ∙ sym (goes_on-end (map range_view front) (range_view last) (range_view c.args.next.now))
    ∙ ap (λ rs. goes_on_last rs (range_view c.args.next.now)) (sym (ap (map range_view) c.in-Some.ensures.cases.0 ∙ map_push range_view front last))
