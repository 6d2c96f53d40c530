use Rattle.std.proofs.Common.{ap, sym, subst, ◌∙◌, None, option_map}
use Rattle.std.specs.Prelude.{if◌then◌else◌}
use Rattle.dwc_rules.specs.EntryRules.{of_list}
use Rattle.dwc_dwarf.specs.Lists.{list_source}
use Rattle.dwc_rules.specs.RangeRefusals.{bounds_refusal}
use Rattle.dwc_read.specs.EntriesSeen.{entry_view}
use Rattle.dwc_extents.specs.NativeExtents.{TellsRefusal}
use Rattle.dwc_extents.proofs.bounds.check_interval.Goals as goal

pub returns-then-is_later_bound : goal.returns-then-is_later_bound
returns-then-is_later_bound c = λ before v seen.
    let u = c.args.unit.now in
    let refusal = bounds_refusal (list_source u.sections u.header) (entry_view c.args.entry.now) in
    subst (λ b. TellsRefusal (option_map of_list (if b then refusal else None)) c.check_bounds.result) (sym c.if-is_later_bound.true ∙ c.is_later_bound.ensures before v seen) c.check_bounds.ensures

pub returns : goal.returns
returns c = λ before v seen.
    let u = c.args.unit.now in
    let refusal = bounds_refusal (list_source u.sections u.header) (entry_view c.args.entry.now) in
    ap (λ b. option_map of_list (if b then refusal else None)) (sym (c.is_later_bound.ensures before v seen) ∙ c.if-is_later_bound.false)
