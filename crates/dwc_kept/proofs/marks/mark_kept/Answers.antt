use Rattle.std.proofs.Common.{◌∙◌, ap, sym, length}
use Rattle.std.specs.List.{filter_map}
use Rattle.dwc_kept.specs.GraphEntries.{entry, mark, mark_all, number_at, parts_below, targets_of}
use Rattle.dwc_kept.proofs.MarkWalks.{mark_all-append}
use Rattle.dwc_kept.proofs.marks.mark_kept.Goals as goal

pub returns : goal.returns
returns c =
    let es = c.args.entries.now in
    let ts = c.args.targets.now in
    c.in_ok-mark_parts.ensures
    ∙ ap (mark_all (parts_below es c.args.number (length es))) (c.in_ok-mark_targets.ensures ∙ ap (λ us. mark_all (filter_map (number_at es) us) (record { marks = c.mark.new.marks; stack = c.mark.new.stack.items })) c.targets_at-named.ensures ∙ ap (mark_all (filter_map (number_at es) (targets_of es ts c.args.number))) c.in_ok-mark.ensures)
    ∙ sym (mark_all-append (filter_map (number_at es) (targets_of es ts c.args.number)) (parts_below es c.args.number (length es)) (mark (entry es c.args.number).parent (record { marks = c.args.marks.now; stack = c.args.stack.now.items })))
