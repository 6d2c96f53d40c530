use Rattle.std.proofs.Common.{[], ◌++◌, ◌∙◌, ap, option_map}
use Rattle.dwc_native.specs.Parts.{joined, old_format}
use Rattle.dwc_expr.specs.Landings.{marked_pad, parts_behind_marks}
use Rattle.dwc_expr.proofs.JoinedLaws.{joined-both}
use Rattle.dwc_expr.proofs.compile.emit.parts_of_steps.Goals as goal

pub returns : goal.returns
returns c =
    let base = option_map (λ x. x.now) c.args.frame_base in
    let marks = c.args.landings.now in
    let os = c.args.steps.now in
    let first = c.push_old_format.new.parts in
    let last = c.push_pad.new.parts in
    c.into_parts.ensures
    ∙ joined-both [] first last (old_format base os) (parts_behind_marks base marks os ++ marked_pad marks c.args.size) (c.in_ok-push_old_format.ensures ∙ ap (λ ps. joined (ps ++ old_format base os)) c.new-parts.ensures)
    (joined-both first c.push_steps.new.parts last (parts_behind_marks base marks os) (marked_pad marks c.args.size) c.in_ok-push_steps.ensures c.in_ok-push_pad.ensures)
