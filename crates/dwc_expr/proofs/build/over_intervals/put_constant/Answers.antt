use Rattle.std.proofs.Common.{◌++◌, ◌∙◌, ap, map}
use Rattle.dwc_expr.specs.Builds.{location_view}
use Rattle.dwc_expr.proofs.CopyLaws.{copies_of}
use Rattle.dwc_expr.proofs.OverIntervalLaws.{constant-put}
use Rattle.dwc_expr.proofs.build.over_intervals.put_constant.Goals as goal

pub returns-clause-ok : goal.returns-clause-ok
returns-clause-ok c = λ frame registers.
    let fs = c.args.addr_tr.now in
    let bytes = c.args.bytes.now in
    constant-put fs frame registers c.args.interval bytes c.args.locations.now.items c.push_copies.new.expressions.items
    (c.in_ok-push_copies.ensures.copies ∙ ap (λ es. map location_view es ++ copies_of fs bytes c.args.interval) c.make_room.ensures)
