use Rattle.std.proofs.Common.{ap, pos}
use Rattle.dwc_read.specs.EntriesSeen.{entry_view}
use Rattle.dwc_extents.specs.Lineages.{stacks_left}
use Rattle.dwc_extents.proofs.StackViews.{left-seen}
use Rattle.dwc_extents.proofs.lineage.Lineage.leave.Goals as goal

pub returns : goal.returns
returns c =
    let depth = (entry_view c.args.entry.now).depth in
    rw (c.leave_stack.ensures, c.leave_stack-2.ensures, c.leave_stack-3.ensures, left-seen (λ scope. scope.items) (pos depth) c.self.inside.scopes) (ap (stacks_left depth) c.self.view_is)
