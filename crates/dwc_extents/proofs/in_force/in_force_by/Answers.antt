use Rattle.dwc_extents.proofs.FrameLaws.{force-is}
use Rattle.dwc_extents.proofs.in_force.in_force_by.Goals as goal

pub returns : goal.returns
returns c = λ registers source s e tops frame. force-is registers source s e (record { scope = c.scope.result; frame = c.args.frame; base = c.base.result }) c.args.lineage.now tops frame c.scope.ensures c.base.ensures
