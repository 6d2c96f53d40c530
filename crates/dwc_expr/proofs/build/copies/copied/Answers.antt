use Rattle.std.proofs.Common.{map, sym}
use Rattle.dwc_expr.specs.Builds.{location_view}
use Rattle.dwc_expr.proofs.CopyLaws.{copied-whole}
use Rattle.dwc_expr.proofs.build.copies.copied.Goals as goal

pub returns : goal.returns
returns c = sym (copied-whole c.args.addr_tr.now c.args.code.now c.args.scope.now c.loop-start.start-index (map location_view c.loop-start.expressions.items) c.loop-start-test.false c.loop-start.invariant)
