use Rattle.std.proofs.Common.{ap, arith, ◌+◌}
use Rattle.std.proofs.lemmas.List.{get_or_default}
use Rattle.dwc_image.proofs.RunLaws.{no_row}
use Rattle.dwc_image.proofs.image.count_at.Goals as goal

pub returns-then-rows-next : goal.returns-then-rows-next
returns-then-rows-next c = record {
  bound = omega (arith, c.if-next-rows.true);
  below = λ k d less. omega (arith, c.requires.order k c.args.known d (omega (arith, less)) c.requires.known, c.requires.below d);
  above = λ k d le less. omega (arith, c.requires.order (c.args.known + 1) k d le less, c.if-rows-next.true, ap (λ r. r.offset) (get_or_default c.args.rows.now (c.args.known + 1) d no_row (omega (arith, c.if-next-rows.true))));
}
