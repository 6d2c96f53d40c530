use Rattle.std.proofs.Common.{◌∙◌, sym, arith}
use Rattle.dwc_map.proofs.Tables.{registers-twice, registers-distinct, registers-seen, contrary-false, contrary-true}
use Rattle.dwc_map.proofs.registers.are_distinct.Goals as goal

pub returns-then-not-branch : goal.returns-then-not-branch
returns-then-not-branch c =
    registers-twice c.args.registers.now c.loop-k.k _ c.loop-k-test.true c.loop-k.invariant.inside (sym (c.loop-k.invariant.seen _) ∙ contrary-false _ _ c.in_ok-insert.ensures.added c.if-not-branch.true)

pub loop-k-preserved : goal.loop-k-preserved
loop-k-preserved c = record {
  inside = omega (arith, c.loop-k.invariant.inside);
  distinct =
      registers-distinct c.args.registers.now c.loop-k.k _ c.loop-k-test.true c.loop-k.invariant.inside (sym (c.loop-k.invariant.seen _) ∙ contrary-true _ _ c.in_ok-insert.ensures.added c.if-not-branch.false) c.loop-k.invariant.distinct;
  seen = λ q. registers-seen c.args.registers.now c.loop-k.k _ c.loop-k-test.true c.loop-k.invariant.inside q _ _ (c.in_ok-insert.ensures.updates.0 q) (c.loop-k.invariant.seen q);
}
