use Rattle.std.proofs.Common.{◌<◌, ◌≤◌, ◌+◌, drop, get_or, length, rules, subst, sym, take}
use Rattle.dwc_types.proofs.RingWalkLaws.{IsTurning, around-here, passed-small, turned-tags, turning-more}
use Rattle.dwc_types.proofs.type_ring.note_ring.Goals as goal

pub loop-i-preserved : goal.loop-i-preserved
loop-i-preserved c =
    let ring = c.args.ring.now in
    let turn = c.args.turn in
    let i = c.loop-i.i in
    let passed = c.loop-i.passed in
    let kept = c.loop-i.invariant in
    let inside : i < length ring = search rules in
    record {
      small = subst (λ n. n ≤ i + 1) (sym c.in_ok-passed.ensures.passed) (passed-small _ turn passed i kept.small);
      turning = subst (IsTurning ring (i + 1)) (sym c.in_ok-passed.ensures.passed) (turning-more ring i _ inside turn passed c.requires kept.turning);
      names = λ source s texts named before.
          c.in_ok-passed.ensures.names source s texts (λ other full. named (take i ring) (drop (i + 1) ring) (get_or ring i _) (around-here ring i _ inside) other (turned-tags ring i _ inside turn passed c.requires full kept.turning)) (kept.names source s texts named before);
    }
