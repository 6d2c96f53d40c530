use Rattle.std.proofs.Common.{◌∙◌, ◌<◌, ◌≤◌, ◌+◌, arith, length, rules, subst, sym}
use Rattle.dwc_types.proofs.RingKeyLaws.{front-more, front-start, index-small, key-here}
use Rattle.dwc_types.proofs.RingWalkLaws.{IsTurning, passed-small, turning-more, turning-start}
use Rattle.dwc_types.proofs.ring_key.keep_ring.Goals as goal

pub loop-i-init : goal.loop-i-init
loop-i-init c =
    let ring = c.args.ring.now in
    record { small = omega arith; turning = turning-start ring; front = c.last_offset-but.ensures ∙ front-start ring; keys = λ source s texts before count has named. has }

pub loop-i-preserved : goal.loop-i-preserved
loop-i-preserved c =
    let ring = c.args.ring.now in
    let turn = c.args.turn in
    let i = c.loop-i.i in
    let passed = c.loop-i.passed in
    let kept = c.loop-i.invariant in
    let inside : i < length ring = search rules in
    record {
      small = subst (λ n. n ≤ i + 1) (sym c.passed_behind-passed.ensures) (passed-small _ turn passed i kept.small);
      turning = subst (IsTurning ring (i + 1)) (sym c.passed_behind-passed.ensures) (turning-more ring i _ inside turn passed c.requires kept.turning);
      front = front-more ring i _ inside;
      keys = λ source s texts before count has named.
          c.in_ok-keep_key.ensures source s texts before count c.args.first (length ring) _ _ (kept.keys source s texts before count has named) (index-small turn passed i (length ring) kept.small inside) c.in_ok-core.ensures.core
          (key-here ring i _ inside source s turn passed c.args.consts c.loop-i.but c.requires kept.turning kept.front named);
    }

pub returns-clause-keys : goal.returns-clause-keys
returns-clause-keys c source s texts before count has named = (c.loop-i.invariant.keys source s texts before count has named).knows
