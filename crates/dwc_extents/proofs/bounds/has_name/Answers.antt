use Rattle.std.proofs.Common.{◌≡◌, ◌<◌, ◌+◌, ◌-◌, arith, drop, false, length, map, subst, sym}
use Rattle.dwc_rules.specs.RangeRefusals.{has_name}
use Rattle.dwc_read.specs.ValuesSeen.{attribute_view}
use Rattle.dwc_extents.proofs.BoundLaws.{name-here, name-not}
use Rattle.dwc_extents.proofs.bounds.has_name.Goals as goal

pub loop-left-preserved : goal.loop-left-preserved
loop-left-preserved c =
    let xs = c.args.attributes.now in
    let left = c.loop-left.left in
    let fits = c.loop-left.invariant.within in
    let place : left ≡ (left - 1) + 1 = omega (arith, c.loop-left-test.true) in
    let within : left - 1 < length xs = omega (arith, c.loop-left-test.true, fits) in
    let behind = subst (λ n. has_name c.args.name (map attribute_view (drop n xs)) ≡ false) place c.loop-left.invariant.none in
    record {
      within = omega (arith, fits);
      none = name-not xs (left - 1) c.args.name _ within c.if-found-name.false behind;
    }

pub returns-then-found-name : goal.returns-then-found-name
returns-then-found-name c =
    let within : c.loop-left.left - 1 < length c.args.attributes.now = omega (arith, c.loop-left-test.true, c.loop-left.invariant.within) in
    sym (name-here c.args.attributes.now (c.loop-left.left - 1) c.args.name _ within c.if-found-name.true)

pub returns : goal.returns
returns c =
    let none : c.loop-left.left ≡ 0 = omega (arith, c.loop-left-test.false) in
    sym (subst (λ n. has_name c.args.name (map attribute_view (drop n c.args.attributes.now)) ≡ false) none c.loop-left.invariant.none)
