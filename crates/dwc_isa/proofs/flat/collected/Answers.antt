use Rattle.std.proofs.Common.{◌++◌, [], ◌∷◌, map, take, get_or, subst, sym, arith}
use Rattle.std.proofs.lemmas.List.{map_more}
use Rattle.dwc_isa.specs.ValueLabels.{range_view}
use Rattle.dwc_isa.proofs.FlatLaws.{no_range}
use Rattle.dwc_isa.proofs.OverlayLaws.{IsCollected, collected-more}
use Rattle.dwc_isa.proofs.flat.collected.Goals as goal

pub loop-range-preserved : goal.loop-range-preserved
loop-range-preserved c =
    let rs = c.args.ranges.now in
    let i = c.loop-range.range-index in
    let r = range_view (get_or rs i no_range) in
    let new = map range_view c.put.new.out.items in
    let more = collected-more c.loop-range.end r (map range_view (take i rs)) (map range_view c.loop-range.out.items) new c.loop-range.invariant.collected c.if-range-end.false c.in_ok-put.ensures in
    record {
      collected =
          subst (λ done. IsCollected c.max-end.result done new) (sym (map_more range_view rs i no_range c.loop-range-test.true))
          (subst (λ end. IsCollected end (map range_view (take i rs) ++ r ∷ []) new) (sym c.max-end.ensures) more);
      some = λ less. omega arith;
    }
