use Rattle.std.proofs.Common.{◌+◌, length, map, drop, get_or, subst, sym, ap, ◌∙◌, arith}
use Rattle.std.proofs.lemmas.List.{take_rest}
use Rattle.dwc_isa.specs.ValueLabels.{range_view}
use Rattle.dwc_isa.specs.FlatRanges.{Puts, IsRest}
use Rattle.dwc_isa.proofs.ListEnds.{map-next, map-past}
use Rattle.dwc_isa.proofs.PutLaws.{first-of}
use Rattle.dwc_isa.proofs.FlatLaws.{no_range}
use Rattle.dwc_isa.proofs.OverlayLaws.{IsPutting, putting-all, putting-behind, putting-more, putting-over}
use Rattle.dwc_isa.proofs.flat.put_between.Goals as goal

pub returns-then-start-to-clause-put : goal.returns-then-start-to-clause-put
returns-then-start-to-clause-put c =
    let rs = c.args.ranges.now in
    let r = range_view (get_or rs c.loop-i.i no_range) in
    let left = map range_view (drop (c.loop-i.i + 1) rs) in
    let old = map range_view c.args.out.now.items in
    let new = map range_view c.loop-i.out.items in
    let is = map-next range_view rs c.loop-i.i no_range c.loop-i-test.true in
    let p = subst (λ ls. IsPutting c.args.from c.args.to c.loop-i.at (map range_view rs) ls old new) is c.loop-i.invariant in
    (putting-behind c.args.from c.args.to c.loop-i.at r (map range_view rs) left old new p c.if-start-to.true).put

pub returns-then-start-to-clause-all : goal.returns-then-start-to-clause-all
returns-then-start-to-clause-all c =
    let rs = c.args.ranges.now in
    let r = range_view (get_or rs c.loop-i.i no_range) in
    let left = map range_view (drop (c.loop-i.i + 1) rs) in
    let old = map range_view c.args.out.now.items in
    let new = map range_view c.loop-i.out.items in
    let is = map-next range_view rs c.loop-i.i no_range c.loop-i-test.true in
    let p = subst (λ ls. IsPutting c.args.from c.args.to c.loop-i.at (map range_view rs) ls old new) is c.loop-i.invariant in
    let first = first-of r left p.rest.flat in
    λ top. absurd (omega (arith, top, first.some))

pub returns-then-end-to-clause-put : goal.returns-then-end-to-clause-put
returns-then-end-to-clause-put c =
    let rs = c.args.ranges.now in
    let r = range_view (get_or rs c.loop-i.i no_range) in
    let left = map range_view (drop (c.loop-i.i + 1) rs) in
    let old = map range_view c.args.out.now.items in
    let new = map range_view c.loop-i.out.items in
    let newer = map range_view c.put.new.out.items in
    let is = map-next range_view rs c.loop-i.i no_range c.loop-i-test.true in
    let p = subst (λ ls. IsPutting c.args.from c.args.to c.loop-i.at (map range_view rs) ls old new) is c.loop-i.invariant in
    let puts = subst (λ part. Puts part new newer) c.part_between.ensures c.in_ok-put.ensures in
    (putting-over c.args.from c.args.to c.loop-i.at r (map range_view rs) left old new newer p c.if-start-to.false puts c.if-end-to.true).put

pub loop-i-preserved : goal.loop-i-preserved
loop-i-preserved c =
    let rs = c.args.ranges.now in
    let r = range_view (get_or rs c.loop-i.i no_range) in
    let left = map range_view (drop (c.loop-i.i + 1) rs) in
    let old = map range_view c.args.out.now.items in
    let new = map range_view c.loop-i.out.items in
    let newer = map range_view c.put.new.out.items in
    let is = map-next range_view rs c.loop-i.i no_range c.loop-i-test.true in
    let p = subst (λ ls. IsPutting c.args.from c.args.to c.loop-i.at (map range_view rs) ls old new) is c.loop-i.invariant in
    let puts = subst (λ part. Puts part new newer) c.part_between.ensures c.in_ok-put.ensures in
    subst (λ at. IsPutting c.args.from c.args.to at (map range_view rs) left old newer) (sym c.max-at.ensures)
    (putting-more c.args.from c.args.to c.loop-i.at r (map range_view rs) left old new newer p c.if-start-to.false puts c.if-end-to.false)

pub returns-clause-put : goal.returns-clause-put
returns-clause-put c =
    let rs = c.args.ranges.now in
    let old = map range_view c.args.out.now.items in
    let new = map range_view c.loop-i.out.items in
    let p = subst (λ ls. IsPutting c.args.from c.args.to c.loop-i.at (map range_view rs) ls old new) (map-past range_view rs c.loop-i.i c.loop-i-test.false) c.loop-i.invariant in
    (putting-all c.args.from c.args.to c.loop-i.at (map range_view rs) old new p).put

pub returns-clause-rest : goal.returns-clause-rest
returns-clause-rest c =
    let rs = c.args.ranges.now in
    let old = map range_view c.args.out.now.items in
    let new = map range_view c.loop-i.out.items in
    let p = subst (λ ls. IsPutting c.args.from c.args.to c.loop-i.at (map range_view rs) ls old new) (map-past range_view rs c.loop-i.i c.loop-i-test.false) c.loop-i.invariant in
    let none = ap (map range_view) (take_rest rs (length rs)) ∙ map-past range_view rs (length rs) (omega arith) in
    subst (IsRest c.args.to (map range_view rs)) (sym none) (putting-all c.args.from c.args.to c.loop-i.at (map range_view rs) old new p).rest
