use Rattle.std.proofs.Common.{◌≡◌, ap, ◌∙◌, arith, add-one, drop, get_or, map, []}
use Rattle.std.proofs.lemmas.List.{drop_all}
use Rattle.dwc_base.specs.declared.records.Address.TheVariants.{Constant}
use Rattle.dwc_unit.specs.Lists.{ended, list_end, list_length, listed_length}
use Rattle.dwc_write.proofs.ListPlaces.{end-alone, listed-more, of-parts}
use Rattle.dwc_write.proofs.list_places.behind_list.Goals as goal

pub loop-i-preserved : goal.loop-i-preserved
loop-i-preserved g c =
    let f = g.T.Listed.listed in
    let version = c.args.version in
    let size = c.args.size in
    let e = f c.index-entries-i.result in
    let same = of-parts e _ _ c.extent.ensures c.expression.ensures ∙ ap f c.index-entries-i.is in
    let long : c.listed_length-next.result ≡ listed_length version size (f (get_or c.args.entries.now c.loop-i.i c.index-entries-i.result)) = c.listed_length-next.ensures.listed e.begin ∙ ap (listed_length version size) same in
    rw add-one (omega (arith, c.loop-i.invariant, long, listed-more f version size c.args.entries.now c.loop-i.i c.index-entries-i.result c.loop-i-test.true))

pub returns : goal.returns
returns g c =
    let f = g.T.Listed.listed in
    let version = c.args.version in
    let size = c.args.size in
    let none : drop c.loop-i.i c.args.entries.now ≡ [] = drop_all c.loop-i.i c.args.entries.now c.loop-i-test.false in
    let left : list_length version size (ended (map f (drop c.loop-i.i c.args.entries.now))) ≡ listed_length version size list_end = ap (λ xs. list_length version size (ended (map f xs))) none ∙ end-alone version size in
    omega (arith, c.loop-i.invariant, left, c.listed_length-end.ensures.listed (Constant 0))
