use Rattle.std.proofs.Common.{map, sym, ap, ◌∙◌}
use Rattle.dwc_isa.specs.ValueLabels.{range_view}
use Rattle.dwc_isa.specs.FlatRanges.{goes_on_last}
use Rattle.dwc_isa.proofs.PutLaws.{put-empty}
use Rattle.dwc_isa.proofs.LocLaws.{put-longer, put-pushed}
use Rattle.dwc_isa.proofs.flat.put.Goals as goal

pub returns-then-range : goal.returns-then-range
returns-then-range c = put-empty (range_view c.args.range) (map range_view c.args.out.now.items) c.if-range.true

pub returns-then-goes_on_last : goal.returns-then-goes_on_last
returns-then-goes_on_last c =
    let xs = c.args.out.now.items in
    put-longer xs c.len-last.result c.index_mut.result.now c.args.range (c.len-last.ensures ∙ c.args.out.now.ok.0) c.index_mut.ensures.value c.if-range.false
    (ap (λ zs. goes_on_last (map range_view zs) (range_view c.args.range)) (sym c.deref.ensures.value) ∙ sym c.goes_on_last.ensures ∙ c.if-goes_on_last.true)

pub returns : goal.returns
returns c =
    let xs = c.args.out.now.items in
    put-pushed xs c.push.new.self.items c.args.range c.in_ok-push.ensures.items c.if-range.false
    (ap (λ zs. goes_on_last (map range_view zs) (range_view c.args.range)) (sym c.deref.ensures.value) ∙ sym c.goes_on_last.ensures ∙ c.if-goes_on_last.false)
