use Rattle.std.proofs.Common.{◌<◌, sym, subst, arith, All, map}
use Rattle.std.specs.Prelude.{filter_map}
use Rattle.dwc_read.specs.ValuesSeen.{attribute_view}
use Rattle.dwc_kept.specs.ReadEntries.{attribute_offset}
use Rattle.dwc_kept.specs.EntryGraphs.{Node}
use Rattle.dwc_kept.proofs.PushLaws.{pushed-all, pushed-parent, number-fits}
use Rattle.dwc_kept.proofs.graph.EntryGraph.push_named.Goals as goal

pub overflow_cast-number : goal.overflow_cast-number
overflow_cast-number c =
    let es = c.self.inside.entries in
    omega (arith, number-fits es.items c.self.inside.targets.items c.args.offset c.self.invariant (subst (All (λ (n : Node). n.offset < c.args.offset)) (sym c.self.view_is) c.requires.behind), c.ranges.offset.fits, c.len-number.ensures, es.ok.0, es.ok.1)

pub push_entry-requires-clause-parent : goal.push_entry-requires-clause-parent
push_entry-requires-clause-parent c =
    let es = c.self.inside.entries in
    pushed-parent es.items c.self.inside.targets.items c.args.self.now c.unwrap_or-own_parent.result c.len-number.result c.args.parent c.args.is_part c.has_part-is_part.result c.self.view_is c.requires.parent (omega (arith, c.len-number.ensures, es.ok.0, es.ok.1)) c.unwrap_or-own_parent.ensures c.has_part-is_part.ensures

pub invariant_of-self-2 : goal.invariant_of-self-2
invariant_of-self-2 c =
    let es = c.self.inside.entries in
    let ts = c.self.inside.targets in
    let us = filter_map (attribute_offset c.args.unit c.args.end) (map attribute_view c.args.attributes.now) in
    let all = rw (c.in_ok-reserve.ensures.items) at c.put_offsets.ensures in
    (pushed-all es.items c.push_entry.new.entries.items ts.items c.put_offsets.new.offsets.items us c.args.self.now c.args.offset c.unwrap_or-own_parent.result c.len-number.result c.in-Ok.first_target c.len.result c.args.parent c.args.is_part c.has_part-is_part.result
    c.self.view_is c.self.invariant c.requires.behind c.requires.parent c.ranges.offset.fits (omega (arith, c.len-number.ensures, es.ok.0, es.ok.1)) c.unwrap_or-own_parent.ensures c.has_part-is_part.ensures c.in-Ok.ensures.1 (omega (arith, c.len.ensures, ts.ok.0, ts.ok.1)) c.in_ok-push_entry.ensures.ok all).0

pub returns : goal.returns
returns c =
    let es = c.self.inside.entries in
    let ts = c.self.inside.targets in
    let us = filter_map (attribute_offset c.args.unit c.args.end) (map attribute_view c.args.attributes.now) in
    let all = rw (c.in_ok-reserve.ensures.items) at c.put_offsets.ensures in
    (pushed-all es.items c.push_entry.new.entries.items ts.items c.put_offsets.new.offsets.items us c.args.self.now c.args.offset c.unwrap_or-own_parent.result c.len-number.result c.in-Ok.first_target c.len.result c.args.parent c.args.is_part c.has_part-is_part.result
    c.self.view_is c.self.invariant c.requires.behind c.requires.parent c.ranges.offset.fits (omega (arith, c.len-number.ensures, es.ok.0, es.ok.1)) c.unwrap_or-own_parent.ensures c.has_part-is_part.ensures c.in-Ok.ensures.1 (omega (arith, c.len.ensures, ts.ok.0, ts.ok.1)) c.in_ok-push_entry.ensures.ok all).1
