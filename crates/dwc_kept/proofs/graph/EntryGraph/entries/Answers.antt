use Rattle.std.proofs.Common.{ap, ◌∙◌, map, List}
use Rattle.dwc_kept.specs.declared.graph_entry.GraphEntry.{GraphEntry}
use Rattle.dwc_kept.specs.EntryGraphs.{Node}
use Rattle.dwc_kept.proofs.OffsetLaws.{nodes-offsets}
use Rattle.dwc_kept.proofs.graph.EntryGraph.entries.Goals as goal

pub returns-clause-offsets : goal.returns-clause-offsets
returns-clause-offsets c =
    ap (λ (es : List GraphEntry). map (λ e. e.offset) es) c.deref.ensures.value ∙ nodes-offsets 0 c.self.inside.entries.items c.self.inside.targets.items ∙ ap (λ (ns : List Node). map (λ n. n.offset) ns) c.self.view_is
