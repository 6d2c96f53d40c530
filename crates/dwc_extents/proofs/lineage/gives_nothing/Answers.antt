use Rattle.std.proofs.Common.{sym, ap, ◌∙◌, option_map}
use Rattle.dwc_dwarf.specs.Lists.{list_source}
use Rattle.dwc_read.specs.EntriesSeen.{entry_view}
use Rattle.dwc_addr.specs.Transforms.{function_view}
use Rattle.dwc_extents.proofs.CodeNameLaws.{nothing-given, unspoken}
use Rattle.dwc_extents.proofs.lineage.gives_nothing.Goals as goal

pub returns-in-None : goal.returns-in-None
returns-in-None c silent =
    let u = c.args.source.now.unit.now in
    let none = sym c.requires.begun ∙ ap (option_map (λ f. function_view f.now)) c.in-None.is in
    nothing-given (list_source u.sections u.header) c.args.source.now.transform.now (entry_view c.args.entry.now) (unspoken c.args.speaks _ c.requires.speaks silent) none
