use Rattle.std.proofs.Common.{◌∙◌, sym, ap, map}
use Rattle.std.specs.List.{filter_map}
use Rattle.dwc_native.specs.Functions.{recorded_entry}
use Rattle.dwc_compiled.specs.Gaps.{source_view}
use Rattle.dwc_compiled.proofs.GapLaws.{recorded-merged}
use Rattle.dwc_compiled.proofs.instruction_maps.InstructionMaps.sources.Goals as goal

pub returns : goal.returns
returns c =
    let i = c.self.inside in
    ap (map source_view) c.deref.ensures.value ∙ sym (ap (filter_map recorded_entry) (sym c.self.view_is) ∙ recorded-merged i.gaps.items 0 (map source_view i.sources.items))
