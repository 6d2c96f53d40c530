use Rattle.std.proofs.Common.{sym, ◌∙◌, ap, []}
use Rattle.std.specs.Prelude.{option_map}
use Rattle.std.specs.Option.{unwrap_or}
use Rattle.std.specs.List.{filter_map}
use Rattle.dwc_base.specs.Outputs.{function_relocation}
use Rattle.dwc_read.proofs.NamedLaws.{filter_map-relocation_view}
use Rattle.dwc_read.proofs.sections.relocations_of.Goals as goal

pub returns-in-Some : goal.returns-in-Some
returns-in-Some c =
    rw (c.new.ensures, c.as_slice.ensures.value) (sym (filter_map-relocation_view c.in-Some.section.now.relocs.items) ∙ ap (λ o. unwrap_or (option_map (λ s. filter_map function_relocation s.relocations) o) []) c.in-Some.ensures)
