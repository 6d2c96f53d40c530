-- What stands in the first section of a name.
use Rattle.std.specs.Prelude.{ℕ, List, [], option_map}
use Rattle.std.specs.Option.{unwrap_or}
use Rattle.std.specs.List.{filter_map}
use Rattle.dwc_base.specs.Sections.{Relocation}
use Rattle.dwc_base.specs.Outputs.{OutputSection, section_named, function_relocation}

abbrev pub bytes_named : List ℕ → List OutputSection → List ℕ
bytes_named name sections = unwrap_or (option_map (λ s. s.body) (section_named name sections)) []

abbrev pub relocations_named : List ℕ → List OutputSection → List Relocation
relocations_named name sections = unwrap_or (option_map (λ s. filter_map function_relocation s.relocations) (section_named name sections)) []
