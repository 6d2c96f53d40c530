use Rattle.std.proofs.Common.{refl, sym, ◌∙◌}
use Rattle.dwc_base.specs.Wasm.{module_from_sections}
use Rattle.dwc_wasm.proofs.Translated.{held-none, held_split-none}
use Rattle.dwc_wasm.proofs.split.empty_translation.Goals as goal

pub returns : goal.returns
unfolding module_from_sections
returns c = record {
  sections = λ name. c.none.ensures name ∙ sym (held-none name);
  dwo_sections = λ name. c.none-2.ensures name ∙ sym (held_split-none name);
  compressed = refl;
  code_section_offset = refl;
  imported_funcs = refl;
  defined_funcs = refl;
  path = refl;
}
