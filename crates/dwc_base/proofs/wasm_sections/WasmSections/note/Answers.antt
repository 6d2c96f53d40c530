use Rattle.std.proofs.Common.{sym, ap, ◌∙◌}
use Rattle.dwc_base.specs.Translations.{section_bytes}
use Rattle.dwc_base.proofs.SectionTitles.{noted-titled, noted-untitled}
use Rattle.dwc_base.proofs.wasm_sections.WasmSections.note.Goals as goal

pub returns-in-Some : goal.returns-in-Some
returns-in-Some c = λ name. ap (λ s. section_bytes s name) c.set.ensures ∙ noted-titled c.args.self.now c.args.title.now _ c.in-Some.name name (sym c.in-Some.ensures)

pub returns-in_default : goal.returns-in_default
returns-in_default c = λ name. noted-untitled c.args.title.now c.args.contents.now (section_bytes c.args.self.now name) name (sym c.in_default.ensures)
