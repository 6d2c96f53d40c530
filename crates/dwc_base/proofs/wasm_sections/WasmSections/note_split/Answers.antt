use Rattle.std.proofs.Common.{◌≡◌, ◌++◌, ◌∙◌, sym, ap}
use Rattle.std.specs.Prelude.{codes, Some, None}
use Rattle.std.proofs.lemmas.Bool.Decides.{Decides-eqb}
use Rattle.std.proofs.lemmas.Slice.Eq.{strip_suffix_is}
use Rattle.dwc_base.specs.Translations.{section_bytes, split_bytes}
use Rattle.dwc_base.proofs.SectionTitles.{split-titled, split-untitled}
use Rattle.dwc_base.proofs.wasm_sections.WasmSections.note_split.Goals as goal

pub returns-in-Some : goal.returns-in-Some
returns-in-Some c = λ name.
    let titled : c.args.title.now ≡ c.in-Some.front.now ++ codes ".dwo" = strip_suffix_is Decides-eqb c.args.title.now (codes ".dwo") (Some c.in-Some.front) c.in-Some.ensures.cases in
    c.note.ensures name
    ∙ split-titled c.in-Some.front.now c.args.contents.now (section_bytes c.args.self.now name) name
    ∙ ap (λ title. split_bytes name title c.args.contents.now (section_bytes c.args.self.now name)) (sym titled)

pub returns-in_default : goal.returns-in_default
returns-in_default c = λ name. split-untitled c.args.title.now c.args.contents.now (section_bytes c.args.self.now name) name (strip_suffix_is Decides-eqb c.args.title.now (codes ".dwo") None c.in_default.ensures.cases)
