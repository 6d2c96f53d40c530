use Rattle.std.proofs.Common.{◌≡◌, drop}
use Rattle.std.specs.List.{find}
use Rattle.std.specs.Str.{bytes_eq}
use Rattle.dwc_base.specs.Sections.{section_text}
use Rattle.dwc_base.proofs.wasm_sections.find_titled.Given as goal

-- none before this one has the title
abbrev pub invariant-loop-name : goal.invariant-loop-name
invariant-loop-name l = find (λ name. bytes_eq (section_text name) l.title) (drop l.name-index l.names) ≡ find (λ name. bytes_eq (section_text name) l.title) l.names
