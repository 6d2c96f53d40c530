use Rattle.std.proofs.Common.{◌≡◌, ◌++◌, ◌∷◌, [], map, drop}
use Rattle.dwc_unit.specs.UsedTexts.{text_numbered}
use Rattle.dwc_section.proofs.WritesLaws.{whole}
use Rattle.dwc_write.proofs.text_layout.put_texts.Given as goal

-- what is there, with the texts that are left, is the whole
abbrev pub invariant-loop-i : goal.invariant-loop-i
invariant-loop-i l =
    whole (λ t. t ++ 0 ∷ []) (λ p t. []) (drop l.i (map (text_numbered l.texts) l.used)) l.section
    ≡ whole (λ t. t ++ 0 ∷ []) (λ p t. []) (map (text_numbered l.texts) l.used) l.initial.section
