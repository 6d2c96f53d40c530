use Rattle.std.proofs.Common.{◌≡◌, ◌++◌, ◌∷◌, [], drop}
use Rattle.dwc_section.proofs.WritesLaws.{whole}
use Rattle.dwc_write.proofs.line_names.put_names.Given as goal

-- what is there, with the names that are left, is the whole
abbrev pub invariant-loop-i : goal.invariant-loop-i
invariant-loop-i l = whole (λ t. t ++ 0 ∷ []) (λ p t. []) (drop l.i l.names) l.section ≡ whole (λ t. t ++ 0 ∷ []) (λ p t. []) l.names l.initial.section
