use Rattle.std.proofs.Common.{[], ◌∷◌}
use Rattle.dwc_write.proofs.TextLaws.{IsUsing}
use Rattle.dwc_write.proofs.text_layout.use_texts.Given as goal

-- the first texts are used
abbrev pub invariant-loop-i : goal.invariant-loop-i
invariant-loop-i l = IsUsing l.texts (λ n. n ∷ []) l.named l.i l.initial.layout l.layout
