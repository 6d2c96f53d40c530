use Rattle.dwc_write.proofs.TextLaws.{IsUsing}
use Rattle.dwc_write.proofs.text_layout.lay_out_texts.Given as goal

-- the texts of the first units are used
abbrev pub invariant-loop-i : goal.invariant-loop-i
invariant-loop-i l = IsUsing l.texts (λ u. u.notes.texts.items) l.layouts l.i l.initial.layout l.layout
