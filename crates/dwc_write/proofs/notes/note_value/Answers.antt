use Rattle.std.proofs.Common.{◌∙◌, sym}
use Rattle.dwc_write.proofs.SizeLaws.{constant-length}
use Rattle.dwc_write.proofs.notes.note_value.Goals as goal

pub returns-in-Constant-clause-length : goal.returns-in-Constant-clause-length
returns-in-Constant-clause-length c = λ order.
    rw (c.value.ensures, c.in-Constant.is)
    (c.from-in-Constant.ensures ∙ c.constant_size.ensures order ∙ constant-length order 8 c.in-Constant.form c.in-Constant.bits ∙ sym (constant-length order c.args.size c.in-Constant.form c.in-Constant.bits))
