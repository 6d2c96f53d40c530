use Rattle.std.proofs.Common.{◌≡◌, ◌≤◌, length, sym, ap, ◌∙◌, arith}
use Rattle.dwc_read.proofs.NumberLaws.{field_size-some, field_at-past}
use Rattle.dwc_read.proofs.unit.Unit.field.Goals as goal

pub returns-then-offset-bytes : goal.returns-then-offset-bytes
returns-then-offset-bytes c =
    let s = c.args.self.now.sections in
    let same : c.bytes-bytes.result.now ≡ s.bytes c.args.name = c.bytes-bytes.ensures.bytes ∙ ap (λ v. v.sections.bytes c.args.name) c.self.view_is in
    let past : length (s.bytes c.args.name) ≤ c.args.offset = omega (arith, ap length same) in
    sym (field_at-past s c.args.name c.args.offset c.args.size past (field_size-some c.args.size c.requires))
