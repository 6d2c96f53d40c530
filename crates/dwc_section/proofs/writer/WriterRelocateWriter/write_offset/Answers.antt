use Rattle.std.proofs.Common.{rules, ap, refl}
use Rattle.std.specs.Prelude.{map}
use Rattle.std.proofs.lemmas.List.{map-append}
use Rattle.dwc_base.specs.Outputs.{OutputRelocation, relocation_view}
use Rattle.dwc_section.specs.Writers.{offset_relocation}
use Rattle.dwc_section.proofs.Whole.{after-appending}
use Rattle.dwc_section.proofs.writer.WriterRelocateWriter.write_offset.Goals as goal

pub invariant_of-self-2 : goal.invariant_of-self-2
invariant_of-self-2 c =
    after-appending c.self.inside.order c.self.inside.body.items _ (map relocation_view c.self.inside.relocs.items) _ (offset_relocation c.len-offset.result c.args.size c.args.section c.args.val)
    (rw (ap (λ (r : OutputRelocation). r.size) c.section_reloc-reloc.ensures) at c.in_ok-put_field.ensures.body)
    (rw (c.in_ok-put_field.ensures.relocs, map-append, c.section_reloc-reloc.ensures) refl)
    (search rules)
    (search rules)
    c.self.invariant
    (search rules)
    (c.args.section, refl)
