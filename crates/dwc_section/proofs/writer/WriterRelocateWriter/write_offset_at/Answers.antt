use Rattle.std.proofs.Common.{rules, refl}
use Rattle.std.specs.Prelude.{map}
use Rattle.std.proofs.lemmas.List.{map-append}
use Rattle.dwc_base.specs.Outputs.{relocation_view}
use Rattle.dwc_section.specs.Writers.{offset_relocation}
use Rattle.dwc_section.proofs.Whole.{after-placing}
use Rattle.dwc_section.proofs.writer.WriterRelocateWriter.write_offset_at.Goals as goal

pub invariant_of-self-2 : goal.invariant_of-self-2
invariant_of-self-2 c =
    rw (c.in_ok-push.ensures.items, map-append, c.section_reloc.ensures)
    (after-placing c.self.inside.order _ _ c.self.inside.body.items _ (map relocation_view c.self.inside.relocs.items) (offset_relocation c.args.offset c.args.size c.args.section c.args.val)
    c.deref_mut.ensures.value c.deref_mut.ensures.len c.replace_sized.ensures (rw (← c.self.view_is) at c.requires.inside) c.self.invariant (rw (← c.self.view_is) at c.requires.clear) (search rules) (c.args.section, refl))
