use Rattle.dwc_section.proofs.Whole.{after-replacing}
use Rattle.dwc_section.proofs.writer.WriterRelocateWriter.write_at.Goals as goal

pub invariant_of-self : goal.invariant_of-self
invariant_of-self c =
    after-replacing c.self.inside.order _ c.args.offset c.args.bytes.now _ _ _ _ c.deref_mut.ensures.value c.deref_mut.ensures.len c.replace.ensures (rw (← c.self.view_is) at c.requires.inside) c.self.invariant (rw (← c.self.view_is) at c.requires.clear)
