use Rattle.dwc_section.proofs.Whole.{after-finishing}
use Rattle.dwc_section.proofs.writer.WriterRelocate.finish_length.Goals as goal

pub invariant_of-self : goal.invariant_of-self
invariant_of-self c =
    after-finishing c.self.inside.order _ c.args.place _ c.bytes_4-bytes.result _ _ _ _ c.bytes_4-bytes.ensures c.deref_mut.ensures.value c.deref_mut.ensures.len c.replace.ensures (rw (← c.self.view_is) at c.requires.inside) c.self.invariant (rw (← c.self.view_is) at c.requires.clear)
