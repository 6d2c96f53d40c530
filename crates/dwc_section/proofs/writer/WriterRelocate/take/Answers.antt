use Rattle.std.proofs.Common.{refl}
use Rattle.dwc_section.proofs.writer.WriterRelocate.take.Goals as goal

pub returns-clause-sound : goal.returns-clause-sound
returns-clause-sound c =
    rw (c.section_of.ensures.section, ← c.self.view_is) (record { name = c.self.inside.name; named = refl; short = c.self.invariant.0; bytes = c.section_of.ensures.bytes; relocations = c.self.invariant.1 })
