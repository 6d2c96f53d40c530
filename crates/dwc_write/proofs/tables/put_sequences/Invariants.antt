use Rattle.std.proofs.Common.{◌≡◌, drop, map}
use Rattle.dwc_write.specs.SpelledRelocations.{sequence_bytes, sequence_relocations}
use Rattle.dwc_unit.specs.LineViews.{sequence_view}
use Rattle.dwc_section.proofs.WritesLaws.{whole}
use Rattle.dwc_write.proofs.tables.put_sequences.Given as goal

-- what is there, with the sequences that are left, is the whole
abbrev pub invariant-loop-i : goal.invariant-loop-i
invariant-loop-i l =
    whole (sequence_bytes l.initial.line.order l.size) (sequence_relocations l.initial.line.order l.size) (drop l.i (map sequence_view l.sequences)) l.line
    ≡ whole (sequence_bytes l.initial.line.order l.size) (sequence_relocations l.initial.line.order l.size) (map sequence_view l.sequences) l.initial.line
