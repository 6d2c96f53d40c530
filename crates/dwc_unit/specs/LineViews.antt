-- The parts of a line program, as a writer keeps them.
use Rattle.dwc_unit.specs.declared.lines.Sequence.{Sequence}
use Rattle.dwc_unit.specs.SpelledLines.{WrittenSequence}

abbrev pub sequence_view : Sequence → WrittenSequence
sequence_view q = record { start_address = q.start_address; rows = q.rows.rows; end_offset = q.rows.end_offset }
