-- The sequences of a line program that is given, as segments are read. (DWARF 4, section 6.2.)
use Rattle.std.specs.Prelude.{ℕ, zero, suc, List, map, slice_get, Option, Some, None, option_and_then}
use Rattle.dwc_base.specs.declared.records.LineRow.{LineRow}
use Rattle.dwc_dwarf.specs.LineRows.{SourceFile, in_directory, Row, Segment}
use Rattle.dwc_unit.specs.SpelledLines.{WrittenSequence}
use Rattle.dwc_unit.specs.GivenLines.{GivenLines}

-- the file of a number, by its names
abbrev pub given_file : GivenLines → ℕ → Option SourceFile
given_file g zero = None
given_file g (suc n) = option_and_then (in_directory g.directories) (slice_get g.files n)

abbrev pub given_row : GivenLines → LineRow → Row
given_row g r = record { offset = r.offset; source = record { file = given_file g r.file; line = r.line; column = r.column; is_stmt = r.is_stmt; basic_block = r.basic_block; prologue_end = r.prologue_end; epilogue_begin = r.epilogue_begin; isa = r.isa; discriminator = r.discriminator } }

abbrev pub given_segment : GivenLines → WrittenSequence → Segment
given_segment g q = record { start = q.start_address; rows = map (given_row g) q.rows; end = Some q.end_offset }

-- the sequences of a line program, as segments
abbrev pub given_segments : GivenLines → List Segment
given_segments g = map (given_segment g) g.sequences
