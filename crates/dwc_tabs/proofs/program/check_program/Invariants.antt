use Rattle.std.proofs.Common.{◌≡◌, ◌+◌, ◌*◌, ◌^◌, ◌<◌, ◌++◌, map, length, nat_abs}
use Rattle.std.specs.List.{filter_map}
use Rattle.dwc_dwarf.specs.LineRows.{at_sequence_start, file_defined}
use Rattle.dwc_tabs.specs.Headers.{file_view, program_header}
use Rattle.dwc_tabs.specs.Steps.{registers_view}
use Rattle.dwc_tabs.specs.Programs.{instructions_from, shown_from, noted_all, nothing_noted}
use Rattle.dwc_tabs.proofs.program.check_program.Given as goal

-- What is noted of the rest, behind what was noted, is noted of all, and the files so far with those of the rest are all.
abbrev pub invariant-loop-left : goal.invariant-loop-left
invariant-loop-left l = record {
  same_fault : (instructions_from l.parameters l.relocations l.cursor).fault ≡ (instructions_from l.parameters l.relocations l.fn.cursor).fault;
  same_note : noted_all (shown_from l.parameters l.relocations (registers_view l.registers) l.cursor) l.check ≡ noted_all (shown_from l.parameters l.relocations (at_sequence_start (program_header l.parameters)) l.fn.cursor) nothing_noted;
  same_files : map file_view l.files.items ++ filter_map file_defined (instructions_from l.parameters l.relocations l.cursor).items ≡ map file_view l.fn.files.items ++ filter_map file_defined (instructions_from l.parameters l.relocations l.fn.cursor).items;
  bytes_left : l.left ≡ length l.cursor.left;
  room : nat_abs l.registers.line + 2 ^ 63 * length l.cursor.left < 2 ^ 127;
}

abbrev pub decreases-loop-left : goal.decreases-loop-left
decreases-loop-left l = l.left
