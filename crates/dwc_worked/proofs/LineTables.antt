-- The small module's line table, and the images of it and of four changes of it.
use Rattle.std.proofs.Common.{◌≡◌, ℕ, pos, List, [], ◌∷◌, map, Some, None, Option, Ok, Err, Result, true, false, refl}
use Rattle.std.specs.List.{filter}
use Rattle.dwc_worked.proofs.OnLiterals.{lines_on_literals}
use Rattle.dwc_worked.proofs.SmallModule.{abbreviations_small, info_small}
use Rattle.dwc_worked.proofs.Readings.{three_sections, sections_small}
use Rattle.dwc_base.specs.declared.records.OutputFor.TheVariants.{Default}
use Rattle.dwc_base.specs.declared.records.Address.TheVariants.{Constant}
use Rattle.dwc_base.specs.declared.records.Endian.TheVariants.{Little}
use Rattle.dwc_base.specs.declared.faults.What.TheVariants.{LineTable as LineTableRead}
use Rattle.dwc_base.specs.declared.section_name.SectionName.TheVariants.{Line}
use Rattle.dwc_base.specs.Sections.{Fault, unreadable}
use Rattle.dwc_dwarf.specs.LineHeaders.{LineFile}
use Rattle.dwc_base.specs.Spelling.{unread_at}
use Rattle.dwc_dwarf.specs.LineRows.{LineTable, line_table, Segment, Row, RowContents, SourceFile, segments}
use Rattle.dwc_native.specs.Functions.{AddressMap, Function, function_of, map_fault}
use Rattle.dwc_native.specs.Images.{row_for_byte, start_of_segment, is_carried_segment}
use Rattle.dwc_base.specs.declared.records.MapFault.TheVariants.{CodeFalls}

-- `a.c`, in the compilation directory
abbrev pub a_c : SourceFile
a_c = record { directory = None; name = 97 ∷ 46 ∷ 99 ∷ [] }

-- a row's source that differs from the registers at the start in its line alone
abbrev pub line_of_a_c : ℕ → RowContents
line_of_a_c n = record { file = Some a_c; line = n; column = 0; is_stmt = true; basic_block = false; prologue_end = false; epilogue_begin = false; isa = 0; discriminator = 0 }

abbrev pub at_line : ℕ → ℕ → Row
at_line offset n = record { offset = offset; source = line_of_a_c n }

abbrev pub segments_read : Result LineTable Fault → List Segment
segments_read (Err fault) = []
segments_read (Ok t) = segments t

-- a table of a version, with directories and files alone
abbrev pub table_of_files : ℕ → List (List ℕ) → List LineFile → LineTable
table_of_files version directories files = record {
  header = record { version = version; address_size = 8; minimum_instruction_length = 1; default_is_stmt = true; line_base = pos 0; line_range = 1; opcode_base = 1; standard_opcode_lengths = []; directories = directories; files = files; program = unread_at Little 0 [] };
  files = files;
  steps = [];
}

-- the table of a unit; one without anything where there is none
abbrev pub the_table : Result (Option LineTable) Fault → LineTable
the_table (Ok (Some t)) = t
the_table _ = table_of_files 0 [] []

abbrev pub segments_small : List Segment
segments_small = record { start = Constant 2; rows = at_line 0 1 ∷ at_line 3 2 ∷ at_line 8 3 ∷ []; end = Some 11 } ∷ []

rows-small : segments_read (line_table sections_small 4 8 0) ≡ segments_small
unfolding lines_on_literals
rows-small = refl

-- the map of the small module's function, whose code section's contents are at 20
abbrev pub map_small : AddressMap
map_small = record { symbol = Some 0; start = Some 22; end = Some 33; body_offset = 0; body_len = 30; entries = (5, Some 25) ∷ (8, None) ∷ (15, Some 30) ∷ (23, None) ∷ [] }

abbrev pub function_small : Function
function_small = function_of Default 20 0 map_small

good-small : map_fault 20 map_small ≡ None
good-small = refl

falls-small : map_fault 20 (record map_small { entries = (8, Some 25) ∷ (5, None) ∷ [] }) ≡ Some CodeFalls
falls-small = refl

-- the lines that the image of a segment has at some bytes
abbrev pub line_in : Option RowContents → ℕ
line_in None = 0
line_in (Some s) = s.line

abbrev pub lines_at : Segment → List ℕ → List ℕ
lines_at q bytes = map (λ b. line_in (row_for_byte q.rows (start_of_segment q) function_small b)) bytes

bytes-small : map (λ q. lines_at q (0 ∷ 5 ∷ 14 ∷ 15 ∷ 29 ∷ [])) segments_small ≡ (2 ∷ 2 ∷ 2 ∷ 3 ∷ 3 ∷ []) ∷ []
bytes-small = refl

row-small : row_for_byte (at_line 0 1 ∷ at_line 3 2 ∷ at_line 8 3 ∷ []) 2 function_small 15 ≡ Some (line_of_a_c 3)
row-small = refl

-- A sequence from 6: the source at 5 lies below its start, so the one at 10 decides at each byte.
abbrev pub line_below_start : List ℕ
line_below_start = 0x30 ∷ 0x00 ∷ 0x00 ∷ 0x00 ∷ 0x04 ∷ 0x00 ∷ 0x1B ∷ 0x00 ∷ 0x00 ∷ 0x00 ∷ 0x01 ∷ 0x01 ∷ 0x01 ∷ 0xFB ∷ 0x0E ∷ 0x0D ∷ 0x00 ∷ 0x01 ∷ 0x01 ∷ 0x01 ∷ 0x01 ∷ 0x00 ∷ 0x00 ∷ 0x00 ∷ 0x01 ∷ 0x00 ∷ 0x00 ∷ 0x01 ∷ 0x00 ∷ 0x61 ∷ 0x2E ∷ 0x63 ∷ 0x00 ∷ 0x00 ∷ 0x00 ∷ 0x00 ∷ 0x00 ∷ 0x00 ∷ 0x05 ∷ 0x02 ∷ 0x06 ∷ 0x00 ∷ 0x00 ∷ 0x00 ∷ 0x03 ∷ 0x08 ∷ 0x01 ∷ 0x02 ∷ 0x07 ∷ 0x00 ∷ 0x01 ∷ 0x01 ∷ []

rows-below_start : segments_read (line_table (three_sections abbreviations_small info_small line_below_start) 4 8 0) ≡ record { start = Constant 6; rows = at_line 0 9 ∷ []; end = Some 7 } ∷ []
unfolding lines_on_literals
rows-below_start = refl

bytes-below_start : map (λ q. lines_at q (0 ∷ 5 ∷ 14 ∷ 15 ∷ 29 ∷ [])) (filter (is_carried_segment (function_small ∷ [])) (segments_read (line_table (three_sections abbreviations_small info_small line_below_start) 4 8 0))) ≡ (9 ∷ 9 ∷ 9 ∷ 9 ∷ 9 ∷ []) ∷ []
unfolding lines_on_literals
bytes-below_start = refl

-- Two rows at one offset: the later one is in force.
abbrev pub line_same_offset : List ℕ
line_same_offset = 0x3B ∷ 0x00 ∷ 0x00 ∷ 0x00 ∷ 0x04 ∷ 0x00 ∷ 0x1B ∷ 0x00 ∷ 0x00 ∷ 0x00 ∷ 0x01 ∷ 0x01 ∷ 0x01 ∷ 0xFB ∷ 0x0E ∷ 0x0D ∷ 0x00 ∷ 0x01 ∷ 0x01 ∷ 0x01 ∷ 0x01 ∷ 0x00 ∷ 0x00 ∷ 0x00 ∷ 0x01 ∷ 0x00 ∷ 0x00 ∷ 0x01 ∷ 0x00 ∷ 0x61 ∷ 0x2E ∷ 0x63 ∷ 0x00 ∷ 0x00 ∷ 0x00 ∷ 0x00 ∷ 0x00 ∷ 0x00 ∷ 0x05 ∷ 0x02 ∷ 0x02 ∷ 0x00 ∷ 0x00 ∷ 0x00 ∷ 0x01 ∷ 0x02 ∷ 0x03 ∷ 0x03 ∷ 0x01 ∷ 0x01 ∷ 0x03 ∷ 0x03 ∷ 0x01 ∷ 0x02 ∷ 0x05 ∷ 0x03 ∷ 0x7E ∷ 0x01 ∷ 0x02 ∷ 0x03 ∷ 0x00 ∷ 0x01 ∷ 0x01 ∷ []

rows-same_offset : segments_read (line_table (three_sections abbreviations_small info_small line_same_offset) 4 8 0) ≡ record { start = Constant 2; rows = at_line 0 1 ∷ at_line 3 2 ∷ at_line 3 5 ∷ at_line 8 3 ∷ []; end = Some 11 } ∷ []
unfolding lines_on_literals
rows-same_offset = refl

bytes-same_offset : map (λ q. lines_at q (0 ∷ 5 ∷ 14 ∷ 15 ∷ 29 ∷ [])) (filter (is_carried_segment (function_small ∷ [])) (segments_read (line_table (three_sections abbreviations_small info_small line_same_offset) 4 8 0))) ≡ (5 ∷ 5 ∷ 5 ∷ 3 ∷ 3 ∷ []) ∷ []
unfolding lines_on_literals
bytes-same_offset = refl

-- Sequences at 0 and 0xFFFFFFFF are in no function.
abbrev pub line_unlinked : List ℕ
line_unlinked = 0x3B ∷ 0x00 ∷ 0x00 ∷ 0x00 ∷ 0x04 ∷ 0x00 ∷ 0x1B ∷ 0x00 ∷ 0x00 ∷ 0x00 ∷ 0x01 ∷ 0x01 ∷ 0x01 ∷ 0xFB ∷ 0x0E ∷ 0x0D ∷ 0x00 ∷ 0x01 ∷ 0x01 ∷ 0x01 ∷ 0x01 ∷ 0x00 ∷ 0x00 ∷ 0x00 ∷ 0x01 ∷ 0x00 ∷ 0x00 ∷ 0x01 ∷ 0x00 ∷ 0x61 ∷ 0x2E ∷ 0x63 ∷ 0x00 ∷ 0x00 ∷ 0x00 ∷ 0x00 ∷ 0x00 ∷ 0x00 ∷ 0x05 ∷ 0x02 ∷ 0x00 ∷ 0x00 ∷ 0x00 ∷ 0x00 ∷ 0x01 ∷ 0x02 ∷ 0x05 ∷ 0x00 ∷ 0x01 ∷ 0x01 ∷ 0x00 ∷ 0x05 ∷ 0x02 ∷ 0xFF ∷ 0xFF ∷ 0xFF ∷ 0xFF ∷ 0x01 ∷ 0x02 ∷ 0x05 ∷ 0x00 ∷ 0x01 ∷ 0x01 ∷ []

rows-unlinked : segments_read (line_table (three_sections abbreviations_small info_small line_unlinked) 4 8 0) ≡ record { start = Constant 0; rows = at_line 0 1 ∷ []; end = Some 5 } ∷ record { start = Constant 0xFFFFFFFF; rows = at_line 0 1 ∷ []; end = Some 5 } ∷ []
unfolding lines_on_literals
rows-unlinked = refl

bytes-unlinked : filter (is_carried_segment (function_small ∷ [])) (segments_read (line_table (three_sections abbreviations_small info_small line_unlinked) 4 8 0)) ≡ []
unfolding lines_on_literals
bytes-unlinked = refl

-- A second `set_address` cuts a sequence in two; the first piece has no end.
abbrev pub line_cut : List ℕ
line_cut = 0x38 ∷ 0x00 ∷ 0x00 ∷ 0x00 ∷ 0x04 ∷ 0x00 ∷ 0x1B ∷ 0x00 ∷ 0x00 ∷ 0x00 ∷ 0x01 ∷ 0x01 ∷ 0x01 ∷ 0xFB ∷ 0x0E ∷ 0x0D ∷ 0x00 ∷ 0x01 ∷ 0x01 ∷ 0x01 ∷ 0x01 ∷ 0x00 ∷ 0x00 ∷ 0x00 ∷ 0x01 ∷ 0x00 ∷ 0x00 ∷ 0x01 ∷ 0x00 ∷ 0x61 ∷ 0x2E ∷ 0x63 ∷ 0x00 ∷ 0x00 ∷ 0x00 ∷ 0x00 ∷ 0x00 ∷ 0x00 ∷ 0x05 ∷ 0x02 ∷ 0x02 ∷ 0x00 ∷ 0x00 ∷ 0x00 ∷ 0x01 ∷ 0x00 ∷ 0x05 ∷ 0x02 ∷ 0x07 ∷ 0x00 ∷ 0x00 ∷ 0x00 ∷ 0x03 ∷ 0x03 ∷ 0x01 ∷ 0x02 ∷ 0x03 ∷ 0x00 ∷ 0x01 ∷ 0x01 ∷ []

rows-cut : segments_read (line_table (three_sections abbreviations_small info_small line_cut) 4 8 0) ≡ record { start = Constant 2; rows = at_line 0 1 ∷ []; end = None } ∷ record { start = Constant 7; rows = at_line 0 4 ∷ []; end = Some 3 } ∷ []
unfolding lines_on_literals
rows-cut = refl

bytes-cut : map (λ q. lines_at q (0 ∷ 5 ∷ 14 ∷ 15 ∷ 29 ∷ [])) (filter (is_carried_segment (function_small ∷ [])) (segments_read (line_table (three_sections abbreviations_small info_small line_cut) 4 8 0))) ≡ (1 ∷ 1 ∷ 1 ∷ 1 ∷ 1 ∷ []) ∷ (4 ∷ 4 ∷ 4 ∷ 4 ∷ 4 ∷ []) ∷ []
unfolding lines_on_literals
bytes-cut = refl

-- a table cut short cannot be read
cut-short : line_table (three_sections abbreviations_small info_small (0x38 ∷ 0 ∷ 0 ∷ 0 ∷ 4 ∷ 0 ∷ 0x1B ∷ [])) 4 8 0 ≡ Err (unreadable LineTableRead Line 0)
unfolding lines_on_literals
cut-short = refl
