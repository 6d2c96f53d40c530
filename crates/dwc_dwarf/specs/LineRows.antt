-- The rows of a line table, its segments, and the row in force at an offset. (DWARF 4, sections 6.2.2 and 6.2.5.)
use Rattle.std.specs.Prelude.{ℕ, zero, suc, ◌+◌, ◌-◌, ◌*◌, ◌/◌, ◌%◌, ◌^◌, ℤ, pos, ◌+ℤ◌, nat_abs, List, [], ◌∷◌, ◌++◌, map, Bool, true, false, nat_lt, nat_le, int_lt, not, ◌&&◌, if◌then◌else◌, slice_get, Option, Some, None, option_map, option_and_then, Result, Ok, Err}
use Rattle.std.specs.List.{list_all, filter_map}
use Rattle.std.specs.Option.{option_or}
use Rattle.dwc_base.specs.declared.records.Address.{Address}
use Rattle.dwc_base.specs.declared.records.LineRow.{LineRow}
use Rattle.dwc_base.specs.declared.section_name.SectionName.TheVariants.{Line}
use Rattle.dwc_base.specs.declared.faults.What.TheVariants.{LineTable as LineTableRead}
use Rattle.dwc_base.specs.declared.faults.Flaw.{Flaw}
use Rattle.dwc_base.specs.declared.faults.Flaw.TheVariants.{Malformed}
use Rattle.dwc_base.specs.Reading.{Unread, ◌>>=◌}
use Rattle.dwc_base.specs.Listing.{Listing}
use Rattle.dwc_base.specs.Sections.{Sections, section_from, Fault, reported}
use Rattle.dwc_dwarf.specs.LineHeaders.{LineFile, LineHeader, line_source, line_header_at, Instruction, special, copy, advance_pc, advance_line, set_file, set_column, negate_stmt, set_basic_block, const_add_pc, fixed_advance_pc, set_prologue_end, set_epilogue_begin, set_isa, end_sequence, set_address, define_file, set_discriminator, unknown, instructions}

-- The registers of the state machine, as exact whole numbers. The address is the offset from the last
-- `set_address` of the sequence, or from 0 before any.
pub record Registers : Type 0 where
  pub offset : ℕ
  pub file : ℕ
  pub line : ℤ
  pub column : ℕ
  pub is_stmt : Bool
  pub basic_block : Bool
  pub prologue_end : Bool
  pub epilogue_begin : Bool
  pub isa : ℕ
  pub discriminator : ℕ

-- as a sequence begins
abbrev pub at_sequence_start : LineHeader → Registers
at_sequence_start h = record { offset = 0; file = 1; line = pos 1; column = 0; is_stmt = h.default_is_stmt; basic_block = false; prologue_end = false; epilogue_begin = false; isa = 0; discriminator = 0 }

-- what a row clears when it has been appended
abbrev pub after_row : Registers → Registers
after_row r = record r { basic_block = false; prologue_end = false; epilogue_begin = false; discriminator = 0 }

-- the address raised by some instructions' lengths
abbrev pub advanced : LineHeader → ℕ → Registers → Registers
advanced h count r = record r { offset = r.offset + h.minimum_instruction_length * count }

-- how far a special opcode raises the address and the line
abbrev pub special_advance : LineHeader → ℕ → ℕ
special_advance h opcode = (opcode - h.opcode_base) / h.line_range

-- the registers as a special opcode sets them (DWARF 4, section 6.2.5.1)
abbrev pub by_special : LineHeader → ℕ → Registers → Registers
by_special h opcode r = record r {
  offset = r.offset + h.minimum_instruction_length * special_advance h opcode;
  line = r.line +ℤ (h.line_base +ℤ pos ((opcode - h.opcode_base) % h.line_range));
}

-- what the program does that shows: it sets an address, appends a row, or ends a sequence at an offset
pub data Effect : Type 0 where
  starts : Address → Effect
  appends : Registers → Effect
  ends : ℕ → Effect

-- the registers after an instruction
abbrev pub after : LineHeader → Instruction → Registers → Registers
after h (special opcode) r = after_row (by_special h opcode r)
after h copy r = after_row r
after h (advance_pc n) r = advanced h n r
after h (advance_line n) r = record r { line = r.line +ℤ n }
after h (set_file n) r = record r { file = n }
after h (set_column n) r = record r { column = n }
after h negate_stmt r = record r { is_stmt = not r.is_stmt }
after h set_basic_block r = record r { basic_block = true }
after h const_add_pc r = advanced h (special_advance h 255) r
after h (fixed_advance_pc n) r = record r { offset = r.offset + n }
after h set_prologue_end r = record r { prologue_end = true }
after h set_epilogue_begin r = record r { epilogue_begin = true }
after h (set_isa n) r = record r { isa = n }
after h end_sequence r = at_sequence_start h
after h (set_address a) r = record r { offset = 0 }
after h (define_file f) r = r
after h (set_discriminator n) r = record r { discriminator = n }
after h unknown r = r

-- what an instruction does that shows
abbrev pub effect : LineHeader → Instruction → Registers → Option Effect
effect h (special opcode) r = Some (appends (by_special h opcode r))
effect h copy r = Some (appends r)
effect h end_sequence r = Some (ends r.offset)
effect h (set_address a) r = Some (starts a)
effect h _ r = None

-- what an instruction shows, if anything, in front of what follows
abbrev pub with_effect : Option Effect → List Effect → List Effect
with_effect None es = es
with_effect (Some e) es = e ∷ es

-- what the instructions do, one after another
abbrev pub effects : LineHeader → Registers → List Instruction → List Effect
effects h r [] = []
effects h r (i ∷ is) = with_effect (effect h i r) (effects h (after h i r) is)

-- a row's offset is at most 2 ^ 32 - 1, and its line is from 0 to 2 ^ 32 - 1
abbrev pub is_in_range : Effect → Bool
is_in_range (starts a) = true
is_in_range (appends r) = nat_lt r.offset (2 ^ 32) && not (int_lt r.line (pos 0)) && int_lt r.line (pos (2 ^ 32))
is_in_range (ends offset) = true

-- a row, its file by number
abbrev pub row_of : Registers → LineRow
row_of r = record { offset = r.offset; file = r.file; line = nat_abs r.line; column = r.column; is_stmt = r.is_stmt; basic_block = r.basic_block; prologue_end = r.prologue_end; epilogue_begin = r.epilogue_begin; isa = r.isa; discriminator = r.discriminator }

-- the same where rows are seen as such; a sequence that ends above 2 ^ 32 - 1 has no end
pub data LineStep : Type 0 where
  start : Address → LineStep
  row : LineRow → LineStep
  end : Option ℕ → LineStep

-- an effect as a step
abbrev pub step_of : Effect → LineStep
step_of (starts a) = start a
step_of (appends r) = row (row_of r)
step_of (ends offset) = end (if nat_lt offset (2 ^ 32) then Some offset else None)

-- A line table: its header, all its files, those that the program defines behind those of the header, and its steps.
pub record LineTable : Type 0 where
  pub header : LineHeader
  pub files : List LineFile
  pub steps : List LineStep

-- the file that an instruction defines
abbrev pub file_defined : Instruction → Option LineFile
file_defined (define_file f) = Some f
file_defined _ = None

-- the table of a header and the instructions behind it
abbrev pub table_of : LineHeader → List Instruction → LineTable
table_of h is = record { header = h; files = h.files ++ filter_map file_defined is; steps = map step_of (effects h (at_sequence_start h) is) }

-- where all instructions were read and all rows are in range
abbrev pub checked_table : LineHeader → Listing Flaw Instruction → Result LineTable Flaw
checked_table h program =
    elim program.fault [
      | Some flaw ↦ Err flaw
      | None ↦ elim (list_all is_in_range (effects h (at_sequence_start h) program.items)) [ true ↦ Ok (table_of h program.items) | false ↦ Err Malformed ]
    ]

-- The table at the front: its header, and the instructions behind it.
unfoldable pub line_table_at : Sections → ℕ → ℕ → Unread → Result LineTable Flaw
line_table_at s address_size base u = do
  h ← line_header_at (line_source s base) address_size u
  checked_table h (instructions (s.relocations Line) h h.program)

-- the table at an offset of .debug_line, for a unit of an address size, whose texts by an index begin at a base
unfoldable pub line_table : Sections → ℕ → ℕ → ℕ → Result LineTable Fault
line_table s address_size base offset = reported LineTableRead Line offset (line_table_at s address_size base (section_from s Line offset))

-- A file by its names; without a directory's name it is in the compilation directory.
pub record SourceFile : Type 0 where
  pub directory : Option (List ℕ)
  pub name : List ℕ

-- a file by its names, if its directory is there
abbrev pub in_directory : List (List ℕ) → LineFile → Option SourceFile
in_directory directories f = go f.directory
  where
    go : ℕ → Option SourceFile
    go zero = Some (record { directory = None; name = f.name })
    go (suc d) = option_map (λ directory. record { directory = Some directory; name = f.name }) (slice_get directories d)

-- what stands at a number, from 1 on
abbrev pub numbered : {A : Type 0} → ℕ → List A → Option A
numbered zero xs = None
numbered (suc n) xs = slice_get xs n

-- the file of a number: they count from 1, from version 5 on from 0
abbrev pub file_numbered : LineTable → ℕ → Option LineFile
file_numbered t n = if nat_lt t.header.version 5 then numbered n t.files else slice_get t.files n

-- The file of a number by its names, none where the table lacks it or its directory.
abbrev pub source_file : LineTable → ℕ → Option SourceFile
source_file t n = option_and_then (in_directory t.header.directories) (file_numbered t n)

-- What a row says of the code from its offset on. (DWARF 4, section 6.2.2.)
pub record RowContents : Type 0 where
  pub file : Option SourceFile
  pub line : ℕ
  pub column : ℕ
  pub is_stmt : Bool
  pub basic_block : Bool
  pub prologue_end : Bool
  pub epilogue_begin : Bool
  pub isa : ℕ
  pub discriminator : ℕ

-- a row by its offset and what it says
pub record Row : Type 0 where
  pub offset : ℕ
  pub source : RowContents

-- a row with its file by names
abbrev pub named_row : LineTable → LineRow → Row
named_row t r = record { offset = r.offset; source = record { file = source_file t r.file; line = r.line; column = r.column; is_stmt = r.is_stmt; basic_block = r.basic_block; prologue_end = r.prologue_end; epilogue_begin = r.epilogue_begin; isa = r.isa; discriminator = r.discriminator } }

-- A piece of a sequence from a `set_address` to the next one or to `end_sequence`.
pub record Segment : Type 0 where
  pub start : Address
  pub rows : List Row
  pub end : Option ℕ

-- the rows before the next step of another kind
abbrev pub rows_before : LineTable → List LineStep → List Row
rows_before t [] = []
rows_before t (row r ∷ steps) = named_row t r ∷ rows_before t steps
rows_before t (start a ∷ steps) = []
rows_before t (end e ∷ steps) = []

-- what stops those rows: a new address gives no end, an `end_sequence` gives its own; none where nothing stops them
abbrev pub stop_behind : List LineStep → Option (Option ℕ)
stop_behind [] = None
stop_behind (row r ∷ steps) = stop_behind steps
stop_behind (start a ∷ steps) = Some None
stop_behind (end e ∷ steps) = Some e

-- a segment has rows and is stopped
abbrev pub segment_if : Address → List Row → Option (Option ℕ) → Option Segment
segment_if a [] stop = None
segment_if a (r ∷ rs) None = None
segment_if a (r ∷ rs) (Some e) = Some (record { start = a; rows = r ∷ rs; end = e })

-- a segment, if there is one, in front of others
abbrev pub with_segment : Option Segment → List Segment → List Segment
with_segment None qs = qs
with_segment (Some q) qs = q ∷ qs

-- the segments among some steps, in order
abbrev pub segments_among : LineTable → List LineStep → List Segment
segments_among t [] = []
segments_among t (start a ∷ steps) = with_segment (segment_if a (rows_before t steps) (stop_behind steps)) (segments_among t steps)
segments_among t (row r ∷ steps) = segments_among t steps
segments_among t (end e ∷ steps) = segments_among t steps

-- the segments of a table, in order
abbrev pub segments : LineTable → List Segment
segments t = segments_among t t.steps

-- The row in force at an offset of a segment: the last one, in order, whose offset is at most that.
abbrev pub row_in_force : List Row → ℕ → Option RowContents
row_in_force [] offset = None
row_in_force (r ∷ rs) offset = option_or (row_in_force rs offset) (if nat_le r.offset offset then Some r.source else None)
