-- The bytes of a line table of version 4, from its sequences of rows, and what its readers answer on them. Bytes are those of
-- instructions (any of versions 2 to 4), and instructions those of rows. The laws are in `ReadProgram` (instructions), `ReadRows`
-- (what they do) and `ReadLines` (header, table and segments); `ReadWritten` has a row's bytes part by part.
use Rattle.std.specs.Prelude.{◌≡◌, ℕ, ◌+◌, ◌-◌, ◌^◌, ◌<◌, ◌≤◌, ◌==◌, pos, ◌-ℤ◌, List, [], ◌∷◌, ◌++◌, map, length, Bool, true, false, not, Some}
use Rattle.std.specs.List.{All, flat_map}
use Rattle.dwc_base.specs.declared.records.Endian.{Endian}
use Rattle.dwc_base.specs.declared.records.Address.{Address}
use Rattle.dwc_base.specs.declared.records.LineRow.{LineRow}
use Rattle.dwc_base.specs.Reading.{is_64_bit}
use Rattle.dwc_dwarf.specs.LineHeaders.{LineFile, LineHeader, Instruction, special, copy, advance_pc, advance_line, set_file, set_column, negate_stmt, set_basic_block, const_add_pc, fixed_advance_pc, set_prologue_end, set_epilogue_begin, set_isa, end_sequence, set_address, define_file, set_discriminator, unknown}
use Rattle.dwc_dwarf.specs.LineRows.{Registers, LineStep, start, row, end, LineTable, Segment, named_row}
use Rattle.dwc_base.specs.Spelling.{unread_at}
use Rattle.dwc_base.specs.NumberBytes.{number_bytes, uleb_bytes, sleb_bytes}
use Rattle.dwc_section.specs.Spelled.{text_bytes, block_bytes, sized_bytes, at_places}
use Rattle.dwc_section.specs.SpelledAddresses.{AddressField, address_bytes, FitsAddress}

-- ---- the header

-- the number of operands of each standard opcode
abbrev pub standard_counts : List ℕ
standard_counts = 0 ∷ 1 ∷ 1 ∷ 1 ∷ 1 ∷ 0 ∷ 0 ∷ 0 ∷ 1 ∷ 0 ∷ 0 ∷ 1 ∷ []

-- a file without time and length
abbrev pub file_bytes : LineFile → List ℕ
file_bytes f = text_bytes f.name ++ (uleb_bytes f.directory ++ 0 ∷ 0 ∷ [])

-- minimum length 1, operations 1, default_is_stmt 1, line_base -5, line_range 14, opcode_base 13; directories and files
abbrev pub line_fields_bytes : List (List ℕ) → List LineFile → List ℕ
line_fields_bytes directories files =
    (1 ∷ 1 ∷ 1 ∷ 251 ∷ 14 ∷ 13 ∷ []) ++ (standard_counts ++ ((flat_map text_bytes directories ++ 0 ∷ []) ++ (flat_map file_bytes files ++ 0 ∷ [])))

-- a name has no zero and is not empty
pub record FitsName (name : List ℕ) : Type 0 where
  pub some : 0 < length name
  pub plain : All (λ b. 0 < b) name

pub record FitsFile (f : LineFile) : Type 0 where
  pub name : FitsName f.name
  pub directory : f.directory < 2 ^ 64

-- ---- instructions

-- an extended instruction: a zero, a length, an opcode and operands
abbrev pub extended_bytes : ℕ → List ℕ → List ℕ
extended_bytes opcode operands = 0 ∷ block_bytes (opcode ∷ operands)

abbrev pub instruction_bytes : Endian → ℕ → Instruction → List ℕ
instruction_bytes order size (special opcode) = opcode ∷ []
instruction_bytes order size copy = 1 ∷ []
instruction_bytes order size (advance_pc n) = 2 ∷ uleb_bytes n
instruction_bytes order size (advance_line z) = 3 ∷ sleb_bytes z
instruction_bytes order size (set_file n) = 4 ∷ uleb_bytes n
instruction_bytes order size (set_column n) = 5 ∷ uleb_bytes n
instruction_bytes order size negate_stmt = 6 ∷ []
instruction_bytes order size set_basic_block = 7 ∷ []
instruction_bytes order size const_add_pc = 8 ∷ []
instruction_bytes order size (fixed_advance_pc n) = 9 ∷ number_bytes order 2 n
instruction_bytes order size set_prologue_end = 10 ∷ []
instruction_bytes order size set_epilogue_begin = 11 ∷ []
instruction_bytes order size (set_isa n) = 12 ∷ uleb_bytes n
instruction_bytes order size end_sequence = extended_bytes 1 []
instruction_bytes order size (set_address a) = extended_bytes 2 (address_bytes order size a)
instruction_bytes order size (define_file f) = extended_bytes 3 (file_bytes f)
instruction_bytes order size (set_discriminator n) = extended_bytes 4 (uleb_bytes n)
instruction_bytes order size unknown = []

-- operands fit; an opcode that is not known is not written
abbrev pub FitsInstruction : ℕ → Instruction → Type 0
FitsInstruction size (special opcode) = 13 ≤ opcode
FitsInstruction size (advance_pc n) = n < 2 ^ 64
FitsInstruction size (advance_line z) = is_64_bit z ≡ true
FitsInstruction size (set_file n) = n < 2 ^ 64
FitsInstruction size (set_column n) = n < 2 ^ 64
FitsInstruction size (fixed_advance_pc n) = n < 256 ^ 2
FitsInstruction size (set_isa n) = n < 2 ^ 64
FitsInstruction size (set_address a) = FitsAddress size a × (size < 2 ^ 63)
FitsInstruction size (define_file f) = FitsFile f × (length (file_bytes f) < 2 ^ 63)
FitsInstruction size (set_discriminator n) = n < 2 ^ 64
FitsInstruction size unknown = ⊥
FitsInstruction size _ = Unit {0}

-- the field of an address in an instruction: behind a zero, the length and the opcode
abbrev pub instruction_fields : Endian → ℕ → ℕ → Instruction → List AddressField
instruction_fields order size place (set_address a) =
    record { offset = ((place + 1) + length (uleb_bytes (length (2 ∷ address_bytes order size a)))) + 1; size = size; address = a } ∷ []
instruction_fields order size place _ = []

abbrev pub program_bytes : Endian → ℕ → List Instruction → List ℕ
program_bytes order size is = flat_map (instruction_bytes order size) is

abbrev pub program_fields : Endian → ℕ → ℕ → List Instruction → List AddressField
program_fields order size place is = at_places (instruction_bytes order size) (instruction_fields order size) place is

-- ---- the table

-- version, the header's length and fields, the program
abbrev pub line_body : Endian → ℕ → List (List ℕ) → List LineFile → List Instruction → List ℕ
line_body order size directories files is =
    number_bytes order 2 4 ++ (sized_bytes order (line_fields_bytes directories files) ++ program_bytes order size is)

abbrev pub line_table_bytes : Endian → ℕ → List (List ℕ) → List LineFile → List Instruction → List ℕ
line_table_bytes order size directories files is = sized_bytes order (line_body order size directories files is)

-- where the program stands in its table
abbrev pub program_place : List (List ℕ) → List LineFile → ℕ
program_place directories files = 10 + length (line_fields_bytes directories files)

abbrev pub read_line_header : Endian → ℕ → ℕ → List (List ℕ) → List LineFile → List Instruction → LineHeader
read_line_header order size place directories files is = record {
  version = 4;
  address_size = size;
  minimum_instruction_length = 1;
  default_is_stmt = true;
  line_base = pos 251 -ℤ pos 256;
  line_range = 14;
  opcode_base = 13;
  standard_opcode_lengths = standard_counts;
  directories = directories;
  files = files;
  program = unread_at order (place + program_place directories files) (program_bytes order size is);
}

-- ---- sequences

-- a sequence: its start, its rows, and its end
pub record WrittenSequence : Type 0 where
  pub start_address : Address
  pub rows : List LineRow
  pub end_offset : ℕ

-- as a sequence begins
abbrev pub first_row : LineRow
first_row = record { offset = 0; file = 1; line = 1; column = 0; is_stmt = true; basic_block = false; prologue_end = false; epilogue_begin = false; isa = 0; discriminator = 0 }

-- the registers that append a row, and those behind it
abbrev pub registers_at : LineRow → Registers
registers_at r = record { offset = r.offset; file = r.file; line = pos r.line; column = r.column; is_stmt = r.is_stmt; basic_block = r.basic_block; prologue_end = r.prologue_end; epilogue_begin = r.epilogue_begin; isa = r.isa; discriminator = r.discriminator }

abbrev pub registers_behind : LineRow → Registers
registers_behind r = record (registers_at r) { basic_block = false; prologue_end = false; epilogue_begin = false; discriminator = 0 }

abbrev pub when : Bool → Instruction → List Instruction
when true i = i ∷ []
when false i = []

-- bytes that stand only where they are wanted: those of `when`
abbrev pub bytes_when : Bool → List ℕ → List ℕ
bytes_when true bytes = bytes
bytes_when false bytes = []

abbrev pub differs : Bool → Bool → Bool
differs true b = not b
differs false b = b

-- what appends a row behind another, each only where it differs from the registers
abbrev pub row_instructions : LineRow → LineRow → List Instruction
row_instructions before r =
    when (not (r.discriminator == 0)) (set_discriminator r.discriminator)
    ++ (when r.basic_block set_basic_block
    ++ (when r.prologue_end set_prologue_end
    ++ (when r.epilogue_begin set_epilogue_begin
    ++ (when (differs before.is_stmt r.is_stmt) negate_stmt
    ++ (when (not (before.file == r.file)) (set_file r.file)
    ++ (when (not (before.column == r.column)) (set_column r.column)
    ++ (when (not (before.isa == r.isa)) (set_isa r.isa)
    ++ (when (not (before.line == r.line)) (advance_line (pos r.line -ℤ pos before.line))
    ++ (when (not (before.offset == r.offset)) (advance_pc (r.offset - before.offset))
    ++ copy ∷ [])))))))))

-- the rows behind a row, and the end
abbrev pub rows_instructions : LineRow → List LineRow → ℕ → List Instruction
rows_instructions before [] last = when (not (before.offset == last)) (advance_pc (last - before.offset)) ++ end_sequence ∷ []
rows_instructions before (r ∷ rs) last = row_instructions before r ++ rows_instructions r rs last

abbrev pub sequence_instructions : WrittenSequence → List Instruction
sequence_instructions q = set_address q.start_address ∷ rows_instructions first_row q.rows q.end_offset

abbrev pub sequences_instructions : List WrittenSequence → List Instruction
sequences_instructions qs = flat_map sequence_instructions qs

-- A row's numbers fit, and its file has one, from 1 on.
pub record FitsRow (r : LineRow) : Type 0 where
  pub some_file : 0 < r.file
  pub offset : r.offset < 2 ^ 32
  pub line : r.line < 2 ^ 32
  pub file : r.file < 2 ^ 64
  pub column : r.column < 2 ^ 64
  pub isa : r.isa < 2 ^ 64
  pub discriminator : r.discriminator < 2 ^ 64

-- offsets fall nowhere, from a first one up to the end
abbrev pub RowsRise : ℕ → List LineRow → ℕ → Type 0
RowsRise low [] high = low ≤ high
RowsRise low (r ∷ rs) high = (low ≤ r.offset) × RowsRise r.offset rs high

pub record FitsSequence (size : ℕ) (q : WrittenSequence) : Type 0 where
  pub begin : FitsAddress size q.start_address
  pub some : 0 < length q.rows
  pub rows : All FitsRow q.rows
  pub rise : RowsRise 0 q.rows q.end_offset
  pub last : q.end_offset < 2 ^ 32

-- what is read of a sequence
abbrev pub sequence_steps : WrittenSequence → List LineStep
sequence_steps q = start q.start_address ∷ (map row q.rows ++ end (Some q.end_offset) ∷ [])

abbrev pub read_segment : LineTable → WrittenSequence → Segment
read_segment t q = record { start = q.start_address; rows = map (named_row t) q.rows; end = Some q.end_offset }

abbrev pub read_line_table : Endian → ℕ → ℕ → List (List ℕ) → List LineFile → List WrittenSequence → LineTable
read_line_table order size place directories files qs = record {
  header = read_line_header order size place directories files (sequences_instructions qs);
  files = files;
  steps = flat_map sequence_steps qs;
}
