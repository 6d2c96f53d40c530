-- How long the line tables of an output can be at most: each number of variable length has 10 bytes and each address 8, and each row
-- has all its opcodes. (DWARF 4, section 6.2.)
use Rattle.std.specs.Prelude.{ℕ, ◌+◌, ◌*◌, List, length, is_some, sum_by, Option, Some, None, Result, Ok, Err}
use Rattle.std.specs.List.{filter}
use Rattle.dwc_dwarf.specs.LineHeaders.{LineFile}
use Rattle.dwc_dwarf.specs.LineRows.{LineTable, Segment, segments}
use Rattle.dwc_base.specs.Sections.{Fault}
use Rattle.dwc_native.specs.Functions.{Function, recorded_sources}
use Rattle.dwc_native.specs.Images.{row_of_source, start_of_segment, function_of_segment, is_carried_segment}
use Rattle.dwc_dwarf.specs.ReadUnits.{table_of_unit}

-- a number of variable length, and an address
abbrev pub variable_bytes : ℕ
variable_bytes = 10

-- an address
abbrev pub address_bytes : ℕ
address_bytes = 8

-- a declaration: its code, tag and children byte, so many attributes of a name and a form, and two zeros
abbrev pub widest_declaration : ℕ → ℕ
widest_declaration attributes = variable_bytes + variable_bytes + 1 + attributes * (variable_bytes + variable_bytes) + (variable_bytes + variable_bytes)

-- a row with all its opcodes: set_discriminator, set_basic_block, set_prologue_end, set_epilogue_begin, negate_stmt,
-- set_file, set_column, set_isa, advance_line, advance_pc, copy
abbrev pub widest_row : ℕ
widest_row = (1 + variable_bytes + 1 + variable_bytes) + 4 + 5 * (1 + variable_bytes) + 1

-- set_address, the rows, advance_pc and end_sequence
abbrev pub widest_image : ℕ → ℕ
widest_image rows = (1 + variable_bytes + 1 + address_bytes) + rows * widest_row + (1 + variable_bytes) + (1 + variable_bytes + 1)

-- a header of version 4 with its directories and files
abbrev pub widest_header : List (List ℕ) → List LineFile → ℕ
widest_header directories files =
    (4 + 2 + 4) + (1 + 1 + 1 + 1 + 1 + 1 + 12) + sum_by (λ d. length d + 1) directories + 1 + sum_by (λ f. length f.name + 1 + 3 * variable_bytes) files + 1

-- the rows that an image can have: one for each recorded source that has one
abbrev pub most_rows : List Function → Segment → ℕ
most_rows fs q = go (function_of_segment fs q)
  where
    go : Option Function → ℕ
    go None = 0
    go (Some f) = length (filter (λ e. is_some (row_of_source q.rows (start_of_segment q) e)) (recorded_sources f))

-- a line table with the images of its carried segments
abbrev pub widest_table : List Function → Result (Option LineTable) Fault → ℕ
widest_table fs (Err fault) = 0
widest_table fs (Ok None) = 0
widest_table fs (Ok (Some t)) = widest_header t.header.directories t.files + sum_by (λ q. widest_image (most_rows fs q)) (filter (is_carried_segment fs) (segments t))
