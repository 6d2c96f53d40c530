-- The rows that the bytes of instructions tell, as a reader of DWARF sees them where no instruction has an address: what a writer
-- keeps of the rows of a sequence.
use Rattle.std.specs.Prelude.{◌≡◌, ℕ, List, [], ◌∷◌, ◌++◌, Option, Some, None}
use Rattle.std.specs.List.{All, filter_map}
use Rattle.dwc_base.specs.declared.records.Endian.TheVariants.{Little}
use Rattle.dwc_base.specs.declared.records.LineRow.{LineRow}
use Rattle.dwc_base.specs.Spelling.{unread_at}
use Rattle.dwc_dwarf.specs.LineHeaders.{LineHeader, Instruction, instructions}
use Rattle.dwc_dwarf.specs.LineRows.{Effect, starts, appends, ends, at_sequence_start, effects, row_of}
use Rattle.dwc_unit.specs.SpelledLines.{FitsRow, RowsRise, first_row, program_bytes, read_line_header, row_instructions, rows_instructions}

-- ---- what bytes tell

-- a header that says how instructions are spelled, and names nothing
abbrev pub plain_header : LineHeader
plain_header = read_line_header Little 8 0 [] [] []

-- what the instructions do, from the start of a sequence on
unfoldable pub effects_told : List ℕ → List Effect
effects_told code = effects plain_header (at_sequence_start plain_header) (instructions [] plain_header (unread_at Little 0 code)).items

-- the row that an effect shows
abbrev pub row_shown : Effect → Option LineRow
row_shown (starts a) = None
row_shown (appends r) = Some (row_of r)
row_shown (ends offset) = None

-- where the first end stands, 0 where there is none
abbrev pub end_shown : List Effect → ℕ
end_shown [] = 0
end_shown (starts a ∷ es) = end_shown es
end_shown (appends r ∷ es) = end_shown es
end_shown (ends offset ∷ es) = offset

-- the rows, and the end behind them
unfoldable pub rows_told : List ℕ → List LineRow
rows_told code = filter_map row_shown (effects_told code)

unfoldable pub end_told : List ℕ → ℕ
end_told code = end_shown (effects_told code)

-- ---- rows that are kept as bytes

-- the rows behind a row, without an end
abbrev pub front_instructions : LineRow → List LineRow → List Instruction
front_instructions before [] = []
front_instructions before (r ∷ rs) = row_instructions before r ++ front_instructions r rs

-- the last of some rows behind a row
abbrev pub last_row : LineRow → List LineRow → LineRow
last_row before [] = before
last_row before (r ∷ rs) = last_row r rs

-- Bytes spell the rows that they tell, of which this is the last.
pub record AreSpelled (code : List ℕ) (last : LineRow) : Type 0 where
  pub spelled : code ≡ program_bytes Little 8 (front_instructions first_row (rows_told code))
  pub rows : All FitsRow (rows_told code)
  pub rise : RowsRise 0 (rows_told code) last.offset
  pub end : last ≡ last_row first_row (rows_told code)

-- the rows of a sequence, and its end
pub record RowsToEnd : Type 0 where
  pub rows : List LineRow
  pub end_offset : ℕ

abbrev pub rows_to_end : List ℕ → RowsToEnd
rows_to_end code = record { rows = rows_told code; end_offset = end_told code }

-- Bytes spell the rows and the end that they tell.
abbrev pub AreSpelledToEnd : List ℕ → Type 0
AreSpelledToEnd code = code ≡ program_bytes Little 8 (rows_instructions first_row (rows_told code) (end_told code))
