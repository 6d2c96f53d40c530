-- The rows and sources of the plain program, seen as those of the definitions.
use Rattle.std.specs.Prelude.{ℕ, ◌-◌, List, [], ◌∷◌, nat_le, if◌then◌else◌, Option, Some, None}
use Rattle.std.specs.Option.{option_or}
use Rattle.dwc_base.specs.declared.records.LineRow.{LineRow}
use Rattle.dwc_dwarf.specs.LineRows.{LineTable, RowContents, named_row}
use Rattle.dwc_native.specs.Functions.{Recorded}

-- what a row says of the code from its offset on, its file named by a table
abbrev pub contents_in : LineTable → LineRow → RowContents
contents_in t r = (named_row t r).source

-- a recorded source: its native and its wasm offset
abbrev pub source_view : ℕ × ℕ → Recorded
source_view s = record { native = s.0; wasm = s.1 }

-- ---- the same as rows of the program, with their offsets

-- the last row, in order, whose offset is at most that
abbrev pub last_at : List LineRow → ℕ → Option LineRow
last_at [] offset = None
last_at (r ∷ rs) offset = option_or (last_at rs offset) (if nat_le r.offset offset then Some r else None)

-- the row in force at a source; none below the start
abbrev pub at_source : List LineRow → ℕ → Recorded → Option LineRow
at_source rows start e = if nat_le start e.wasm then last_at rows (e.wasm - start) else None

-- the row of the last source at or below a byte that has one
abbrev pub at_last : List LineRow → ℕ → List Recorded → ℕ → Option LineRow
at_last rows start [] byte = None
at_last rows start (e ∷ es) byte = option_or (at_last rows start es byte) (if nat_le e.native byte then at_source rows start e else None)

-- the row of the first source that has one
abbrev pub at_first : List LineRow → ℕ → List Recorded → Option LineRow
at_first rows start [] = None
at_first rows start (e ∷ es) = option_or (at_source rows start e) (at_first rows start es)
