-- The lines of functions without debugging information: the lines of their one file are the offsets in the wasm file. (This project's own
-- rule; DWARF 4, section 6.2.)
use Rattle.std.specs.Prelude.{◌≡◌, ℕ, ◌+◌, ◌<◌, ◌≤◌, pos, List, [], ◌∷◌, map, Bool, true, false, nat_le, Some, None, option_map, Ok, All}
use Rattle.std.specs.List.{filter, last_or, AllZip}
use Rattle.std.specs.Option.{unwrap_or}
use Rattle.dwc_base.specs.declared.records.Address.TheVariants.{Symbol}
use Rattle.dwc_base.specs.Sections.{Sections}
use Rattle.dwc_dwarf.specs.LineRows.{LineTable, Row, RowContents, Segment, segments, row_in_force}
use Rattle.dwc_native.specs.Functions.{Function, Recorded, recorded_sources}
use Rattle.dwc_output.specs.Versions.{files_written}
use Rattle.dwc_dwarf.specs.ReadUnits.{Unit, table_of_unit}

-- ---- what is said of each byte

-- What a row says of a line of the file of a name, which lies in the compilation directory: the discriminator is 1, and all but the end of
-- the prologue as a sequence begins.
abbrev pub simulated_contents : List ℕ → ℕ → Bool → RowContents
simulated_contents name line prologue_end = record { file = Some (record { directory = None; name = name }); line = line; column = 0; is_stmt = true; basic_block = false; prologue_end = prologue_end; epilogue_begin = false; isa = 0; discriminator = 1 }

-- whether some sources are one alone
abbrev pub is_single : List Recorded → Bool
is_single (e ∷ []) = true
is_single _ = false

-- the line behind some recorded sources: the offset of the last in the file, or 0 before any
abbrev pub line_behind : ℕ → List Recorded → ℕ
line_behind code_offset es = unwrap_or (option_map (λ e. code_offset + e.wasm) (last_or None es)) 0

-- what holds behind them; behind the first alone the prologue ends
abbrev pub contents_behind : List ℕ → ℕ → List Recorded → RowContents
contents_behind name code_offset es = simulated_contents name (line_behind code_offset es) (is_single es)

-- The row for a native byte of a function, by the recorded sources at or below it; the contents of the code section begin in the file at an
-- offset.
abbrev pub simulated_row : List ℕ → ℕ → Function → ℕ → RowContents
simulated_row name code_offset f byte = contents_behind name code_offset (filter (λ e. nat_le e.native byte) (recorded_sources f))

-- ---- its rows, and the whole segment

-- the row of a recorded source
abbrev pub row_of_recorded : List ℕ → ℕ → Bool → Recorded → Row
row_of_recorded name code_offset prologue_end e = record { offset = e.native; source = simulated_contents name (code_offset + e.wasm) prologue_end }

-- the rows of recorded sources, the first of which ends the prologue
abbrev pub rows_of_recorded : List ℕ → ℕ → List Recorded → List Row
rows_of_recorded name code_offset [] = []
rows_of_recorded name code_offset (e ∷ es) = row_of_recorded name code_offset true e ∷ map (row_of_recorded name code_offset false) es

-- The rows of some recorded sources: one at 0, and one for each of them.
abbrev pub simulated_rows : List ℕ → ℕ → List Recorded → List Row
simulated_rows name code_offset es = record { offset = 0; source = simulated_contents name 0 false } ∷ rows_of_recorded name code_offset es

-- A segment covers a function whole, has these rows and no others, and at each byte of the function the simulated row is in force.
pub record IsSimulated (name : List ℕ) (code_offset : ℕ) (f : Function) (segment : Segment) : Type 0 where
  pub starts : segment.start ≡ Symbol f.number (pos 0)
  pub ends : segment.end ≡ Some f.length
  pub within : All (λ r. r.offset ≤ f.length) segment.rows
  pub rows : segment.rows ≡ simulated_rows name code_offset (recorded_sources f)
  pub agrees : (byte : ℕ) → byte < f.length → row_in_force segment.rows byte ≡ Some (simulated_row name code_offset f byte)

-- A unit of an output has a line table of a version, whose only file is the one of the name, without directories, and which has, in order,
-- one such segment for each of some functions, each with the offset of its own file's code.
pub record CarriesSimulated (version : ℕ) (output : Sections) (name : List ℕ) (fs : List (ℕ × Function)) (v : Unit) : Type 0 where
  pub made : LineTable
  pub made_read : table_of_unit output v ≡ Ok (Some made)
  pub version_is : made.header.version ≡ version
  pub directories : made.header.directories ≡ []
  pub files : made.files ≡ files_written version (record { directory = 0; name = name } ∷ [])
  pub each : AllZip (λ f segment. IsSimulated name f.0 f.1 segment) fs (segments made)

-- ---- the segment that is written

-- The segment of a function with these rows.
abbrev pub simulated_segment : List ℕ → ℕ → Function → Segment
simulated_segment name code_offset f = record { start = Symbol f.number (pos 0); rows = simulated_rows name code_offset (recorded_sources f); end = Some f.length }
