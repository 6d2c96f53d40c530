-- A line program as it is given to a writer, and what its calls ask and do.
use Rattle.std.specs.Prelude.{◌≡◌, ℕ, ◌^◌, ◌<◌, ◌≤◌, List, [], ◌∷◌, ◌++◌, length, Option, Some, None}
use Rattle.std.specs.List.{All}
use Rattle.dwc_base.specs.declared.records.Address.{Address}
use Rattle.dwc_base.specs.declared.records.LineRow.{LineRow}
use Rattle.dwc_dwarf.specs.LineHeaders.{LineFile}
use Rattle.dwc_unit.specs.SpelledLines.{WrittenSequence, FitsName, FitsFile, FitsRow, FitsSequence, RowsRise}
use Rattle.dwc_section.specs.Writers.{FitsField}

-- a sequence that is not ended yet
pub record BegunSequence : Type 0 where
  pub start_address : Address
  pub rows : List LineRow

-- a line program: the address size of its unit (none where there is no program), directories and files, sequences, and the
-- one that is not ended
pub record GivenLines : Type 0 where
  pub address_size : Option ℕ
  pub directories : List (List ℕ)
  pub files : List LineFile
  pub sequences : List WrittenSequence
  pub begun : Option BegunSequence

abbrev pub no_lines : Option ℕ → GivenLines
no_lines address_size = record { address_size = address_size; directories = []; files = []; sequences = []; begun = None }

-- ---- what the calls do

abbrev pub with_directory : List ℕ → GivenLines → GivenLines
with_directory name g = record { address_size = g.address_size; directories = g.directories ++ name ∷ []; files = g.files; sequences = g.sequences; begun = g.begun }

abbrev pub with_file : LineFile → GivenLines → GivenLines
with_file f g = record { address_size = g.address_size; directories = g.directories; files = g.files ++ f ∷ []; sequences = g.sequences; begun = g.begun }

abbrev pub with_begun : Option BegunSequence → GivenLines → GivenLines
with_begun q g = record { address_size = g.address_size; directories = g.directories; files = g.files; sequences = g.sequences; begun = q }

-- a row at another offset
abbrev pub row_at : ℕ → LineRow → LineRow
row_at offset r = record { offset = offset; file = r.file; line = r.line; column = r.column; is_stmt = r.is_stmt; basic_block = r.basic_block; prologue_end = r.prologue_end; epilogue_begin = r.epilogue_begin; isa = r.isa; discriminator = r.discriminator }

abbrev pub row_behind : LineRow → Option BegunSequence → Option BegunSequence
row_behind r None = None
row_behind r (Some q) = Some (record { start_address = q.start_address; rows = q.rows ++ r ∷ [] })

abbrev pub with_row : LineRow → GivenLines → GivenLines
with_row r g = with_begun (row_behind r g.begun) g

abbrev pub ended_at : ℕ → Option BegunSequence → List WrittenSequence
ended_at offset None = []
ended_at offset (Some q) = record { start_address = q.start_address; rows = q.rows; end_offset = offset } ∷ []

abbrev pub with_end : ℕ → GivenLines → GivenLines
with_end offset g = record { address_size = g.address_size; directories = g.directories; files = g.files; sequences = g.sequences ++ ended_at offset g.begun; begun = None }

-- ---- what they ask

-- the offset of the last row, from a first one on
abbrev pub last_offset : ℕ → List LineRow → ℕ
last_offset offset [] = offset
last_offset offset (r ∷ rs) = last_offset r.offset rs

-- An address that a sequence begins at fits the address size of the program.
abbrev pub CanBegin : GivenLines → Address → Type 0
CanBegin g start = (g.begun ≡ None) × go g.address_size
  where
    go : Option ℕ → Type 0
    go None = ⊥
    go (Some size) = FitsField size start

-- A row comes in a sequence, at or behind the row before, in a file that was added.
abbrev pub IsAtOrBehind : ℕ → Option BegunSequence → Type 0
IsAtOrBehind offset None = ⊥
IsAtOrBehind offset (Some q) = last_offset 0 q.rows ≤ offset

pub record CanAppend (g : GivenLines) (r : LineRow) : Type 0 where
  pub behind : IsAtOrBehind r.offset g.begun
  pub offset : r.offset < 2 ^ 32
  pub line : r.line < 2 ^ 32
  pub some_file : 0 < r.file
  pub known_file : r.file ≤ length g.files

-- A sequence ends at or behind its last row, and has one.
abbrev pub HasRow : Option BegunSequence → Type 0
HasRow None = ⊥
HasRow (Some q) = 0 < length q.rows

pub record CanEnd (g : GivenLines) (offset : ℕ) : Type 0 where
  pub some : HasRow g.begun
  pub behind : IsAtOrBehind offset g.begun
  pub last : offset < 2 ^ 32

-- ---- what always holds

-- a sequence that is not ended yet
abbrev pub FitsBegun : ℕ → Option BegunSequence → Type 0
FitsBegun size None = Unit {0}
FitsBegun size (Some q) = FitsField size q.start_address × All FitsRow q.rows × RowsRise 0 q.rows (last_offset 0 q.rows)

-- a sequence, and the symbol that it begins at
pub record FitsGivenSequence (size : ℕ) (q : WrittenSequence) : Type 0 where
  pub field : FitsField size q.start_address
  pub sequence : FitsSequence size q

abbrev pub FitsSequences : Option ℕ → List WrittenSequence → Option BegunSequence → Type 0
FitsSequences None qs begun = (qs ≡ []) × (begun ≡ None)
FitsSequences (Some size) qs begun = All (FitsGivenSequence size) qs × FitsBegun size begun

pub record FitsLines (g : GivenLines) : Type 0 where
  pub directories : All FitsName g.directories
  pub files : All FitsFile g.files
  pub sequences : FitsSequences g.address_size g.sequences g.begun
