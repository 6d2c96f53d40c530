-- The sequences of images in a line program.
use Rattle.std.specs.Prelude.{◌≡◌, ℕ, ◌^◌, ◌<◌, ◌≤◌, List, [], ◌∷◌, ◌++◌, length, pos, nat_lt, if◌then◌else◌, Option, Some, None, All}
use Rattle.dwc_base.specs.declared.records.LineRow.{LineRow}
use Rattle.std.specs.List.Sorted.{IsNonDecreasingBy}
use Rattle.dwc_base.specs.declared.records.Address.{Address}
use Rattle.dwc_base.specs.declared.records.Address.TheVariants.{Constant, Symbol}
use Rattle.dwc_dwarf.specs.LineRows.{LineStep, start as begin, row, end}
use Rattle.dwc_native.specs.Functions.{Function, function_at, recorded_sources}
use Rattle.dwc_unit.specs.SpelledLines.{WrittenSequence}
use Rattle.dwc_unit.specs.GivenLines.{GivenLines, BegunSequence, last_offset, with_begun}
use Rattle.dwc_image.specs.ImageRows.{RisesFrom, image_rows}

-- a row's file is one of so many, and its line has 32 bits
pub record FitsFiles (files : ℕ) (r : LineRow) : Type 0 where
  pub line : r.line < 2 ^ 32
  pub some : 0 < r.file
  pub known : r.file ≤ files

-- the rows of an image rise, and fit into a line program of so many files
pub record FitsImage (files : ℕ) (rows : List LineRow) : Type 0 where
  pub each : All (FitsFiles files) rows
  pub rise : RisesFrom (λ r. r.offset) 0 rows
  pub short : All (λ r. r.offset < 2 ^ 32) rows

-- a row may come behind others
pub record FitsNext (files : ℕ) (rows : List LineRow) (r : LineRow) : Type 0 where
  pub fits : FitsFiles files r
  pub behind : last_offset 0 rows ≤ r.offset
  pub short : r.offset < 2 ^ 32

-- the rows of a sequence that may be begun
abbrev pub begun_rows : Option BegunSequence → List LineRow
begun_rows None = []
begun_rows (Some q) = q.rows

-- a sequence is begun at a function, by its number, and has a row, exactly where a row was found
abbrev pub IsBegun : ℕ → Option ℕ → Option BegunSequence → Type 0
IsBegun function None begun = begun ≡ None
IsBegun function (Some offset) None = ⊥
IsBegun function (Some offset) (Some q) = (q.start_address ≡ Symbol function (pos 0)) × (0 < length q.rows)

-- a line program has grown by what is begun alone
pub record HasGrown (function : ℕ) (found : Option ℕ) (before after : GivenLines) : Type 0 where
  pub begun : IsBegun function found after.begun
  pub same : after ≡ with_begun after.begun before

-- a line program with further sequences
abbrev pub with_sequences : List WrittenSequence → GivenLines → GivenLines
with_sequences qs g = record { address_size = g.address_size; directories = g.directories; files = g.files; sequences = g.sequences ++ qs; begun = None }

-- The image of a segment for a function as a sequence, its files by number: the rows are those of `image_of`.
abbrev pub image_sequence : List LineRow → ℕ → Function → WrittenSequence
image_sequence rows start f = record { start_address = Symbol f.number (pos 0); rows = image_rows rows start None (recorded_sources f); end_offset = f.length }

-- a sequence, if it has rows
abbrev pub sequence_with_rows : WrittenSequence → List WrittenSequence
sequence_with_rows q = if nat_lt 0 (length q.rows) then q ∷ [] else []

abbrev pub sequence_in : List LineRow → ℕ → Option Function → List WrittenSequence
sequence_in rows start None = []
sequence_in rows start (Some f) = sequence_with_rows (image_sequence rows start f)

-- what is written of a segment by its start and its rows
abbrev pub sequence_at : List Function → Address → List LineRow → List WrittenSequence
sequence_at fs (Constant a) rows = sequence_in rows a (function_at fs a)
sequence_at fs (Symbol n a) rows = []

-- the same of rows that have a start or none
abbrev pub sequence_if : List Function → Option Address → List LineRow → List WrittenSequence
sequence_if fs None rows = []
sequence_if fs (Some a) rows = sequence_at fs a rows

-- rows that have a start do not fall in offset
abbrev pub RiseIf : Option Address → List LineRow → Type 0
RiseIf None rows = Unit {0}
RiseIf (Some a) rows = IsNonDecreasingBy (λ r. r.offset) rows

-- What is written of some steps, behind a start or none and rows so far.
abbrev pub sequences_from : List Function → Option Address → List LineRow → List LineStep → List WrittenSequence
sequences_from fs start rows [] = []
sequences_from fs start rows (row r ∷ steps) = sequences_from fs start (rows ++ r ∷ []) steps
sequences_from fs start rows (begin a ∷ steps) = sequence_if fs start rows ++ sequences_from fs (Some a) [] steps
sequences_from fs start rows (end e ∷ steps) = sequence_if fs start rows ++ sequences_from fs None [] steps

-- the rows of each segment do not fall in offset
abbrev pub AllRise : Option Address → List LineRow → List LineStep → Type 0
AllRise start rows [] = Unit {0}
AllRise start rows (row r ∷ steps) = AllRise start (rows ++ r ∷ []) steps
AllRise start rows (begin a ∷ steps) = RiseIf start rows × AllRise (Some a) [] steps
AllRise start rows (end e ∷ steps) = RiseIf start rows × AllRise None [] steps

-- a step's row, if it is one, has a line of 32 bits and one of so many files
abbrev pub FitsStep : ℕ → LineStep → Type 0
FitsStep files (row r) = FitsFiles files r
FitsStep files (begin a) = Unit {0}
FitsStep files (end e) = Unit {0}
