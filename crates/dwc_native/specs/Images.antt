-- What a segment of an input line table becomes for a function: its image. (This project's own rule.)
use Rattle.std.specs.Prelude.{◌≡◌, ℕ, ◌-◌, ◌<◌, ◌≤◌, pos, List, [], ◌∷◌, Bool, false, nat_le, if◌then◌else◌, Option, Some, None, is_some, ◌⊎◌, All, Any}
use Rattle.std.specs.Option.{option_or}
use Rattle.std.specs.List.{list_any}
use Rattle.dwc_base.specs.declared.records.Address.{Address}
use Rattle.dwc_base.specs.declared.records.Address.TheVariants.{Constant, Symbol}
use Rattle.dwc_dwarf.specs.LineRows.{Row, RowContents, Segment, row_in_force}
use Rattle.dwc_native.specs.Functions.{Function, Recorded, recorded_sources, function_at}

-- the row in force at a recorded source, in the rows of a segment that begins at a wasm offset; none below that offset
abbrev pub row_of_source : List Row → ℕ → Recorded → Option RowContents
row_of_source rows start e = if nat_le start e.wasm then row_in_force rows (e.wasm - start) else None

-- the row of the last recorded source at or below a native byte that has one
abbrev pub row_of_last : List Row → ℕ → List Recorded → ℕ → Option RowContents
row_of_last rows start [] byte = None
row_of_last rows start (e ∷ es) byte = option_or (row_of_last rows start es byte) (if nat_le e.native byte then row_of_source rows start e else None)

-- the row of the first recorded source that has one
abbrev pub row_of_first : List Row → ℕ → List Recorded → Option RowContents
row_of_first rows start [] = None
row_of_first rows start (e ∷ es) = option_or (row_of_source rows start e) (row_of_first rows start es)

-- The input row for a native byte of a function: that of the last recorded source at or below it that has one, and
-- before any such source that of the first.
abbrev pub row_for_byte : List Row → ℕ → Function → ℕ → Option RowContents
row_for_byte rows start f byte = option_or (row_of_last rows start (recorded_sources f) byte) (row_of_first rows start (recorded_sources f))

-- Where a row of an image is from: it is that of a recorded source and stands at it, or that of the first source that has one and stands where
-- the function begins.
abbrev pub StemsFrom : List Row → ℕ → List Recorded → Row → Type 0
StemsFrom rows start es r = Any (λ e. (r.offset ≡ e.native) × (row_of_source rows start e ≡ Some r.source)) es ⊎ ((r.offset ≡ 0) × (row_of_first rows start es ≡ Some r.source))

-- The image of a segment that begins at a wasm offset: it covers the whole function, each of its rows is one of the input at its place, and at
-- each byte of the function the row in force is the input row for that byte.
pub record IsImage (q : Segment) (start : ℕ) (f : Function) (image : Segment) : Type 0 where
  pub starts : image.start ≡ Symbol f.number (pos 0)
  pub ends : image.end ≡ Some f.length
  pub within : All (λ r. r.offset ≤ f.length) image.rows
  pub stems : All (StemsFrom q.rows start (recorded_sources f)) image.rows
  pub agrees : (byte : ℕ) → byte < f.length → row_in_force image.rows byte ≡ row_for_byte q.rows start f byte

-- the function that a segment's start is in; an address of the input is a number
abbrev pub function_of_segment : List Function → Segment → Option Function
function_of_segment fs q = go q.start
  where
    go : Address → Option Function
    go (Constant a) = function_at fs a
    go (Symbol n a) = None

-- the wasm offset that a segment of the input begins at
abbrev pub start_of_segment : Segment → ℕ
start_of_segment q = go q.start
  where
    go : Address → ℕ
    go (Constant a) = a
    go (Symbol n a) = 0

-- whether a segment is carried: its start is in a function of which some recorded source has a row
abbrev pub is_carried_segment : List Function → Segment → Bool
is_carried_segment fs q = go (function_of_segment fs q)
  where
    go : Option Function → Bool
    go None = false
    go (Some f) = list_any (λ e. is_some (row_of_source q.rows (start_of_segment q) e)) (recorded_sources f)

-- a segment of the output is the image of a segment of the input
abbrev pub IsImageOf : List Function → Segment → Segment → Type 0
IsImageOf fs q image = (f : Function) × (function_of_segment fs q ≡ Some f) × IsImage q (start_of_segment q) f image
