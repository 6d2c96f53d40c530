-- The sequences of functions without debugging information: the lines of their one file are the offsets in the wasm file. (This project's own
-- rule; DWARF 4, section 6.2.)
use Rattle.std.specs.Borrow.{Bor}
use Rattle.std.specs.Prelude.{ℕ, ◌+◌, ◌<◌, ◌^◌, pos, List, [], ◌∷◌, map, Bool, true, false, Some, None, All}
use Rattle.dwc_base.specs.declared.records.Address.TheVariants.{Symbol}
use Rattle.dwc_base.specs.declared.records.LineRow.{LineRow}
use Rattle.dwc_native.specs.Functions.{Function, Recorded, recorded_sources}
use Rattle.dwc_addr.specs.declared.function_map.FunctionMap.{FunctionMap}
use Rattle.dwc_addr.specs.Transforms.{function_view}
use Rattle.dwc_unit.specs.SpelledLines.{WrittenSequence}
use Rattle.dwc_unit.specs.GivenLines.{GivenLines, CanAppend, with_row}
use Rattle.dwc_image.specs.ImageRows.{IsOrdered}

-- ---- what is written

-- a row of the first file
abbrev pub simulated_line : ℕ → ℕ → Bool → LineRow
simulated_line offset line prologue_end = record { offset = offset; file = 1; line = line; column = 0; is_stmt = true; basic_block = false; prologue_end = prologue_end; epilogue_begin = false; isa = 0; discriminator = 1 }

-- the row of a recorded source
abbrev pub line_of_recorded : ℕ → Bool → Recorded → LineRow
line_of_recorded code_offset prologue_end e = simulated_line e.native (code_offset + e.wasm) prologue_end

-- the rows of recorded sources, the first of which ends the prologue
abbrev pub lines_of_recorded : ℕ → List Recorded → List LineRow
lines_of_recorded code_offset [] = []
lines_of_recorded code_offset (e ∷ es) = line_of_recorded code_offset true e ∷ map (line_of_recorded code_offset false) es

-- The sequence of a function: a row at 0, and one for each recorded source.
abbrev pub simulated_sequence : ℕ → Function → WrittenSequence
simulated_sequence code_offset f = record { start_address = Symbol f.number (pos 0); rows = simulated_line 0 0 false ∷ lines_of_recorded code_offset (recorded_sources f); end_offset = f.length }

-- The line program of some functions, each with the offset of its own file's code: one file, and a sequence for each.
abbrev pub simulated_program : ℕ → List ℕ → List (ℕ × Function) → GivenLines
simulated_program address_size name fs = record { address_size = Some address_size; directories = []; files = record { directory = 0; name = name } ∷ []; sequences = map (λ f. simulated_sequence f.0 f.1) fs; begun = None }

-- ---- what is asked

-- A function can be simulated: its recorded sources are ordered, and as offsets in the file have 32 bits.
pub record CanSimulate (code_offset : ℕ) (f : Function) : Type 0 where
  pub order : IsOrdered f
  pub lines : All (λ e. code_offset + e.wasm < 2 ^ 32) (recorded_sources f)

-- functions as they are given, each beside the offset that the contents of the code section begin at in its file
abbrev pub simulated_view : ℕ × Bor FunctionMap → ℕ × Function
simulated_view f = (f.0, function_view (f.1).now)

-- ---- rows one by one

-- a line program with further rows
abbrev pub with_rows : List LineRow → GivenLines → GivenLines
with_rows [] g = g
with_rows (r ∷ rs) g = with_rows rs (with_row r g)

-- some rows may be appended one by one
abbrev pub CanAppendEach : GivenLines → List LineRow → Type 0
CanAppendEach g [] = Unit {0}
CanAppendEach g (r ∷ rs) = CanAppend g r × CanAppendEach (with_row r g) rs
