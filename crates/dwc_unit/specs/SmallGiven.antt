-- The line program of a small module, for a test.
use Rattle.std.specs.Prelude.{List, [], ◌∷◌, Some, None, codes, pos, true, false}
use Rattle.dwc_base.specs.declared.records.Address.TheVariants.{Symbol}
use Rattle.dwc_base.specs.declared.records.LineRow.{LineRow}
use Rattle.dwc_unit.specs.GivenLines.{GivenLines}

abbrev pub small_rows : List LineRow
small_rows =
    record { offset = 0; file = 1; line = 2; column = 0; is_stmt = true; basic_block = false; prologue_end = false; epilogue_begin = false; isa = 0; discriminator = 0 }
    ∷ record { offset = 15; file = 1; line = 3; column = 0; is_stmt = true; basic_block = false; prologue_end = false; epilogue_begin = false; isa = 0; discriminator = 0 } ∷ []

abbrev pub small_lines : GivenLines
small_lines = record {
  address_size = Some 8;
  directories = [];
  files = record { directory = 0; name = codes "a.c" } ∷ [];
  sequences = record { start_address = Symbol 0 (pos 0); rows = small_rows; end_offset = 30 } ∷ [];
  begun = None;
}
