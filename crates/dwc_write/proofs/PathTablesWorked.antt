-- Line tables of version 5 by computation: that of a unit without a compilation directory, with two rows, and that of a unit whose files are
-- listed and which has none. Their texts stand once each in the order of first use.
use Rattle.std.proofs.Common.{◌≡◌, ℕ, refl, [], ◌∷◌, ◌++◌, List, true, false}
use Rattle.dwc_base.specs.declared.records.Address.TheVariants.{Symbol}
use Rattle.dwc_base.specs.declared.records.Endian.TheVariants.{Little}
use Rattle.dwc_base.specs.declared.records.LineRow.{LineRow}
use Rattle.dwc_base.specs.NumberBytes.{uleb_bytes, uleb_bytes_within, sleb_bytes, sleb_bytes_from_0}
use Rattle.dwc_dwarf.specs.LineHeaders.{LineFile}
use Rattle.dwc_dwarf.specs.TreeLaws.{texts_ended}
use Rattle.dwc_output.specs.NewWidest.{each_once, names_in}
use Rattle.dwc_unit.specs.SpelledLines.{WrittenSequence}
use Rattle.dwc_write.specs.SpelledSections.{WrittenTable, lines_bytes}
use Rattle.std.specs.Prelude.{pos}

abbrev row_at : ℕ → ℕ → LineRow
row_at offset line = record { offset = offset; file = 1; line = line; column = 0; is_stmt = true; basic_block = false; prologue_end = false; epilogue_begin = false; isa = 0; discriminator = 0 }

-- `a.c`, and `/m` with `g.wasm`
abbrev first_files : List LineFile
first_files = record { directory = 0; name = 97 ∷ 46 ∷ 99 ∷ [] } ∷ []

abbrev second_own : List ℕ
second_own = 47 ∷ 109 ∷ []

abbrev second_files : List LineFile
second_files = record { directory = 0; name = 103 ∷ 46 ∷ 119 ∷ 97 ∷ 115 ∷ 109 ∷ [] } ∷ []

abbrev texts : List (List ℕ)
texts = each_once (names_in [] [] first_files ++ names_in second_own [] second_files)

abbrev sequences : List WrittenSequence
sequences = record { start_address = Symbol 0 (pos 0); rows = row_at 0 2 ∷ row_at 15 3 ∷ []; end_offset = 30 } ∷ []

abbrev tables : List WrittenTable
tables =
    record { version = 5; texts = texts; own = []; directories = []; files = first_files; sequences = sequences }
    ∷ record { version = 5; texts = texts; own = second_own; directories = []; files = second_files; sequences = [] }
    ∷ []

texts-worked : texts_ended texts ≡ 0 ∷ 97 ∷ 46 ∷ 99 ∷ 0 ∷ 47 ∷ 109 ∷ 0 ∷ 103 ∷ 46 ∷ 119 ∷ 97 ∷ 115 ∷ 109 ∷ 0 ∷ []
texts-worked = refl

pub lines-worked : lines_bytes Little 8 tables
    ≡ 0x4A ∷ 0 ∷ 0 ∷ 0 ∷ 5 ∷ 0 ∷ 8 ∷ 0 ∷ 0x2A ∷ 0 ∷ 0 ∷ 0 ∷ 1 ∷ 1 ∷ 1 ∷ 0xFB ∷ 0x0E ∷ 0x0D ∷ 0 ∷ 1 ∷ 1 ∷ 1 ∷ 1 ∷ 0 ∷ 0 ∷ 0 ∷ 1 ∷ 0 ∷ 0 ∷ 1
    ∷ 1 ∷ 1 ∷ 0x1F ∷ 1 ∷ 0 ∷ 0 ∷ 0 ∷ 0 ∷ 2 ∷ 1 ∷ 0x1F ∷ 2 ∷ 0x0F ∷ 2 ∷ 1 ∷ 0 ∷ 0 ∷ 0 ∷ 0 ∷ 1 ∷ 0 ∷ 0 ∷ 0 ∷ 0
    ∷ 0 ∷ 9 ∷ 2 ∷ 0 ∷ 0 ∷ 0 ∷ 0 ∷ 0 ∷ 0 ∷ 0 ∷ 0 ∷ 3 ∷ 1 ∷ 1 ∷ 3 ∷ 1 ∷ 2 ∷ 0x0F ∷ 1 ∷ 2 ∷ 0x0F ∷ 0 ∷ 1 ∷ 1
    ∷ 0x32 ∷ 0 ∷ 0 ∷ 0 ∷ 5 ∷ 0 ∷ 8 ∷ 0 ∷ 0x2A ∷ 0 ∷ 0 ∷ 0 ∷ 1 ∷ 1 ∷ 1 ∷ 0xFB ∷ 0x0E ∷ 0x0D ∷ 0 ∷ 1 ∷ 1 ∷ 1 ∷ 1 ∷ 0 ∷ 0 ∷ 0 ∷ 1 ∷ 0 ∷ 0 ∷ 1
    ∷ 1 ∷ 1 ∷ 0x1F ∷ 1 ∷ 5 ∷ 0 ∷ 0 ∷ 0 ∷ 2 ∷ 1 ∷ 0x1F ∷ 2 ∷ 0x0F ∷ 2 ∷ 8 ∷ 0 ∷ 0 ∷ 0 ∷ 0 ∷ 8 ∷ 0 ∷ 0 ∷ 0 ∷ 0 ∷ []
unfolding uleb_bytes uleb_bytes_within sleb_bytes sleb_bytes_from_0
lines-worked = refl
