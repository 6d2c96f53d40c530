-- An example: the output of the small module is, byte for byte, what its two units and its line table spell, so it is read as they say.
-- On literals give `All` by `All-from_recursion P xs (.., (.., tt))`.
use Rattle.std.proofs.Common.{◌≡◌, ℕ, ◌^◌, ◌<◌, ◌≤◌, refl, lit<, lit≤, List, [], ◌∷◌, Some, None, Ok, Bool, true, false, pos, get_or, inl, inr}
use Rattle.std.specs.Prelude.{map, codes}
use Rattle.dwc_dwarf.specs.Entries.{Entry}
use Rattle.dwc_dwarf.specs.Values.{line_reference}
use Rattle.dwc_dwarf.specs.LineRows.{segments}
use Rattle.dwc_dwarf.specs.ReadUnits.{table_of_unit, units}
use Rattle.dwc_unit.specs.SpelledLines.{read_segment, FitsName, FitsFile, FitsRow, FitsSequence}
use Rattle.dwc_write.specs.SpelledSections.{PlacedTable, read_unit, WrittenUnit, tables_bytes, info_bytes, info_fields, read_units, WrittenTable, lines_bytes, lines_fields, FitsUnit, FitsTable, placed_tables, read_table}
use Rattle.std.proofs.lemmas.List.Elements.{All-head, All-cons, All-nil, All-from_recursion}
use Rattle.dwc_unit.proofs.ReadLines.{line-table-segments}
use Rattle.dwc_write.proofs.ReadLineTables.{IsReadAt, lines-read, unit-table-read}
use Rattle.dwc_write.proofs.ReadSections.{units-read}
use Rattle.std.specs.List.{All, AllByRecursion}
use Rattle.dwc_base.specs.declared.records.Endian.TheVariants.{Little}
use Rattle.dwc_base.specs.declared.records.Address.TheVariants.{Symbol}
use Rattle.dwc_base.specs.declared.records.LineRow.{LineRow}
use Rattle.dwc_base.specs.declared.section_name.SectionName.TheVariants.{Abbrev, Info, Line, Loc}
use Rattle.dwc_base.specs.Abbreviations.{AttributeSpec, Declaration}
use Rattle.dwc_base.specs.Outputs.{output_sections}
use Rattle.dwc_base.specs.NumberBytes.{uleb_bytes, uleb_bytes_within, sleb_bytes, sleb_bytes_from_0}
use Rattle.dwc_unit.specs.SpelledUnits.{Written, as_addr, as_data1, as_data2, as_udata, as_flag, as_strp, as_ref4, as_ref_addr, as_sec_offset, WrittenAttribute, WrittenEntry, shaped, FitsEntry, FitsWritten}
use Rattle.dwc_unit.specs.SpelledTables.{FitsSpec, FitsDeclaration}
use Rattle.dwc_section.specs.SpelledAddresses.{relocations_of}
use Rattle.dwc_worked.proofs.CarriedSmall.{output_small}

-- ---- the module's synthetic unit

abbrev named : ℕ → Written → WrittenAttribute
named name value = record { name = name; value = value }

abbrev pub synthetic_entries : List WrittenEntry
synthetic_entries =
    record { depth = 0; code = 1; tag = 0x11; attributes = named 0x03 (as_strp 0) ∷ named 0x25 (as_strp 28) ∷ named 0x13 (as_data2 29) ∷ [] }
    ∷ record { depth = 1; code = 2; tag = 0x24; attributes = named 0x03 (as_strp 37) ∷ named 0x3E (as_data1 7) ∷ named 0x0B (as_data1 1) ∷ [] }
    ∷ record { depth = 1; code = 3; tag = 0x0F; attributes = named 0x03 (as_strp 40) ∷ named 0x49 (as_ref4 22) ∷ [] }
    ∷ record { depth = 1; code = 4; tag = 0x13; attributes = named 0x03 (as_strp 44) ∷ [] }
    ∷ record { depth = 2; code = 5; tag = 0x2E; attributes = named 0x6E (as_strp 62) ∷ named 0x03 (as_strp 70) ∷ [] }
    ∷ record { depth = 3; code = 6; tag = 0x05; attributes = named 0x49 (as_ref4 60) ∷ named 0x34 (as_flag true) ∷ [] }
    ∷ record { depth = 1; code = 3; tag = 0x0F; attributes = named 0x03 (as_strp 74) ∷ named 0x49 (as_ref4 38) ∷ [] }
    ∷ record { depth = 1; code = 7; tag = 0x24; attributes = named 0x03 (as_strp 93) ∷ named 0x0B (as_data1 4) ∷ named 0x3E (as_data1 7) ∷ [] } ∷ []

abbrev form_of : ℕ → ℕ → AttributeSpec
form_of name form = record { name = name; form = form; implicit = pos 0 }

abbrev pub synthetic_table : List Declaration
synthetic_table =
    record { code = 1; tag = 0x11; has_children = true; attributes = form_of 0x03 0x0E ∷ form_of 0x25 0x0E ∷ form_of 0x13 0x05 ∷ [] }
    ∷ record { code = 2; tag = 0x24; has_children = false; attributes = form_of 0x03 0x0E ∷ form_of 0x3E 0x0B ∷ form_of 0x0B 0x0B ∷ [] }
    ∷ record { code = 3; tag = 0x0F; has_children = false; attributes = form_of 0x03 0x0E ∷ form_of 0x49 0x13 ∷ [] }
    ∷ record { code = 4; tag = 0x13; has_children = true; attributes = form_of 0x03 0x0E ∷ [] }
    ∷ record { code = 5; tag = 0x2E; has_children = true; attributes = form_of 0x6E 0x0E ∷ form_of 0x03 0x0E ∷ [] }
    ∷ record { code = 6; tag = 0x05; has_children = false; attributes = form_of 0x49 0x13 ∷ form_of 0x34 0x0C ∷ [] }
    ∷ record { code = 7; tag = 0x24; has_children = false; attributes = form_of 0x03 0x0E ∷ form_of 0x0B 0x0B ∷ form_of 0x3E 0x0B ∷ [] } ∷ []

abbrev pub synthetic_written : WrittenUnit
synthetic_written = record { version = 4; table_offset = 0; table = synthetic_table; entries = synthetic_entries }

-- ---- the carried unit

abbrev pub root_written : WrittenEntry
root_written = record { depth = 0; code = 1; tag = 0x11; attributes = named 0x10 (as_sec_offset Line 0) ∷ [] }

abbrev pub function_written : WrittenEntry
function_written = record { depth = 1; code = 2; tag = 0x2E; attributes = named 0x11 (as_addr (Symbol 0 (pos 0))) ∷ named 0x12 (as_udata 30) ∷ [] }

-- the variable of the context, whose type is in the module's synthetic unit
abbrev pub context_written : WrittenEntry
context_written = record { depth = 2; code = 3; tag = 0x34; attributes = named 0x03 (as_strp 108) ∷ named 0x49 (as_ref_addr 60) ∷ named 0x02 (as_sec_offset Loc 0) ∷ [] }

abbrev pub table_written : List Declaration
table_written =
    record { code = 1; tag = 0x11; has_children = true; attributes = form_of 0x10 0x17 ∷ [] }
    ∷ record { code = 2; tag = 0x2E; has_children = true; attributes = form_of 0x11 0x01 ∷ form_of 0x12 0x0F ∷ [] }
    ∷ record { code = 3; tag = 0x34; has_children = false; attributes = form_of 0x03 0x0E ∷ form_of 0x49 0x10 ∷ form_of 0x02 0x17 ∷ [] } ∷ []

abbrev pub unit_written : WrittenUnit
unit_written = record { version = 4; table_offset = 68; table = table_written; entries = root_written ∷ function_written ∷ context_written ∷ [] }

abbrev pub units_written : List WrittenUnit
units_written = synthetic_written ∷ unit_written ∷ []

-- ---- lines

abbrev pub rows_written : List LineRow
rows_written =
    record { offset = 0; file = 1; line = 2; column = 0; is_stmt = true; basic_block = false; prologue_end = false; epilogue_begin = false; isa = 0; discriminator = 0 }
    ∷ record { offset = 15; file = 1; line = 3; column = 0; is_stmt = true; basic_block = false; prologue_end = false; epilogue_begin = false; isa = 0; discriminator = 0 } ∷ []

abbrev pub lines_written : WrittenTable
lines_written = record {
  version = 4;
  texts = [];
  own = [];
  directories = [];
  files = record { directory = 0; name = codes "a.c" } ∷ [];
  sequences = record { start_address = Symbol 0 (pos 0); rows = rows_written; end_offset = 30 } ∷ [];
}

-- The bytes and the relocations are those of the output.
pub abbrev-bytes : (output_sections Little output_small).bytes Abbrev ≡ tables_bytes units_written
unfolding uleb_bytes uleb_bytes_within
abbrev-bytes = refl

pub info-bytes : (output_sections Little output_small).bytes Info ≡ info_bytes Little 8 units_written
unfolding uleb_bytes uleb_bytes_within
info-bytes = refl

pub info-relocations : (output_sections Little output_small).relocations Info ≡ relocations_of (info_fields Little 8 0 units_written)
unfolding uleb_bytes uleb_bytes_within
info-relocations = refl

pub line-bytes : (output_sections Little output_small).bytes Line ≡ lines_bytes Little 8 (lines_written ∷ [])
unfolding uleb_bytes uleb_bytes_within sleb_bytes sleb_bytes_from_0
line-bytes = refl

pub line-relocations : (output_sections Little output_small).relocations Line ≡ relocations_of (lines_fields Little 8 0 (lines_written ∷ []))
unfolding uleb_bytes uleb_bytes_within sleb_bytes sleb_bytes_from_0
line-relocations = refl

-- What is asked of them holds.
values-fit : (xs : List WrittenAttribute) → AllByRecursion (λ a. FitsWritten 8 a.value) xs → All (λ a. FitsWritten 8 a.value) xs
values-fit xs h = All-from_recursion (λ a. FitsWritten 8 a.value) xs h

entries-fit : All (FitsEntry table_written 8) (shaped unit_written.entries)
entries-fit = All-from_recursion (FitsEntry table_written 8) (shaped unit_written.entries) (
  record { some = lit< tt; code = lit< tt; declared = refl; values = values-fit root_written.attributes (lit< tt, tt) },
  (
    record { some = lit< tt; code = lit< tt; declared = refl; values = values-fit function_written.attributes (tt, (lit< tt, tt)) },
    (record { some = lit< tt; code = lit< tt; declared = refl; values = values-fit context_written.attributes (lit< tt, (lit< tt, (lit< tt, tt))) }, tt),
  ),
)

abbrev attributes_at : ℕ → List WrittenAttribute
attributes_at place = (get_or synthetic_entries place root_written).attributes

synthetic_entries-fit : All (FitsEntry synthetic_table 8) (shaped synthetic_entries)
synthetic_entries-fit = All-from_recursion (FitsEntry synthetic_table 8) (shaped synthetic_entries) (
  record { some = lit< tt; code = lit< tt; declared = refl; values = values-fit (attributes_at 0) (lit< tt, (lit< tt, (lit< tt, tt))) },
  (
    record { some = lit< tt; code = lit< tt; declared = refl; values = values-fit (attributes_at 1) (lit< tt, (lit< tt, (lit< tt, tt))) },
    (
      record { some = lit< tt; code = lit< tt; declared = refl; values = values-fit (attributes_at 2) (lit< tt, (lit< tt, tt)) },
      (
        record { some = lit< tt; code = lit< tt; declared = refl; values = values-fit (attributes_at 3) (lit< tt, tt) },
        (
          record { some = lit< tt; code = lit< tt; declared = refl; values = values-fit (attributes_at 4) (lit< tt, (lit< tt, tt)) },
          (
            record { some = lit< tt; code = lit< tt; declared = refl; values = values-fit (attributes_at 5) (lit< tt, (tt, tt)) },
            (
              record { some = lit< tt; code = lit< tt; declared = refl; values = values-fit (attributes_at 6) (lit< tt, (lit< tt, tt)) },
              (record { some = lit< tt; code = lit< tt; declared = refl; values = values-fit (attributes_at 7) (lit< tt, (lit< tt, (lit< tt, tt))) }, tt),
            ),
          ),
        ),
      ),
    ),
  ),
)

spec-fits : (name form : ℕ) → 0 < form → name ≤ 65535 → form < 2 ^ 64 → FitsSpec (record { name = name; form = form; implicit = pos 0 })
spec-fits name form some small fits = record { some = some; name = small; form = fits; implicit = refl; plain = λ e. refl }

declared-fits : (code tag : ℕ) (has_children : Bool) (attributes : List AttributeSpec) → 0 < code → code < 2 ^ 64 → tag ≤ 65535 → AllByRecursion FitsSpec attributes
    → FitsDeclaration (record { code = code; tag = tag; has_children = has_children; attributes = attributes })
declared-fits code tag has_children attributes some short small each = record { some = some; code = short; tag = small; attributes = All-from_recursion FitsSpec attributes each }

table-fits : All FitsDeclaration table_written
table-fits =
    All-from_recursion FitsDeclaration table_written (
      declared-fits 1 0x11 true _ (lit< tt) (lit< tt) (lit≤ tt) (spec-fits 0x10 0x17 (lit< tt) (lit≤ tt) (lit< tt), tt),
      (
        declared-fits 2 0x2E true _ (lit< tt) (lit< tt) (lit≤ tt) (spec-fits 0x11 0x01 (lit< tt) (lit≤ tt) (lit< tt), (spec-fits 0x12 0x0F (lit< tt) (lit≤ tt) (lit< tt), tt)),
        (declared-fits 3 0x34 false _ (lit< tt) (lit< tt) (lit≤ tt) (spec-fits 0x03 0x0E (lit< tt) (lit≤ tt) (lit< tt), (spec-fits 0x49 0x10 (lit< tt) (lit≤ tt) (lit< tt), (spec-fits 0x02 0x17 (lit< tt) (lit≤ tt) (lit< tt), tt))), tt),
      ),
    )

synthetic_table-fits : All FitsDeclaration synthetic_table
synthetic_table-fits =
    let text : (name : ℕ) → name ≤ 65535 → FitsSpec (form_of name 0x0E) = λ name small. spec-fits name 0x0E (lit< tt) small (lit< tt) in
    let byte : (name : ℕ) → name ≤ 65535 → FitsSpec (form_of name 0x0B) = λ name small. spec-fits name 0x0B (lit< tt) small (lit< tt) in
    let goal : FitsSpec (form_of 0x49 0x13) = spec-fits 0x49 0x13 (lit< tt) (lit≤ tt) (lit< tt) in
    let language = spec-fits 0x13 0x05 (lit< tt) (lit≤ tt) (lit< tt) in
    let artificial = spec-fits 0x34 0x0C (lit< tt) (lit≤ tt) (lit< tt) in
    All-from_recursion FitsDeclaration synthetic_table (
      declared-fits 1 0x11 true _ (lit< tt) (lit< tt) (lit≤ tt) (text 0x03 (lit≤ tt), (text 0x25 (lit≤ tt), (language, tt))),
      (
        declared-fits 2 0x24 false _ (lit< tt) (lit< tt) (lit≤ tt) (text 0x03 (lit≤ tt), (byte 0x3E (lit≤ tt), (byte 0x0B (lit≤ tt), tt))),
        (
          declared-fits 3 0x0F false _ (lit< tt) (lit< tt) (lit≤ tt) (text 0x03 (lit≤ tt), (goal, tt)),
          (
            declared-fits 4 0x13 true _ (lit< tt) (lit< tt) (lit≤ tt) (text 0x03 (lit≤ tt), tt),
            (
              declared-fits 5 0x2E true _ (lit< tt) (lit< tt) (lit≤ tt) (text 0x6E (lit≤ tt), (text 0x03 (lit≤ tt), tt)),
              (
                declared-fits 6 0x05 false _ (lit< tt) (lit< tt) (lit≤ tt) (goal, (artificial, tt)),
                (declared-fits 7 0x24 false _ (lit< tt) (lit< tt) (lit≤ tt) (text 0x03 (lit≤ tt), (byte 0x0B (lit≤ tt), (byte 0x3E (lit≤ tt), tt))), tt),
              ),
            ),
          ),
        ),
      ),
    )

synthetic-fits : FitsUnit Little 8 synthetic_written
unfolding uleb_bytes uleb_bytes_within
synthetic-fits = record {
  version = inl refl;
  offset = lit< tt;
  short = lit< tt;
  table = synthetic_table-fits;
  entries = synthetic_entries-fit;
  tree = (refl, (lit< tt, lit≤ tt, (lit< tt, lit≤ tt, (lit< tt, lit≤ tt, (lit< tt, lit≤ tt, (lit< tt, lit≤ tt, (lit< tt, lit≤ tt, (lit< tt, lit≤ tt, tt))))))));
}

unit-fits : FitsUnit Little 8 unit_written
unfolding uleb_bytes uleb_bytes_within
unit-fits = record { version = inl refl; offset = lit< tt; short = lit< tt; table = table-fits; entries = entries-fit; tree = (refl, (lit< tt, lit≤ tt, (lit< tt, lit≤ tt, tt))) }

-- So its units are read as they were given.
pub small-units : units (output_sections Little output_small) ≡ record { items = read_units Little 8 0 units_written; fault = None }
unfolding uleb_bytes uleb_bytes_within
small-units =
    let fits = All-cons (FitsUnit Little 8) synthetic_written (unit_written ∷ []) synthetic-fits (All-cons (FitsUnit Little 8) unit_written [] unit-fits (All-nil (FitsUnit Little 8))) in
    units-read (output_sections Little output_small) 8 units_written (inr refl) fits (refl, (refl, tt)) abbrev-bytes info-bytes info-relocations

row-fits : (offset line : ℕ) → offset < 2 ^ 32 → line < 2 ^ 32
    → FitsRow (record { offset = offset; file = 1; line = line; column = 0; is_stmt = true; basic_block = false; prologue_end = false; epilogue_begin = false; isa = 0; discriminator = 0 })
row-fits offset line near low = record { some_file = lit< tt; offset = near; line = low; file = lit< tt; column = lit< tt; isa = lit< tt; discriminator = lit< tt }

sequences-fit : All (FitsSequence 8) lines_written.sequences
sequences-fit = All-from_recursion (FitsSequence 8) lines_written.sequences (
  record {
    begin = tt;
    some = lit< tt;
    rows = All-from_recursion FitsRow rows_written (row-fits 0 2 (lit< tt) (lit< tt), (row-fits 15 3 (lit< tt) (lit< tt), tt));
    rise = (lit≤ tt, (lit≤ tt, lit≤ tt));
    last = lit< tt;
  },
  tt,
)

files-fit : All FitsFile lines_written.files
files-fit = All-from_recursion FitsFile lines_written.files (record { name = record { some = lit< tt; plain = All-from_recursion (λ b. 0 < b) (codes "a.c") (lit< tt, (lit< tt, (lit< tt, tt))) }; directory = lit< tt }, tt)

lines-fit : FitsTable Little 8 lines_written
unfolding uleb_bytes uleb_bytes_within sleb_bytes sleb_bytes_from_0
lines-fit = inl (refl, record { directories = All-nil FitsName; files = files-fit; sequences = sequences-fit; short = lit< tt })

-- and so is its line table, with its one segment
pub small-lines : All (IsReadAt (output_sections Little output_small) 8) (placed_tables Little 8 0 (lines_written ∷ []))
small-lines =
    lines-read (output_sections Little output_small) 8 [] (lines_written ∷ []) (lit< tt) (lit< tt) (All-cons (FitsTable Little 8) lines_written [] lines-fit (All-nil (FitsTable Little 8))) refl (All-cons (λ (t : WrittenTable). t.texts ≡ []) lines_written [] refl (All-nil (λ (t : WrittenTable). t.texts ≡ []))) line-bytes line-relocations

abbrev placed_written : PlacedTable
placed_written = record { offset = 0; table = lines_written }

abbrev root_read : Entry
root_read = record { offset = 88; depth = 0; tag = 0x11; attributes = (0x10, line_reference 0) ∷ [] }

-- and so is the table of its second unit, with one segment of two rows
pub small-table : table_of_unit (output_sections Little output_small) (read_unit Little 8 77 unit_written) ≡ Ok (Some (read_table Little 8 placed_written))
small-table =
    unit-table-read (output_sections Little output_small) 8 (read_unit Little 8 77 unit_written) root_read placed_written refl refl refl
    (All-head (IsReadAt (output_sections Little output_small) 8) placed_written [] small-lines)

pub small-segments : segments (read_table Little 8 placed_written) ≡ map (read_segment (read_table Little 8 placed_written)) lines_written.sequences
small-segments = line-table-segments Little 8 0 lines_written.directories lines_written.files lines_written.sequences sequences-fit
