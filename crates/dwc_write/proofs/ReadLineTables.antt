-- Line tables that are spelled one behind another are read again, in both versions. `lines-read`: every table at its offset. `table-says`: what a
-- table says. `own-directory-read`: directory 0 of one of version 5. `unit-table-read`: the table of a unit whose root names one. Their fields
-- of addresses rise (`program-rise`, `lines-rise`), so the section's own relocations hold.
use Rattle.std.proofs.Common.{◌≡◌, ℕ, ◌+◌, ◌^◌, ◌<◌, ◌≤◌, inl, inr, refl, sym, ap, ◌∙◌, arith, List, [], ◌∷◌, ◌++◌, append_assoc, append-nil, length, length-append, map, drop, Some, Ok, Bool, true, false}
use Rattle.std.specs.Prelude.{if◌then◌else◌}
use Rattle.std.specs.List.{All}
use Rattle.std.proofs.lemmas.List.Elements.{All-head, All-tail, All-cons, All-nil}
use Rattle.dwc_base.specs.declared.records.Endian.{Endian}
use Rattle.dwc_base.specs.declared.section_name.SectionName.TheVariants.{Line, LineStr}
use Rattle.dwc_base.specs.declared.constants.TheConstants.{DW_AT_stmt_list}
use Rattle.dwc_base.specs.Sections.{Sections, section_from}
use Rattle.dwc_base.specs.NumberBytes.{number_bytes, uleb_bytes}
use Rattle.dwc_dwarf.specs.Entries.{Entry, attribute}
use Rattle.dwc_dwarf.specs.LineHeaders.{Instruction, line_source, set_address}
use Rattle.dwc_dwarf.specs.LineRows.{line_table, segments}
use Rattle.dwc_dwarf.specs.Indexed.{text_base}
use Rattle.dwc_dwarf.specs.ReadUnits.{Unit as ReadUnit, root, line_offset, table_of_root, table_of_unit}
use Rattle.dwc_dwarf.specs.TreeLaws.{texts_ended}
use Rattle.dwc_output.specs.OwnDirectories.{own_directory_at}
use Rattle.dwc_output.specs.Versions.{files_written, is_old}
use Rattle.dwc_section.specs.SpelledAddresses.{AddressField, address_bytes, stored, IsHeld, relocations_of, RiseWithin}
use Rattle.dwc_unit.specs.SpelledLines.{instruction_bytes, instruction_fields, line_fields_bytes, line_table_bytes, program_bytes, program_fields, program_place, line_body, sequences_instructions, read_segment}
use Rattle.dwc_write.specs.PathTables.{path_fields_bytes, path_table_body, path_table_bytes, path_program_place}
use Rattle.dwc_write.specs.SpelledSections.{PlacedTable, WrittenTable, one_table_bytes, lines_bytes, table_program_place, one_table_fields, lines_fields, placed_tables, read_table, FitsTable}
use Rattle.dwc_section.proofs.ReadNumbers.{number_bytes-length}
use Rattle.dwc_unit.proofs.ReadValues.{All-front, All-back}
use Rattle.dwc_unit.proofs.ReadLines.{line-table-read, line-table-segments}
use Rattle.dwc_write.proofs.ReadAddresses.{rising-held, rise-below, rise-above, rise-places}
use Rattle.dwc_write.proofs.ReadFields.{stands-behind}
use Rattle.dwc_write.proofs.ReadPathTables.{path-table-read, path-own-directory, path-table-segments}

-- ---- fields of addresses rise

into : (lower low high higher : ℕ) (fs : List AddressField) → lower ≤ low → high ≤ higher → RiseWithin low high fs → RiseWithin lower higher fs
into lower low high higher fs before behind rise = rise-below lower low higher fs before (rise-above low high higher fs behind rise)

instruction-rise : (order : Endian) (size : ℕ) → 0 < size → (place : ℕ) (i : Instruction) → RiseWithin place (place + length (instruction_bytes order size i)) (instruction_fields order size place i)
instruction-rise order size some place (set_address a) =
    let address = address_bytes order size a in
    let size_bytes = uleb_bytes (length (2 ∷ address)) in
    (omega arith, omega (arith, some, number_bytes-length order size (stored a), length-append size_bytes (2 ∷ address)))
instruction-rise order size some place i = omega arith

pub program-rise : (order : Endian) (size : ℕ) → 0 < size → (place : ℕ) (is : List Instruction) → RiseWithin place (place + length (program_bytes order size is)) (program_fields order size place is)
program-rise order size some place is = rise-places (instruction_bytes order size) (instruction_fields order size) is place (instruction-rise order size some)

module _ (order : Endian) (size : ℕ) (place : ℕ) (t : WrittenTable) where
  old-lengths : (a b c d e : List ℕ) → length (a ++ (b ++ ((c ++ d) ++ e))) ≡ length a + (length b + (length c + (length d + length e)))
  old-lengths a b c d e = simp (length-append) (omega arith)

  path-lengths : (a b c d e : List ℕ) → length (a ++ (b ++ ((size ∷ 0 ∷ []) ++ ((c ++ d) ++ e)))) ≡ length a + (length b + (2 + (length c + (length d + length e))))
  path-lengths a b c d e = simp (length-append) (omega arith)

  -- where the program ends is where the table ends, in each version
  pub old-end : (place + program_place t.directories t.files) + length (program_bytes order size (sequences_instructions t.sequences)) ≡ place + length (line_table_bytes order size t.directories t.files (sequences_instructions t.sequences))
  old-end =
      let fields = line_fields_bytes t.directories t.files in
      let body = line_body order size t.directories t.files (sequences_instructions t.sequences) in
      let whole = old-lengths (number_bytes order 4 (length body)) (number_bytes order 2 4) (number_bytes order 4 (length fields)) fields (program_bytes order size (sequences_instructions t.sequences)) in
      omega (arith, whole, number_bytes-length order 4 (length body), number_bytes-length order 2 4, number_bytes-length order 4 (length fields))

  pub path-end : (place + path_program_place order t.texts t.own t.directories t.files) + length (program_bytes order size (sequences_instructions t.sequences)) ≡ place + length (path_table_bytes order size t.texts t.own t.directories t.files (sequences_instructions t.sequences))
  path-end =
      let fields = path_fields_bytes order t.texts t.own t.directories t.files in
      let body = path_table_body order size t.texts t.own t.directories t.files (sequences_instructions t.sequences) in
      let whole = path-lengths (number_bytes order 4 (length body)) (number_bytes order 2 5) (number_bytes order 4 (length fields)) fields (program_bytes order size (sequences_instructions t.sequences)) in
      omega (arith, whole, number_bytes-length order 4 (length body), number_bytes-length order 2 5, number_bytes-length order 4 (length fields))

  pub table-end : (place + table_program_place order t) + length (program_bytes order size (sequences_instructions t.sequences)) ≡ place + length (one_table_bytes order size t)
  table-end = go (is_old t.version)
    where
      go : (b : Bool) → (place + (if b then program_place t.directories t.files else path_program_place order t.texts t.own t.directories t.files)) + length (program_bytes order size (sequences_instructions t.sequences))
          ≡ place + length (if b then line_table_bytes order size t.directories t.files (sequences_instructions t.sequences) else path_table_bytes order size t.texts t.own t.directories t.files (sequences_instructions t.sequences))
      go true = old-end
      go false = path-end

table-rise : (order : Endian) (size : ℕ) → 0 < size → (place : ℕ) (t : WrittenTable) → RiseWithin place (place + length (one_table_bytes order size t)) (one_table_fields order size place t)
table-rise order size some place t =
    let inner = program-rise order size some (place + table_program_place order t) (sequences_instructions t.sequences) in
    into place (place + table_program_place order t) _ _ (one_table_fields order size place t) (omega arith) (omega (arith, table-end order size place t)) inner

pub lines-rise : (order : Endian) (size : ℕ) → 0 < size → (place : ℕ) (ts : List WrittenTable) → RiseWithin place (place + length (lines_bytes order size ts)) (lines_fields order size place ts)
lines-rise order size some place ts = rise-places (one_table_bytes order size) (one_table_fields order size) ts place (table-rise order size some)

-- ---- the line tables

-- A line table is read at its offset as it was given, whatever the base of texts by an index, which none of its names has.
abbrev pub IsReadAt : Sections → ℕ → PlacedTable → Type 0
IsReadAt s size p = (base : ℕ) → line_table s size base p.offset ≡ Ok (read_table s.order size p)

-- A table's names stand in `.debug_line_str`, where they do not stand in the table.
abbrev pub HasNames : Sections → WrittenTable → Type 0
HasNames s t = s.bytes LineStr ≡ texts_ended t.texts

-- all of some tables do, where they take them from the same texts
pub all-named : (s : Sections) (names : List (List ℕ)) (ts : List WrittenTable) → s.bytes LineStr ≡ texts_ended names → All (λ t. t.texts ≡ names) ts → All (HasNames s) ts
all-named s names ts strings same = λ k d within. strings ∙ ap texts_ended (sym (same k d within))

module _ (s : Sections) (size : ℕ) (place : ℕ) (t : WrittenTable) (rest : List ℕ) where
  -- the bytes and the fields of a table of a version
  pub old-stands : t.version ≡ 4 → drop place (s.bytes Line) ≡ one_table_bytes s.order size t ++ rest → drop place (s.bytes Line) ≡ line_table_bytes s.order size t.directories t.files (sequences_instructions t.sequences) ++ rest
  old-stands e stands = stands ∙ rw (e) refl

  pub old-held : t.version ≡ 4 → All (IsHeld (s.relocations Line)) (one_table_fields s.order size place t) → All (IsHeld (s.relocations Line)) (program_fields s.order size (place + program_place t.directories t.files) (sequences_instructions t.sequences))
  old-held e held = rw (e) at held

  pub path-stands : t.version ≡ 5 → drop place (s.bytes Line) ≡ one_table_bytes s.order size t ++ rest → drop place (s.bytes Line) ≡ path_table_bytes s.order size t.texts t.own t.directories t.files (sequences_instructions t.sequences) ++ rest
  path-stands e stands = stands ∙ rw (e) refl

  pub path-held : t.version ≡ 5 → All (IsHeld (s.relocations Line)) (one_table_fields s.order size place t) → All (IsHeld (s.relocations Line)) (program_fields s.order size (place + path_program_place s.order t.texts t.own t.directories t.files) (sequences_instructions t.sequences))
  path-held e held = rw (e) at held

  pub table-at : size < 2 ^ 63 → FitsTable s.order size t → HasNames s t → All (IsHeld (s.relocations Line)) (one_table_fields s.order size place t) → drop place (s.bytes Line) ≡ one_table_bytes s.order size t ++ rest
      → IsReadAt s size (record { offset = place; table = t })
  table-at short (inl (e, old)) named held stands = λ base.
      let read = line-table-read s size base place t.directories t.files t.sequences rest old.directories old.files short old.sequences old.short (old-held e held) (old-stands e stands) in
      read ∙ rw (e) refl
  table-at short (inr (e, new)) named held stands = λ base.
      let read = path-table-read s size t.texts t.own t.directories t.files t.sequences new named base place rest (path-held e held) (path-stands e stands) in
      read ∙ rw (e) refl

  -- Directory 0 of a table of version 5 is its own.
  pub own-directory-read : (base unit_size : ℕ) → t.version ≡ 5 → FitsTable s.order size t → HasNames s t → drop place (s.bytes Line) ≡ one_table_bytes s.order size t ++ rest
      → own_directory_at (line_source s base) unit_size (section_from s Line place) ≡ Ok (record { directory = 0; name = t.own })
  own-directory-read base unit_size is (inl (e, old)) named stands = absurd (omega (arith, is, e))
  own-directory-read base unit_size is (inr (e, new)) named stands =
      path-own-directory s size t.texts t.own t.directories t.files t.sequences new named base place unit_size rest (path-stands e stands)

tables-at : (s : Sections) (size place : ℕ) (ts : List WrittenTable) (rest : List ℕ) → size < 2 ^ 63 → All (FitsTable s.order size) ts → All (HasNames s) ts → All (IsHeld (s.relocations Line)) (lines_fields s.order size place ts)
    → drop place (s.bytes Line) ≡ lines_bytes s.order size ts ++ rest
    → All (IsReadAt s size) (placed_tables s.order size place ts)
tables-at s size place [] rest short fits named held bytes = All-nil _
tables-at s size place (t ∷ ts) rest short fits named held bytes =
    let others = lines_bytes s.order size ts in
    let grouped : drop place (s.bytes Line) ≡ one_table_bytes s.order size t ++ (others ++ rest) = bytes ∙ append_assoc (one_table_bytes s.order size t) others rest in
    let own = All-front (IsHeld (s.relocations Line)) (one_table_fields s.order size place t) _ held in
    let first = table-at s size place t (others ++ rest) short (All-head (FitsTable s.order size) t ts fits) (All-head (HasNames s) t ts named) own grouped in
    All-cons (IsReadAt s size) (record { offset = place; table = t }) _ first
    (tables-at s size (place + length (one_table_bytes s.order size t)) ts rest short (All-tail (FitsTable s.order size) t ts fits) (All-tail (HasNames s) t ts named)
    (All-back (IsHeld (s.relocations Line)) (one_table_fields s.order size place t) _ held) (stands-behind place (s.bytes Line) (one_table_bytes s.order size t) (others ++ rest) grouped))

-- The fields of line tables are held by the relocations of their section.
pub lines-held : (s : Sections) (size : ℕ) (ts : List WrittenTable) → 0 < size → s.relocations Line ≡ relocations_of (lines_fields s.order size 0 ts) → All (IsHeld (s.relocations Line)) (lines_fields s.order size 0 ts)
lines-held s size ts some relocations_are =
    let held_by = rising-held 0 _ (lines_fields s.order size 0 ts) (lines-rise s.order size some 0 ts) in
    rw (relocations_are) held_by

-- Each line table of a section that is spelled is read at its offset as it was given.
pub lines-read : (s : Sections) (size : ℕ) (names : List (List ℕ)) (ts : List WrittenTable) → 0 < size → size < 2 ^ 63 → All (FitsTable s.order size) ts
    → s.bytes LineStr ≡ texts_ended names → All (λ t. t.texts ≡ names) ts
    → s.bytes Line ≡ lines_bytes s.order size ts → s.relocations Line ≡ relocations_of (lines_fields s.order size 0 ts)
    → All (IsReadAt s size) (placed_tables s.order size 0 ts)
lines-read s size names ts some short fits strings same bytes_are relocations_are =
    tables-at s size 0 ts [] short fits (all-named s names ts strings same) (lines-held s size ts some relocations_are) (bytes_are ∙ sym (append-nil (lines_bytes s.order size ts)))

-- ---- what they say

-- A table that is read says what was given.
pub record SaysTable (order : Endian) (size : ℕ) (p : PlacedTable) : Type 0 where
  pub version : (read_table order size p).header.version ≡ p.table.version
  pub directories : (read_table order size p).header.directories ≡ p.table.directories
  pub files : (read_table order size p).files ≡ files_written p.table.version p.table.files
  pub sequences : segments (read_table order size p) ≡ map (read_segment (read_table order size p)) p.table.sequences

pub table-says : (order : Endian) (size : ℕ) (p : PlacedTable) → FitsTable order size p.table → SaysTable order size p
table-says order size p (inl (e, old)) = record {
  version = rw (e) refl;
  directories = rw (e) refl;
  files = rw (e) refl;
  sequences = rw (e) (line-table-segments order size p.offset p.table.directories p.table.files p.table.sequences old.sequences);
}
table-says order size p (inr (e, new)) = record {
  version = rw (e) refl;
  directories = rw (e) refl;
  files = rw (e) refl;
  sequences = rw (e) (path-table-segments order size p.offset p.table.texts p.table.own p.table.directories p.table.files p.table.sequences new.sequences);
}

-- ---- the table of a unit

-- A unit whose root names a line table that was spelled has that table.
pub unit-table-read : (s : Sections) (size : ℕ) (u : ReadUnit) (e : Entry) (p : PlacedTable) → u.header.address_size ≡ size → root u ≡ Some e → line_offset (attribute DW_AT_stmt_list e) ≡ Some p.offset
    → IsReadAt s size p → table_of_unit s u ≡ Ok (Some (read_table s.order size p))
unfolding table_of_unit
unit-table-read s size u e p sized is_root names read =
    let base = text_base s u.header in
    let here : line_table s u.header.address_size base p.offset ≡ Ok (read_table s.order size p) = ap (λ n. line_table s n base p.offset) sized ∙ read base in
    let table : table_of_root s u (Some e) ≡ Ok (Some (read_table s.order size p)) = rw (table_of_root, names, here) refl in
    rw (table_of_unit, is_root, table) refl
