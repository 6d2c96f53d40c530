-- The fields of line tables that are spelled are found where they stand, and their relocations are those that are spelled with them, in both
-- versions: `tables-found`, `unit_lines-found`, `lines-related`.
use Rattle.std.proofs.Common.{◌≡◌, ℕ, ◌+◌, ◌^◌, ◌<◌, inl, inr, lit<, refl, sym, ap, subst, ◌∙◌, List, [], ◌∷◌, ◌++◌, append_assoc, append-nil, length, map, drop, get_or, Option, Some, None, Ok, Bool, true, false}
use Rattle.std.specs.Prelude.{is_some, if◌then◌else◌}
use Rattle.std.specs.List.{All, flat_map}
use Rattle.std.proofs.lemmas.List.Elements.{All-head, All-tail, All-cons, All-nil}
use Rattle.dwc_base.specs.declared.records.Endian.{Endian}
use Rattle.dwc_base.specs.declared.section_name.SectionName.TheVariants.{Line}
use Rattle.dwc_base.specs.declared.constants.TheConstants.{DW_AT_stmt_list}
use Rattle.dwc_base.specs.Reading.{◌>>=◌}
use Rattle.dwc_base.specs.Sections.{Sections}
use Rattle.dwc_base.specs.Units.{UnitHeader}
use Rattle.dwc_dwarf.specs.Entries.{Entry, attribute}
use Rattle.dwc_dwarf.specs.LineHeaders.{LineFile, LineSource, line_source, Instruction}
use Rattle.dwc_dwarf.specs.Indexed.{text_base}
use Rattle.dwc_dwarf.specs.ReadUnits.{root, line_offset}
use Rattle.dwc_output.specs.Fields.{Field, fields_of_line_table, fields_of_lines, relocations_of_fields}
use Rattle.dwc_base.specs.Spelling.{unread_at}
use Rattle.dwc_output.specs.PathFields.{header_paths_at}
use Rattle.dwc_output.specs.Versions.{is_old}
use Rattle.dwc_section.specs.Spelled.{at_places}
use Rattle.dwc_section.specs.SpelledAddresses.{IsHeld}
use Rattle.dwc_unit.specs.SpelledUnits.{written_value, WrittenAttribute, header_length, read_entries}
use Rattle.dwc_unit.specs.SpelledLines.{line_body, line_table_bytes, program_fields, program_place, read_line_header, sequences_instructions}
use Rattle.dwc_unit.specs.SpelledTables.{table_bytes}
use Rattle.dwc_unit.specs.GivenLines.{GivenLines}
use Rattle.dwc_unit.specs.GivenUnits.{GivenEntry, OrderedUnit, Places, FitsEntry, IsTree, names_lines, IsWritable, FitsOrdered, shapes_in, written_attributes, written_entries}
use Rattle.dwc_unit.specs.LineNames.{own_directory}
use Rattle.dwc_unit.specs.declared.lists.ListPlaces.{ListPlaces}
use Rattle.dwc_unit.specs.Lists.{behind_attributes}
use Rattle.dwc_write.specs.PathTables.{path_program_place, path_table_relocations}
use Rattle.dwc_write.specs.SequenceRelocations.{sequences_relocations}
use Rattle.dwc_write.specs.SpelledSections.{placed_unit_bytes, read_unit, read_units, WrittenTable, one_table_bytes, lines_bytes, one_table_fields, lines_fields, PlacedTable, placed_tables, FitsOldTable, FitsTable}
use Rattle.dwc_write.specs.SpelledRelocations.{one_table_relocations, lines_relocations}
use Rattle.dwc_write.specs.Layouts.{AllPlaces, behind_unit, lists_from, offsets_by_number, places_in, table_of, written_unit, written_units, written_tables}
use Rattle.dwc_unit.proofs.ReadParts.{here, then_read, Spells-number_bytes}
use Rattle.dwc_unit.proofs.ReadEntries.{sized-reads}
use Rattle.dwc_unit.proofs.ReadValues.{All-front, All-back}
use Rattle.dwc_unit.proofs.ReadProgram.{program-read}
use Rattle.dwc_unit.proofs.ReadLines.{header-read, sequences-fit}
use Rattle.dwc_unit.proofs.RowFields.{at_places-append}
use Rattle.dwc_write.proofs.InstructionFields.{field_held, instructions-found, sequences-related}
use Rattle.dwc_write.proofs.ReadFields.{places-related, stands-behind}
use Rattle.dwc_write.proofs.ReadPathProgram.{all-plain}
use Rattle.dwc_write.proofs.ReadPathFields.{names_fields, path-table-found, path-table-related}
use Rattle.dwc_write.proofs.ReadLineTables.{HasNames, old-stands, old-held, path-stands, path-held}
use Rattle.dwc_write.proofs.TableFits.{lines_for, lines-are}
use Rattle.dwc_write.proofs.ReadBackLaws.{attributes-read, named_offset, found_in, lines-named}

-- ---- their relocations

-- the fields of a table at a place: in version 5, those of its names in front
abbrev pub table_fields : Endian → ℕ → ℕ → WrittenTable → List Field
table_fields order size place t =
    (if is_old t.version then [] else names_fields order t.texts place t.own t.directories t.files)
    ++ map field_held (one_table_fields order size place t)

abbrev pub tables_fields : Endian → ℕ → ℕ → List WrittenTable → List Field
tables_fields order size place ts = at_places (one_table_bytes order size) (table_fields order size) place ts

-- The relocations of line tables that are spelled are those of their fields.
pub lines-related : (order : Endian) (size : ℕ) (ts : List WrittenTable) (place : ℕ) → relocations_of_fields (tables_fields order size place ts) ≡ lines_relocations order size place ts
lines-related order size ts place =
    places-related (one_table_bytes order size) (table_fields order size) (one_table_relocations order size) ts place (λ k d within p. table-related (get_or ts k d) p)
  where
    table-related : (t : WrittenTable) (p : ℕ) → relocations_of_fields (table_fields order size p t) ≡ one_table_relocations order size p t
    table-related t p = go (is_old t.version)
      where
        go : (b : Bool)
            → relocations_of_fields ((if b then [] else names_fields order t.texts p t.own t.directories t.files) ++ map field_held (program_fields order size (p + (if b then program_place t.directories t.files else path_program_place order t.texts t.own t.directories t.files)) (sequences_instructions t.sequences)))
            ≡ (if b then sequences_relocations order size (p + program_place t.directories t.files) t.sequences else path_table_relocations order size p t.texts t.own t.directories t.files t.sequences)
        go true = sequences-related order size t.sequences (p + program_place t.directories t.files)
        go false = path-table-related order size p t.texts t.own t.directories t.files t.sequences

-- ---- tables

-- a table whose fields are found at its offset, whatever the base of texts by an index, of which version 4 has none
abbrev pub IsFound : Sections → ℕ → PlacedTable → Type 0
IsFound s size p = (base : ℕ) → fields_of_line_table s size base p.offset ≡ Ok (table_fields s.order size p.offset p.table)

-- the names of a table of version 4 stand in place, so there are no fields of them
names-in_place : (order : Endian) (source : LineSource) (place size : ℕ) (directories : List (List ℕ)) (files : List LineFile) (is : List Instruction) (rest : List ℕ)
    → length (line_body order size directories files is) < 0xFFFFFFF0 → header_paths_at source size (unread_at order place (line_table_bytes order size directories files is ++ rest)) ≡ Ok []
unfolding header_paths_at
names-in_place order source place size directories files is rest small =
    then_read _ (sized-reads order place (line_body order size directories files is) small)
    (then_read _ (here _ (Spells-number_bytes order 2 4 (lit< tt))) refl)

module _ (s : Sections) (size : ℕ) where
  old-found : (place : ℕ) (t : WrittenTable) (rest : List ℕ) → size < 2 ^ 63 → FitsOldTable s.order size t → All (IsHeld (s.relocations Line)) (program_fields s.order size (place + program_place t.directories t.files) (sequences_instructions t.sequences))
      → drop place (s.bytes Line) ≡ line_table_bytes s.order size t.directories t.files (sequences_instructions t.sequences) ++ rest
      → (base : ℕ) → fields_of_line_table s size base place ≡ Ok (map field_held (program_fields s.order size (place + program_place t.directories t.files) (sequences_instructions t.sequences)))
  unfolding fields_of_line_table
  old-found place t rest short fits held stands base =
      let is = sequences_instructions t.sequences in
      let h = read_line_header s.order size place t.directories t.files is in
      let fit = sequences-fit size t.sequences short fits.sequences in
      let at = place + program_place t.directories t.files in
      let header = header-read s.order (line_source s base) place size t.directories t.files is rest fits.directories fits.files fits.short in
      let names = names-in_place s.order (line_source s base) place size t.directories t.files is rest fits.short in
      let program = program-read (s.relocations Line) h refl refl s.order is at fit.all held in
      let found = instructions-found (s.relocations Line) h refl s.order is at fit.all (all-plain is fit.plain) held in
      rw (stands, header, ◌>>=◌, names, program) (ap Ok found)

  table-found : (place : ℕ) (t : WrittenTable) (rest : List ℕ) → size < 2 ^ 63 → FitsTable s.order size t → HasNames s t → All (IsHeld (s.relocations Line)) (one_table_fields s.order size place t)
      → drop place (s.bytes Line) ≡ one_table_bytes s.order size t ++ rest → IsFound s size (record { offset = place; table = t })
  table-found place t rest short (inl (e, old)) named held stands = λ base.
      let found = old-found place t rest short old (old-held s size place t rest e held) (old-stands s size place t rest e stands) base in
      found ∙ rw (e) refl
  table-found place t rest short (inr (e, new)) named held stands = λ base.
      let found = path-table-found s size t.texts t.own t.directories t.files t.sequences new named base place rest short (path-held s size place t rest e held) (path-stands s size place t rest e stands) in
      found ∙ rw (e) refl

  -- The fields of each line table of a section are found at its offset.
  pub tables-found : (place : ℕ) (ts : List WrittenTable) (rest : List ℕ) → size < 2 ^ 63 → All (FitsTable s.order size) ts → All (HasNames s) ts → All (IsHeld (s.relocations Line)) (lines_fields s.order size place ts)
      → drop place (s.bytes Line) ≡ lines_bytes s.order size ts ++ rest → All (IsFound s size) (placed_tables s.order size place ts)
  tables-found place [] rest short fits named held stands = All-nil _
  tables-found place (t ∷ ts) rest short fits named held stands =
      let bytes = one_table_bytes s.order size t in
      let others = lines_bytes s.order size ts in
      let parts = stands ∙ append_assoc bytes others rest in
      let first = table-found place t (others ++ rest) short (All-head (FitsTable s.order size) t ts fits) (All-head (HasNames s) t ts named) (All-front (IsHeld (s.relocations Line)) (one_table_fields s.order size place t) _ held) parts in
      All-cons (IsFound s size) (record { offset = place; table = t }) _ first
      (tables-found (place + length bytes) ts rest short (All-tail (FitsTable s.order size) t ts fits) (All-tail (HasNames s) t ts named) (All-back (IsHeld (s.relocations Line)) (one_table_fields s.order size place t) _ held) (stands-behind place (s.bytes Line) bytes (others ++ rest) parts))

  -- ---- the tables of units

  root-found : (h : UnitHeader) (e : Entry) (l version : ℕ) (texts : List (List ℕ)) (own : List ℕ) (g : GivenLines) (rest : List WrittenTable) (n : Option ℕ) → h.address_size ≡ size → line_offset (attribute DW_AT_stmt_list e) ≡ named_offset l (is_some n)
      → All (IsFound s size) (placed_tables s.order size l (lines_for version texts own n g ++ rest)) → fields_of_lines s h (Some e) ≡ tables_fields s.order size l (lines_for version texts own n g)
  root-found h e l version texts own g rest None sized names found = rw (fields_of_lines, names) refl
  root-found h e l version texts own g rest (Some n) sized names found =
      let t : WrittenTable = record { version = version; texts = texts; own = own; directories = g.directories; files = g.files; sequences = g.sequences } in
      let base = text_base s h in
      let here : fields_of_line_table s h.address_size base l ≡ Ok (table_fields s.order size l t) = ap (λ m. fields_of_line_table s m base l) sized ∙ All-head (IsFound s size) (record { offset = l; table = t }) _ found base in
      rw (fields_of_lines, names, here) (sym (append-nil (table_fields s.order size l t)))

  unit-found : (version place a : ℕ) (r : ListPlaces) (p : Places) (units : AllPlaces) (u : OrderedUnit) (rest : List WrittenTable) → FitsOrdered u → IsWritable version size u → All (IsFound s size) (placed_tables s.order size p.line (table_of units u ++ rest))
      → fields_of_lines s (read_unit s.order size place (written_unit size r p a u)).header (root (read_unit s.order size place (written_unit size r p a u))) ≡ tables_fields s.order size p.line (table_of units u)
  unit-found version place a r p units u rest fits writable found = at-root u.entries fits.tree fits.entries writable.named
    where
      first : ListPlaces
      first = lists_from u.version u.entries r

      at-root : (es : List GivenEntry) → IsTree es → All (FitsEntry u.address_size) es → names_lines es ≡ is_some u.lines.address_size
          → fields_of_lines s (read_unit s.order size place (written_unit size r p a u)).header (root (record { header = (read_unit s.order size place (written_unit size r p a u)).header; entries = read_entries s.order size (place + header_length u.version) (written_entries (behind_attributes u.version size) p first (shapes_in u) es) })) ≡ tables_fields s.order size p.line (table_of units u)
      at-root [] tree all named = absurd tree
      at-root (e ∷ es) tree all named =
          let next = behind_attributes u.version size in
          let names = ap (λ xs. line_offset (found_in xs)) (attributes-read next p first e.attributes) ∙ lines-named u.address_size next p first e.attributes (All-head (FitsEntry u.address_size) e es all).attributes ∙ ap (named_offset p.line) named in
          let own = own_directory units.table u in
          let same = lines-are u.version units.names own u.lines in
          let P : List WrittenTable → Type 0 = λ ts. All (IsFound s size) (placed_tables s.order size p.line (ts ++ rest)) in
          let h = (read_unit s.order size place (written_unit size r p a u)).header in
          let entry : Entry = record { offset = place + header_length u.version; depth = e.depth; tag = e.tag; attributes = map (λ (x : WrittenAttribute). (x.name, written_value x.name x.value)) (written_attributes next p first e.attributes) } in
          root-found h entry p.line u.version units.names own u.lines rest u.lines.address_size refl names (subst P same found) ∙ ap (tables_fields s.order size p.line) (sym same)

  -- The fields of the line tables that the units name are those of all tables.
  pub unit_lines-found : (version : ℕ) (units : AllPlaces) (us : List OrderedUnit) (place a l : ℕ) (r : ListPlaces) → All (IsWritable version size) us → All FitsOrdered us → All (IsFound s size) (placed_tables s.order size l (written_tables units us))
      → flat_map (λ u. fields_of_lines s u.header (root u)) (read_units s.order size place (written_units s.order size units a l r us)) ≡ tables_fields s.order size l (written_tables units us)
  unit_lines-found version units [] place a l r writable fits found = refl
  unit_lines-found version units (u ∷ us) place a l r writable fits found =
      let p = places_in units u.version (offsets_by_number s.order size u) l in
      let unit = written_unit size r p a u in
      let lists_at = behind_unit s.order size r u in
      let own = table_of units u in
      let rest = written_tables units us in
      let next = l + length (lines_bytes s.order size own) in
      let split = at_places-append (one_table_bytes s.order size) (λ q t. record { offset = q; table = t } ∷ []) own rest l in
      let behind = All-back (IsFound s size) (placed_tables s.order size l own) _ (subst (All (IsFound s size)) split found) in
      let first = unit-found version place a r p units u rest (All-head FitsOrdered u us fits) (All-head (IsWritable version size) u us writable) found in
      let more = unit_lines-found version units us (place + length (placed_unit_bytes s.order size unit)) (a + length (table_bytes unit.table)) next lists_at (All-tail (IsWritable version size) u us writable) (All-tail FitsOrdered u us fits) behind in
      let others = flat_map (λ v. fields_of_lines s v.header (root v)) (read_units s.order size (place + length (placed_unit_bytes s.order size unit)) (written_units s.order size units (a + length (table_bytes unit.table)) next lists_at us)) in
      ap (λ fs. fs ++ others) first ∙ ap (λ fs. tables_fields s.order size l own ++ fs) more ∙ sym (at_places-append (one_table_bytes s.order size) (table_fields s.order size) own rest l)
