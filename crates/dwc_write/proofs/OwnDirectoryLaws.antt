-- The units of version 5 that are read are compile units, and the line table of each names as directory 0 what the unit's root names as compilation
-- directory: `of-version-5`. That directory as it is read: `directory-read`.
use Rattle.std.proofs.Common.{◌≡◌, ℕ, ◌+◌, refl, sym, ap, subst, ◌∙◌, List, [], ◌∷◌, ◌++◌, append-nil, length, drop, Bool, true, false, cond, Option, Some, None, Ok}
use Rattle.std.specs.Prelude.{◌==◌, if◌then◌else◌, is_some, option_and_then, option_map}
use Rattle.std.specs.List.{All, find}
use Rattle.std.specs.Int.{w64, cast_signed}
use Rattle.std.proofs.lemmas.Bool.{eqb-true}
use Rattle.std.proofs.lemmas.Grind.{flat_map-append}
use Rattle.std.proofs.lemmas.List.Elements.{All-head, All-tail, All-cons, All-nil}
use Rattle.dwc_base.specs.declared.records.Endian.{Endian}
use Rattle.dwc_base.specs.declared.section_name.SectionName.TheVariants.{Line, LineStr, Str}
use Rattle.dwc_base.specs.declared.constants.TheConstants.{DW_AT_comp_dir, DW_AT_stmt_list, DW_FORM_data1, DW_FORM_data2, DW_FORM_data4, DW_FORM_data8, DW_FORM_sdata, DW_UT_compile}
use Rattle.dwc_base.specs.Outputs.{output_sections}
use Rattle.dwc_base.specs.Reading.{◌>>=◌}
use Rattle.dwc_base.specs.Sections.{Sections}
use Rattle.dwc_dwarf.specs.Entries.{Entry, attribute}
use Rattle.dwc_dwarf.specs.Indexed.{text_base, texts_of_unit}
use Rattle.dwc_dwarf.specs.ReadUnits.{Unit as ReadUnit, units, line_offset, root}
use Rattle.dwc_dwarf.specs.Texts.{TextSource, text_elsewhere, text_in, text_named}
use Rattle.dwc_dwarf.specs.TreeLaws.{texts_ended}
use Rattle.dwc_dwarf.specs.Values.{Value}
use Rattle.dwc_output.specs.OwnDirectories.{AreOfVersion5, NamesDirectory, NamesOwnDirectory, directory_named, directory_of_root, text_or_empty}
use Rattle.dwc_section.specs.Writers.{IsSound}
use Rattle.dwc_unit.specs.declared.attributes.Attribute.{Attribute}
use Rattle.dwc_unit.specs.declared.attributes.AttributeValue.{AttributeValue}
use Rattle.dwc_unit.specs.declared.attributes.AttributeValue.TheVariants.{Address, Constant, Flag, Block, Exprloc, StringRef, LineProgramRef, RangeListRef, LocationListRef, UnitRef, DebugInfoRef}
use Rattle.dwc_unit.specs.declared.attributes.DebugInfoRef.TheVariants.{Entry as entry_of}
use Rattle.dwc_unit.specs.declared.lists.ListPlaces.{ListPlaces}
use Rattle.dwc_unit.specs.GivenLines.{GivenLines, FitsLines}
use Rattle.dwc_unit.specs.GivenUnits.{GivenEntry, OrderedUnit, Places, AreWritable, FitsEntry, FitsOrdered, IsTree, IsWritable, names_lines, shapes_in, size_of, version_of, written_entries, written_of}
use Rattle.dwc_unit.specs.LineNames.{own_directory}
use Rattle.dwc_unit.specs.Lists.{behind_attributes, no_lists}
use Rattle.dwc_unit.specs.SpelledTables.{table_bytes}
use Rattle.dwc_unit.specs.SpelledUnits.{as_data1, as_data2, as_data4, as_data8, as_sdata, as_udata, header_length, read_entries, written_value}
use Rattle.dwc_unit.specs.TextTables.{AreTexts}
use Rattle.dwc_unit.specs.UsedTexts.{HaveTexts, text_numbered, text_of_value, text_places, texts_named, texts_of_attributes, texts_of_entries}
use Rattle.dwc_unit.proofs.ReadValues.{All-back, All-front}
use Rattle.dwc_write.specs.Layouts.{AllPlaces, behind_unit, lists_from, offset_of_text, offsets_by_number, places_in, table_of, written_tables, written_unit, written_units}
use Rattle.dwc_write.specs.ReadBack.{given_value, given_values}
use Rattle.dwc_write.specs.SpelledOutput.{all_places, spelled_sections}
use Rattle.dwc_write.specs.SpelledSections.{FitsTable, WrittenTable, lines_bytes, one_table_bytes, placed_unit_bytes, read_unit, read_units}
use Rattle.dwc_write.specs.UnitNames.{own_among, text_said_by}
use Rattle.dwc_write.proofs.ReadBackLaws.{are-spelled, attributes-read, lines-named, named_offset, units-read-back}
use Rattle.dwc_write.proofs.ReadFields.{stands-behind}
use Rattle.dwc_write.proofs.ReadLineTables.{own-directory-read}
use Rattle.dwc_write.proofs.ReadTexts.{all-used, text-read}
use Rattle.dwc_write.proofs.TableFits.{lines-are, lines_for}
use Rattle.dwc_write.proofs.UnitNameLaws.{own-first}

-- ---- the compilation directory

-- the first value of the name
abbrev directory_found : List (ℕ × Value) → Option Value
directory_found xs = option_map (λ a. a.1) (find (λ a. a.0 == DW_AT_comp_dir) xs)

-- a constant is no text
constant-unsaid : (source : TextSource) (a b c d f : Bool) (bits : ℕ)
    → text_or_empty (text_named source (written_value DW_AT_comp_dir (if a then as_data1 bits else (if b then as_data2 bits else (if c then as_data4 bits else (if d then as_data8 bits else (if f then as_sdata (cast_signed w64 bits) else as_udata bits))))))) ≡ []
unfolding text_named
constant-unsaid source true b c d f bits = refl
constant-unsaid source false true c d f bits = refl
constant-unsaid source false false true d f bits = refl
constant-unsaid source false false false true f bits = refl
constant-unsaid source false false false false true bits = refl
constant-unsaid source false false false false false bits = refl

module _ (s : Sections) (v : ReadUnit) (texts : List (List ℕ)) (p : Places) where
  -- a text is read at its offset
  abbrev Readable : ℕ → Type 0
  Readable n = text_in s.order (s.bytes Str) (p.text n) ≡ Ok (text_numbered texts n)

  value-read : (lists : ListPlaces) (value : AttributeValue) → All Readable (text_of_value value) → directory_named s v (Some (written_value DW_AT_comp_dir (written_of p lists value))) ≡ text_said_by texts value
  unfolding text_named text_elsewhere texts_of_unit
  value-read lists (Address a) readable = refl
  value-read lists (Constant form bits) readable = constant-unsaid (texts_of_unit s v.header) (form == DW_FORM_data1) (form == DW_FORM_data2) (form == DW_FORM_data4) (form == DW_FORM_data8) (form == DW_FORM_sdata) bits
  value-read lists (Flag b) readable = refl
  value-read lists (Block bytes) readable = refl
  value-read lists (Exprloc e) readable = refl
  value-read lists (StringRef id) readable = ap (λ x. text_or_empty (x >>= λ bytes. Ok (Some bytes))) (All-head Readable id.index [] readable)
  value-read lists LineProgramRef readable = refl
  value-read lists (RangeListRef list) readable = refl
  value-read lists (LocationListRef list) readable = refl
  value-read lists (UnitRef id) readable = refl
  value-read lists (DebugInfoRef (entry_of unit id)) readable = refl

  -- The compilation directory that is read among attributes is the one that was given.
  directory-read : (next : ListPlaces → List Attribute → ListPlaces) (lists : ListPlaces) (xs : List Attribute) → All Readable (texts_of_attributes xs) → directory_named s v (directory_found (given_values next p lists xs)) ≡ own_among texts xs
  directory-read next lists [] readable = refl
  directory-read next lists (x ∷ xs) readable =
      go (x.name == DW_AT_comp_dir) refl (directory-read next (next lists (x ∷ [])) xs (All-back Readable (text_of_value x.value) (texts_of_attributes xs) readable))
    where
      others : List (ℕ × Value)
      others = given_values next p (next lists (x ∷ [])) xs

      go : (b : Bool) → (x.name == DW_AT_comp_dir) ≡ b → directory_named s v (directory_found others) ≡ own_among texts xs
          → directory_named s v (option_map (λ (a : ℕ × Value). a.1) (cond b (Some (given_value p lists x)) (find (λ a. a.0 == DW_AT_comp_dir) others))) ≡ (if b then text_said_by texts x.value else own_among texts xs)
      go true e rest = ap (λ n. directory_named s v (Some (written_value n (written_of p lists x.value)))) (eqb-true _ _ e) ∙ value-read lists x.value (All-front Readable (text_of_value x.value) (texts_of_attributes xs) readable)
      go false e rest = rest

-- ---- directory 0 of a unit's table

module _ (s : Sections) (size : ℕ) (places : AllPlaces) (strings : s.bytes LineStr ≡ texts_ended places.names) where
  -- from the root's entry, by the address size of the line program
  root-own : (v : ReadUnit) (e : Entry) (l version : ℕ) (own : List ℕ) (g : GivenLines) (rest : List ℕ) (n : Option ℕ) → version ≡ 5 → root v ≡ Some e → line_offset (attribute DW_AT_stmt_list e) ≡ named_offset l (is_some n) → directory_of_root s v ≡ own
      → All (FitsTable s.order size) (lines_for version places.names own n g) → drop l (s.bytes Line) ≡ lines_bytes s.order size (lines_for version places.names own n g) ++ rest
      → NamesOwnDirectory s v
  root-own v e l version own g rest None is is_root names own_is fits bytes =
      let offset : option_and_then (λ (x : Entry). line_offset (attribute DW_AT_stmt_list x)) (root v) ≡ None = ap (option_and_then (λ (x : Entry). line_offset (attribute DW_AT_stmt_list x))) is_root ∙ names in
      subst (NamesDirectory s v) (sym offset) tt
  root-own v e l version own g rest (Some n) is is_root names own_is fits bytes =
      let t = (let t : WrittenTable = record { version = version; texts = places.names; own = own; directories = g.directories; files = g.files; sequences = g.sequences } in t) in
      let offset : option_and_then (λ (x : Entry). line_offset (attribute DW_AT_stmt_list x)) (root v) ≡ Some l = ap (option_and_then (λ (x : Entry). line_offset (attribute DW_AT_stmt_list x))) is_root ∙ names in
      let stands : drop l (s.bytes Line) ≡ one_table_bytes s.order size t ++ rest = bytes ∙ ap (λ xs. xs ++ rest) (append-nil (one_table_bytes s.order size t)) in
      let read = own-directory-read s size l t rest (text_base s v.header) v.header.address_size is (All-head (FitsTable s.order size) t [] fits) strings stands in
      subst (NamesDirectory s v) (sym offset) (read ∙ ap (λ name. Ok (record { directory = 0; name = name })) (sym own_is))

  -- texts are read where they stand
  abbrev ReadableThere : ℕ → Type 0
  ReadableThere n = text_in s.order (s.bytes Str) (offset_of_text places.texts n) ≡ Ok (text_numbered places.table n)

  unit-own : (place a : ℕ) (r : ListPlaces) (p : Places) (u : OrderedUnit) (rest : List ℕ) → u.version ≡ 5 → FitsOrdered u → names_lines u.entries ≡ is_some u.lines.address_size → All (Readable s (read_unit s.order size place (written_unit size r p a u)) places.table p) (texts_of_entries u.entries)
      → All (FitsTable s.order size) (table_of places u) → drop p.line (s.bytes Line) ≡ lines_bytes s.order size (table_of places u) ++ rest
      → NamesOwnDirectory s (read_unit s.order size place (written_unit size r p a u))
  unit-own place a r p u rest is fits named readable tables bytes = at-root u.entries refl fits.tree fits.entries named readable
    where
      first : ListPlaces
      first = lists_from u.version u.entries r

      here : List GivenEntry → ReadUnit
      here es = record { header = (read_unit s.order size place (written_unit size r p a u)).header; entries = read_entries s.order size (place + header_length u.version) (written_entries (behind_attributes u.version size) p first (shapes_in u) es) }

      at-root : (es : List GivenEntry) → u.entries ≡ es → IsTree es → All (FitsEntry u.address_size) es → names_lines es ≡ is_some u.lines.address_size → All (Readable s (read_unit s.order size place (written_unit size r p a u)) places.table p) (texts_of_entries es) → NamesOwnDirectory s (here es)
      at-root [] same tree all named readable = absurd tree
      at-root (e ∷ es) same tree all named readable =
          let v = here (e ∷ es) in
          let next = behind_attributes u.version size in
          let own = own_directory places.table u in
          let read = attributes-read next p first e.attributes in
          let names = ap (λ xs. line_offset (option_map (λ (x : ℕ × Value). x.1) (find (λ x. x.0 == DW_AT_stmt_list) xs))) read ∙ lines-named u.address_size next p first e.attributes (All-head (FitsEntry u.address_size) e es all).attributes ∙ ap (named_offset p.line) named in
          let own_is : directory_of_root s v ≡ own = ap (λ xs. directory_named s v (directory_found xs)) read ∙ directory-read s v places.table p next first e.attributes (All-front (Readable s v places.table p) (texts_of_attributes e.attributes) (texts_of_entries es) readable) ∙ own-first places.table u e es same in
          let lines = lines-are u.version places.names own u.lines in
          let B : List WrittenTable → Type 0 = λ ts. drop p.line (s.bytes Line) ≡ lines_bytes s.order size ts ++ rest in
          root-own v _ p.line u.version own u.lines rest u.lines.address_size is refl names own_is (subst (All (FitsTable s.order size)) lines tables) (subst B lines bytes)

  abbrev IsOf5 : ReadUnit → Type 0
  IsOf5 v = (v.header.unit_type ≡ DW_UT_compile) × NamesOwnDirectory s v

  units-own : (version place a l : ℕ) (r : ListPlaces) (us : List OrderedUnit) → All (λ u. u.version ≡ 5) us → All (IsWritable version size) us → All FitsOrdered us → All ReadableThere (texts_named us) → All (FitsTable s.order size) (written_tables places us)
      → drop l (s.bytes Line) ≡ lines_bytes s.order size (written_tables places us)
      → All IsOf5 (read_units s.order size place (written_units s.order size places a l r us))
  units-own version place a l r [] shared writable fits readable tables bytes = All-nil _
  units-own version place a l r (u ∷ us) shared writable fits readable tables bytes =
      let p = places_in places u.version (offsets_by_number s.order size u) l in
      let unit = written_unit size r p a u in
      let rest = lines_bytes s.order size (written_tables places us) in
      let grouped : drop l (s.bytes Line) ≡ lines_bytes s.order size (table_of places u) ++ rest = bytes ∙ flat_map-append (one_table_bytes s.order size) (table_of places u) (written_tables places us) in
      let own = unit-own place a r p u rest (All-head (λ (v : OrderedUnit). v.version ≡ 5) u us shared) (All-head FitsOrdered u us fits) (All-head (IsWritable version size) u us writable).named
      (All-front ReadableThere (texts_of_entries u.entries) (texts_named us) readable) (All-front (FitsTable s.order size) (table_of places u) (written_tables places us) tables) grouped in
      All-cons IsOf5 (read_unit s.order size place unit) _ (refl, own)
      (units-own version (place + length (placed_unit_bytes s.order size unit)) (a + length (table_bytes unit.table)) (l + length (lines_bytes s.order size (table_of places u))) (behind_unit s.order size r u) us
      (All-tail (λ (v : OrderedUnit). v.version ≡ 5) u us shared) (All-tail (IsWritable version size) u us writable) (All-tail FitsOrdered u us fits) (All-back ReadableThere (texts_of_entries u.entries) (texts_named us) readable)
      (All-back (FitsTable s.order size) (table_of places u) (written_tables places us) tables) (stands-behind l (s.bytes Line) (lines_bytes s.order size (table_of places u)) rest grouped))

-- ---- the sections

-- Given units of version 5 that are spelled within the size of sections are read as compile units that name their own directories.
pub of-version-5 : (order : Endian) (texts : List (List ℕ)) (us : List OrderedUnit) (version : ℕ) → AreWritable us → HaveTexts texts us → AreTexts texts → All FitsOrdered us → All (λ u. FitsLines u.lines) us → All (IsSound order) (spelled_sections order texts us)
    → All (λ u. u.version ≡ version) us → AreOfVersion5 version (output_sections order (spelled_sections order texts us)) (units (output_sections order (spelled_sections order texts us))).items
of-version-5 order texts us version writable known table fits lines sound shared = λ is.
    let size = size_of us in
    let places = all_places order texts us in
    let spelled = are-spelled order texts us writable table fits lines sound in
    let holds = spelled.holds in
    let s = output_sections order (spelled_sections order texts us) in
    let P : ℕ → List ℕ → Type 0 = λ n bytes. text_in order bytes (offset_of_text (text_places texts us) n) ≡ Ok (text_numbered texts n) in
    let readable : All (λ n. P n (s.bytes Str)) (texts_named us) =
    λ k d inside. subst (P _) (sym holds.strings_are) (text-read order texts us _ table.plain (known k d inside) (all-used (texts_named us) [] k d inside)) in
    let V : ℕ → Type 0 = λ n. All (λ (u : OrderedUnit). u.version ≡ n) us in
    let read = units-read-back order texts us spelled in
    rw (read) (units-own s size places holds.names_are (version_of us) 0 0 0 no_lists us (subst V is shared) writable fits readable spelled.tables_fit holds.line_is)
