-- Equal texts of the sections that are spelled of given units stand in one place: `texts-once`.
use Rattle.std.proofs.Common.{◌≡◌, ℕ, ◌+◌, ◌<◌, refl, sym, ap, subst, ◌∙◌, List, [], ◌∷◌, ◌++◌, length, map, Ok, Bool, true, false, Option, None, Some}
use Rattle.std.specs.Prelude.{◌==◌, ◌&&◌, if◌then◌else◌}
use Rattle.std.specs.Cmp.Derive.{both_true}
use Rattle.std.specs.List.{All, AllZip, cons_option, filter_map, flat_map, list_all}
use Rattle.std.specs.Int.{w64, cast_signed}
use Rattle.std.specs.Str.{bytes_eq}
use Rattle.std.proofs.lemmas.Bool.{eq-eqb}
use Rattle.std.proofs.lemmas.List.{map-append}
use Rattle.std.proofs.lemmas.List.Elements.{All-head, All-tail}
use Rattle.std.proofs.lemmas.Slice.Eq.{bytes_eq-Decides}
use Rattle.dwc_base.specs.declared.records.Endian.{Endian}
use Rattle.dwc_base.specs.declared.constants.TheConstants.{DW_AT_stmt_list, DW_FORM_data1, DW_FORM_data2, DW_FORM_data4, DW_FORM_data8, DW_FORM_sdata, DW_FORM_strp}
use Rattle.dwc_base.specs.declared.section_name.SectionName.TheVariants.{Line, Loc, Ranges, Str}
use Rattle.dwc_dwarf.specs.ReadUnits.{Unit as ReadUnit}
use Rattle.dwc_dwarf.specs.Entries.{Entry}
use Rattle.dwc_dwarf.specs.Indexed.{texts_of_unit}
use Rattle.dwc_base.specs.Outputs.{output_sections}
use Rattle.dwc_base.specs.Sections.{Sections}
use Rattle.dwc_dwarf.specs.Texts.{TextSource, text_elsewhere, text_in, text_named}
use Rattle.dwc_dwarf.specs.TreeLaws.{HasTextsOnce, TextPlace, all_share, place_if_read, share_place, text_place, text_places as read_text_places}
use Rattle.dwc_base.specs.Reading.{◌>>=◌}
use Rattle.dwc_dwarf.specs.Values.{Value, is_expression_name, is_location_name, is_range_name}
use Rattle.dwc_dwarf.specs.Values as Values
use Rattle.dwc_unit.specs.declared.lists.ListPlaces.{ListPlaces}
use Rattle.dwc_unit.specs.declared.attributes.Attribute.{Attribute}
use Rattle.dwc_unit.specs.declared.attributes.AttributeValue.{AttributeValue}
use Rattle.dwc_unit.specs.declared.attributes.AttributeValue.TheVariants.{Address, Constant, Flag, Block, Exprloc, StringRef, LineProgramRef, RangeListRef, LocationListRef, UnitRef, DebugInfoRef}
use Rattle.dwc_unit.specs.declared.attributes.DebugInfoRef.TheVariants.{Entry as entry_of}
use Rattle.dwc_unit.specs.SpelledUnits.{Written, as_addr, as_data1, as_data2, as_data4, as_data8, as_udata, as_sdata, as_flag, as_block, as_exprloc, as_strp, as_ref4, as_ref_addr, as_sec_offset, header_length, shaped, written_value}
use Rattle.dwc_unit.specs.SpelledTables.{table_bytes}
use Rattle.dwc_write.specs.SpelledSections.{lines_bytes, placed_unit_bytes, read_units}
use Rattle.dwc_write.specs.SpelledOutput.{all_places, spelled_sections, units_placed}
use Rattle.dwc_unit.specs.GivenLines.{FitsLines}
use Rattle.dwc_unit.specs.Lists.{behind_attributes, no_lists}
use Rattle.dwc_unit.specs.GivenUnits.{AreWritable, FitsOrdered, GivenEntry, OrderedUnit, Places, constant_of, shapes_in, size_of, written_of}
use Rattle.dwc_write.specs.Layouts.{AllPlaces, offset_of_text, behind_unit, offsets_by_number, places_in, written_unit, written_units, lists_from, table_of}
use Rattle.dwc_write.specs.ReadBack.{Contents, given_contents, given_values, read_contents}
use Rattle.dwc_unit.specs.TextTables.{AreTexts}
use Rattle.dwc_unit.specs.UsedTexts.{HaveTexts, text_numbered, text_of_value, text_places, texts_named, texts_of_attributes, texts_of_entries}
use Rattle.dwc_section.specs.Writers.{IsSound}
use Rattle.dwc_write.proofs.ReadBackLaws.{are-spelled, contents-given, places-contents, units-read-back}
use Rattle.dwc_write.proofs.ReadTexts.{all-used, text-read}
use Rattle.dwc_unit.proofs.ReadValues.{All-back, All-front}
use Rattle.dwc_write.proofs.SaidTexts.{number-same}

-- ---- values that name no text elsewhere

abbrev NamesNoText : Written → Type 0
NamesNoText (as_strp n) = ⊥
NamesNoText _ = Unit {0}

section-place : (source : TextSource) (name n : ℕ) → text_place source (Values.section_offset name n) ≡ None
section-place source name n = go (is_location_name name) (name == DW_AT_stmt_list) (is_range_name name)
  where
    go : (a b c : Bool) → text_place source (if a then Values.location_reference n else (if b then Values.line_reference n else (if c then Values.range_reference n else Values.dropped))) ≡ None
    go true b c = refl
    go false true c = refl
    go false false true = refl
    go false false false = refl

block-place : (source : TextSource) (name : ℕ) (bytes : List ℕ) → text_place source (Values.block_value name bytes) ≡ None
block-place source name bytes = go (is_expression_name name)
  where
    go : (a : Bool) → text_place source (if a then Values.expression bytes else Values.block bytes) ≡ None
    go true = refl
    go false = refl

no-place : (source : TextSource) (name : ℕ) (w : Written) → NamesNoText w → text_place source (written_value name w) ≡ None
no-place source name (as_addr a) none = refl
no-place source name (as_data1 n) none = refl
no-place source name (as_data2 n) none = refl
no-place source name (as_data4 n) none = refl
no-place source name (as_data8 n) none = refl
no-place source name (as_udata n) none = refl
no-place source name (as_sdata z) none = refl
no-place source name (as_flag b) none = refl
no-place source name (as_block bytes) none = block-place source name bytes
no-place source name (as_exprloc bytes) none = refl
no-place source name (as_strp n) none = absurd none
no-place source name (as_ref4 n) none = refl
no-place source name (as_ref_addr n) none = refl
no-place source name (as_sec_offset section n) none = section-place source name n

constant-none : (form bits : ℕ) → NamesNoText (constant_of form bits)
constant-none form bits = go (form == DW_FORM_data1) (form == DW_FORM_data2) (form == DW_FORM_data4) (form == DW_FORM_data8) (form == DW_FORM_sdata)
  where
    go : (a b c d s : Bool) → NamesNoText (if a then as_data1 bits else (if b then as_data2 bits else (if c then as_data4 bits else (if d then as_data8 bits else (if s then as_sdata (cast_signed w64 bits) else as_udata bits)))))
    go true b c d s = tt
    go false true c d s = tt
    go false false true d s = tt
    go false false false true s = tt
    go false false false false true = tt
    go false false false false false = tt

-- ---- the places of texts

-- where the text of a number is read: in `.debug_str`, at its offset
abbrev place_for : List (List ℕ) → List (Option ℕ) → ℕ → TextPlace
place_for texts offsets n = record { form = DW_FORM_strp; number = offset_of_text offsets n; bytes = text_numbered texts n }

module _ (texts : List (List ℕ)) (offsets : List (Option ℕ)) (source : TextSource) (p : Places) (placed : (n : ℕ) → p.text n ≡ offset_of_text offsets n) where
  -- a text is read at its offset
  abbrev Readable : ℕ → Type 0
  Readable n = text_in source.order source.strings (offset_of_text offsets n) ≡ Ok (text_numbered texts n)

  abbrev place_read : ℕ × Value → Option TextPlace
  place_read a = text_place source a.1

  value-place : (name : ℕ) (lists : ListPlaces) (v : AttributeValue) (rest : List TextPlace) → All Readable (text_of_value v) → cons_option (text_place source (written_value name (written_of p lists v))) rest ≡ map (place_for texts offsets) (text_of_value v) ++ rest
  unfolding text_named text_elsewhere
  value-place name lists (StringRef id) rest readable =
      ap (λ n. cons_option (text_place source (Values.text_reference DW_FORM_strp n)) rest) (placed id.index)
      ∙ ap (λ r. cons_option (place_if_read DW_FORM_strp (offset_of_text offsets id.index) (r >>= λ bytes. Ok (Some bytes))) rest) (All-head Readable id.index [] readable)
  value-place name lists (Address a) rest readable = ap (λ o. cons_option o rest) (no-place source name (as_addr a) tt)
  value-place name lists (Constant form bits) rest readable = ap (λ o. cons_option o rest) (no-place source name (constant_of form bits) (constant-none form bits))
  value-place name lists (Flag b) rest readable = ap (λ o. cons_option o rest) (no-place source name (as_flag b) tt)
  value-place name lists (Block bytes) rest readable = ap (λ o. cons_option o rest) (no-place source name (as_block bytes.items) tt)
  value-place name lists (Exprloc e) rest readable = ap (λ o. cons_option o rest) (no-place source name (as_exprloc e) tt)
  value-place name lists LineProgramRef rest readable = ap (λ o. cons_option o rest) (no-place source name (as_sec_offset Line p.line) tt)
  value-place name lists (RangeListRef list) rest readable = ap (λ o. cons_option o rest) (no-place source name (as_sec_offset Ranges lists.ranges) tt)
  value-place name lists (LocationListRef list) rest readable = ap (λ o. cons_option o rest) (no-place source name (as_sec_offset Loc lists.locations) tt)
  value-place name lists (UnitRef id) rest readable = ap (λ o. cons_option o rest) (no-place source name (as_ref4 (p.entry id.index)) tt)
  value-place name lists (DebugInfoRef (entry_of unit id)) rest readable = ap (λ o. cons_option o rest) (no-place source name (as_ref_addr (p.entry_of unit.index id.index)) tt)

  module _ (next : ListPlaces → List Attribute → ListPlaces) where
    attributes-placed : (lists : ListPlaces) (xs : List Attribute) → All Readable (texts_of_attributes xs) → filter_map place_read (given_values next p lists xs) ≡ map (place_for texts offsets) (texts_of_attributes xs)
    attributes-placed lists [] readable = refl
    attributes-placed lists (x ∷ xs) readable =
        let here = text_of_value x.value in
        let behind = texts_of_attributes xs in
        value-place x.name lists x.value (filter_map place_read (given_values next p (next lists (x ∷ [])) xs)) (All-front Readable here behind readable)
        ∙ ap (λ ps. map (place_for texts offsets) here ++ ps) (attributes-placed (next lists (x ∷ [])) xs (All-back Readable here behind readable))
        ∙ sym (map-append (place_for texts offsets) here behind)

    contents-placed : (lists : ListPlaces) (gs : List GivenEntry) → All Readable (texts_of_entries gs) → flat_map (λ c. filter_map place_read c.attributes) (given_contents next p lists gs) ≡ map (place_for texts offsets) (texts_of_entries gs)
    contents-placed lists [] readable = refl
    contents-placed lists (g ∷ gs) readable =
        let here = texts_of_attributes g.attributes in
        let behind = texts_of_entries gs in
        ap (λ ps. ps ++ flat_map (λ (c : Contents). filter_map place_read c.attributes) (given_contents next p (next lists g.attributes) gs)) (attributes-placed lists g.attributes (All-front Readable here behind readable))
        ∙ ap (λ ps. map (place_for texts offsets) here ++ ps) (contents-placed (next lists g.attributes) gs (All-back Readable here behind readable))
        ∙ sym (map-append (place_for texts offsets) here behind)

  by-contents : (es : List Entry) → flat_map (λ e. filter_map place_read e.attributes) es ≡ flat_map (λ c. filter_map place_read c.attributes) (map read_contents es)
  by-contents [] = refl
  by-contents (e ∷ es) = ap (λ ps. filter_map place_read e.attributes ++ ps) (by-contents es)

  entries-placed : (next : ListPlaces → List Attribute → ListPlaces) (lists : ListPlaces) (es : List Entry) (gs : List GivenEntry) → All Readable (texts_of_entries gs) → map read_contents es ≡ given_contents next p lists gs → flat_map (λ e. filter_map place_read e.attributes) es ≡ map (place_for texts offsets) (texts_of_entries gs)
  entries-placed next lists es gs readable same = by-contents es ∙ ap (flat_map (λ (c : Contents). filter_map place_read c.attributes)) same ∙ contents-placed next lists gs readable

-- ---- units

-- A unit is read with the texts that were given, at some offsets.
record IsReadWith (offsets : List (Option ℕ)) (u : OrderedUnit) (v : ReadUnit) : Type 0 where
  next : ListPlaces → List Attribute → ListPlaces
  lists : ListPlaces
  places : Places
  placed : (n : ℕ) → places.text n ≡ offset_of_text offsets n
  contents : map read_contents v.entries ≡ given_contents next places lists u.entries

read-with : (order : Endian) (size : ℕ) (all : AllPlaces) (place a l : ℕ) (r : ListPlaces) (us : List OrderedUnit) → AllZip (IsReadWith all.texts) us (read_units order size place (written_units order size all a l r us))
read-with order size all place a l r [] = tt
read-with order size all place a l r (u ∷ us) =
    let p = places_in all u.version (offsets_by_number order size u) l in
    let first = lists_from u.version u.entries r in
    let unit = written_unit size r p a u in (
      record { next = behind_attributes u.version size; lists = first; places = p; placed = λ n. refl; contents = places-contents order size (shaped unit.entries) (place + header_length u.version) ∙ contents-given (behind_attributes u.version size) p first (shapes_in u) u.entries },
      read-with order size all (place + length (placed_unit_bytes order size unit)) (a + length (table_bytes unit.table)) (l + length (lines_bytes order size (table_of all u))) (behind_unit order size r u) us,
    )

module _ (texts : List (List ℕ)) (offsets : List (Option ℕ)) (s : Sections) where
  abbrev ReadableThere : ℕ → Type 0
  ReadableThere n = text_in s.order (s.bytes Str) (offset_of_text offsets n) ≡ Ok (text_numbered texts n)

  unit-placed : (u : OrderedUnit) (v : ReadUnit) → All ReadableThere (texts_of_entries u.entries) → IsReadWith offsets u v → read_text_places s v ≡ map (place_for texts offsets) (texts_of_entries u.entries)
  unfolding texts_of_unit
  unit-placed u v readable read = entries-placed texts offsets (texts_of_unit s v.header) read.places read.placed read.next read.lists v.entries u.entries readable read.contents

  units-placed : (us : List OrderedUnit) (vs : List ReadUnit) → All ReadableThere (texts_named us) → AllZip (IsReadWith offsets) us vs → flat_map (read_text_places s) vs ≡ map (place_for texts offsets) (texts_named us)
  units-placed [] [] readable read = refl
  units-placed [] (v ∷ vs) readable read = absurd read
  units-placed (u ∷ us) [] readable read = absurd read
  units-placed (u ∷ us) (v ∷ vs) readable read =
      let here = texts_of_entries u.entries in
      let behind = texts_named us in
      ap (λ ps. ps ++ flat_map (read_text_places s) vs) (unit-placed u v (All-front ReadableThere here behind readable) read.0)
      ∙ ap (λ ps. map (place_for texts offsets) here ++ ps) (units-placed us vs (All-back ReadableThere here behind readable) read.1)
      ∙ sym (map-append (place_for texts offsets) here behind)

-- ---- equal texts

module _ (texts : List (List ℕ)) (table : AreTexts texts) (offsets : List (Option ℕ)) where
  -- the texts of two numbers stand in one place, if they are equal
  two-share : (n k : ℕ) → n < length texts → k < length texts → share_place (place_for texts offsets n) (place_for texts offsets k) ≡ true
  two-share n k here there = go (bytes_eq (text_numbered texts n) (text_numbered texts k)) refl
    where
      go : (b : Bool) → bytes_eq (text_numbered texts n) (text_numbered texts k) ≡ b → (if b then (DW_FORM_strp == DW_FORM_strp) && (offset_of_text offsets n == offset_of_text offsets k) else true) ≡ true
      go true e =
          let same = number-same texts table n k here there ((bytes_eq-Decides (text_numbered texts n) (text_numbered texts k)).0 e) in
          both_true (eq-eqb DW_FORM_strp DW_FORM_strp refl) (eq-eqb _ _ (ap (offset_of_text offsets) same))
      go false e = refl

  pass : (test : TextPlace → Bool) (ns : List ℕ) → All (λ n. test (place_for texts offsets n) ≡ true) ns → list_all test (map (place_for texts offsets) ns) ≡ true
  pass test [] all = refl
  pass test (n ∷ ns) all =
      let P : ℕ → Type 0 = λ m. test (place_for texts offsets m) ≡ true in
      both_true (All-head P n ns all) (pass test ns (All-tail P n ns all))

  numbers-share : (ns : List ℕ) → All (λ n. n < length texts) ns → all_share (map (place_for texts offsets) ns) ≡ true
  numbers-share ns known =
      pass (λ p. list_all (share_place p) (map (place_for texts offsets) ns)) ns
      (λ i d within. pass (share_place (place_for texts offsets _)) ns (λ j e low. two-share _ _ (known i d within) (known j e low)))

-- Equal texts of the sections that are spelled of given units stand in one place.
pub texts-once : (order : Endian) (texts : List (List ℕ)) (us : List OrderedUnit) → AreWritable us → HaveTexts texts us → AreTexts texts → All FitsOrdered us → All (λ u. FitsLines u.lines) us → All (IsSound order) (spelled_sections order texts us) → HasTextsOnce (output_sections order (spelled_sections order texts us))
texts-once order texts us writable known table fits lines sound =
    let size = size_of us in
    let places = all_places order texts us in
    let s = output_sections order (spelled_sections order texts us) in
    let spelled = are-spelled order texts us writable table fits lines sound in
    let P : ℕ → List ℕ → Type 0 = λ n bytes. text_in order bytes (offset_of_text (text_places texts us) n) ≡ Ok (text_numbered texts n) in
    let readable : All (λ n. P n (s.bytes Str)) (texts_named us) =
    λ k d within. subst (P _) (sym spelled.holds.strings_are) (text-read order texts us _ table.plain (known k d within) (all-used (texts_named us) [] k d within)) in
    let vs = read_units order size 0 (units_placed order places us) in
    let read = units-read-back order texts us spelled in
    let there = units-placed texts (text_places texts us) s us vs readable (read-with order size places 0 0 0 no_lists us) in
    ap (λ l. all_share (flat_map (read_text_places s) l.items)) read
    ∙ ap all_share there ∙ numbers-share texts table (text_places texts us) (texts_named us) known
