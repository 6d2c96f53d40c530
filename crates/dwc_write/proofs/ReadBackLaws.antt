-- The sections that are spelled of given units are read back as those units: `reads-back`.
use Rattle.std.proofs.Common.{◌≡◌, ℕ, zero, suc, ◌+◌, ◌^◌, ◌<◌, ◌≤◌, ◌⊎◌, inl, inr, refl, sym, ap, subst, ◌∙◌, arith, List, [], ◌∷◌, ◌++◌, append-nil, length, length-append, map, get_or, lit<, lit≤, Option, Some, None, Ok, Bool, true, false, cond, ltb, Vec, Global}
use Rattle.std.proofs.Math.Facts.{sfits_to_z}
use Rattle.std.proofs.lemmas.Int.{ints}
use Rattle.dwc_base.specs.Reading.{is_64_bit}
use Rattle.std.specs.Prelude.{ℤ, pos, ◌-ℤ◌, int_lt, int_le, FitsSigned, ◌==◌, if◌then◌else◌, is_some, option_map, option_and_then, slice_get, nat_lt}
use Rattle.std.specs.List.{All, AllZip, flat_map, find}
use Rattle.std.specs.Int.{w64, cast_signed}
use Rattle.std.proofs.lemmas.Bool.{eqb-true}
use Rattle.std.proofs.lemmas.List.Elements.{All-head, All-tail, All-cons, All-nil, All-append, All-weaker, All-map}
use Rattle.dwc_base.specs.declared.records.Endian.{Endian}
use Rattle.dwc_base.specs.declared.section_name.SectionName.{SectionName}
use Rattle.dwc_base.specs.declared.section_name.SectionName.TheVariants.{Abbrev, Info, Line, LineStr, Str}
use Rattle.dwc_base.specs.declared.constants.TheConstants.{DW_AT_stmt_list, DW_FORM_data1, DW_FORM_data2, DW_FORM_data4, DW_FORM_data8, DW_FORM_sdata}
use Rattle.dwc_base.specs.Abbreviations.{Declaration, declaration_of}
use Rattle.dwc_base.specs.Sections.{Sections}
use Rattle.dwc_dwarf.specs.Values.{Value}
use Rattle.dwc_dwarf.specs.Entries.{Entry, attribute}
use Rattle.dwc_dwarf.specs.ReadUnits.{Unit, units, root, line_offset, table_of_root, table_of_unit}
use Rattle.dwc_base.specs.Outputs.{OutputRelocation, OutputSection, output_sections}
use Rattle.dwc_base.specs.NumberBytes.{number_bytes, uleb_bytes}
use Rattle.dwc_section.specs.Spelled.{at_places}
use Rattle.dwc_unit.specs.SpelledTables.{FitsSpec, FitsDeclaration, AreNumbered, table_bytes}
use Rattle.dwc_unit.specs.SpelledUnits as spelled
use Rattle.dwc_unit.specs.SpelledUnits.{Written, as_addr, as_data1, as_data2, as_data4, as_data8, as_udata, as_sdata, form_number, FitsWritten, written_value, WrittenAttribute, spec_of, WrittenEntry, Shaped, next_depth, shaped, declaration_for, entry_bytes, entries_bytes, read_entry, read_entries, header_length, unit_body}
use Rattle.dwc_output.specs.FieldKinds.{section_of_locations, section_of_ranges}
use Rattle.dwc_output.specs.Versions.{is_old}
use Rattle.dwc_unit.specs.LineNames.{names_of_unit, own_directory}
use Rattle.dwc_unit.specs.TextTables.{AreTexts}
use Rattle.dwc_write.specs.PathTables.{path_table_body, path_table_bytes}
use Rattle.dwc_unit.specs.SpelledLines.{line_body, line_table_bytes, sequences_instructions}
use Rattle.dwc_write.specs.SpelledSections.{WrittenUnit, placed_unit_bytes, tables_bytes, info_bytes, read_unit, read_units, FitsUnit, AreTablesFrom, WrittenTable, one_table_bytes, lines_bytes, PlacedTable, placed_tables, read_table, FitsTable}
use Rattle.dwc_write.specs.SpelledRelocations.{info_relocations, lines_relocations}
use Rattle.dwc_unit.specs.declared.attributes.Attribute.{Attribute}
use Rattle.dwc_unit.specs.declared.attributes.AttributeValue.{AttributeValue}
use Rattle.dwc_unit.specs.declared.attributes.AttributeValue.TheVariants.{Address, Constant, Flag, Block, Exprloc, StringRef, LineProgramRef, RangeListRef, LocationListRef, UnitRef, DebugInfoRef}
use Rattle.dwc_unit.specs.declared.attributes.DebugInfoRef.TheVariants.{Entry as entry_of}
use Rattle.dwc_unit.specs.declared.attributes.AttributeForm.{AttributeForm}
use Rattle.dwc_unit.specs.GivenLines.{GivenLines, FitsLines, FitsSequences, FitsGivenSequence}
use Rattle.dwc_unit.specs.GivenUnits.{GivenEntry, OrderedUnit, Places, no_places, IsOfSize, written_of, FitsValue, FitsAttribute, FitsMemory, AreBelow, IsTree, FitsEntry, FitsOrdered, IsWrittenVersion, is_lines, names_lines_in, names_lines, IsWritable, size_of, version_of, AreShortUnits, AreWritable, EntryShape, form_of, forms_of, shape_of, shapes_of, same_shape, place_in, with_use, first_uses, code_in, spec_of_form, numbered, shapes_in, written_attribute, written_attributes, written_entries, behind_entries, lists_of_entries}
use Rattle.dwc_write.specs.Layouts.{AllPlaces, AreShort, offset_of_text, offsets_by_number, offset_in_section, places_in, unit_length, behind_unit, first_place, lists_from, table_of, written_unit, written_units, written_tables}
use Rattle.dwc_unit.specs.UsedTexts.{strings_bytes}
use Rattle.dwc_write.specs.SpelledOutput.{section_unless_empty, abbrev_bytes, all_info_bytes, all_lines_bytes, all_lists_bytes, all_lists_relocations, names_bytes, unit_lists_bytes, unit_lists_relocations, units_placed, all_places, spelled_sections}
use Rattle.dwc_write.specs.ReadBack.{Contents, read_contents, given_contents, given_value, given_values, ReadsLines, IsReadUnit, ReadsBack}
use Rattle.dwc_section.specs.Writers.{IsSound, most_bytes}
use Rattle.dwc_write.proofs.ShapeLaws.{same_shape-equal}
use Rattle.dwc_section.proofs.ReadNumbers.{number_bytes-length}
use Rattle.dwc_write.proofs.ReadTexts.{offset-bound}
use Rattle.dwc_write.proofs.ReadTables.{numbered-found}
use Rattle.dwc_write.proofs.LineRelocations.{lines-functions}
use Rattle.dwc_write.proofs.ReadRelocations.{info-functions}
use Rattle.dwc_unit.proofs.RowFields.{at_places-append}
use Rattle.dwc_unit.specs.declared.lists.ListPlaces.{ListPlaces}
use Rattle.dwc_unit.specs.Lists.{ListEntry, AreWithin, behind_attributes, behind_value, contribution_bytes, contribution_relocations, headed_bytes, held_length, list_bytes, listed_bytes, locations_in, no_lists, ranges_in}
use Rattle.dwc_write.proofs.ListsStand.{StandAlong, ranges-short, units-stand}
use Rattle.dwc_write.proofs.UnitTables.{names-there, segments-given}
use Rattle.dwc_write.proofs.TableFits.{AreNamesThere, lines-are, lines_for, table-fits, tables-texts}
use Rattle.dwc_write.proofs.ListPlaces.{entries-behind, headed-length, listed-length, places_behind, within-attributes, within-entries}
use Rattle.dwc_write.proofs.SectionsHold.{Holds, sections-hold}
use Rattle.dwc_unit.proofs.ReadValues.{All-back, All-front}
use Rattle.dwc_write.proofs.ReadLineTables.{IsReadAt, lines-read, table-says, unit-table-read}
use Rattle.dwc_write.proofs.ReadSections.{units-read}
use Rattle.dwc_unit.proofs.LineLaws.{field-address}
use Rattle.dwc_write.proofs.EntriesLaws.{code-there, next-first}
use Rattle.dwc_write.proofs.PlacedEntries.{placed-length, offset-within, places-short, info-length}

-- ---- values

-- a form does not hang on places
form-same : (p : Places) (lists : ListPlaces) (v : AttributeValue) → form_number (written_of p lists v) ≡ form_number (written_of no_places no_lists v)
form-same p lists (Address a) = refl
form-same p lists (Constant form bits) = refl
form-same p lists (Flag b) = refl
form-same p lists (Block bytes) = refl
form-same p lists (Exprloc e) = refl
form-same p lists (StringRef id) = refl
form-same p lists LineProgramRef = refl
form-same p lists (RangeListRef list) = refl
form-same p lists (LocationListRef list) = refl
form-same p lists (UnitRef id) = refl
form-same p lists (DebugInfoRef (entry_of unit id)) = refl

forms-same : (next : ListPlaces → List Attribute → ListPlaces) (p : Places) (lists : ListPlaces) (xs : List Attribute) → map spec_of (written_attributes next p lists xs) ≡ map spec_of_form (forms_of xs)
forms-same next p lists [] = refl
forms-same next p lists (x ∷ xs) = ap (λ (f : ℕ). record { name = x.name; form = f; implicit = pos 0 } ∷ map spec_of (written_attributes next p (next lists (x ∷ [])) xs)) (form-same p lists x.value) ∙ ap (λ ys. spec_of_form (form_of x) ∷ ys) (forms-same next p (next lists (x ∷ [])) xs)

signed-64 : (z : ℤ) → FitsSigned w64 z → is_64_bit z ≡ true
signed-64 z fits =
    let above : int_lt z (pos 0 -ℤ pos (2 ^ 63)) ≡ false = grind (arith, ints) in
    let below : int_le (pos (2 ^ 63)) z ≡ false = grind (arith, ints) in
    rw (above, below) refl

signed-fits : (size bits : ℕ) → bits < 2 ^ 64 → FitsWritten size (as_sdata (cast_signed w64 bits))
signed-fits size bits small = signed-64 (cast_signed w64 bits) (sfits_to_z (record { fits = small }))

constant-fits : (size : ℕ) (a b c d f : Bool) (bits : ℕ) → bits < (if a then 256 ^ 1 else (if b then 256 ^ 2 else (if c then 256 ^ 4 else 2 ^ 64)))
    → FitsWritten size (if a then as_data1 bits else (if b then as_data2 bits else (if c then as_data4 bits else (if d then as_data8 bits else (if f then as_sdata (cast_signed w64 bits) else as_udata bits)))))
constant-fits size true b c d f bits small = small
constant-fits size false true c d f bits small = small
constant-fits size false false true d f bits small = small
constant-fits size false false false true f bits small = omega (arith, small)
constant-fits size false false false false true bits small = signed-fits size bits small
constant-fits size false false false false false bits small = small

-- What a `Vec` holds is shorter than 2^64, so a block's length can be read.
pub vec-short : (bytes : Vec ℕ Global) → length bytes.items < 2 ^ 64
vec-short bytes = let long = bytes.ok.0 in let room = bytes.ok.1 in let small = bytes.small in omega (arith, long, room, small)

value-fits : (size : ℕ) (p : Places) (lists : ListPlaces) (a : Attribute) → AreShort p → AreWithin lists → FitsAttribute size a → FitsWritten size (written_of p lists a.value)
value-fits size p lists a near short_list fits = go a.value fits.value fits.held
  where
    go : (v : AttributeValue) → FitsValue size a.name v → FitsMemory v → FitsWritten size (written_of p lists v)
    go (Address x) h held = field-address size x h
    go (Constant form bits) h held = constant-fits size (form == DW_FORM_data1) (form == DW_FORM_data2) (form == DW_FORM_data4) (form == DW_FORM_data8) (form == DW_FORM_sdata) bits h.1
    go (Flag b) h held = tt
    go (Block bytes) h held = vec-short bytes
    go (Exprloc e) h held = held
    go (StringRef id) h held = let short = near.text id.index in omega (arith, short)
    go LineProgramRef h held = let short = near.line in omega (arith, short)
    go (RangeListRef list) h held = let short = short_list.ranges in omega (arith, short)
    go (LocationListRef list) h held = let short = short_list.locations in omega (arith, short)
    go (UnitRef id) h held = let short = near.entry id.index in omega (arith, short)
    go (DebugInfoRef (entry_of unit id)) h held = let short = near.entry_of unit.index id.index in omega (arith, short)

values-fit : (version size : ℕ) (p : Places) (lists : ListPlaces) (xs : List Attribute) → AreShort p → AreWithin (behind_attributes version size lists xs) → All (FitsAttribute size) xs → All (λ a. FitsWritten size a.value) (written_attributes (behind_attributes version size) p lists xs)
values-fit version size p lists [] near short fits = All-nil _
values-fit version size p lists (x ∷ xs) near short fits =
    All-cons (λ (a : WrittenAttribute). FitsWritten size a.value) (written_attribute p lists x) (written_attributes (behind_attributes version size) p (behind_value version size lists x.value) xs)
    (value-fits size p lists x near (within-attributes version size lists (x ∷ xs) short) (All-head (FitsAttribute size) x xs fits)) (values-fit version size p (behind_value version size lists x.value) xs near short (All-tail (FitsAttribute size) x xs fits))

-- ---- codes

-- at a shape's place stands the shape
place-found : (s d : EntryShape) (known : List EntryShape) → place_in s known < length known → get_or known (place_in s known) d ≡ s
place-found s d [] within = absurd (omega arith)
place-found s d (t ∷ ts) within = go (same_shape t s) refl within (place-found s d ts)
  where
    go : (b : Bool) → same_shape t s ≡ b → (if b then 0 else suc (place_in s ts)) < suc (length ts) → (place_in s ts < length ts → get_or ts (place_in s ts) d ≡ s) → get_or (t ∷ ts) (if b then 0 else suc (place_in s ts)) d ≡ s
    go true e h others = same_shape-equal t s e
    go false e h others = others (omega (arith, h))

numbered-numbers : (code : ℕ) (ss : List EntryShape) → AreNumbered code (numbered code ss)
numbered-numbers code [] = tt
numbered-numbers code (s ∷ ss) = (refl, numbered-numbers (suc code) ss)

numbered-length : (code : ℕ) (ss : List EntryShape) → length (numbered code ss) ≡ length ss
numbered-length code [] = refl
numbered-length code (s ∷ ss) = ap suc (numbered-length (suc code) ss)

-- a declaration with a code
abbrev declared : ℕ → EntryShape → Declaration
declared code s = record { code = code; tag = s.tag; has_children = s.has_children; attributes = map spec_of_form s.attributes }

numbered-at : (code : ℕ) (ss : List EntryShape) (k : ℕ) (d : EntryShape) (e : Declaration) → k < length ss → get_or (numbered code ss) k e ≡ declared (code + k) (get_or ss k d)
numbered-at code [] k d e within = absurd (omega arith)
numbered-at code (s ∷ ss) zero d e within = ap (λ n. declared n s) (omega arith)
numbered-at code (s ∷ ss) (suc k) d e within = numbered-at (suc code) ss k d e (omega arith) ∙ ap (λ n. declared n (get_or ss k d)) (omega arith)

code-declared : (s : EntryShape) (shapes : List EntryShape) → place_in s shapes < length shapes → declaration_of (code_in shapes s) (numbered 1 shapes) ≡ Some (declared (code_in shapes s) s)
code-declared s shapes within =
    let k = place_in s shapes in
    let found = numbered-found 1 (numbered 1 shapes) k (declared 0 s) (numbered-numbers 1 shapes) (omega (arith, within, numbered-length 1 shapes)) in
    let code : 1 + k ≡ code_in shapes s = omega arith in
    ap (λ c. declaration_of c (numbered 1 shapes)) (sym code) ∙ found ∙ ap Some (numbered-at 1 shapes k s (declared 0 s) within ∙ ap (λ t. declared (1 + k) t) (place-found s s shapes within) ∙ ap (λ c. declared c s) code)

-- ---- entries

entries-fit : (version size : ℕ) (p : Places) (lists : ListPlaces) (known uses : List EntryShape) (es : List GivenEntry) → AreShort p → AreWithin (behind_entries version size lists es) → length uses < 2 ^ 64 → first_uses known (shapes_of es) ≡ uses → All (FitsEntry size) es
    → All (spelled.FitsEntry (numbered 1 uses) size) (shaped (written_entries (behind_attributes version size) p lists uses es))
entries-fit version size p lists known uses [] near short few used fits = All-nil _
entries-fit version size p lists known uses (e ∷ es) near short few used fits =
    let s = shape_of e es in
    let next = behind_attributes version size lists e.attributes in
    let there : place_in s uses < length uses = rw (used) at (code-there s known (shapes_of es)) in
    let found = code-declared s uses there in
    let others = entries-fit version size p next (with_use s known) uses es near short few used (All-tail (FitsEntry size) e es fits) in
    let here = All-head (FitsEntry size) e es fits in
    let rest = written_entries (behind_attributes version size) p next uses es in
    All-cons (spelled.FitsEntry (numbered 1 uses) size) _ (shaped rest)
    (record {
      some = omega arith;
      code = omega (arith, there, few);
      declared = found ∙ ap Some (ap (λ d. record { code = code_in uses s; tag = e.tag; has_children = nat_lt e.depth d; attributes = map spec_of_form (forms_of e.attributes) }) (sym (next-first (behind_attributes version size) p next uses es)) ∙ ap (λ xs. record { code = code_in uses s; tag = e.tag; has_children = nat_lt e.depth (next_depth rest); attributes = xs }) (sym (forms-same (behind_attributes version size) p lists e.attributes)));
      values = values-fit version size p lists e.attributes near (within-entries version size next es short) here.attributes;
    })
    others

below-written : (next : ListPlaces → List Attribute → ListPlaces) (p : Places) (lists : ListPlaces) (depth : ℕ) (uses : List EntryShape) (es : List GivenEntry) → AreBelow depth es → spelled.AreBelow depth (written_entries next p lists uses es)
below-written next p lists depth uses [] below = tt
below-written next p lists depth uses (e ∷ es) below = (below.0, below.1, below-written next p (next lists e.attributes) e.depth uses es below.2)

tree-written : (next : ListPlaces → List Attribute → ListPlaces) (p : Places) (lists : ListPlaces) (uses : List EntryShape) (es : List GivenEntry) → IsTree es → spelled.IsTree (written_entries next p lists uses es)
tree-written next p lists uses [] tree = absurd tree
tree-written next p lists uses (e ∷ es) tree = (tree.0, below-written next p (next lists e.attributes) 0 uses es tree.1)

-- ---- declarations

use-length : (s : EntryShape) (known : List EntryShape) → length (with_use s known) ≤ suc (length known)
use-length s known = go (ltb (place_in s known) (length known))
  where
    go : (b : Bool) → length (if b then known else known ++ s ∷ []) ≤ suc (length known)
    go true = omega arith
    go false = omega (arith, length-append known (s ∷ []))

pub uses-length : (known : List EntryShape) (es : List GivenEntry) → length (first_uses known (shapes_of es)) ≤ length known + length es
uses-length known [] = omega arith
uses-length known (e ∷ es) = omega (arith, uses-length (with_use (shape_of e es) known) es, use-length (shape_of e es) known)

-- a shape that can be declared
pub record FitsShape (s : EntryShape) : Type 0 where
  pub tag : s.tag ≤ 65535
  pub attributes : All (λ f. FitsSpec (spec_of_form f)) s.attributes

constant-small : (a b c d f : Bool) (bits : ℕ) → form_number (if a then as_data1 bits else (if b then as_data2 bits else (if c then as_data4 bits else (if d then as_data8 bits else (if f then as_sdata (cast_signed w64 bits) else as_udata bits))))) < 2 ^ 64
constant-small true b c d f bits = lit< tt
constant-small false true c d f bits = lit< tt
constant-small false false true d f bits = lit< tt
constant-small false false false true f bits = lit< tt
constant-small false false false false true bits = lit< tt
constant-small false false false false false bits = lit< tt

form-small : (v : AttributeValue) → form_number (written_of no_places no_lists v) < 2 ^ 64
form-small (Address a) = lit< tt
form-small (Constant form bits) = constant-small (form == DW_FORM_data1) (form == DW_FORM_data2) (form == DW_FORM_data4) (form == DW_FORM_data8) (form == DW_FORM_sdata) bits
form-small (Flag b) = lit< tt
form-small (Block bytes) = lit< tt
form-small (Exprloc e) = lit< tt
form-small (StringRef id) = lit< tt
form-small LineProgramRef = lit< tt
form-small (RangeListRef list) = lit< tt
form-small (LocationListRef list) = lit< tt
form-small (UnitRef id) = lit< tt
form-small (DebugInfoRef (entry_of unit id)) = lit< tt

constant-some : (a b c d f : Bool) (bits : ℕ) → 0 < form_number (if a then as_data1 bits else (if b then as_data2 bits else (if c then as_data4 bits else (if d then as_data8 bits else (if f then as_sdata (cast_signed w64 bits) else as_udata bits)))))
constant-some true b c d f bits = lit< tt
constant-some false true c d f bits = lit< tt
constant-some false false true d f bits = lit< tt
constant-some false false false true f bits = lit< tt
constant-some false false false false true bits = lit< tt
constant-some false false false false false bits = lit< tt

form-some : (v : AttributeValue) → 0 < form_number (written_of no_places no_lists v)
form-some (Address a) = lit< tt
form-some (Constant form bits) = constant-some (form == DW_FORM_data1) (form == DW_FORM_data2) (form == DW_FORM_data4) (form == DW_FORM_data8) (form == DW_FORM_sdata) bits
form-some (Flag b) = lit< tt
form-some (Block bytes) = lit< tt
form-some (Exprloc e) = lit< tt
form-some (StringRef id) = lit< tt
form-some LineProgramRef = lit< tt
form-some (RangeListRef list) = lit< tt
form-some (LocationListRef list) = lit< tt
form-some (UnitRef id) = lit< tt
form-some (DebugInfoRef (entry_of unit id)) = lit< tt

forms-fit : (size : ℕ) (xs : List Attribute) → All (FitsAttribute size) xs → All (λ f. FitsSpec (spec_of_form f)) (forms_of xs)
forms-fit size [] fits = All-nil _
forms-fit size (x ∷ xs) fits =
    let here = All-head (FitsAttribute size) x xs fits in
    All-cons (λ (f : AttributeForm). FitsSpec (spec_of_form f)) (form_of x) (forms_of xs) (record { name = here.name; some = form-some x.value; form = form-small x.value; implicit = refl; plain = λ e. refl })
    (forms-fit size xs (All-tail (FitsAttribute size) x xs fits))

use-fits : (s : EntryShape) (known : List EntryShape) → FitsShape s → All FitsShape known → All FitsShape (with_use s known)
use-fits s known fits all = go (ltb (place_in s known) (length known))
  where
    go : (b : Bool) → All FitsShape (if b then known else known ++ s ∷ [])
    go true = all
    go false = All-append FitsShape known (s ∷ []) all (All-cons FitsShape s [] fits (All-nil FitsShape))

pub uses-fit : (size : ℕ) (known : List EntryShape) (es : List GivenEntry) → All (FitsEntry size) es → All FitsShape known → All FitsShape (first_uses known (shapes_of es))
uses-fit size known [] fits all = all
uses-fit size known (e ∷ es) fits all =
    let here = All-head (FitsEntry size) e es fits in
    uses-fit size (with_use (shape_of e es) known) es (All-tail (FitsEntry size) e es fits) (use-fits (shape_of e es) known (record { tag = here.tag; attributes = forms-fit size e.attributes here.attributes }) all)

numbered-fit : (code : ℕ) (ss : List EntryShape) → 0 < code → code + length ss ≤ 2 ^ 64 → All FitsShape ss → All FitsDeclaration (numbered code ss)
numbered-fit code [] some small fits = All-nil _
numbered-fit code (s ∷ ss) some small fits =
    let here = All-head FitsShape s ss fits in
    All-cons FitsDeclaration (declared code s) (numbered (suc code) ss)
    (record { some = some; code = omega (arith, small); tag = here.tag; attributes = All-map FitsSpec spec_of_form s.attributes here.attributes })
    (numbered-fit (suc code) ss (omega arith) (omega (arith, small)) (All-tail FitsShape s ss fits))

-- ---- all units

pub lengths-both : {A : Type 0} (f : A → List ℕ) (xs ys : List A) → length (flat_map f (xs ++ ys)) ≡ length (flat_map f xs) + length (flat_map f ys)
lengths-both f [] ys = omega arith
lengths-both f (x ∷ xs) ys = omega (arith, lengths-both f xs ys, length-append (f x) (flat_map f (xs ++ ys)), length-append (f x) (flat_map f xs))

body-shorter : (order : Endian) (size : ℕ) (u : WrittenUnit) → length (unit_body u.version order size u.table_offset u.entries) ≤ length (placed_unit_bytes order size u)
body-shorter order size u =
    let body = unit_body u.version order size u.table_offset u.entries in
    omega (arith, length-append (number_bytes order 4 (length body)) body)

-- the first lists of a unit stand within their sections, and so do those behind them
first-within : (order : Endian) (size : ℕ) (version place : ℕ) (es : List ListEntry) → place + length (contribution_bytes version order size es) ≤ most_bytes → first_place version es place + length (list_bytes version order size es) ≤ most_bytes
first-within order size version place [] short = omega (arith, short)
first-within order size version place (e ∷ es) short = go (is_old version) short
  where
    go : (b : Bool) → place + length (if b then list_bytes version order size (e ∷ es) else headed_bytes version order size (e ∷ es)) ≤ most_bytes → (place + (if b then 0 else 12)) + length (list_bytes version order size (e ∷ es)) ≤ most_bytes
    go true short = omega (arith, short)
    go false short = omega (arith, short, headed-length version order size e es)

-- where the lists of units end
abbrev pub lists_behind : Endian → ℕ → ListPlaces → List OrderedUnit → ListPlaces
lists_behind order size r us = record { ranges = r.ranges + length (flat_map (unit_lists_bytes ranges_in order size) us); locations = r.locations + length (flat_map (unit_lists_bytes locations_in order size) us) }

pub units-fit : (order : Endian) (size a l : ℕ) (r : ListPlaces) (units : AllPlaces) (us : List OrderedUnit) → All (λ u. u.address_size ≡ size) us → All FitsOrdered us → ((unit id : ℕ) → offset_in_section units.units unit id ≤ most_bytes) → ((id : ℕ) → offset_of_text units.texts id ≤ most_bytes)
    → a + length (tables_bytes (written_units order size units a l r us)) ≤ most_bytes → l + length (lines_bytes order size (written_tables units us)) ≤ most_bytes → AreWithin (lists_behind order size r us) → length (info_bytes order size (written_units order size units a l r us)) ≤ most_bytes
    → All (FitsUnit order size) (written_units order size units a l r us)
units-fit order size a l r units [] sized fits near texts tables lines lists info = All-nil _
units-fit order size a l r units (u ∷ us) sized fits near texts tables lines lists info =
    let here = All-head FitsOrdered u us fits in
    let same : u.address_size ≡ size = All-head (λ (v : OrderedUnit). v.address_size ≡ size) u us sized in
    let P : ℕ → Type 0 = λ n. All (FitsEntry n) u.entries in
    let entries : All (FitsEntry size) u.entries = subst P same here.entries in
    let p = places_in units u.version (offsets_by_number order size u) l in
    let unit = written_unit size r p a u in
    let first = lists_from u.version u.entries r in
    let few = here.few in
    let rest = written_units order size units (a + length (table_bytes unit.table)) (l + length (lines_bytes order size (table_of units u))) (behind_unit order size r u) us in
    let ranges = length-append (unit_lists_bytes ranges_in order size u) (flat_map (unit_lists_bytes ranges_in order size) us) in
    let locations = length-append (unit_lists_bytes locations_in order size u) (flat_map (unit_lists_bytes locations_in order size) us) in
    let ranges_short = lists.ranges in
    let locations_short = lists.locations in
    let own : AreWithin (places_behind u.version order size first (lists_of_entries ranges_in u.entries) (lists_of_entries locations_in u.entries)) = record {
      ranges = first-within order size u.version r.ranges (lists_of_entries ranges_in u.entries) (omega (arith, ranges_short, ranges));
      locations = first-within order size u.version r.locations (lists_of_entries locations_in u.entries) (omega (arith, locations_short, locations));
    } in
    let behind : AreWithin (lists_behind order size (behind_unit order size r u) us) = record { ranges = omega (arith, ranges_short, ranges); locations = omega (arith, locations_short, locations) } in
    let long = uses-length [] u.entries in
    let whole = length-append (placed_unit_bytes order size unit) (info_bytes order size rest) in
    let length_of : length (placed_unit_bytes order size unit) ≡ unit_length order size u = placed-length order size r p a u in
    let short : AreShort p = record { line = omega (arith, lines); entry = λ id. omega (arith, offset-within order size u id, length_of, whole, info); entry_of = near; text = texts } in
    All-cons (FitsUnit order size) unit rest
    (record {
      version = here.version;
      offset = omega (arith, tables);
      short = omega (arith, info, body-shorter order size unit, whole);
      table = numbered-fit 1 (shapes_in u) (lit< tt) (omega (arith, long, few)) (uses-fit size [] u.entries entries (All-nil FitsShape));
      entries = entries-fit u.version size p first [] (shapes_in u) u.entries short (subst AreWithin (sym (entries-behind u.version order size first u.entries)) own) (omega (arith, long, few)) refl entries;
      tree = tree-written (behind_attributes u.version size) p first (shapes_in u) u.entries here.tree;
    })
    (units-fit order size (a + length (table_bytes unit.table)) (l + length (lines_bytes order size (table_of units u))) (behind_unit order size r u) units us (All-tail (λ (v : OrderedUnit). v.address_size ≡ size) u us sized) (All-tail FitsOrdered u us fits) near texts
    (omega (arith, tables, length-append (table_bytes unit.table) (tables_bytes rest))) (omega (arith, lines, lengths-both (one_table_bytes order size) (table_of units u) (written_tables units us))) behind (omega (arith, info, whole)))

pub tables-from : (order : Endian) (size : ℕ) (units : AllPlaces) (us : List OrderedUnit) (a l : ℕ) (r : ListPlaces) → AreTablesFrom a (written_units order size units a l r us)
tables-from order size units [] a l r = tt
tables-from order size units (u ∷ us) a l r = (refl, tables-from order size units us (a + length (table_bytes (numbered 1 (shapes_in u)))) (l + length (lines_bytes order size (table_of units u))) (behind_unit order size r u))

-- ---- all line tables

pub tables-fit : (order : Endian) (size : ℕ) (places : AllPlaces) (us : List OrderedUnit) → (size ≡ 4) ⊎ (size ≡ 8) → All (λ u. u.address_size ≡ size) us → All FitsOrdered us → All (λ u. FitsLines u.lines) us
    → All (λ u. AreNamesThere u.version places.names (names_of_unit places.table u)) us → length (lines_bytes order size (written_tables places us)) ≤ most_bytes → All (FitsTable order size) (written_tables places us)
tables-fit order size places [] known sized fits lines names short = All-nil _
tables-fit order size places (u ∷ us) known sized fits lines names short =
    let same : u.address_size ≡ size = All-head (λ (v : OrderedUnit). v.address_size ≡ size) u us sized in
    let unit = All-head FitsOrdered u us fits in
    let total = lengths-both (one_table_bytes order size) (table_of places u) (written_tables places us) in
    let N : OrderedUnit → Type 0 = λ v. AreNamesThere v.version places.names (names_of_unit places.table v) in
    let others = tables-fit order size places us known (All-tail (λ (v : OrderedUnit). v.address_size ≡ size) u us sized) (All-tail FitsOrdered u us fits) (All-tail (λ (v : OrderedUnit). FitsLines v.lines) u us lines) (All-tail N u us names) (omega (arith, short, total)) in
    All-append (FitsTable order size) (table_of places u) (written_tables places us)
    (table-fits order size u.version places.names (own_directory places.table u) u.lines known unit.version (All-head (λ (v : OrderedUnit). FitsLines v.lines) u us lines) (subst (λ n. IsOfSize n u.lines.address_size) same unit.lines) (All-head N u us names) (omega (arith, short, total))) others

-- ---- what is read of each unit

pub attributes-read : (next : ListPlaces → List Attribute → ListPlaces) (p : Places) (lists : ListPlaces) (xs : List Attribute) → map (λ (a : WrittenAttribute). (a.name, written_value a.name a.value)) (written_attributes next p lists xs) ≡ given_values next p lists xs
attributes-read next p lists [] = refl
attributes-read next p lists (x ∷ xs) = ap (λ ys. given_value p lists x ∷ ys) (attributes-read next p (next lists (x ∷ [])) xs)

abbrev pub shaped_contents : Shaped → Contents
shaped_contents x = record { depth = x.entry.depth; tag = x.entry.tag; attributes = map (λ (a : WrittenAttribute). (a.name, written_value a.name a.value)) x.entry.attributes }

pub places-contents : (order : Endian) (size : ℕ) (xs : List Shaped) (place : ℕ) → map read_contents (at_places (entry_bytes order size) (λ p x. read_entry p x ∷ []) place xs) ≡ map shaped_contents xs
places-contents order size [] place = refl
places-contents order size (x ∷ xs) place = ap (λ ys. shaped_contents x ∷ ys) (places-contents order size xs (place + length (entry_bytes order size x)))

pub contents-given : (next : ListPlaces → List Attribute → ListPlaces) (p : Places) (lists : ListPlaces) (uses : List EntryShape) (es : List GivenEntry) → map shaped_contents (shaped (written_entries next p lists uses es)) ≡ given_contents next p lists es
contents-given next p lists uses [] = refl
contents-given next p lists uses (e ∷ es) =
    ap (λ xs. record { depth = e.depth; tag = e.tag; attributes = xs } ∷ map shaped_contents (shaped (written_entries next p (next lists e.attributes) uses es))) (attributes-read next p lists e.attributes)
    ∙ ap (λ ys. record { depth = e.depth; tag = e.tag; attributes = given_values next p lists e.attributes } ∷ ys) (contents-given next p (next lists e.attributes) uses es)

-- whether the root names the line table
abbrev pub named_offset : ℕ → Bool → Option ℕ
named_offset l true = Some l
named_offset l false = None

constant-unnamed : (name : ℕ) (a b c d f : Bool) (bits : ℕ) → line_offset (Some (written_value name (if a then as_data1 bits else (if b then as_data2 bits else (if c then as_data4 bits else (if d then as_data8 bits else (if f then as_sdata (cast_signed w64 bits) else as_udata bits))))))) ≡ None
constant-unnamed name true b c d f bits = refl
constant-unnamed name false true c d f bits = refl
constant-unnamed name false false true d f bits = refl
constant-unnamed name false false false true f bits = refl
constant-unnamed name false false false false true bits = refl
constant-unnamed name false false false false false bits = refl

value-named : (size : ℕ) (p : Places) (lists : ListPlaces) (v : AttributeValue) → FitsValue size DW_AT_stmt_list v → line_offset (Some (written_value DW_AT_stmt_list (written_of p lists v))) ≡ named_offset p.line (is_lines v)
value-named size p lists (Address a) fits = refl
value-named size p lists (Constant form bits) fits = constant-unnamed DW_AT_stmt_list (form == DW_FORM_data1) (form == DW_FORM_data2) (form == DW_FORM_data4) (form == DW_FORM_data8) (form == DW_FORM_sdata) bits
value-named size p lists (Flag b) fits = refl
value-named size p lists (Block bytes) fits = refl
value-named size p lists (Exprloc e) fits = refl
value-named size p lists (StringRef id) fits = refl
value-named size p lists LineProgramRef fits = refl
value-named size p lists (RangeListRef list) fits = absurd (cc)
value-named size p lists (LocationListRef list) fits = absurd (cc)
value-named size p lists (UnitRef id) fits = refl
value-named size p lists (DebugInfoRef (entry_of unit id)) fits = refl

abbrev pub found_in : List (ℕ × Value) → Option Value
found_in xs = option_map (λ a. a.1) (find (λ a. a.0 == DW_AT_stmt_list) xs)

pub lines-named : (size : ℕ) (next : ListPlaces → List Attribute → ListPlaces) (p : Places) (lists : ListPlaces) (xs : List Attribute) → All (FitsAttribute size) xs → line_offset (found_in (given_values next p lists xs)) ≡ named_offset p.line (names_lines_in xs)
lines-named size next p lists [] fits = refl
lines-named size next p lists (x ∷ xs) fits = go (x.name == DW_AT_stmt_list) refl (lines-named size next p (next lists (x ∷ [])) xs (All-tail (FitsAttribute size) x xs fits))
  where
    go : (b : Bool) → (x.name == DW_AT_stmt_list) ≡ b → line_offset (found_in (given_values next p (next lists (x ∷ [])) xs)) ≡ named_offset p.line (names_lines_in xs)
        → line_offset (option_map (λ (a : ℕ × Value). a.1) (cond b (Some (given_value p lists x)) (find (λ a. a.0 == DW_AT_stmt_list) (given_values next p (next lists (x ∷ [])) xs)))) ≡ named_offset p.line (if b then is_lines x.value else names_lines_in xs)
    go true e others =
        let name : x.name ≡ DW_AT_stmt_list = eqb-true _ _ e in
        let P : ℕ → Type 0 = λ n. FitsValue size n x.value in
        ap (λ n. line_offset (Some (written_value n (written_of p lists x.value)))) name ∙ value-named size p lists x.value (subst P name (All-head (FitsAttribute size) x xs fits).value)
    go false e others = others

module _ (s : Sections) (size : ℕ) (places : AllPlaces) where
  -- a unit whose root names no line table
  table-without : (v : Unit) (e : Entry) → root v ≡ Some e → line_offset (attribute DW_AT_stmt_list e) ≡ None → table_of_unit s v ≡ Ok None
  unfolding table_of_unit
  table-without v e is_root none =
      let table : table_of_root s v (Some e) ≡ Ok None = rw (table_of_root, none) refl in
      rw (table_of_unit, is_root, table) refl

  -- the lines of a unit, from its root's entry
  root-lines : (v : Unit) (e : Entry) (l : ℕ) (own : List ℕ) (g : GivenLines) (rest : List WrittenTable) (n : Option ℕ) → v.header.address_size ≡ size → root v ≡ Some e → line_offset (attribute DW_AT_stmt_list e) ≡ named_offset l (is_some n)
      → FitsSequences n g.sequences g.begun → All (FitsTable s.order size) (lines_for v.header.version places.names own n g) → All (IsReadAt s size) (placed_tables s.order size l (lines_for v.header.version places.names own n g ++ rest))
      → ReadsLines s v g n
  root-lines v e l own g rest None sized is_root names sequences fits read = table-without v e is_root names
  root-lines v e l own g rest (Some n) sized is_root names sequences fits read =
      let t = (let t : WrittenTable = record { version = v.header.version; texts = places.names; own = own; directories = g.directories; files = g.files; sequences = g.sequences } in t) in
      let p : PlacedTable = record { offset = l; table = t } in
      let here : IsReadAt s size p = All-head (IsReadAt s size) p _ read in
      let fit : FitsTable s.order size t = All-head (FitsTable s.order size) t [] fits in
      let says = table-says s.order size p fit in
      record {
        table = read_table s.order size p;
        table_read = unit-table-read s size v e p sized is_root names here;
        version = says.version;
        directories = says.directories;
        files = says.files;
        sequences = says.sequences ∙ segments-given s.order size p fit g refl refl refl;
      }

  unit-lines : (place a : ℕ) (r : ListPlaces) (p : Places) (u : OrderedUnit) (rest : List WrittenTable) → u.address_size ≡ size → FitsOrdered u → FitsLines u.lines → names_lines u.entries ≡ is_some u.lines.address_size → All (FitsTable s.order size) (table_of places u)
      → All (IsReadAt s size) (placed_tables s.order size p.line (table_of places u ++ rest))
      → ReadsLines s (read_unit s.order size place (written_unit size r p a u)) u.lines u.lines.address_size
  unit-lines place a r p u rest same fits lines named tables read = at-root u.entries fits.tree fits.entries named
    where
      first : ListPlaces
      first = lists_from u.version u.entries r

      at-root : (es : List GivenEntry) → IsTree es → All (FitsEntry u.address_size) es → names_lines es ≡ is_some u.lines.address_size
          → ReadsLines s (record { header = (read_unit s.order size place (written_unit size r p a u)).header; entries = read_entries s.order size (place + header_length u.version) (written_entries (behind_attributes u.version size) p first (shapes_in u) es) }) u.lines u.lines.address_size
      at-root [] tree all named = absurd tree
      at-root (e ∷ es) tree all named =
          let names = ap (λ xs. line_offset (found_in xs)) (attributes-read (behind_attributes u.version size) p first e.attributes) ∙ lines-named u.address_size (behind_attributes u.version size) p first e.attributes (All-head (FitsEntry u.address_size) e es all).attributes ∙ ap (named_offset p.line) named in
          let own = own_directory places.table u in
          let P : List WrittenTable → Type 0 = λ ts. All (IsReadAt s size) (placed_tables s.order size p.line (ts ++ rest)) in
          root-lines _ _ p.line own u.lines rest u.lines.address_size refl refl names lines.sequences (subst (All (FitsTable s.order size)) (lines-are u.version places.names own u.lines) tables) (subst P (lines-are u.version places.names own u.lines) read)

  units-each : (version place a l : ℕ) (r : ListPlaces) (us : List OrderedUnit) → All (IsWritable version size) us → All FitsOrdered us → All (λ u. FitsLines u.lines) us → All (FitsTable s.order size) (written_tables places us)
      → All (IsReadAt s size) (placed_tables s.order size l (written_tables places us))
      → AllZip (IsReadUnit s) us (read_units s.order size place (written_units s.order size places a l r us))
  units-each version place a l r [] writable fits lines tables read = tt
  units-each version place a l r (u ∷ us) writable fits lines tables read =
      let here = All-head (IsWritable version size) u us writable in
      let p = places_in places u.version (offsets_by_number s.order size u) l in
      let first = lists_from u.version u.entries r in
      let unit = written_unit size r p a u in
      let split = at_places-append (one_table_bytes s.order size) (λ p t. record { offset = p; table = t } ∷ []) (table_of places u) (written_tables places us) l in
      let P : List PlacedTable → Type 0 = λ ps. All (IsReadAt s size) ps in
      let others = All-back (IsReadAt s size) (placed_tables s.order size l (table_of places u)) _ (subst P split read) in (
        record {
          places = p;
          lists = first;
          version = refl;
          address_size = sym here.size;
          entries = places-contents s.order size (shaped unit.entries) (place + header_length u.version) ∙ contents-given (behind_attributes u.version size) p first (shapes_in u) u.entries ∙ ap (λ n. given_contents (behind_attributes u.version n) p first u.entries) (sym here.size);
          lines = unit-lines place a r p u (written_tables places us) here.size (All-head FitsOrdered u us fits) (All-head (λ (v : OrderedUnit). FitsLines v.lines) u us lines) here.named (All-front (FitsTable s.order size) (table_of places u) _ tables) read;
        },
        units-each version (place + length (placed_unit_bytes s.order size unit)) (a + length (table_bytes unit.table)) (l + length (lines_bytes s.order size (table_of places u))) (behind_unit s.order size r u) us (All-tail (IsWritable version size) u us writable) (All-tail FitsOrdered u us fits) (All-tail (λ (v : OrderedUnit). FitsLines v.lines) u us lines)
            (All-back (FitsTable s.order size) (table_of places u) _ tables) others,
      )

-- ---- the sections

pub info-none : (order : Endian) (size : ℕ) (ws : List WrittenUnit) → info_bytes order size ws ≡ [] → info_relocations order size 0 ws ≡ []
info-none order size [] e = refl
info-none order size (w ∷ ws) e =
    let body = unit_body w.version order size w.table_offset w.entries in
    absurd (omega (arith, ap length e, length-append (placed_unit_bytes order size w) (info_bytes order size ws), length-append (number_bytes order 4 (length body)) body, number_bytes-length order 4 (length body)))

-- a table has bytes
table-some : (order : Endian) (size : ℕ) (t : WrittenTable) → 0 < length (one_table_bytes order size t)
table-some order size t = go (is_old t.version)
  where
    go : (b : Bool) → 0 < length (if b then line_table_bytes order size t.directories t.files (sequences_instructions t.sequences) else path_table_bytes order size t.texts t.own t.directories t.files (sequences_instructions t.sequences))
    go true =
        let body = line_body order size t.directories t.files (sequences_instructions t.sequences) in
        omega (arith, length-append (number_bytes order 4 (length body)) body, number_bytes-length order 4 (length body))
    go false =
        let body = path_table_body order size t.texts t.own t.directories t.files (sequences_instructions t.sequences) in
        omega (arith, length-append (number_bytes order 4 (length body)) body, number_bytes-length order 4 (length body))

pub lines-none : (order : Endian) (size : ℕ) (ts : List WrittenTable) → lines_bytes order size ts ≡ [] → lines_relocations order size 0 ts ≡ []
lines-none order size [] e = refl
lines-none order size (t ∷ ts) e = absurd (omega (arith, ap length e, length-append (one_table_bytes order size t) (lines_bytes order size ts), table-some order size t))

-- without a byte, lists have no relocation
lists-within : (version : ℕ) (order : Endian) (size : ℕ) (es : List ListEntry) → length (list_bytes version order size es) ≤ length (contribution_bytes version order size es)
lists-within version order size es = go es (is_old version)
  where
    go : (fs : List ListEntry) (old : Bool) → length (list_bytes version order size fs) ≤ length (if old then list_bytes version order size fs else headed_bytes version order size fs)
    go fs true = omega arith
    go [] false = omega arith
    go (f ∷ fs) false = omega (arith, headed-length version order size f fs)

entry-some : (version : ℕ) (order : Endian) (size : ℕ) → 0 < size → (e : ListEntry) → 0 < length (listed_bytes version order size e)
entry-some version order size some e = go (is_old version) (e.extent == 0) (listed-length version order size e)
  where
    go : (old none : Bool) → length (listed_bytes version order size e) ≡ (if old then (size + size) + held_length version e.holds else (if none then 1 else 1 + (size + (length (uleb_bytes e.extent) + held_length version e.holds)))) → 0 < length (listed_bytes version order size e)
    go true none is = omega (arith, some, is)
    go false true is = omega (arith, is)
    go false false is = omega (arith, is)

contribution-none : (version : ℕ) (order : Endian) (size place : ℕ) → 0 < size → (es : List ListEntry) → contribution_bytes version order size es ≡ [] → contribution_relocations version order size place es ≡ []
contribution-none version order size place some [] e = refl
contribution-none version order size place some (x ∷ es) e =
    absurd (omega (arith, ap length e, lists-within version order size (x ∷ es), length-append (listed_bytes version order size x) (list_bytes version order size es), entry-some version order size some x))

pub lists-none : (kind : AttributeValue → List ListEntry) (order : Endian) (size place : ℕ) → 0 < size → (us : List OrderedUnit) → flat_map (unit_lists_bytes kind order size) us ≡ [] → at_places (unit_lists_bytes kind order size) (unit_lists_relocations kind order size) place us ≡ []
lists-none kind order size place some [] e = refl
lists-none kind order size place some (u ∷ us) e =
    let both = none-both (unit_lists_bytes kind order size u) (flat_map (unit_lists_bytes kind order size) us) e in
    let here = contribution-none u.version order size place some (lists_of_entries kind u.entries) both.0 in
    let others = lists-none kind order size (place + length (unit_lists_bytes kind order size u)) some us both.1 in
    rw (here) others
  where
    none-both : (xs ys : List ℕ) → xs ++ ys ≡ [] → (xs ≡ []) × (ys ≡ [])
    none-both [] ys e = (refl, e)
    none-both (x ∷ xs) ys e = absurd (cc)

-- how long they are
pub part-short : (order : Endian) (name : SectionName) (x : List ℕ) (q : List OutputRelocation) (rest : List OutputSection) → All (IsSound order) (section_unless_empty name x q ++ rest) → (length x ≤ most_bytes) × All (IsSound order) rest
part-short order name [] q rest sound = (lit≤ tt, sound)
part-short order name (b ∷ x) q rest sound = ((All-head (IsSound order) _ rest sound).short, All-tail (IsSound order) _ rest sound)

pub size-known : (us : List OrderedUnit) → All FitsOrdered us → (size_of us ≡ 4) ⊎ (size_of us ≡ 8)
size-known [] fits = inr refl
size-known (u ∷ us) fits = (All-head FitsOrdered u us fits).size

pub version-known : (us : List OrderedUnit) → All FitsOrdered us → IsWrittenVersion (version_of us)
version-known [] fits = inl refl
version-known (u ∷ us) fits = (All-head FitsOrdered u us fits).version

pub positive : (size : ℕ) → (size ≡ 4) ⊎ (size ≡ 8) → (0 < size) × (size < 2 ^ 63)
positive size (inl e) = (omega (arith, e), omega (arith, e))
positive size (inr e) = (omega (arith, e), omega (arith, e))

-- What is known of the sections of given units, which are spelled within the size of sections.
pub record AreSpelled (order : Endian) (texts : List (List ℕ)) (us : List OrderedUnit) : Type 0 where
  pub versions : All (λ u. u.version ≡ version_of us) us
  pub written : IsWrittenVersion (version_of us)
  pub sized : All (λ u. u.address_size ≡ size_of us) us
  pub known : (size_of us ≡ 4) ⊎ (size_of us ≡ 8)
  pub holds : Holds (version_of us) order (abbrev_bytes order (all_places order texts us) us) (all_info_bytes order (all_places order texts us) us) (all_lines_bytes order (all_places order texts us) us) (names_bytes (all_places order texts us)) (all_lists_bytes ranges_in order us) (all_lists_bytes locations_in order us) (strings_bytes texts us) (info_relocations order (size_of us) 0 (units_placed order (all_places order texts us) us)) (lines_relocations order (size_of us) 0 (written_tables (all_places order texts us) us)) (all_lists_relocations ranges_in order us) (all_lists_relocations locations_in order us) (output_sections order (spelled_sections order texts us))
  pub ranges_short : length (all_lists_bytes ranges_in order us) ≤ most_bytes
  pub locations_short : length (all_lists_bytes locations_in order us) ≤ most_bytes
  pub units_fit : All (FitsUnit order (size_of us)) (units_placed order (all_places order texts us) us)
  pub tables_fit : All (FitsTable order (size_of us)) (written_tables (all_places order texts us) us)

pub are-spelled : (order : Endian) (texts : List (List ℕ)) (us : List OrderedUnit) → AreWritable us → AreTexts texts → All FitsOrdered us → All (λ u. FitsLines u.lines) us → All (IsSound order) (spelled_sections order texts us) → AreSpelled order texts us
are-spelled order texts us writable table fits lines sound =
    let size = size_of us in
    let version = version_of us in
    let units = all_places order texts us in
    let ws = units_placed order units us in
    let ts = written_tables units us in
    let q = info_relocations order size 0 ws in
    let r = lines_relocations order size 0 ts in
    let sized : All (λ u. u.address_size ≡ size) us = All-weaker (IsWritable version size) (λ u. u.address_size ≡ size) (λ u h. h.size) us writable in
    let versions : All (λ u. u.version ≡ version) us = All-weaker (IsWritable version size) (λ u. u.version ≡ version) (λ u h. h.version) us writable in
    let tables_short = part-short order Abbrev (abbrev_bytes order units us) [] _ sound in
    let info_short = part-short order Info (all_info_bytes order units us) q _ tables_short.1 in
    let P : List OutputSection → Type 0 = λ xs. All (IsSound order) xs in
    let lines_short = part-short order Line (all_lines_bytes order units us) r _ info_short.1 in
    let names_short = part-short order LineStr (names_bytes units) [] _ lines_short.1 in
    let ranges_short = part-short order (section_of_ranges version) (all_lists_bytes ranges_in order us) (all_lists_relocations ranges_in order us) _ names_short.1 in
    let locations_short = part-short order (section_of_locations version) (all_lists_bytes locations_in order us) (all_lists_relocations locations_in order us) _ ranges_short.1 in
    let strings_short = part-short order Str (strings_bytes texts us) [] [] (subst P (sym (append-nil _)) locations_short.1) in
    let w = strings_short.0 in
    let a = tables_short.0 in
    let i = info_short.0 in
    let l = lines_short.0 in
    let v = ranges_short.0 in
    let k = locations_short.0 in
    let known = size-known us fits in
    let written = version-known us fits in
    let near : (unit id : ℕ) → offset_in_section units.units unit id ≤ most_bytes = λ unit id. omega (arith, i, places-short order size 0 us unit id, info-length order size units 0 0 no_lists us) in
    record {
      versions = versions;
      written = written;
      sized = sized;
      known = known;
      holds = sections-hold order (abbrev_bytes order units us) (all_info_bytes order units us) (all_lines_bytes order units us) (names_bytes units) (all_lists_bytes ranges_in order us) (all_lists_bytes locations_in order us) (strings_bytes texts us) q r (all_lists_relocations ranges_in order us) (all_lists_relocations locations_in order us)
          (info-none order size ws) (lines-none order size ts) (lists-none ranges_in order size 0 (positive size known).0 us) (lists-none locations_in order size 0 (positive size known).0 us) version written;
      ranges_short = v;
      locations_short = k;
      units_fit = units-fit order size 0 0 no_lists units us sized fits near (λ id. omega (arith, w, offset-bound texts us id)) (omega (arith, a)) (omega (arith, l)) (record { ranges = omega (arith, v); locations = omega (arith, k) }) i;
      tables_fit = tables-fit order size units us known sized fits lines (names-there texts us written versions table lines names_short.0) l;
    }

-- Where the lists of units stand.
pub ranges-along : (order : Endian) (texts : List (List ℕ)) (us : List OrderedUnit) → AreSpelled order texts us → All FitsOrdered us
    → StandAlong (λ (u : OrderedUnit). u.version) (λ u. lists_of_entries ranges_in u.entries) (output_sections order (spelled_sections order texts us)) (size_of us) (section_of_ranges (version_of us)) 0 us
ranges-along order texts us spelled fits =
    units-stand (λ (u : OrderedUnit). u.version) (λ u. lists_of_entries ranges_in u.entries) (output_sections order (spelled_sections order texts us)) (size_of us) (section_of_ranges (version_of us)) us (positive (size_of us) spelled.known).0 (spelled.holds).ranges_are (spelled.holds).ranges_relocations_are
    (ranges-short (λ u. u.version) us fits) (omega (arith, spelled.ranges_short))

pub locations-along : (order : Endian) (texts : List (List ℕ)) (us : List OrderedUnit) → AreSpelled order texts us → AreShortUnits us
    → StandAlong (λ (u : OrderedUnit). u.version) (λ u. lists_of_entries locations_in u.entries) (output_sections order (spelled_sections order texts us)) (size_of us) (section_of_locations (version_of us)) 0 us
locations-along order texts us spelled short =
    units-stand (λ (u : OrderedUnit). u.version) (λ u. lists_of_entries locations_in u.entries) (output_sections order (spelled_sections order texts us)) (size_of us) (section_of_locations (version_of us)) us (positive (size_of us) spelled.known).0 (spelled.holds).locations_are (spelled.holds).locations_relocations_are
    short (omega (arith, spelled.locations_short))

-- All units that are read.
pub units-read-back : (order : Endian) (texts : List (List ℕ)) (us : List OrderedUnit) → AreSpelled order texts us → units (output_sections order (spelled_sections order texts us)) ≡ record { items = read_units order (size_of us) 0 (units_placed order (all_places order texts us) us); fault = None }
units-read-back order texts us spelled =
    let size = size_of us in
    let ws = units_placed order (all_places order texts us) us in
    let holds = spelled.holds in
    units-read (output_sections order (spelled_sections order texts us)) size ws spelled.known spelled.units_fit (tables-from order size (all_places order texts us) us 0 0 no_lists) holds.abbrev_is holds.info_is (holds.info_relocations_are ∙ info-functions order size 0 ws)

-- All line tables that are read.
pub tables-read-back : (order : Endian) (texts : List (List ℕ)) (us : List OrderedUnit) → AreSpelled order texts us → All (IsReadAt (output_sections order (spelled_sections order texts us)) (size_of us)) (placed_tables order (size_of us) 0 (written_tables (all_places order texts us) us))
tables-read-back order texts us spelled =
    let size = size_of us in
    let units = all_places order texts us in
    let ts = written_tables units us in
    let holds = spelled.holds in
    let some = positive size spelled.known in
    lines-read (output_sections order (spelled_sections order texts us)) size units.names ts some.0 some.1 spelled.tables_fit holds.names_are (tables-texts units us) holds.line_is (holds.line_relocations_are ∙ lines-functions order size 0 ts)

-- Given units that are spelled within the size of sections are read back.
pub reads-back : (order : Endian) (texts : List (List ℕ)) (us : List OrderedUnit) → AreWritable us → AreTexts texts → All FitsOrdered us → All (λ u. FitsLines u.lines) us → All (IsSound order) (spelled_sections order texts us) → ReadsBack order us (spelled_sections order texts us)
reads-back order texts us writable table fits lines sound =
    let size = size_of us in
    let units = all_places order texts us in
    let s = output_sections order (spelled_sections order texts us) in
    let spelled = are-spelled order texts us writable table fits lines sound in
    record {
      read = read_units order size 0 (units_placed order units us);
      units_read = units-read-back order texts us spelled;
      each = units-each s size units (version_of us) 0 0 0 no_lists us writable fits lines spelled.tables_fit (tables-read-back order texts us spelled);
    }
