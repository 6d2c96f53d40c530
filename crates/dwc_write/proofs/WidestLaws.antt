-- The sections of given units are no longer than their widest sizes: `within-widest`.
use Rattle.std.proofs.Common.{◌≡◌, ℕ, suc, ◌+◌, ◌-◌, ◌*◌, ◌^◌, ◌<◌, ◌≤◌, ◌⊎◌, inl, inr, refl, sym, ap, subst, ◌∙◌, arith, lit<, List, [], ◌∷◌, ◌++◌, length, length-append, map, replicate, Option, Some, None, Bool, true, false, ltb, refl}
use Rattle.std.specs.Prelude.{ℤ, pos, ◌-ℤ◌, ◌==◌, ◌||◌, not, nat_lt, if◌then◌else◌, sum_by, FitsSigned}
use Rattle.std.specs.List.{All, flat_map}
use Rattle.std.specs.Int.{w64, cast_signed}
use Rattle.std.proofs.Math.Facts.{sfits_to_z}
use Rattle.std.proofs.lemmas.Bool.{eqb-true, ltb-true, ltb-false}
use Rattle.std.proofs.lemmas.Int.{ints}
use Rattle.std.proofs.lemmas.List.{length-replicate, length-map}
use Rattle.std.proofs.lemmas.List.Elements.{All-cons, All-head, All-tail, All-nil, All-weaker}
use Rattle.std.proofs.lemmas.List.Sums.{sum_by-cons, sum_by-append}
use Rattle.dwc_base.specs.declared.records.Endian.{Endian}
use Rattle.dwc_base.specs.declared.records.Endian.TheVariants.{Little}
use Rattle.dwc_base.specs.declared.records.LineRow.{LineRow}
use Rattle.dwc_base.specs.declared.section_name.SectionName.{SectionName}
use Rattle.dwc_base.specs.declared.section_name.SectionName.TheVariants.{Abbrev, Info, Line, LineStr, Loc, Loclists, Ranges, Rnglists}
use Rattle.dwc_base.specs.declared.constants.TheConstants.{DW_UT_compile, DW_FORM_implicit_const, DW_FORM_data1, DW_FORM_data2, DW_FORM_data4, DW_FORM_data8, DW_FORM_sdata, DW_FORM_udata}
use Rattle.dwc_base.specs.Abbreviations.{Declaration}
use Rattle.dwc_dwarf.specs.LineHeaders.{Instruction, LineFile}
use Rattle.dwc_output.specs.NewWidest.{widest_header_5}
use Rattle.dwc_output.specs.Versions.{files_written, is_old}
use Rattle.dwc_output.specs.Widest.{variable_bytes, widest_declaration, widest_header, widest_image, widest_row}
use Rattle.dwc_output.specs.WidestTrees.{constant_bytes}
use Rattle.dwc_base.specs.NumberBytes.{uleb_bytes, sleb_bytes, number_bytes}
use Rattle.dwc_section.specs.Spelled.{block_bytes, text_bytes}
use Rattle.dwc_section.specs.SpelledAddresses.{address_bytes, stored}
use Rattle.dwc_unit.specs.SpelledTables.{FitsSpec, implicit_bytes, spec_bytes, declaration_bytes, flag_of, table_bytes}
use Rattle.dwc_unit.specs.SpelledUnits.{as_data1, as_data2, as_data4, as_data8, as_sdata, as_udata, written_bytes, attribute_bytes, next_depth, shaped, WrittenEntry, behind_version, entry_bytes, entries_bytes, header_length, unit_body, unit_bytes}
use Rattle.dwc_unit.specs.SpelledLines.{FitsFile, FitsRow, WrittenSequence, first_row, differs, bytes_when, extended_bytes, file_bytes, line_fields_bytes, line_body, line_table_bytes, program_bytes, row_instructions, rows_instructions, sequences_instructions}
use Rattle.dwc_write.specs.SpelledSections.{WrittenTable, placed_unit_bytes, tables_bytes, info_bytes, one_table_bytes, lines_bytes}
use Rattle.dwc_write.specs.SpelledRelocations.{sequence_bytes}
use Rattle.dwc_write.specs.PathTables.{path_bytes, path_directories_bytes, path_fields_bytes, path_file_bytes, path_files_bytes, path_table_body, path_table_bytes, place_of_path}
use Rattle.dwc_unit.specs.declared.attributes.Attribute.{Attribute}
use Rattle.dwc_unit.specs.declared.attributes.AttributeValue.{AttributeValue}
use Rattle.dwc_unit.specs.declared.attributes.AttributeValue.TheVariants.{Address, Constant, Flag, Block, Exprloc, StringRef, LineProgramRef, RangeListRef, LocationListRef, UnitRef, DebugInfoRef}
use Rattle.dwc_unit.specs.declared.attributes.DebugInfoRef.TheVariants.{Entry as entry_of}
use Rattle.dwc_unit.specs.declared.attributes.AttributeForm.{AttributeForm}
use Rattle.dwc_unit.specs.GivenLines.{FitsLines, FitsSequences, FitsGivenSequence}
use Rattle.dwc_unit.specs.GivenUnits.{GivenEntry, OrderedUnit, Places, EntryShape, AreBelow, IsTree, IsOfSize, IsWritable, AreWritable, FitsAttribute, FitsMemory, FitsValue, FitsEntry, FitsOrdered, size_of, version_of, constant_of, is_constant_form, constant_bound, written_of, form_of, first_depth, shape_of, shapes_of, place_in, with_use, first_uses, code_in, spec_of_form, numbered, shapes_in, written_attribute, written_attributes, written_entries}
use Rattle.dwc_write.specs.Layouts.{AllPlaces, lists_from, offsets_by_number, places_in, behind_unit, table_of, written_unit, written_units, written_tables}
use Rattle.dwc_write.specs.SpelledOutput.{all_lists_bytes, bytes_of, names_bytes}
use Rattle.dwc_unit.specs.declared.lists.ListPlaces.{ListPlaces}
use Rattle.dwc_unit.specs.LineNames.{own_directory}
use Rattle.dwc_unit.specs.Lists.{ListEntry, behind_attributes, locations_in, no_lists, ranges_in}
use Rattle.dwc_section.specs.Writers.{most_bytes}
use Rattle.dwc_write.proofs.WidestLists.{AreCounted, lists-within, locations-small, ranges-small}
use Rattle.dwc_unit.specs.WidestGiven.{widest_contribution, widest_value, widest_entry, lists_of, widest_table_for, widest_unit, widest_given}
use Rattle.dwc_section.proofs.ReadNumbers.{number_bytes-length, uleb_bytes-length, sleb_bytes-small}
use Rattle.dwc_unit.proofs.ReadWritten.{row-bytes, rows-bytes-end, rows-bytes-more}
use Rattle.dwc_write.proofs.LineRelocations.{sequences-bytes}
use Rattle.dwc_write.proofs.SequenceLaws.{sequence-bytes}
use Rattle.dwc_write.proofs.EntriesLaws.{code-there, next-first}
use Rattle.dwc_write.proofs.ReadBackLaws.{FitsShape, vec-short, uses-fit, uses-length, lengths-both}
use Rattle.dwc_section.proofs.LebSizes.{uleb-10, sleb-10}

-- ---- signed numbers

pub sleb-fits : (z : ℤ) → FitsSigned w64 z → length (sleb_bytes z) ≤ 10
sleb-fits z fits = sleb-10 z (grind (arith, ints))

step-widest : (before line : ℕ) → before < 2 ^ 32 → line < 2 ^ 32 → length (sleb_bytes (pos line -ℤ pos before)) ≤ 10
step-widest before line low small = sleb-10 (pos line -ℤ pos before) (grind (arith, ints))

-- ---- lists

flat-widest : {A : Type 0} (f : A → List ℕ) (w : A → ℕ) (P : A → Type 0) → ((x : A) → P x → length (f x) ≤ w x) → (xs : List A) → All P xs → length (flat_map f xs) ≤ sum_by w xs
flat-widest f w P each [] all = omega arith
flat-widest f w P each (x ∷ xs) all =
    let here = each x (All-head P x xs all) in
    let others = flat-widest f w P each xs (All-tail P x xs all) in
    omega (arith, here, others, length-append (f x) (flat_map f xs), sum_by-cons w x xs)

-- ---- .debug_abbrev

implicit-short : (b : Bool) → length (if b then sleb_bytes (pos 0) else []) ≤ 1
implicit-short true = omega (arith, ap length (sleb_bytes-small 0 (lit< tt)))
implicit-short false = omega arith

spec-widest : (f : AttributeForm) → FitsSpec (spec_of_form f) → length (spec_bytes (spec_of_form f)) ≤ 20
spec-widest f fits =
    let name = uleb_bytes-length 2 f.name (let small = fits.name in omega (arith, small)) in
    let form = uleb-10 f.form fits.form in
    let last = implicit-short (f.form == DW_FORM_implicit_const) in
    omega (arith, name, form, last, length-append (uleb_bytes f.name) (uleb_bytes f.form ++ implicit_bytes f.form (pos 0)), length-append (uleb_bytes f.form) (implicit_bytes f.form (pos 0)))

specs-widest : (fs : List AttributeForm) → All (λ f. FitsSpec (spec_of_form f)) fs → length (flat_map spec_bytes (map spec_of_form fs)) ≤ length fs * 20
specs-widest [] fits = omega arith
specs-widest (f ∷ fs) fits =
    let here = spec-widest f (All-head (λ (g : AttributeForm). FitsSpec (spec_of_form g)) f fs fits) in
    let others = specs-widest fs (All-tail (λ (g : AttributeForm). FitsSpec (spec_of_form g)) f fs fits) in
    omega (arith, here, others, length-append (spec_bytes (spec_of_form f)) (flat_map spec_bytes (map spec_of_form fs)))

declaration-widest : (code : ℕ) (s : EntryShape) → code < 2 ^ 64 → FitsShape s → length (declaration_bytes (record { code = code; tag = s.tag; has_children = s.has_children; attributes = map spec_of_form s.attributes })) ≤ widest_declaration (length s.attributes)
declaration-widest code s small fits =
    let first = uleb-10 code small in
    let tag = uleb_bytes-length 2 s.tag (let low = fits.tag in omega (arith, low)) in
    let specs = specs-widest s.attributes fits.attributes in
    let bytes = flat_map spec_bytes (map spec_of_form s.attributes) in
    omega (arith, first, tag, specs, length-append (uleb_bytes code) (uleb_bytes s.tag ++ ((flag_of s.has_children ∷ []) ++ (bytes ++ 0 ∷ 0 ∷ []))), length-append (uleb_bytes s.tag) ((flag_of s.has_children ∷ []) ++ (bytes ++ 0 ∷ 0 ∷ [])), length-append bytes (0 ∷ 0 ∷ []))

abbrev shape_width : EntryShape → ℕ
shape_width s = widest_declaration (length s.attributes)

abbrev entry_width : GivenEntry → ℕ
entry_width e = widest_declaration (length e.attributes)

numbered-widest : (code : ℕ) (ss : List EntryShape) → code + length ss ≤ 2 ^ 64 → All FitsShape ss → length (flat_map declaration_bytes (numbered code ss)) ≤ sum_by shape_width ss
numbered-widest code [] few fits = omega arith
numbered-widest code (s ∷ ss) few fits =
    let d : Declaration = record { code = code; tag = s.tag; has_children = s.has_children; attributes = map spec_of_form s.attributes } in
    let here = declaration-widest code s (omega (arith, few)) (All-head FitsShape s ss fits) in
    let others = numbered-widest (suc code) ss (omega (arith, few)) (All-tail FitsShape s ss fits) in
    omega (arith, here, others, length-append (declaration_bytes d) (flat_map declaration_bytes (numbered (suc code) ss)), sum_by-cons shape_width s ss)

use-widest : (s : EntryShape) (known : List EntryShape) → sum_by shape_width (with_use s known) ≤ sum_by shape_width known + shape_width s
use-widest s known = go (ltb (place_in s known) (length known))
  where
    go : (b : Bool) → sum_by shape_width (if b then known else known ++ s ∷ []) ≤ sum_by shape_width known + shape_width s
    go true = omega arith
    go false = omega (arith, sum_by-append shape_width known (s ∷ []), sum_by-cons shape_width s [])

uses-widest : (known : List EntryShape) (es : List GivenEntry) → sum_by shape_width (first_uses known (shapes_of es)) ≤ sum_by shape_width known + sum_by entry_width es
uses-widest known [] = omega arith
uses-widest known (e ∷ es) =
    let s = shape_of e es in
    let same : shape_width s ≡ entry_width e = ap widest_declaration (length-map e.attributes form_of) in
    omega (arith, same, uses-widest (with_use s known) es, use-widest s known, sum_by-cons entry_width e es)

table-widest : (u : OrderedUnit) → FitsOrdered u → length (table_bytes (numbered 1 (shapes_in u))) ≤ widest_unit Abbrev u
table-widest u fits =
    let few = fits.few in
    let long = uses-length [] u.entries in
    let shapes = uses-fit u.address_size [] u.entries fits.entries (All-nil FitsShape) in
    let table = numbered-widest 1 (shapes_in u) (omega (arith, few, long)) shapes in
    omega (arith, table, uses-widest [] u.entries, length-append (flat_map declaration_bytes (numbered 1 (shapes_in u))) (0 ∷ []))

-- ---- .debug_info

constant-widest : (order : Endian) (size form bits : ℕ) → is_constant_form form ≡ true → bits < constant_bound form → length (written_bytes order size (constant_of form bits)) ≤ constant_bytes form
constant-widest order size form bits known small =
    go (form == DW_FORM_data1) refl (form == DW_FORM_data2) refl (form == DW_FORM_data4) refl (form == DW_FORM_data8) refl (form == DW_FORM_sdata) refl (form == DW_FORM_udata) refl known small
  where
    of_form : (k n : ℕ) → (form == n) ≡ true → k ≤ constant_bytes n → k ≤ constant_bytes form
    of_form k n e short = let P : ℕ → Type 0 = λ m. k ≤ constant_bytes m in subst P (sym (eqb-true _ _ e)) short

    go : (a : Bool) → (form == DW_FORM_data1) ≡ a → (b : Bool) → (form == DW_FORM_data2) ≡ b → (c : Bool) → (form == DW_FORM_data4) ≡ c → (d : Bool) → (form == DW_FORM_data8) ≡ d → (s : Bool) → (form == DW_FORM_sdata) ≡ s → (u : Bool) → (form == DW_FORM_udata) ≡ u
        → (a || (b || (c || (d || (s || u))))) ≡ true → bits < (if a then 256 ^ 1 else (if b then 256 ^ 2 else (if c then 256 ^ 4 else 2 ^ 64)))
        → length (written_bytes order size (if a then as_data1 bits else (if b then as_data2 bits else (if c then as_data4 bits else (if d then as_data8 bits else (if s then as_sdata (cast_signed w64 bits) else as_udata bits)))))) ≤ constant_bytes form
    go true is b p c q d r s t u v known small = of_form _ DW_FORM_data1 is (omega (arith, number_bytes-length order 1 bits))
    go false n true is c q d r s t u v known small = of_form _ DW_FORM_data2 is (omega (arith, number_bytes-length order 2 bits))
    go false n false o true is d r s t u v known small = of_form _ DW_FORM_data4 is (omega (arith, number_bytes-length order 4 bits))
    go false n false o false p true is s t u v known small = of_form _ DW_FORM_data8 is (omega (arith, number_bytes-length order 8 bits))
    go false n false o false p false q true is u v known small = of_form _ DW_FORM_sdata is (sleb-fits (cast_signed w64 bits) (sfits_to_z (record { fits = small })))
    go false n false o false p false q false r true is known small = of_form _ DW_FORM_udata is (uleb-10 bits small)
    go false n false o false p false q false r false s known small = absurd (cc)

-- bytes behind their length
block-widest : (bytes : List ℕ) → length bytes < 2 ^ 64 → length (block_bytes bytes) ≤ variable_bytes + length bytes
block-widest bytes short = omega (arith, uleb-10 (length bytes) short, length-append (uleb_bytes (length bytes)) bytes)

value-widest : (order : Endian) (size : ℕ) (p : Places) (lists : ListPlaces) (x : Attribute) → size ≤ 8 → FitsAttribute size x → length (written_bytes order size (written_of p lists x.value)) ≤ widest_value x.value
value-widest order size p lists x short fits = go x.value fits.value fits.held
  where
    go : (v : AttributeValue) → FitsValue size x.name v → FitsMemory v → length (written_bytes order size (written_of p lists v)) ≤ widest_value v
    go (Address a) h held = omega (arith, short, number_bytes-length order size (stored a))
    go (Constant form bits) h held = constant-widest order size form bits h.0 h.1
    go (Flag b) h held = omega arith
    go (Block bytes) h held = block-widest bytes.items (vec-short bytes)
    go (Exprloc e) h held = block-widest e held
    go (StringRef id) h held = omega (arith, number_bytes-length order 4 (p.text id.index))
    go LineProgramRef h held = omega (arith, number_bytes-length order 4 p.line)
    go (RangeListRef list) h held = omega (arith, number_bytes-length order 4 lists.ranges)
    go (LocationListRef list) h held = omega (arith, number_bytes-length order 4 lists.locations)
    go (UnitRef id) h held = omega (arith, number_bytes-length order 4 (p.entry id.index))
    go (DebugInfoRef (entry_of unit id)) h held = omega (arith, number_bytes-length order 4 (p.entry_of unit.index id.index))

values-widest : (order : Endian) (size : ℕ) (next : ListPlaces → List Attribute → ListPlaces) (p : Places) (lists : ListPlaces) (xs : List Attribute) → size ≤ 8 → All (FitsAttribute size) xs → length (flat_map (attribute_bytes order size) (written_attributes next p lists xs)) ≤ sum_by (λ a. widest_value a.value) xs
values-widest order size next p lists [] short fits = omega arith
values-widest order size next p lists (x ∷ xs) short fits =
    let here = value-widest order size p lists x short (All-head (FitsAttribute size) x xs fits) in
    let others = values-widest order size next p (next lists (x ∷ [])) xs short (All-tail (FitsAttribute size) x xs fits) in
    omega (arith, here, others, length-append (attribute_bytes order size (written_attribute p lists x)) (flat_map (attribute_bytes order size) (written_attributes next p (next lists (x ∷ [])) xs)), sum_by-cons (λ (a : Attribute). widest_value a.value) x xs)

-- what one list of siblings more or less makes
ends-widest : (depth : ℕ) (es : List GivenEntry) → first_depth es ≤ suc depth → (depth - first_depth es) + first_depth es ≤ depth + (if nat_lt depth (first_depth es) then 1 else 0)
ends-widest depth es near = go (ltb depth (first_depth es)) refl
  where
    go : (b : Bool) → ltb depth (first_depth es) ≡ b → (depth - first_depth es) + first_depth es ≤ depth + (if b then 1 else 0)
    go true e = omega (arith, near, ltb-true _ _ e)
    go false e = omega (arith, ltb-false _ _ e)

first-near : (depth : ℕ) (es : List GivenEntry) → AreBelow depth es → first_depth es ≤ suc depth
first-near depth [] below = omega arith
first-near depth (e ∷ es) below = below.1

one-step : (order : Endian) (size : ℕ) (next : ListPlaces → List Attribute → ListPlaces) (p : Places) (lists : ListPlaces) (uses : List EntryShape) (e : GivenEntry) (es : List GivenEntry) → size ≤ 8 → length uses < 2 ^ 64 → AreBelow e.depth es → FitsEntry size e → place_in (shape_of e es) uses < length uses
    → length (flat_map (entry_bytes order size) (shaped (written_entries next p (next lists e.attributes) uses es))) ≤ sum_by widest_entry es + (first_depth es + lists_of es)
    → length (flat_map (entry_bytes order size) (shaped (written_entries next p lists uses (e ∷ es)))) ≤ sum_by widest_entry (e ∷ es) + (e.depth + lists_of (e ∷ es))
one-step order size next p lists uses e es short few below fits there others =
    let s = shape_of e es in
    let code = uleb-10 (code_in uses s) (omega (arith, there, few)) in
    let values = values-widest order size next p lists e.attributes short fits.attributes in
    let following = next-first next p (next lists e.attributes) uses es in
    let zeros : length {A = ℕ} (replicate (e.depth - next_depth (written_entries next p (next lists e.attributes) uses es)) 0) ≡ e.depth - first_depth es = length-replicate {A = ℕ} (e.depth - next_depth (written_entries next p (next lists e.attributes) uses es)) 0 ∙ ap (λ n. e.depth - n) following in
    let ends = ends-widest e.depth es (first-near e.depth es below) in
    let bytes = flat_map (attribute_bytes order size) (written_attributes next p lists e.attributes) in
    let last = replicate {A = ℕ} (e.depth - next_depth (written_entries next p (next lists e.attributes) uses es)) 0 in
    omega (arith, code, values, others, zeros, ends, length-append (uleb_bytes (code_in uses s) ++ (bytes ++ last)) (flat_map (entry_bytes order size) (shaped (written_entries next p (next lists e.attributes) uses es))), length-append (uleb_bytes (code_in uses s)) (bytes ++ last), length-append bytes last, sum_by-cons widest_entry e es)

-- an entry and those behind it: as many lists end as begin, and as stand open above it
one-widest : (order : Endian) (size : ℕ) (next : ListPlaces → List Attribute → ListPlaces) (p : Places) (lists : ListPlaces) (uses : List EntryShape) (e : GivenEntry) (es : List GivenEntry) → size ≤ 8 → length uses < 2 ^ 64 → AreBelow e.depth es → All (FitsEntry size) (e ∷ es) → (known : List EntryShape) → first_uses known (shapes_of (e ∷ es)) ≡ uses
    → length (flat_map (entry_bytes order size) (shaped (written_entries next p lists uses (e ∷ es)))) ≤ sum_by widest_entry (e ∷ es) + (e.depth + lists_of (e ∷ es))
one-widest order size next p lists uses e [] short few below fits known used =
    let there : place_in (shape_of e []) uses < length uses = rw (used) at (code-there (shape_of e []) known []) in
    one-step order size next p lists uses e [] short few below (All-head (FitsEntry size) e [] fits) there (omega arith)
one-widest order size next p lists uses e (f ∷ fs) short few below fits known used =
    let there : place_in (shape_of e (f ∷ fs)) uses < length uses = rw (used) at (code-there (shape_of e (f ∷ fs)) known (shapes_of (f ∷ fs))) in
    one-step order size next p lists uses e (f ∷ fs) short few below (All-head (FitsEntry size) e (f ∷ fs) fits) there
    (one-widest order size next p (next lists e.attributes) uses f fs short few below.2 (All-tail (FitsEntry size) e (f ∷ fs) fits) (with_use (shape_of e (f ∷ fs)) known) used)

size-short : (u : OrderedUnit) (size : ℕ) → u.address_size ≡ size → (u.address_size ≡ 4) ⊎ (u.address_size ≡ 8) → size ≤ 8
size-short u size same (inl e) = omega (arith, e, same)
size-short u size same (inr e) = omega (arith, e, same)

-- entries of a tree: below a depth that is never above the root's, as many lists end as begin
tree-widest : (order : Endian) (size : ℕ) (next : ListPlaces → List Attribute → ListPlaces) (p : Places) (lists : ListPlaces) (es : List GivenEntry) → size ≤ 8 → length (first_uses [] (shapes_of es)) < 2 ^ 64 → IsTree es → All (FitsEntry size) es
    → length (flat_map (entry_bytes order size) (shaped (written_entries next p lists (first_uses [] (shapes_of es)) es))) ≤ sum_by widest_entry es + lists_of es
tree-widest order size next p lists [] short few tree fits = absurd tree
tree-widest order size next p lists (e ∷ es) short few tree fits =
    let root = tree.0 in
    let all = one-widest order size next p lists (first_uses [] (shapes_of (e ∷ es))) e es short few (below-root e.depth es root tree.1) fits [] refl in
    omega (arith, all, root)
  where
    below-root : (depth : ℕ) (es : List GivenEntry) → depth ≡ 0 → AreBelow 0 es → AreBelow depth es
    below-root depth es is below = let P : ℕ → Type 0 = λ n. AreBelow n es in subst P (sym is) below

-- a unit behind its header
unit-length : (version : ℕ) (order : Endian) (size a : ℕ) (es : List WrittenEntry) → length (unit_bytes version order size a es) ≡ header_length version + length (entries_bytes order size es)
unit-length version order size a es =
    let body = unit_body version order size a es in
    omega (arith, behind (is_old version), number_bytes-length order 4 (length body), number_bytes-length order 2 version, length-append (number_bytes order 4 (length body)) body, length-append (number_bytes order 2 version) (behind_version version order size a es))
  where
    behind : (old : Bool)
        → length (if old then number_bytes order 4 a ++ ((size ∷ []) ++ entries_bytes order size es) else (DW_UT_compile ∷ size ∷ []) ++ (number_bytes order 4 a ++ entries_bytes order size es)) + 6 ≡ (if old then 11 else 12) + length (entries_bytes order size es)
    behind true = omega (arith, number_bytes-length order 4 a, length-append (number_bytes order 4 a) ((size ∷ []) ++ entries_bytes order size es))
    behind false = omega (arith, number_bytes-length order 4 a, length-append (number_bytes order 4 a) (entries_bytes order size es))

info-widest : (order : Endian) (size a : ℕ) (r : ListPlaces) (p : Places) (u : OrderedUnit) → u.address_size ≡ size → FitsOrdered u → length (placed_unit_bytes order size (written_unit size r p a u)) ≤ widest_unit Info u
info-widest order size a r p u same fits =
    let few_entries = fits.few in
    let few : length (shapes_in u) < 2 ^ 64 = omega (arith, few_entries, uses-length [] u.entries) in
    let P : ℕ → Type 0 = λ n. All (FitsEntry n) u.entries in
    let lists = lists_from u.version u.entries r in
    let entries = tree-widest order size (behind_attributes u.version size) p lists u.entries (size-short u size same fits.size) few fits.tree (subst P same fits.entries) in
    omega (arith, entries, unit-length u.version order size a (written_entries (behind_attributes u.version size) p lists (shapes_in u) u.entries))

-- ---- .debug_line

when-widest : (b : Bool) (bytes : List ℕ) (n : ℕ) → length bytes ≤ n → length (bytes_when b bytes) ≤ n
when-widest true bytes n short = short
when-widest false bytes n short = omega arith

eleven : (a b c d e f g h i j k : List ℕ) → length (a ++ (b ++ (c ++ (d ++ (e ++ (f ++ (g ++ (h ++ (i ++ (j ++ k)))))))))) ≡ length a + (length b + (length c + (length d + (length e + (length f + (length g + (length h + (length i + (length j + length k)))))))))
eleven a b c d e f g h i j k = simp (length-append) (omega arith)

row-widest : (before r : LineRow) → before.line < 2 ^ 32 → FitsRow r → length (program_bytes Little 8 (row_instructions before r)) ≤ widest_row
row-widest before r low fits =
    let near = fits.offset in
    let line = fits.line in
    let discriminator = uleb-10 r.discriminator fits.discriminator in
    let one = uleb-10 (length (4 ∷ uleb_bytes r.discriminator)) (omega (arith, discriminator)) in
    let a = when-widest (not (r.discriminator == 0)) (extended_bytes 4 (uleb_bytes r.discriminator)) 22 (omega (arith, discriminator, one, length-append (uleb_bytes (length (4 ∷ uleb_bytes r.discriminator))) (4 ∷ uleb_bytes r.discriminator))) in
    let b = when-widest r.basic_block (7 ∷ []) 1 (omega arith) in
    let c = when-widest r.prologue_end (10 ∷ []) 1 (omega arith) in
    let d = when-widest r.epilogue_begin (11 ∷ []) 1 (omega arith) in
    let e = when-widest (differs before.is_stmt r.is_stmt) (6 ∷ []) 1 (omega arith) in
    let f = when-widest (not (before.file == r.file)) (4 ∷ uleb_bytes r.file) 11 (omega (arith, uleb-10 r.file fits.file)) in
    let g = when-widest (not (before.column == r.column)) (5 ∷ uleb_bytes r.column) 11 (omega (arith, uleb-10 r.column fits.column)) in
    let h = when-widest (not (before.isa == r.isa)) (12 ∷ uleb_bytes r.isa) 11 (omega (arith, uleb-10 r.isa fits.isa)) in
    let i = when-widest (not (before.line == r.line)) (3 ∷ sleb_bytes (pos r.line -ℤ pos before.line)) 11 (omega (arith, step-widest before.line r.line low line)) in
    let j = when-widest (not (before.offset == r.offset)) (2 ∷ uleb_bytes (r.offset - before.offset)) 11 (omega (arith, uleb-10 (r.offset - before.offset) (omega (arith, near)))) in
    rw (row-bytes Little 8 before r, eleven) (omega (arith, a, b, c, d, e, f, g, h, i, j))

rows-widest : (before : LineRow) (rows : List LineRow) (last : ℕ) → before.line < 2 ^ 32 → last < 2 ^ 32 → All FitsRow rows → length (program_bytes Little 8 (rows_instructions before rows last)) ≤ length rows * widest_row + 14
rows-widest before [] last low near fits =
    let end = when-widest (not (before.offset == last)) (2 ∷ uleb_bytes (last - before.offset)) 11 (omega (arith, uleb-10 (last - before.offset) (omega (arith, near)))) in
    rw (rows-bytes-end Little 8 before last) (omega (arith, end, length-append (bytes_when (not (before.offset == last)) (2 ∷ uleb_bytes (last - before.offset))) (0 ∷ 1 ∷ 1 ∷ [])))
rows-widest before (r ∷ rows) last low near fits =
    let here = All-head FitsRow r rows fits in
    let first = row-widest before r low here in
    let others = rows-widest r rows last here.line near (All-tail FitsRow r rows fits) in
    rw (rows-bytes-more Little 8 before r rows last) (omega (arith, first, others, length-append (program_bytes Little 8 (row_instructions before r)) (program_bytes Little 8 (rows_instructions r rows last))))

sequence-widest : (order : Endian) (size : ℕ) (q : WrittenSequence) → size ≤ 8 → FitsGivenSequence size q → length (sequence_bytes order size q) ≤ widest_image (length q.rows)
sequence-widest order size q short fits =
    let rows = rows-widest first_row q.rows q.end_offset (lit< tt) fits.sequence.last fits.sequence.rows in
    let front = (0 ∷ (size + 1) ∷ 2 ∷ []) ++ address_bytes order size q.start_address in
    omega (arith, rows, ap length (sequence-bytes order size q (omega (arith, short))), number_bytes-length order size (stored q.start_address), length-append front (program_bytes Little 8 (rows_instructions first_row q.rows q.end_offset)))

directory-widest : (ds : List (List ℕ)) → length (flat_map text_bytes ds) ≤ sum_by (λ d. length d + 1) ds
directory-widest [] = omega arith
directory-widest (d ∷ ds) = omega (arith, directory-widest ds, length-append (text_bytes d) (flat_map text_bytes ds), length-append d (0 ∷ []), sum_by-cons (λ (x : List ℕ). length x + 1) d ds)

file-widest : (f : LineFile) → FitsFile f → length (file_bytes f) ≤ length f.name + 1 + 3 * variable_bytes
file-widest f fits = omega (arith, uleb-10 f.directory fits.directory, length-append (text_bytes f.name) (uleb_bytes f.directory ++ 0 ∷ 0 ∷ []), length-append f.name (0 ∷ []), length-append (uleb_bytes f.directory) (0 ∷ 0 ∷ []))

fields-widest : (ds : List (List ℕ)) (fs : List LineFile) → All FitsFile fs → length (line_fields_bytes ds fs) + 10 ≤ widest_header ds fs
fields-widest ds fs fits =
    let directories = directory-widest ds in
    let files = flat-widest file_bytes (λ f. length f.name + 1 + 3 * variable_bytes) FitsFile file-widest fs fits in
    let a = flat_map text_bytes ds ++ 0 ∷ [] in
    let b = flat_map file_bytes fs ++ 0 ∷ [] in
    omega (arith, directories, files, length-append a b, length-append (flat_map text_bytes ds) (0 ∷ []), length-append (flat_map file_bytes fs) (0 ∷ []))

table-lengths : (a b c d e : List ℕ) → length (a ++ (b ++ ((c ++ d) ++ e))) ≡ length a + (length b + (length c + (length d + length e)))
table-lengths a b c d e = simp (length-append) (omega arith)

-- a table up to version 4, whose program is no longer than some size
old-table-widest : (order : Endian) (size : ℕ) (ds : List (List ℕ)) (fs : List LineFile) (is : List Instruction) (n : ℕ) → All FitsFile fs → length (program_bytes order size is) ≤ n → length (line_table_bytes order size ds fs is) ≤ widest_header ds fs + n
old-table-widest order size ds fs is n fits short =
    let header = fields-widest ds fs fits in
    let fields = line_fields_bytes ds fs in
    let body = line_body order size ds fs is in
    omega (arith, short, header, table-lengths (number_bytes order 4 (length body)) (number_bytes order 2 4) (number_bytes order 4 (length fields)) fields (program_bytes order size is), number_bytes-length order 4 (length body), number_bytes-length order 2 4, number_bytes-length order 4 (length fields))

-- names by offsets, and files with the numbers of their directories
names-widest : (order : Endian) (texts names : List (List ℕ)) → length (flat_map (path_bytes order texts) names) ≡ length names * 4
names-widest order texts [] = refl
names-widest order texts (n ∷ ns) = omega (arith, names-widest order texts ns, number_bytes-length order 4 (place_of_path 0 texts n), length-append (path_bytes order texts n) (flat_map (path_bytes order texts) ns))

named-widest : (order : Endian) (texts : List (List ℕ)) (fs : List LineFile) → All FitsFile fs → length (flat_map (path_file_bytes order texts) fs) ≤ length fs * 14
named-widest order texts [] fits = omega arith
named-widest order texts (f ∷ fs) fits =
    let others = named-widest order texts fs (All-tail FitsFile f fs fits) in
    let number = uleb-10 f.directory (All-head FitsFile f fs fits).directory in
    omega (arith, others, number, number_bytes-length order 4 (place_of_path 0 texts f.name), length-append (path_bytes order texts f.name) (uleb_bytes f.directory), length-append (path_file_bytes order texts f) (flat_map (path_file_bytes order texts) fs))

-- the first file stands twice
files-fit : (fs : List LineFile) → All FitsFile fs → All FitsFile (files_written 5 fs)
files-fit [] fits = fits
files-fit (f ∷ fs) fits = All-cons FitsFile f (f ∷ fs) (All-head FitsFile f fs fits) fits

path-fields-widest : (order : Endian) (texts : List (List ℕ)) (own : List ℕ) (ds : List (List ℕ)) (fs : List LineFile) → All FitsFile fs → widest_header_5 ds fs ≤ most_bytes → length (path_fields_bytes order texts own ds fs) + 12 ≤ widest_header_5 ds fs
path-fields-widest order texts own ds fs fits small =
    let written = files_written 5 fs in
    let directories = flat_map (path_bytes order texts) (own ∷ ds) in
    let files = flat_map (path_file_bytes order texts) written in
    let many = uleb-10 (length (own ∷ ds)) (omega (arith, small)) in
    let more = uleb-10 (length written) (omega (arith, small)) in
    let first = path_directories_bytes order texts (own ∷ ds) in
    let second = path_files_bytes order texts written in
    omega (
      arith,
      many,
      more,
      names-widest order texts (own ∷ ds),
      named-widest order texts written (files-fit fs fits),
      length-append first second,
      length-append (uleb_bytes (length (own ∷ ds))) directories,
      length-append (uleb_bytes (length written)) files,
    )

path-lengths : (a b c d e f : List ℕ) → length (a ++ (b ++ (c ++ ((d ++ e) ++ f)))) ≡ length a + (length b + (length c + (length d + (length e + length f))))
path-lengths a b c d e f = simp (length-append) (omega arith)

-- one from version 5 on
path-table-widest : (order : Endian) (size : ℕ) (texts : List (List ℕ)) (own : List ℕ) (ds : List (List ℕ)) (fs : List LineFile) (is : List Instruction) (n : ℕ) → All FitsFile fs → length (program_bytes order size is) ≤ n → widest_header_5 ds fs ≤ most_bytes
    → length (path_table_bytes order size texts own ds fs is) ≤ widest_header_5 ds fs + n
path-table-widest order size texts own ds fs is n fits short small =
    let header = path-fields-widest order texts own ds fs fits small in
    let fields = path_fields_bytes order texts own ds fs in
    let body = path_table_body order size texts own ds fs is in
    omega (
      arith,
      short,
      header,
      path-lengths (number_bytes order 4 (length body)) (number_bytes order 2 5) (size ∷ 0 ∷ []) (number_bytes order 4 (length fields)) fields (program_bytes order size is),
      number_bytes-length order 4 (length body),
      number_bytes-length order 2 5,
      number_bytes-length order 4 (length fields),
    )

one-table-widest : (order : Endian) (size : ℕ) (t : WrittenTable) (n : ℕ) → All FitsFile t.files → length (program_bytes order size (sequences_instructions t.sequences)) ≤ n
    → (if is_old t.version then widest_header t.directories t.files else widest_header_5 t.directories t.files) + n ≤ most_bytes
    → length (one_table_bytes order size t) ≤ (if is_old t.version then widest_header t.directories t.files else widest_header_5 t.directories t.files) + n
one-table-widest order size t n fits short small = go (is_old t.version) small
  where
    go : (old : Bool) → (if old then widest_header t.directories t.files else widest_header_5 t.directories t.files) + n ≤ most_bytes
        → length (if old then line_table_bytes order size t.directories t.files (sequences_instructions t.sequences) else path_table_bytes order size t.texts t.own t.directories t.files (sequences_instructions t.sequences))
        ≤ (if old then widest_header t.directories t.files else widest_header_5 t.directories t.files) + n
    go true small = old-table-widest order size t.directories t.files (sequences_instructions t.sequences) n fits short
    go false small = path-table-widest order size t.texts t.own t.directories t.files (sequences_instructions t.sequences) n fits short (omega (arith, small))

lines-widest : (order : Endian) (size : ℕ) (places : AllPlaces) (u : OrderedUnit) → u.address_size ≡ size → FitsOrdered u → FitsLines u.lines → widest_unit Line u ≤ most_bytes → length (lines_bytes order size (table_of places u)) ≤ widest_unit Line u
lines-widest order size places u same fits lines small =
    let P : ℕ → Type 0 = λ n. IsOfSize n u.lines.address_size in
    go u.lines.address_size (subst P same fits.lines) lines.sequences small
  where
    go : (n : Option ℕ) → IsOfSize size n → FitsSequences n u.lines.sequences u.lines.begun → widest_table_for u.version n u.lines ≤ most_bytes
        → length (lines_bytes order size (elim n [ None ↦ [] | Some m ↦ record { version = u.version; texts = places.names; own = own_directory places.table u; directories = u.lines.directories; files = u.lines.files; sequences = u.lines.sequences } ∷ [] ])) ≤ widest_table_for u.version n u.lines
    go None sized sequences small = omega arith
    go (Some n) sized sequences small =
        let P : ℕ → Type 0 = λ m. All (FitsGivenSequence m) u.lines.sequences in
        let short = size-short u size same fits.size in
        let t : WrittenTable = record { version = u.version; texts = places.names; own = own_directory places.table u; directories = u.lines.directories; files = u.lines.files; sequences = u.lines.sequences } in
        let qs = flat-widest (sequence_bytes order size) (λ q. widest_image (length q.rows)) (FitsGivenSequence size) (λ q h. sequence-widest order size q short h) u.lines.sequences (subst P sized sequences.0) in
        let program = ap length (sequences-bytes order size u.lines.sequences) in
        let table = one-table-widest order size t (sum_by (λ q. widest_image (length q.rows)) u.lines.sequences) lines.files (omega (arith, qs, program)) small in
        omega (arith, table, length-append (one_table_bytes order size t) [])

-- ---- all units

tables-within : (order : Endian) (size a l : ℕ) (r : ListPlaces) (units : AllPlaces) (us : List OrderedUnit) → All FitsOrdered us → length (tables_bytes (written_units order size units a l r us)) ≤ widest_given Abbrev us
tables-within order size a l r units [] fits = omega arith
tables-within order size a l r units (u ∷ us) fits =
    let here = table-widest u (All-head FitsOrdered u us fits) in
    let table = table_bytes (numbered 1 (shapes_in u)) in
    let lines_at = l + length (lines_bytes order size (table_of units u)) in
    let rest = written_units order size units (a + length table) lines_at (behind_unit order size r u) us in
    omega (arith, here, tables-within order size (a + length table) lines_at (behind_unit order size r u) units us (All-tail FitsOrdered u us fits), length-append table (tables_bytes rest), sum_by-cons (widest_unit Abbrev) u us)

pub info-within : (order : Endian) (size a l : ℕ) (r : ListPlaces) (units : AllPlaces) (us : List OrderedUnit) → All (λ u. u.address_size ≡ size) us → All FitsOrdered us → length (info_bytes order size (written_units order size units a l r us)) ≤ widest_given Info us
info-within order size a l r units [] sized fits = omega arith
info-within order size a l r units (u ∷ us) sized fits =
    let p = places_in units u.version (offsets_by_number order size u) l in
    let here = info-widest order size a r p u (All-head (λ (v : OrderedUnit). v.address_size ≡ size) u us sized) (All-head FitsOrdered u us fits) in
    let at = a + length (table_bytes (numbered 1 (shapes_in u))) in
    let lines_at = l + length (lines_bytes order size (table_of units u)) in
    let lists_at = behind_unit order size r u in
    omega (arith, here, info-within order size at lines_at lists_at units us (All-tail (λ (v : OrderedUnit). v.address_size ≡ size) u us sized) (All-tail FitsOrdered u us fits), length-append (placed_unit_bytes order size (written_unit size r p a u)) (info_bytes order size (written_units order size units at lines_at lists_at us)), sum_by-cons (widest_unit Info) u us)

lines-within : (order : Endian) (size : ℕ) (places : AllPlaces) (us : List OrderedUnit) → All (λ u. u.address_size ≡ size) us → All FitsOrdered us → All (λ u. FitsLines u.lines) us → widest_given Line us ≤ most_bytes → length (lines_bytes order size (written_tables places us)) ≤ widest_given Line us
lines-within order size places [] sized fits lines small = omega arith
lines-within order size places (u ∷ us) sized fits lines small =
    let sum = sum_by-cons (widest_unit Line) u us in
    let here = lines-widest order size places u (All-head (λ (v : OrderedUnit). v.address_size ≡ size) u us sized) (All-head FitsOrdered u us fits) (All-head (λ (v : OrderedUnit). FitsLines v.lines) u us lines) (omega (arith, small, sum)) in
    let others = lines-within order size places us (All-tail (λ (v : OrderedUnit). v.address_size ≡ size) u us sized) (All-tail FitsOrdered u us fits) (All-tail (λ (v : OrderedUnit). FitsLines v.lines) u us lines) (omega (arith, small, sum)) in
    omega (arith, here, others, lengths-both (one_table_bytes order size) (table_of places u) (written_tables places us), sum)

sizes-short : (us : List OrderedUnit) → All FitsOrdered us → size_of us ≤ 8
sizes-short [] fits = omega arith
sizes-short (u ∷ us) fits = size-short u u.address_size refl (All-head FitsOrdered u us fits).size

-- sums over units of a version
sums-of : (f g : OrderedUnit → ℕ) (version : ℕ) (us : List OrderedUnit) → ((u : OrderedUnit) → u.version ≡ version → f u ≡ g u) → All (λ u. u.version ≡ version) us → sum_by f us ≡ sum_by g us
sums-of f g version [] each same = refl
sums-of f g version (u ∷ us) each same =
    let here = each u (All-head (λ (v : OrderedUnit). v.version ≡ version) u us same) in
    omega (arith, here, sum_by-cons f u us, sum_by-cons g u us, sums-of f g version us each (All-tail (λ (v : OrderedUnit). v.version ≡ version) u us same))

-- the lists of a kind, in a section of its own up to version 4 and in another one from version 5 on
module _ (order : Endian) (us : List OrderedUnit) (lists : AttributeValue → List ListEntry) (counted : AreCounted lists) (writable : AreWritable us) (fits : All FitsOrdered us) where
  all-lists : sum_by (widest_contribution lists) us ≤ most_bytes → length (all_lists_bytes lists order us) ≤ sum_by (widest_contribution lists) us
  all-lists small = lists-within order (size_of us) (sizes-short us fits) lists counted us (All-weaker (IsWritable (version_of us) (size_of us)) (λ u. u.address_size ≡ size_of us) (λ u h. h.size) us writable) fits small

  one-version : All (λ u. u.version ≡ version_of us) us
  one-version = All-weaker (IsWritable (version_of us) (size_of us)) (λ u. u.version ≡ version_of us) (λ u h. h.version) us writable

  old-lists : sum_by (λ u. if is_old u.version then widest_contribution lists u else 0) us ≤ most_bytes → length (if is_old (version_of us) then all_lists_bytes lists order us else []) ≤ sum_by (λ u. if is_old u.version then widest_contribution lists u else 0) us
  old-lists small = go (is_old (version_of us)) refl
    where
      go : (old : Bool) → is_old (version_of us) ≡ old → length (if old then all_lists_bytes lists order us else []) ≤ sum_by (λ u. if is_old u.version then widest_contribution lists u else 0) us
      go true old =
          let sum = sums-of (λ u. if is_old u.version then widest_contribution lists u else 0) (widest_contribution lists) (version_of us) us (λ u is. ap (λ b. if b then widest_contribution lists u else 0) (ap is_old is ∙ old)) one-version in
          omega (arith, sum, all-lists (omega (arith, sum, small)))
      go false new = omega arith

  new-lists : sum_by (λ u. if is_old u.version then 0 else widest_contribution lists u) us ≤ most_bytes → length (if is_old (version_of us) then [] else all_lists_bytes lists order us) ≤ sum_by (λ u. if is_old u.version then 0 else widest_contribution lists u) us
  new-lists small = go (is_old (version_of us)) refl
    where
      go : (old : Bool) → is_old (version_of us) ≡ old → length (if old then [] else all_lists_bytes lists order us) ≤ sum_by (λ u. if is_old u.version then 0 else widest_contribution lists u) us
      go true old = omega arith
      go false new =
          let sum = sums-of (λ u. if is_old u.version then 0 else widest_contribution lists u) (widest_contribution lists) (version_of us) us (λ u is. ap (λ b. if b then 0 else widest_contribution lists u) (ap is_old is ∙ new)) one-version in
          omega (arith, sum, all-lists (omega (arith, sum, small)))

-- the widest size of a section of units that have some places; the names of line tables stand there already
abbrev pub widest_placed : AllPlaces → SectionName → List OrderedUnit → ℕ
widest_placed places LineStr us = length (names_bytes places)
widest_placed places name us = widest_given name us

-- A section of given units is no longer than its widest size, where that is no more than a section holds.
pub within-widest : (order : Endian) (units : AllPlaces) (us : List OrderedUnit) (name : SectionName) → AreWritable us → All FitsOrdered us → All (λ u. FitsLines u.lines) us → widest_placed units name us ≤ most_bytes → length (bytes_of order units us name) ≤ widest_placed units name us
within-widest order units us name writable fits lines small = go name small
  where
    sized : All (λ u. u.address_size ≡ size_of us) us
    sized = All-weaker (IsWritable (version_of us) (size_of us)) (λ u. u.address_size ≡ size_of us) (λ u h. h.size) us writable

    go : (n : SectionName) → widest_placed units n us ≤ most_bytes → length (bytes_of order units us n) ≤ widest_placed units n us
    go Abbrev small = tables-within order (size_of us) 0 0 no_lists units us fits
    go Info small = info-within order (size_of us) 0 0 no_lists units us sized fits
    go Line small = lines-within order (size_of us) units us sized fits lines small
    go LineStr small = omega arith
    go Ranges small = old-lists order us ranges_in ranges-small writable fits small
    go Loc small = old-lists order us locations_in locations-small writable fits small
    go Rnglists small = new-lists order us ranges_in ranges-small writable fits small
    go Loclists small = new-lists order us locations_in locations-small writable fits small
    go _ small = omega arith

-- One that is too long is so at its widest size.
pub past-widest : (order : Endian) (units : AllPlaces) (us : List OrderedUnit) (name : SectionName) → AreWritable us → All FitsOrdered us → All (λ u. FitsLines u.lines) us → most_bytes < length (bytes_of order units us name) → most_bytes < widest_placed units name us
past-widest order units us name writable fits lines large = go (ltb most_bytes (widest_placed units name us)) refl
  where
    go : (past : Bool) → ltb most_bytes (widest_placed units name us) ≡ past → most_bytes < widest_placed units name us
    go true is = ltb-true _ _ is
    go false is =
        let small = ltb-false _ _ is in
        absurd (omega (arith, small, large, within-widest order units us name writable fits lines (omega (arith, small))))
