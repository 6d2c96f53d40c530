-- The sections that are spelled of given units have the relocations of their fields, and no others: `are-relocated`.
use Rattle.std.proofs.Common.{◌≡◌, ℕ, ◌+◌, ◌≤◌, refl, sym, ap, ◌∙◌, arith, List, [], ◌∷◌, append-nil, None, Bool, true, false, length, ◌<◌, ◌++◌, subst, inl, inr}
use Rattle.std.specs.Prelude.{◌==◌, if◌then◌else◌}
use Rattle.std.specs.List.{All, AllPairs, flat_map}
use Rattle.std.specs.Int.{w64, cast_signed}
use Rattle.std.proofs.lemmas.List.Elements.{All-head, All-tail, All-cons, All-nil}
use Rattle.std.proofs.lemmas.List.Kept.{AllPairs-cons}
use Rattle.dwc_base.specs.declared.records.Endian.{Endian}
use Rattle.dwc_base.specs.declared.records.Address.TheVariants.{Constant, Symbol}
use Rattle.dwc_base.specs.declared.section_name.SectionName.TheVariants.{Abbrev, Info, Line, LineStr, Loc, Loclists, Ranges, Rnglists, Str}
use Rattle.dwc_base.specs.declared.section_name.SectionName.{SectionName}
use Rattle.dwc_base.specs.declared.constants.TheConstants.{DW_FORM_data1, DW_FORM_data2, DW_FORM_data4, DW_FORM_data8, DW_FORM_sdata}
use Rattle.dwc_base.specs.Sections.{Sections}
use Rattle.dwc_base.specs.Units.{UnitHeader}
use Rattle.dwc_dwarf.specs.Values as Values
use Rattle.dwc_dwarf.specs.Values.{Value}
use Rattle.dwc_dwarf.specs.ReadUnits.{Unit, units, root}
use Rattle.dwc_base.specs.Outputs.{OutputRelocation, output_sections}
use Rattle.dwc_dwarf.specs.RawLists.{is_location_list, is_range_list}
use Rattle.dwc_output.specs.NewListFields.{new_fields_named, new_lists_of_unit}
use Rattle.dwc_output.specs.Fields.{Field, field_of_value, fields_of_named, section_of_locations, section_of_ranges, fields_of_unit, fields_of_lines, fields_of_section, lists_of_unit, relocations_of_fields, IsRelocated, AreRelocated}
use Rattle.dwc_unit.specs.declared.attributes.Attribute.{Attribute}
use Rattle.dwc_unit.specs.declared.attributes.AttributeValue.{AttributeValue}
use Rattle.dwc_unit.specs.declared.attributes.AttributeValue.TheVariants as given
use Rattle.dwc_unit.specs.declared.attributes.DebugInfoRef.TheVariants.{Entry as entry_of}
use Rattle.dwc_unit.specs.SpelledTables.{table_bytes}
use Rattle.dwc_section.specs.SpelledAddresses.{IsHeld}
use Rattle.dwc_unit.specs.SpelledUnits.{as_data1, as_data2, as_data4, as_data8, as_udata, as_sdata, written_value, Shaped, shaped, header_length}
use Rattle.dwc_write.specs.SpelledSections.{placed_unit_bytes, lines_bytes, info_fields, lines_fields, read_unit, read_units}
use Rattle.dwc_write.specs.SpelledRelocations.{value_relocations, info_relocations, lines_relocations}
use Rattle.dwc_section.specs.RisingRelocations.{RelocationsRise}
use Rattle.dwc_unit.specs.GivenLines.{FitsLines}
use Rattle.dwc_unit.specs.GivenUnits.{GivenEntry, OrderedUnit, Places, EntryShape, written_of, FitsValue, FitsAttribute, FitsEntry, FitsOrdered, IsWrittenVersion, size_of, version_of, AreShortUnits, AreWritable, shapes_in, numbered, written_attribute, written_attributes, written_entries, lists_of_entries}
use Rattle.dwc_unit.specs.declared.lists.ListPlaces.{ListPlaces}
use Rattle.dwc_section.specs.Spelled.{at_places}
use Rattle.dwc_unit.specs.Lists.{ListEntry, behind_attributes, contribution_relocations, list_relocations, locations_in, no_lists, ranges_in}
use Rattle.dwc_write.proofs.ReadLists.{location-offset, range-offset}
use Rattle.dwc_write.proofs.RelatedListsGiven.{FieldsNamed, IsRelatedKind, both-related, locations-related-4, ranges-related-4}
use Rattle.dwc_write.proofs.RelatedCountedGiven.{locations-related-5, ranges-related-5}
use Rattle.dwc_write.proofs.ListsGiven.{StandThere}
use Rattle.dwc_write.proofs.ListsStand.{StandAlong, along-back, along-first}
use Rattle.dwc_write.proofs.OutputLaws.{lists-rise}
use Rattle.dwc_write.specs.Layouts.{AllPlaces, offsets_by_number, places_in, behind_unit, first_place, lists_from, table_of, written_unit, written_units, written_tables}
use Rattle.dwc_unit.specs.TextTables.{AreTexts}
use Rattle.dwc_unit.specs.UsedTexts.{strings_bytes}
use Rattle.dwc_write.specs.SpelledOutput.{abbrev_bytes, all_info_bytes, all_lines_bytes, all_lists_bytes, all_lists_relocations, names_bytes, unit_lists_bytes, unit_lists_relocations, units_placed, all_places, spelled_sections}
use Rattle.dwc_section.specs.Writers.{IsSound}
use Rattle.dwc_write.proofs.ReadAddresses.{rising-held}
use Rattle.dwc_write.proofs.ReadRelocations as relocations
use Rattle.dwc_write.proofs.LineRelocations as line_relocations
use Rattle.dwc_write.proofs.LineRelocations.{lines-functions}
use Rattle.dwc_write.proofs.ReadRelocations.{info-functions, rise-from}
use Rattle.dwc_write.proofs.ReadLineTables.{all-named, lines-rise}
use Rattle.dwc_write.proofs.TableFits.{tables-texts}
use Rattle.dwc_write.proofs.ReadSections.{info-rise, tables-read}
use Rattle.dwc_write.proofs.ReadFields.{IsRelatedValue, IsRelatedUnit, info-related}
use Rattle.dwc_write.proofs.ReadLineFields.{tables-found, unit_lines-found, lines-related}
use Rattle.dwc_write.proofs.ReadBackLaws.{AreSpelled, tables-from, positive, places-contents, contents-given, are-spelled, locations-along, ranges-along, units-read-back}
use Rattle.dwc_write.proofs.OutputForms.{all-written, last-written}

-- ---- given values

-- a constant is no field
constant-related : (h : UnitHeader) (place name : ℕ) (a b c d f : Bool) (bits : ℕ) → (let w = if a then as_data1 bits else (if b then as_data2 bits else (if c then as_data4 bits else (if d then as_data8 bits else (if f then as_sdata (cast_signed w64 bits) else as_udata bits)))) in
    relocations_of_fields (field_of_value h place (written_value name w)) ≡ value_relocations h.address_size place w)
constant-related h place name true b c d f bits = refl
constant-related h place name false true c d f bits = refl
constant-related h place name false false true d f bits = refl
constant-related h place name false false false true f bits = refl
constant-related h place name false false false false true bits = refl
constant-related h place name false false false false false bits = refl

value-related : (size : ℕ) (p : Places) (lists : ListPlaces) (a : Attribute) → IsWrittenVersion p.version → FitsAttribute size a → IsRelatedValue p.version (written_attribute p lists a)
value-related size p lists a known fits h version place = go a.value fits.value
  where
    go : (v : AttributeValue) → FitsValue size a.name v → relocations_of_fields (field_of_value h place (written_value a.name (written_of p lists v))) ≡ value_relocations h.address_size place (written_of p lists v)
    go (given.Address (Constant n)) fit = refl
    go (given.Address (Symbol symbol addend)) fit = refl
    go (given.Constant form bits) fit = constant-related h place a.name (form == DW_FORM_data1) (form == DW_FORM_data2) (form == DW_FORM_data4) (form == DW_FORM_data8) (form == DW_FORM_sdata) bits
    go (given.Flag b) fit = refl
    go (given.Block bytes) fit = ap (λ b. relocations_of_fields (field_of_value h place (if b then Values.expression bytes.items else Values.block bytes.items))) fit
    go (given.Exprloc e) fit = refl
    go (given.StringRef id) fit = refl
    go given.LineProgramRef fit = rw (fit) refl
    go (given.RangeListRef list) fit = ap (λ v. relocations_of_fields (field_of_value h place v)) (range-offset a.name lists.ranges fit.0) ∙ rw (version) refl
    go (given.LocationListRef list) fit = ap (λ v. relocations_of_fields (field_of_value h place v)) (location-offset a.name lists.locations fit.0) ∙ rw (version) refl
    go (given.UnitRef id) fit = refl
    go (given.DebugInfoRef (entry_of unit id)) fit = by_version known
      where
        by_version : IsWrittenVersion p.version → relocations_of_fields (field_of_value h place (written_value a.name (written_of p lists (given.DebugInfoRef (entry_of unit id))))) ≡ value_relocations h.address_size place (written_of p lists (given.DebugInfoRef (entry_of unit id)))
        by_version (inl e) = rw (version, e) refl
        by_version (inr e) = rw (version, e) refl

values-related : (size : ℕ) (next : ListPlaces → List Attribute → ListPlaces) (p : Places) (lists : ListPlaces) (xs : List Attribute) → IsWrittenVersion p.version → All (FitsAttribute size) xs → All (IsRelatedValue p.version) (written_attributes next p lists xs)
values-related size next p lists [] known fits = All-nil _
values-related size next p lists (x ∷ xs) known fits =
    All-cons (IsRelatedValue p.version) (written_attribute p lists x) (written_attributes next p (next lists (x ∷ [])) xs) (value-related size p lists x known (All-head (FitsAttribute size) x xs fits)) (values-related size next p (next lists (x ∷ [])) xs known (All-tail (FitsAttribute size) x xs fits))

entries-related : (size : ℕ) (next : ListPlaces → List Attribute → ListPlaces) (p : Places) (lists : ListPlaces) (uses : List EntryShape) (es : List GivenEntry) → IsWrittenVersion p.version → All (FitsEntry size) es → All (λ x. All (IsRelatedValue p.version) x.entry.attributes) (shaped (written_entries next p lists uses es))
entries-related size next p lists uses [] known fits = All-nil _
entries-related size next p lists uses (e ∷ es) known fits =
    All-cons (λ (x : Shaped). All (IsRelatedValue p.version) x.entry.attributes) _ (shaped (written_entries next p (next lists e.attributes) uses es)) (values-related size next p lists e.attributes known (All-head (FitsEntry size) e es fits).attributes) (entries-related size next p (next lists e.attributes) uses es known (All-tail (FitsEntry size) e es fits))

units-related : (s : Sections) (order : Endian) (size : ℕ) (units : AllPlaces) (us : List OrderedUnit) (a l : ℕ) (r : ListPlaces) → All FitsOrdered us → All (IsRelatedUnit s size) (written_units order size units a l r us)
units-related s order size units [] a l r fits = All-nil _
units-related s order size units (u ∷ us) a l r fits =
    All-cons (IsRelatedUnit s size) _ _ (entries-related u.address_size (behind_attributes u.version size) (places_in units u.version (offsets_by_number order size u) l) (lists_from u.version u.entries r) (shapes_in u) u.entries (All-head FitsOrdered u us fits).version (All-head FitsOrdered u us fits).entries)
    (units-related s order size units us (a + length (table_bytes (numbered 1 (shapes_in u)))) (l + length (lines_bytes order size (table_of units u))) (behind_unit order size r u) (All-tail FitsOrdered u us fits))

-- ---- one behind another

abbrev Behind : OutputRelocation → OutputRelocation → Type 0
Behind a b = a.offset + a.size ≤ b.offset

pairs-rise : (low high : ℕ) (rs : List OutputRelocation) → RelocationsRise low high rs → AllPairs Behind rs
pairs-rise low high [] rise = none-behind
  where
    none-behind : AllPairs Behind []
    none-behind i j d less within = absurd (omega arith)
pairs-rise low high (r ∷ rs) rise = AllPairs-cons Behind r rs (rise-from (r.offset + r.size) high rs rise.1) (pairs-rise (r.offset + r.size) high rs rise.1)

-- ---- the lists of units

-- where the first lists of a unit stand, so do their relocations
first-relocations : (version : ℕ) (order : Endian) (size place : ℕ) (es : List ListEntry) → list_relocations version order size (first_place version es place) es ≡ contribution_relocations version order size place es
first-relocations version order size place [] = refl
first-relocations version order size place (e ∷ es) = refl

-- the fields of the lists that the values of a unit name
abbrev fields_named : FieldsNamed → Unit → List Field
fields_named named v = flat_map (λ e. flat_map (λ a. named v.header a.1) e.attributes) v.entries

module _ (version : ℕ) (s : Sections) (name : SectionName) (named : FieldsNamed) (kind : AttributeValue → List ListEntry) (at : ListPlaces → ℕ) (is : IsRelatedKind version s name named kind at) (size : ℕ) (units : AllPlaces) (some : 0 < size) where
  -- those of a kind
  units-lists : (place a l : ℕ) (r : ListPlaces) (us : List OrderedUnit) → All (λ u. u.version ≡ version) us → All (λ u. u.address_size ≡ size) us → All FitsOrdered us → StandAlong (λ (u : OrderedUnit). u.version) (λ u. lists_of_entries kind u.entries) s size name (at r) us
      → relocations_of_fields (flat_map (fields_named named) (read_units s.order size place (written_units s.order size units a l r us))) ≡ at_places (unit_lists_bytes kind s.order size) (unit_lists_relocations kind s.order size) (at r) us
  units-lists place a l r [] versions sized fits along = refl
  units-lists place a l r (u ∷ us) versions sized fits along =
      let version_is : u.version ≡ version = All-head (λ (v : OrderedUnit). v.version ≡ version) u us versions in
      let own_kind : IsRelatedKind u.version s name named kind at = subst (λ v. IsRelatedKind v s name named kind at) (sym version_is) is in
      let p = places_in units u.version (offsets_by_number s.order size u) l in
      let first = lists_from u.version u.entries r in
      let unit = written_unit size r p a u in
      let v = read_unit s.order size place unit in
      let es = lists_of_entries kind u.entries in
      let E : ℕ → Type 0 = λ n. All (FitsEntry n) u.entries in
      let entries = subst E (All-head (λ (v : OrderedUnit). v.address_size ≡ size) u us sized) (All-head FitsOrdered u us fits).entries in
      let contents = places-contents s.order size (shaped unit.entries) (place + header_length u.version) ∙ contents-given (behind_attributes u.version size) p first (shapes_in u) u.entries in
      let first_is = (own_kind.place size).first r u.entries in
      let there = along-first (λ (u : OrderedUnit). u.version) (λ u. lists_of_entries kind u.entries) s size name (at r) u us along in
      let here = own_kind.related v.header refl some p first v.entries u.entries contents entries (subst (λ n. StandThere u.version s size name n es) (sym first_is) there) ∙ ap (λ n. list_relocations u.version s.order size n es) first_is ∙ first-relocations u.version s.order size (at r) es in
      let next : at (behind_unit s.order size r u) ≡ at r + length (unit_lists_bytes kind s.order size u) = (own_kind.place size).unit s.order r u in
      let behind = along-back (λ (u : OrderedUnit). u.version) (λ u. lists_of_entries kind u.entries) s size name (at r) u us along in
      let others = units-lists (place + length (placed_unit_bytes s.order size unit)) (a + length (table_bytes unit.table)) (l + length (lines_bytes s.order size (table_of units u))) (behind_unit s.order size r u) us
      (All-tail (λ (v : OrderedUnit). v.version ≡ version) u us versions) (All-tail (λ (v : OrderedUnit). v.address_size ≡ size) u us sized) (All-tail FitsOrdered u us fits) (subst (λ n. StandAlong (λ (u : OrderedUnit). u.version) (λ u. lists_of_entries kind u.entries) s size name n us) (sym next) behind) in
      let more = flat_map (fields_named named) (read_units s.order size (place + length (placed_unit_bytes s.order size unit)) (written_units s.order size units (a + length (table_bytes unit.table)) (l + length (lines_bytes s.order size (table_of units u))) (behind_unit s.order size r u) us)) in
      both-related (fields_named named v) more ∙ ap (λ rs. rs ++ relocations_of_fields more) here ∙ ap (λ rs. unit_lists_relocations kind s.order size (at r) u ++ rs) others
      ∙ ap (λ n. unit_lists_relocations kind s.order size (at r) u ++ at_places (unit_lists_bytes kind s.order size) (unit_lists_relocations kind s.order size) n us) next

-- ---- the sections

fields-of_ranges : (s : Sections) (us : List Unit) → units s ≡ record { items = us; fault = None } → fields_of_section s Ranges ≡ flat_map (lists_of_unit is_range_list s) us
unfolding fields_of_section
fields-of_ranges s us read = ap (λ l. flat_map (lists_of_unit is_range_list s) l.items) read

fields-of_locations : (s : Sections) (us : List Unit) → units s ≡ record { items = us; fault = None } → fields_of_section s Loc ≡ flat_map (lists_of_unit is_location_list s) us
unfolding fields_of_section
fields-of_locations s us read = ap (λ l. flat_map (lists_of_unit is_location_list s) l.items) read

fields-of_new_ranges : (s : Sections) (us : List Unit) → units s ≡ record { items = us; fault = None } → fields_of_section s Rnglists ≡ flat_map (new_lists_of_unit is_range_list s) us
unfolding fields_of_section
fields-of_new_ranges s us read = ap (λ l. flat_map (new_lists_of_unit is_range_list s) l.items) read

fields-of_new_locations : (s : Sections) (us : List Unit) → units s ≡ record { items = us; fault = None } → fields_of_section s Loclists ≡ flat_map (new_lists_of_unit is_location_list s) us
unfolding fields_of_section
fields-of_new_locations s us read = ap (λ l. flat_map (new_lists_of_unit is_location_list s) l.items) read

fields-of_info : (s : Sections) (us : List Unit) → units s ≡ record { items = us; fault = None } → fields_of_section s Info ≡ flat_map (fields_of_unit s) us
unfolding fields_of_section
fields-of_info s us read = ap (λ l. flat_map (fields_of_unit s) l.items) read

fields-of_line : (s : Sections) (us : List Unit) → units s ≡ record { items = us; fault = None } → fields_of_section s Line ≡ flat_map (λ u. fields_of_lines s u.header (root u)) us
unfolding fields_of_section
fields-of_line s us read = ap (λ l. flat_map (λ u. fields_of_lines s u.header (root u)) l.items) read

no-fields : (s : Sections) → [] ≡ relocations_of_fields (fields_of_section s Abbrev)
unfolding fields_of_section
no-fields s = refl

no-text-fields : (s : Sections) → [] ≡ relocations_of_fields (fields_of_section s Str)
unfolding fields_of_section
no-text-fields s = refl

no-name-fields : (s : Sections) → [] ≡ relocations_of_fields (fields_of_section s LineStr)
unfolding fields_of_section
no-name-fields s = refl

-- ---- the lists of all units

module _ (order : Endian) (texts : List (List ℕ)) (us : List OrderedUnit) (spelled : AreSpelled order texts us) (short : AreShortUnits us) (fits : All FitsOrdered us) where
  abbrev read_of_all : List Unit
  read_of_all = read_units order (size_of us) 0 (units_placed order (all_places order texts us) us)

  abbrev spelled_out : Sections
  spelled_out = output_sections order (spelled_sections order texts us)

  old-ranges : version_of us ≡ 4 → all_lists_relocations ranges_in order us ≡ relocations_of_fields (fields_of_section spelled_out Ranges)
  old-ranges e =
      let versions = subst (λ v. All (λ u. u.version ≡ v) us) e spelled.versions in
      let along = subst (λ v. StandAlong (λ (u : OrderedUnit). u.version) (λ u. lists_of_entries ranges_in u.entries) spelled_out (size_of us) (section_of_ranges v) 0 us) e (ranges-along order texts us spelled fits) in
      sym (ap relocations_of_fields (fields-of_ranges spelled_out read_of_all (units-read-back order texts us spelled))
      ∙ units-lists 4 spelled_out Ranges (fields_of_named is_range_list spelled_out) ranges_in (λ p. p.ranges) (ranges-related-4 spelled_out) (size_of us) (all_places order texts us) (positive (size_of us) spelled.known).0 0 0 0 no_lists us versions spelled.sized fits along)

  old-locations : version_of us ≡ 4 → all_lists_relocations locations_in order us ≡ relocations_of_fields (fields_of_section spelled_out Loc)
  old-locations e =
      let versions = subst (λ v. All (λ u. u.version ≡ v) us) e spelled.versions in
      let along = subst (λ v. StandAlong (λ (u : OrderedUnit). u.version) (λ u. lists_of_entries locations_in u.entries) spelled_out (size_of us) (section_of_locations v) 0 us) e (locations-along order texts us spelled short) in
      sym (ap relocations_of_fields (fields-of_locations spelled_out read_of_all (units-read-back order texts us spelled))
      ∙ units-lists 4 spelled_out Loc (fields_of_named is_location_list spelled_out) locations_in (λ p. p.locations) (locations-related-4 spelled_out) (size_of us) (all_places order texts us) (positive (size_of us) spelled.known).0 0 0 0 no_lists us versions spelled.sized fits along)

  new-ranges : version_of us ≡ 5 → all_lists_relocations ranges_in order us ≡ relocations_of_fields (fields_of_section spelled_out Rnglists)
  new-ranges e =
      let versions = subst (λ v. All (λ u. u.version ≡ v) us) e spelled.versions in
      let along = subst (λ v. StandAlong (λ (u : OrderedUnit). u.version) (λ u. lists_of_entries ranges_in u.entries) spelled_out (size_of us) (section_of_ranges v) 0 us) e (ranges-along order texts us spelled fits) in
      sym (ap relocations_of_fields (fields-of_new_ranges spelled_out read_of_all (units-read-back order texts us spelled))
      ∙ units-lists 5 spelled_out Rnglists (new_fields_named is_range_list spelled_out) ranges_in (λ p. p.ranges) (ranges-related-5 spelled_out) (size_of us) (all_places order texts us) (positive (size_of us) spelled.known).0 0 0 0 no_lists us versions spelled.sized fits along)

  new-locations : version_of us ≡ 5 → all_lists_relocations locations_in order us ≡ relocations_of_fields (fields_of_section spelled_out Loclists)
  new-locations e =
      let versions = subst (λ v. All (λ u. u.version ≡ v) us) e spelled.versions in
      let along = subst (λ v. StandAlong (λ (u : OrderedUnit). u.version) (λ u. lists_of_entries locations_in u.entries) spelled_out (size_of us) (section_of_locations v) 0 us) e (locations-along order texts us spelled short) in
      sym (ap relocations_of_fields (fields-of_new_locations spelled_out read_of_all (units-read-back order texts us spelled))
      ∙ units-lists 5 spelled_out Loclists (new_fields_named is_location_list spelled_out) locations_in (λ p. p.locations) (locations-related-5 spelled_out) (size_of us) (all_places order texts us) (positive (size_of us) spelled.known).0 0 0 0 no_lists us versions spelled.sized fits along)

  -- of both versions, in the section that the version has
  ranges-are-related : all_lists_relocations ranges_in order us ≡ relocations_of_fields (fields_of_section spelled_out (section_of_ranges (version_of us)))
  ranges-are-related = go spelled.written
    where
      go : IsWrittenVersion (version_of us) → all_lists_relocations ranges_in order us ≡ relocations_of_fields (fields_of_section spelled_out (section_of_ranges (version_of us)))
      go (inl e) = old-ranges e ∙ ap (λ v. relocations_of_fields (fields_of_section spelled_out (section_of_ranges v))) (sym e)
      go (inr e) = new-ranges e ∙ ap (λ v. relocations_of_fields (fields_of_section spelled_out (section_of_ranges v))) (sym e)

  locations-are-related : all_lists_relocations locations_in order us ≡ relocations_of_fields (fields_of_section spelled_out (section_of_locations (version_of us)))
  locations-are-related = go spelled.written
    where
      go : IsWrittenVersion (version_of us) → all_lists_relocations locations_in order us ≡ relocations_of_fields (fields_of_section spelled_out (section_of_locations (version_of us)))
      go (inl e) = old-locations e ∙ ap (λ v. relocations_of_fields (fields_of_section spelled_out (section_of_locations v))) (sym e)
      go (inr e) = new-locations e ∙ ap (λ v. relocations_of_fields (fields_of_section spelled_out (section_of_locations v))) (sym e)

-- Given units that are spelled within the size of sections have the relocations of their fields.
pub are-relocated : (order : Endian) (texts : List (List ℕ)) (us : List OrderedUnit) → AreWritable us → AreTexts texts → AreShortUnits us → All FitsOrdered us → All (λ u. FitsLines u.lines) us → All (IsSound order) (spelled_sections order texts us) → AreRelocated order (spelled_sections order texts us)
are-relocated order texts us writable table short fits lines sound =
    let size = size_of us in
    let units = all_places order texts us in
    let ws = units_placed order units us in
    let ts = written_tables units us in
    let s = output_sections order (spelled_sections order texts us) in
    let q = info_relocations order size 0 ws in
    let r = lines_relocations order size 0 ts in
    let spelled = are-spelled order texts us writable table fits lines sound in
    let holds = spelled.holds in
    let units_fit = spelled.units_fit in
    let some = positive size spelled.known in
    let info_is = holds.info_relocations_are ∙ info-functions order size 0 ws in
    let lines_is = holds.line_relocations_are ∙ lines-functions order size 0 ts in
    let info_rising = rising-held 0 _ (info_fields order size 0 ws) (info-rise order size some.0 0 ws) in
    let lines_rising = rising-held 0 _ (lines_fields order size 0 ts) (lines-rise order size some.0 0 ts) in
    let info_held : All (IsHeld (s.relocations Info)) (info_fields order size 0 ws) = rw (info_is) info_rising in
    let lines_held : All (IsHeld (s.relocations Line)) (lines_fields order size 0 ts) = rw (lines_is) lines_rising in
    let read = units-read-back order texts us spelled in
    let tables = tables-read s order size 0 ws [] units_fit (tables-from order size units us 0 0 no_lists) (holds.abbrev_is ∙ sym (append-nil _)) in
    let of_info : q ≡ relocations_of_fields (fields_of_section s Info) =
    info-related s size ws units_fit tables info_held holds.info_is (units-related s order size units us 0 0 no_lists fits) ∙ ap relocations_of_fields (sym (fields-of_info s (read_units order size 0 ws) read)) in
    let found = tables-found s size 0 ts [] some.1 spelled.tables_fit (all-named s units.names ts holds.names_are (tables-texts units us)) lines_held (holds.line_is ∙ sym (append-nil _)) in
    let of_lines : r ≡ relocations_of_fields (fields_of_section s Line) =
    sym (ap relocations_of_fields (fields-of_line s (read_units order size 0 ws) read ∙ unit_lines-found s size (version_of us) units us 0 0 0 no_lists writable fits found) ∙ lines-related order size ts 0) in
    all-written (IsRelocated s) Abbrev (abbrev_bytes order units us) [] _ (record { name = Abbrev; named = refl; fields = no-fields s; rising = pairs-rise 0 0 [] (omega arith) })
    (all-written (IsRelocated s) Info (all_info_bytes order units us) q _ (record { name = Info; named = refl; fields = of_info; rising = pairs-rise 0 _ q (relocations.info-rise order size 0 ws) })
    (all-written (IsRelocated s) Line (all_lines_bytes order units us) r _ (record { name = Line; named = refl; fields = of_lines; rising = pairs-rise 0 _ r (line_relocations.lines-rise order size 0 ts) })
    (all-written (IsRelocated s) LineStr (names_bytes units) [] _ (record { name = LineStr; named = refl; fields = no-name-fields s; rising = pairs-rise 0 0 [] (omega arith) })
    (all-written (IsRelocated s) (section_of_ranges (version_of us)) (all_lists_bytes ranges_in order us) (all_lists_relocations ranges_in order us) _ (record { name = section_of_ranges (version_of us); named = refl; fields = ranges-are-related order texts us spelled short fits; rising = pairs-rise 0 _ (all_lists_relocations ranges_in order us) (lists-rise ranges_in order size us) })
    (all-written (IsRelocated s) (section_of_locations (version_of us)) (all_lists_bytes locations_in order us) (all_lists_relocations locations_in order us) _ (record { name = section_of_locations (version_of us); named = refl; fields = locations-are-related order texts us spelled short fits; rising = pairs-rise 0 _ (all_lists_relocations locations_in order us) (lists-rise locations_in order size us) })
    (last-written (IsRelocated s) Str (strings_bytes texts us) [] (record { name = Str; named = refl; fields = no-text-fields s; rising = pairs-rise 0 0 [] (omega arith) })))))))
