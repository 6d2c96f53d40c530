-- The sections that are spelled of given units say their trees: `carries-trees`, `target-form`.
use Rattle.std.proofs.Common.{◌≡◌, ℕ, suc, ◌+◌, ◌^◌, ◌<◌, refl, sym, ap, subst, ◌∙◌, arith, List, [], ◌∷◌, length, map, Ok, Bool, true, false, Option, Some}
use Rattle.std.specs.Prelude.{◌==◌, ◌||◌, if◌then◌else◌, option_map, option_and_then, slice_get, position}
use Rattle.std.specs.List.{All, AllZip}
use Rattle.std.specs.Int.{w64, cast_signed}
use Rattle.std.proofs.lemmas.Bool.{eqb-true}
use Rattle.std.proofs.lemmas.Int.{of_z-to_z}
use Rattle.std.proofs.lemmas.List.Elements.{All-head, All-tail, All-cons, All-nil}
use Rattle.dwc_base.specs.declared.records.Endian.{Endian}
use Rattle.dwc_base.specs.declared.constants.TheConstants.{DW_FORM_data1, DW_FORM_data2, DW_FORM_data4, DW_FORM_data8, DW_FORM_sdata, DW_FORM_udata}
use Rattle.dwc_base.specs.Sections.{Sections, reported}
use Rattle.dwc_dwarf.specs.Values as Values
use Rattle.dwc_dwarf.specs.Entries.{Entry}
use Rattle.dwc_dwarf.specs.ReadUnits.{Unit as ReadUnit, units}
use Rattle.dwc_base.specs.Outputs.{OutputSection, output_sections}
use Rattle.dwc_output.specs.FieldKinds.{section_of_locations, section_of_ranges}
use Rattle.dwc_output.specs.OutputForm.{HaveTargetForm}
use Rattle.dwc_dwarf.specs.Trees as trees
use Rattle.dwc_base.specs.declared.section_name.SectionName.{SectionName}
use Rattle.dwc_base.specs.Units.{UnitHeader}
use Rattle.dwc_unit.specs.declared.lists.ListPlaces.{ListPlaces}
use Rattle.dwc_unit.specs.Lists.{ListEntry, behind_attributes, locations_in, no_lists, ranges_in}
use Rattle.dwc_unit.specs.LineNames.{line_texts}
use Rattle.dwc_write.proofs.ListPlaces.{IsPlaceOf, locations-place, ranges-place}
use Rattle.dwc_write.proofs.ReadLists.{location-offset, range-offset}
use Rattle.dwc_write.proofs.ListsGiven.{IsLocationRead, IsRangeRead, AreAllRead, AreListsRead, AreAllListsRead, StandThere, locations-listed, ranges-listed}
use Rattle.dwc_write.proofs.ListsStand.{StandAlong, along-back, along-first}
use Rattle.dwc_output.specs.TreeReading.{ListReading, ReadingUnit, each_read, read_as, entry_or_nothing, text_or_nothing, entry_in_unit, entry_in_section, value_said, entry_said, unit_said, units_said, trees, output_lists, CarriesTrees}
use Rattle.dwc_dwarf.specs.Indexed.{texts_of_unit}
use Rattle.dwc_dwarf.specs.LineHeaders.{text_in}
use Rattle.dwc_base.specs.Reading.{◌>>=◌}
use Rattle.dwc_dwarf.specs.Texts.{text_elsewhere, text_named}
use Rattle.dwc_base.specs.declared.faults.What.TheVariants.{Text}
use Rattle.dwc_base.specs.declared.section_name.SectionName.TheVariants.{Info, Str}
use Rattle.dwc_unit.specs.declared.attributes.Attribute.{Attribute}
use Rattle.dwc_unit.specs.declared.attributes.AttributeValue.{AttributeValue}
use Rattle.dwc_unit.specs.declared.attributes.AttributeValue.TheVariants.{Address, Constant, Flag, Block, Exprloc, StringRef, LineProgramRef, RangeListRef, LocationListRef, UnitRef, DebugInfoRef}
use Rattle.dwc_unit.specs.declared.attributes.DebugInfoRef.TheVariants.{Entry as entry_of}
use Rattle.dwc_unit.specs.SpelledUnits.{as_data1, as_data2, as_data4, as_data8, as_udata, as_sdata, written_value, shaped, header_length}
use Rattle.dwc_unit.specs.SpelledTables.{table_bytes}
use Rattle.dwc_write.specs.SpelledSections.{placed_unit_bytes, lines_bytes, read_unit, read_units}
use Rattle.dwc_unit.specs.GivenLines.{FitsLines}
use Rattle.dwc_unit.specs.GivenUnits.{GivenEntry, OrderedUnit, Places, AreWritable, IsWrittenVersion, size_of, version_of, shapes_in, lists_of_entries, AreShortUnits, constant_of, written_of, is_constant_form, constant_bound, FitsValue, FitsAttribute, FitsEntry, FitsOrdered}
use Rattle.dwc_unit.specs.GivenTrees.{place_in_order, place_in_units, given_said, attribute_said, tree_entry, given_tree, trees_from, given_trees}
use Rattle.dwc_unit.specs.TextTables.{AreTexts, IsText}
use Rattle.dwc_unit.specs.UsedTexts.{HaveTexts, text_numbered, text_of_value, text_places, texts_named, texts_of_attributes, texts_of_entries}
use Rattle.dwc_write.specs.Layouts.{AllPlaces, first_place, lists_from, offset_of_text, unit_length, offsets_by_number, places_of_units, places_in, behind_unit, table_of, written_unit, written_units}
use Rattle.dwc_write.specs.SpelledOutput.{units_placed, all_places, spelled_sections}
use Rattle.dwc_section.specs.Writers.{IsSound}
use Rattle.dwc_write.specs.ReadBack.{read_contents, given_values, given_contents, IsReadUnit, ReadsBack}
use Rattle.dwc_write.proofs.ReadTexts.{all-used, text-read}
use Rattle.dwc_unit.proofs.ReadValues.{All-back, All-front}
use Rattle.dwc_write.proofs.PlacedEntries.{placed-length, offsets-same, offsets-moved, offsets-read, StandsAt, StandFrom, in-unit, in-section}
use Rattle.dwc_write.proofs.ReadBackLaws.{AreSpelled, are-spelled, contents-given, locations-along, places-contents, positive, ranges-along, units-read-back}

-- ---- values

-- a constant is read in its form
constant-read : (name form bits : ℕ) → is_constant_form form ≡ true → bits < constant_bound form → written_value name (constant_of form bits) ≡ Values.constant form bits
constant-read name form bits known small =
    go (form == DW_FORM_data1) refl (form == DW_FORM_data2) refl (form == DW_FORM_data4) refl (form == DW_FORM_data8) refl (form == DW_FORM_sdata) refl (form == DW_FORM_udata) refl known small
  where
    of_form : (n : ℕ) → (form == n) ≡ true → Values.constant n bits ≡ Values.constant form bits
    of_form n e = ap (λ k. Values.constant k bits) (sym (eqb-true _ _ e))

    go : (a : Bool) → (form == DW_FORM_data1) ≡ a → (b : Bool) → (form == DW_FORM_data2) ≡ b → (c : Bool) → (form == DW_FORM_data4) ≡ c → (d : Bool) → (form == DW_FORM_data8) ≡ d → (s : Bool) → (form == DW_FORM_sdata) ≡ s → (u : Bool) → (form == DW_FORM_udata) ≡ u
        → (a || (b || (c || (d || (s || u))))) ≡ true → bits < (if a then 256 ^ 1 else (if b then 256 ^ 2 else (if c then 256 ^ 4 else 2 ^ 64)))
        → written_value name (if a then as_data1 bits else (if b then as_data2 bits else (if c then as_data4 bits else (if d then as_data8 bits else (if s then as_sdata (cast_signed w64 bits) else as_udata bits))))) ≡ Values.constant form bits
    go true is b p c q d r s t u v known small = of_form DW_FORM_data1 is
    go false n true is c q d r s t u v known small = of_form DW_FORM_data2 is
    go false n false o true is d r s t u v known small = of_form DW_FORM_data4 is
    go false n false o false p true is s t u v known small = of_form DW_FORM_data8 is
    go false n false o false p false q true is u v known small = ap (Values.constant DW_FORM_sdata) (of_z-to_z w64 bits small) ∙ of_form DW_FORM_sdata is
    go false n false o false p false q false r true is known small = of_form DW_FORM_udata is
    go false n false o false p false q false r false s known small = absurd (cc)

-- What references at some places are read as: the entries of a unit, and those of all units.
record AreNamed (us : List OrderedUnit) (u : OrderedUnit) (p : Places) (r : ReadingUnit) : Type 0 where
  entry : (id : ℕ) → entry_in_unit r (p.entry id) ≡ entry_or_nothing (option_map (λ place. (r.number, place)) (place_in_order u id))
  entry_of : (unit id : ℕ) → entry_in_section r (p.entry_of unit id) ≡ entry_or_nothing (place_in_units us unit id)

module _ (lists : ListReading) (texts : List (List ℕ)) (us : List OrderedUnit) (u : OrderedUnit) (p : Places) (r : ReadingUnit) (named : AreNamed us u p r) where
  -- a text is read at its offset
  abbrev Readable : ℕ → Type 0
  Readable n = text_in r.texts.order r.texts.strings (p.text n) ≡ Ok (text_numbered texts n)

  -- a value says what was given
  value-given : (size : ℕ) (e : Entry) (list_places : ListPlaces) (a : Attribute) → FitsAttribute size a → All Readable (text_of_value a.value) → IsRangeRead lists r.unit.header list_places.ranges a.value × IsLocationRead lists r.unit.header list_places.locations a.value → value_said lists r e (written_value a.name (written_of p list_places a.value)) ≡ Ok (given_said texts us r.number u a.value)
  unfolding value_said text_named text_elsewhere
  value-given size e list_places a fits readable listed = go a.value fits.value readable listed
    where
      go : (v : AttributeValue) → FitsValue size a.name v → All Readable (text_of_value v) → IsRangeRead lists r.unit.header list_places.ranges v × IsLocationRead lists r.unit.header list_places.locations v → value_said lists r e (written_value a.name (written_of p list_places v)) ≡ Ok (given_said texts us r.number u v)
      go (Address x) h t l = refl
      go (Constant form bits) h t l = ap (value_said lists r e) (constant-read a.name form bits h.0 h.1)
      go (Flag b) h t l = refl
      go (Block bytes) h t l = ap (λ b. value_said lists r e (if b then Values.expression bytes.items else Values.block bytes.items)) h
      go (Exprloc x) h t l = refl
      go (StringRef id) h t l = ap (λ x. read_as text_or_nothing (reported Text Info e.offset (x >>= λ bytes. Ok (Some bytes)))) (All-head Readable id.index [] t)
      go LineProgramRef h t l = rw (h) refl
      go (RangeListRef list) h t l = ap (value_said lists r e) (range-offset a.name list_places.ranges h.0) ∙ ap (read_as trees.ranges) (l.0 e)
      go (LocationListRef list) h t l = ap (value_said lists r e) (location-offset a.name list_places.locations h.0) ∙ ap (read_as trees.locations) (l.1 e)
      go (UnitRef id) h t l = ap Ok (named.entry id.index)
      go (DebugInfoRef (entry_of unit id)) h t l = ap Ok (named.entry_of unit.index id.index)

  -- lists stand in units of a version and of a size of addresses
  module _ (version step : ℕ) where
    values-given : (size : ℕ) (e : Entry) (list_places : ListPlaces) (xs : List Attribute) → All (FitsAttribute size) xs → All Readable (texts_of_attributes xs) → AreListsRead lists r.unit.header version step list_places xs → each_read (λ a. read_as (λ v. (a.0, v)) (value_said lists r e a.1)) (given_values (behind_attributes version step) p list_places xs) ≡ Ok (map (attribute_said texts us r.number u) xs)
    values-given size e list_places [] fits readable listed = refl
    values-given size e list_places (x ∷ xs) fits readable listed =
        let here = value-given size e list_places x (All-head (FitsAttribute size) x xs fits) (All-front Readable (text_of_value x.value) (texts_of_attributes xs) readable) (listed.0.0, listed.1.0) in
        let others = values-given size e (behind_attributes version step list_places (x ∷ [])) xs (All-tail (FitsAttribute size) x xs fits) (All-back Readable (text_of_value x.value) (texts_of_attributes xs) readable) (listed.0.1, listed.1.1) in
        rw (here, others) refl

    -- an entry, by what stands beside its offset
    entry-given : (size : ℕ) (e : Entry) (list_places : ListPlaces) (g : GivenEntry) → FitsEntry size g → All Readable (texts_of_attributes g.attributes) → AreListsRead lists r.unit.header version step list_places g.attributes → read_contents e ≡ record { depth = g.depth; tag = g.tag; attributes = given_values (behind_attributes version step) p list_places g.attributes }
        → entry_said lists r e ≡ Ok (tree_entry texts us r.number u g)
    entry-given size e list_places g fits readable listed same =
        let depth : e.depth ≡ g.depth = ap (λ c. c.depth) same in
        let tag : e.tag ≡ g.tag = ap (λ c. c.tag) same in
        let attributes : e.attributes ≡ given_values (behind_attributes version step) p list_places g.attributes = ap (λ c. c.attributes) same in
        let values = ap (each_read (λ a. read_as (λ v. (a.0, v)) (value_said lists r e a.1))) attributes ∙ values-given size e list_places g.attributes fits.attributes readable listed in
        rw (values, depth, tag) refl

    entries-given : (size : ℕ) (es : List Entry) (list_places : ListPlaces) (gs : List GivenEntry) → All (FitsEntry size) gs → All Readable (texts_of_entries gs) → AreAllListsRead lists r.unit.header version step list_places gs → map read_contents es ≡ given_contents (behind_attributes version step) p list_places gs → each_read (entry_said lists r) es ≡ Ok (map (tree_entry texts us r.number u) gs)
    entries-given size [] list_places [] fits readable listed same = refl
    entries-given size [] list_places (g ∷ gs) fits readable listed same = absurd (cc)
    entries-given size (e ∷ es) list_places [] fits readable listed same = absurd (cc)
    entries-given size (e ∷ es) list_places (g ∷ gs) fits readable listed same =
        let one : read_contents e ≡ record { depth = g.depth; tag = g.tag; attributes = given_values (behind_attributes version step) p list_places g.attributes } = cc in
        let rest : map read_contents es ≡ given_contents (behind_attributes version step) p (behind_attributes version step list_places g.attributes) gs = cc in
        let here = entry-given size e list_places g (All-head (FitsEntry size) g gs fits) (All-front Readable (texts_of_attributes g.attributes) (texts_of_entries gs) readable) (listed.0.0, listed.1.0) one in
        let others = entries-given size es (behind_attributes version step list_places g.attributes) gs (All-tail (FitsEntry size) g gs fits) (All-back Readable (texts_of_attributes g.attributes) (texts_of_entries gs) readable) (listed.0.1, listed.1.1) rest in
        rw (here, others) refl

-- ---- units

-- A unit that is read at a place says, beside its entries' offsets, what was given, in a unit among others that have some places.
record IsPlacedUnit (order : Endian) (size : ℕ) (units : AllPlaces) (start : ℕ) (list_places : ListPlaces) (u : OrderedUnit) (v : ReadUnit) : Type 0 where
  line : ℕ
  contents : map read_contents v.entries ≡ given_contents (behind_attributes u.version size) (places_in units u.version (offsets_by_number order size u) line) (lists_from u.version u.entries list_places) u.entries
  stands : StandsAt order size start u v

abbrev ArePlaced : Endian → ℕ → AllPlaces → ℕ → ListPlaces → List OrderedUnit → List ReadUnit → Type 0
ArePlaced order size units start list_places [] [] = Unit {0}
ArePlaced order size units start list_places [] (v ∷ vs) = ⊥
ArePlaced order size units start list_places (u ∷ us) [] = ⊥
ArePlaced order size units start list_places (u ∷ us) (v ∷ vs) = IsPlacedUnit order size units start list_places u v × ArePlaced order size units (start + unit_length order size u) (behind_unit order size list_places u) us vs

placed-stand : (order : Endian) (size : ℕ) (units : AllPlaces) (start : ℕ) (list_places : ListPlaces) (us : List OrderedUnit) (vs : List ReadUnit) → ArePlaced order size units start list_places us vs → StandFrom order size start us vs
placed-stand order size units start list_places [] [] placed = tt
placed-stand order size units start list_places [] (v ∷ vs) placed = absurd placed
placed-stand order size units start list_places (u ∷ us) [] placed = absurd placed
placed-stand order size units start list_places (u ∷ us) (v ∷ vs) placed = (placed.0.stands, placed-stand order size units (start + unit_length order size u) (behind_unit order size list_places u) us vs placed.1)

-- units that are spelled one behind another are read so
read-placed : (order : Endian) (size : ℕ) (units : AllPlaces) (place a l : ℕ) (r : ListPlaces) (us : List OrderedUnit) → ArePlaced order size units place r us (read_units order size place (written_units order size units a l r us))
read-placed order size units place a l r [] = tt
read-placed order size units place a l r (u ∷ us) =
    let p = places_in units u.version (offsets_by_number order size u) l in
    let first = lists_from u.version u.entries r in
    let next_lists = behind_attributes u.version size in
    let unit = written_unit size r p a u in
    let lists_at = behind_unit order size r u in
    let xs = shaped unit.entries in
    let table_at = a + length (table_bytes unit.table) in
    let line_at = l + length (lines_bytes order size (table_of units u)) in
    let next = place + length (placed_unit_bytes order size unit) in
    let P : ℕ → Type 0 = λ n. ArePlaced order size units n lists_at us (read_units order size next (written_units order size units table_at line_at lists_at us)) in
    let same : next ≡ place + unit_length order size u = ap (λ n. place + n) (placed-length order size r p a u) in (
      record {
        line = l;
        contents = places-contents order size xs (place + header_length u.version) ∙ contents-given next_lists p first (shapes_in u) u.entries;
        stands = record {
          begins = refl;
          offsets = offsets-read order size xs (place + header_length u.version) ∙ offsets-moved order size place xs (header_length u.version) ∙ ap (map (λ o. place + o)) (offsets-same order size next_lists p first (shapes_in u) u.entries (header_length u.version));
        };
      },
      subst P same (read-placed order size units next table_at line_at lists_at us),
    )

-- the lists of a kind of units are read
abbrev AreUnitsRead : (AttributeValue → List ListEntry) → (UnitHeader → ℕ → AttributeValue → Type 0) → (ListPlaces → ℕ) → Endian → ℕ → ListPlaces → List OrderedUnit → List ReadUnit → Type 0
AreUnitsRead kind Reads at order size list_places [] [] = Unit {0}
AreUnitsRead kind Reads at order size list_places [] (v ∷ vs) = ⊥
AreUnitsRead kind Reads at order size list_places (u ∷ us) [] = ⊥
AreUnitsRead kind Reads at order size list_places (u ∷ us) (v ∷ vs) = AreAllRead kind (Reads v.header) u.version size (at (lists_from u.version u.entries list_places)) u.entries × AreUnitsRead kind Reads at order size (behind_unit order size list_places u) us vs

-- and those of both kinds
abbrev AreUnitsListed : ListReading → Endian → ℕ → ListPlaces → List OrderedUnit → List ReadUnit → Type 0
AreUnitsListed lists order size list_places us vs =
    AreUnitsRead ranges_in (IsRangeRead lists) (λ p. p.ranges) order size list_places us vs × AreUnitsRead locations_in (IsLocationRead lists) (λ p. p.locations) order size list_places us vs

module _ (lists : ListReading) (s : Sections) (order : Endian) (size : ℕ) (texts names : List (List ℕ)) (offsets : List (Option ℕ)) (given : List OrderedUnit) (all : List ReadUnit) (stand : StandFrom order size 0 given all) where
  abbrev places : AllPlaces
  places = record { units = places_of_units order size 0 given; texts = offsets; table = texts; names = names }

  abbrev ReadableThere : ℕ → Type 0
  ReadableThere n = text_in s.order (s.bytes Str) (offset_of_text offsets n) ≡ Ok (text_numbered texts n)

  unit-given : (number start : ℕ) (list_places : ListPlaces) (u : OrderedUnit) (v : ReadUnit) → FitsOrdered u → All ReadableThere (texts_of_entries u.entries) → IsPlacedUnit order size places start list_places u v → AreAllListsRead lists v.header u.version size (lists_from u.version u.entries list_places) u.entries → unit_said lists s all number v ≡ Ok (given_tree texts given number u)
  unfolding unit_said texts_of_unit
  unit-given number start list_places u v fits readable placed listed =
      let r : ReadingUnit = record { sections = s; number = number; unit = v; texts = texts_of_unit s v.header; units = all } in
      let p = places_in places u.version (offsets_by_number order size u) placed.line in
      let own : (id : ℕ) → entry_in_unit r (p.entry id) ≡ entry_or_nothing (option_map (λ place. (number, place)) (place_in_order u id)) =
      λ id. ap (λ n. entry_or_nothing (option_map (λ place. (number, place)) (position (λ e. e.offset == n + p.entry id) v.entries))) placed.stands.begins
      ∙ ap (λ q. entry_or_nothing (option_map (λ place. (number, place)) q)) (in-unit order size start id u v placed.stands) in
      let any : (unit id : ℕ) → entry_in_section r (p.entry_of unit id) ≡ entry_or_nothing (place_in_units given unit id) =
      λ unit id. ap entry_or_nothing (in-section order size 0 0 given all unit id stand ∙ ap (λ m. option_map (λ place. (m, place)) (option_and_then (λ w. place_in_order w id) (slice_get given unit))) (omega arith)) in
      entries-given lists texts given u p r (record { entry = own; entry_of = any }) u.version size u.address_size v.entries (lists_from u.version u.entries list_places) u.entries fits.entries readable listed placed.contents

  units-given : (us : List OrderedUnit) (vs : List ReadUnit) (number start : ℕ) (list_places : ListPlaces) → All FitsOrdered us → All ReadableThere (texts_named us) → ArePlaced order size places start list_places us vs → AreUnitsListed lists order size list_places us vs → units_said lists s all number vs ≡ Ok (trees_from texts given number us)
  units-given [] [] number start list_places fits readable placed listed = refl
  units-given [] (v ∷ vs) number start list_places fits readable placed listed = absurd placed
  units-given (u ∷ us) [] number start list_places fits readable placed listed = absurd placed
  units-given (u ∷ us) (v ∷ vs) number start list_places fits readable placed listed =
      let here = unit-given number start list_places u v (All-head FitsOrdered u us fits) (All-front ReadableThere (texts_of_entries u.entries) (texts_named us) readable) placed.0 (listed.0.0, listed.1.0) in
      let others = units-given us vs (suc number) (start + unit_length order size u) (behind_unit order size list_places u) (All-tail FitsOrdered u us fits) (All-back ReadableThere (texts_of_entries u.entries) (texts_named us) readable) placed.1 (listed.0.1, listed.1.1) in
      rw (here, others) refl

-- What a kind of lists is to show: its lists of a unit are read where they stand.
record IsReadKind (s : Sections) (named : ℕ → SectionName) (kind : AttributeValue → List ListEntry) (Reads : UnitHeader → ℕ → AttributeValue → Type 0) (at : ListPlaces → ℕ) : Type 0 where
  place : (version size : ℕ) → IsPlaceOf kind version size at
  reads : (version : ℕ) → IsWrittenVersion version → (h : UnitHeader) → h.version ≡ version → 0 < h.address_size → (p : ℕ) (gs : List GivenEntry) → All (FitsEntry h.address_size) gs → StandThere version s h.address_size (named version) p (lists_of_entries kind gs) → AreAllRead kind (Reads h) version h.address_size p gs

-- the lists of a kind of units that are spelled one behind another, all of a version, are read
module _ (s : Sections) (named : ℕ → SectionName) (kind : AttributeValue → List ListEntry) (Reads : UnitHeader → ℕ → AttributeValue → Type 0) (at : ListPlaces → ℕ) (is : IsReadKind s named kind Reads at) (version size : ℕ) (units : AllPlaces) where
  abbrev Along : ℕ → List OrderedUnit → Type 0
  Along place us = StandAlong (λ (u : OrderedUnit). u.version) (λ u. lists_of_entries kind u.entries) s size (named version) place us

  units-listed : (place a l : ℕ) (r : ListPlaces) (us : List OrderedUnit) → 0 < size → All (λ u. u.address_size ≡ size) us → All (λ u. u.version ≡ version) us → All FitsOrdered us → Along (at r) us → AreUnitsRead kind Reads at s.order size r us (read_units s.order size place (written_units s.order size units a l r us))
  units-listed place a l r [] some sized shared fits along = tt
  units-listed place a l r (u ∷ us) some sized shared fits along =
      let p = places_in units u.version (offsets_by_number s.order size u) l in
      let unit = written_unit size r p a u in
      let h = (read_unit s.order size place unit).header in
      let here = All-head FitsOrdered u us fits in
      let E : ℕ → Type 0 = λ n. All (FitsEntry n) u.entries in
      let entries = subst E (All-head (λ (v : OrderedUnit). v.address_size ≡ size) u us sized) here.entries in
      let N : ℕ → Type 0 = λ n. StandThere u.version s size (named n) (first_place u.version (lists_of_entries kind u.entries) (at r)) (lists_of_entries kind u.entries) in
      let own = subst N (sym (All-head (λ (v : OrderedUnit). v.version ≡ version) u us shared)) (along-first (λ (v : OrderedUnit). v.version) (λ v. lists_of_entries kind v.entries) s size (named version) (at r) u us along) in
      let P : ℕ → Type 0 = λ n. AreAllRead kind (Reads h) u.version size n u.entries in
      let B : ℕ → Type 0 = λ n. Along n us in
      let behind = along-back (λ (v : OrderedUnit). v.version) (λ v. lists_of_entries kind v.entries) s size (named version) (at r) u us along in (
        subst P (sym ((is.place u.version size).first r u.entries)) (is.reads u.version here.version h refl some _ u.entries entries own),
        units-listed (place + length (placed_unit_bytes s.order size unit)) (a + length (table_bytes unit.table)) (l + length (lines_bytes s.order size (table_of units u))) (behind_unit s.order size r u) us some (All-tail (λ (v : OrderedUnit). v.address_size ≡ size) u us sized)
            (All-tail (λ (v : OrderedUnit). v.version ≡ version) u us shared) (All-tail FitsOrdered u us fits) (subst B (sym ((is.place u.version size).unit s.order r u)) behind),
      )

-- The sections that are spelled of given units say their trees: what is known of them is given.
trees-carried : (order : Endian) (texts : List (List ℕ)) (us : List OrderedUnit) → AreSpelled order texts us → HaveTexts texts us → AreShortUnits us → All IsText texts → All FitsOrdered us → CarriesTrees order (given_trees texts us) (spelled_sections order texts us)
unfolding trees
trees-carried order texts us spelled known short plain fits =
    let size = size_of us in
    let version = version_of us in
    let places = all_places order texts us in
    let P : ℕ → List ℕ → Type 0 = λ n bytes. text_in order bytes (offset_of_text (text_places texts us) n) ≡ Ok (text_numbered texts n) in
    let holds = spelled.holds in
    let readable : All (λ n. P n ((output_sections order (spelled_sections order texts us)).bytes Str)) (texts_named us) =
    λ k d inside. subst (P _) (sym holds.strings_are) (text-read order texts us _ plain (known k d inside) (all-used (texts_named us) [] k d inside)) in
    let vs = read_units order size 0 (units_placed order places us) in
    let placed = read-placed order size places 0 0 0 no_lists us in
    let read = units-read-back order texts us spelled in
    let o = output_sections order (spelled_sections order texts us) in
    let some = (positive size spelled.known).0 in
    let ranges = ranges-along order texts us spelled fits in
    let locations = locations-along order texts us spelled short in
    let listed : AreUnitsListed (output_lists o) order size no_lists us vs = (
      units-listed o section_of_ranges ranges_in (IsRangeRead (output_lists o)) (λ p. p.ranges) (record { place = ranges-place; reads = λ v written h is some. ranges-listed v written o h is some }) version size places 0 0 0 no_lists us some spelled.sized spelled.versions fits ranges,
      units-listed o section_of_locations locations_in (IsLocationRead (output_lists o)) (λ p. p.locations) (record { place = locations-place; reads = λ v written h is some. locations-listed v written o h is some }) version size places 0 0 0 no_lists us some spelled.sized spelled.versions fits locations,
    ) in
    let said = units-given (output_lists o) o order size texts (line_texts texts us) (text_places texts us) us vs (placed-stand order size places 0 no_lists us vs placed) us vs 0 0 no_lists fits readable placed listed in
    rw (read) said

pub carries-trees : (order : Endian) (texts : List (List ℕ)) (us : List OrderedUnit) → AreWritable us → HaveTexts texts us → AreShortUnits us → AreTexts texts → All FitsOrdered us → All (λ u. FitsLines u.lines) us → All (IsSound order) (spelled_sections order texts us) → CarriesTrees order (given_trees texts us) (spelled_sections order texts us)
carries-trees order texts us writable known short table fits lines sound = trees-carried order texts us (are-spelled order texts us writable table fits lines sound) known short table.plain fits

-- ---- the form of the units

forms-read : (s : Sections) (version size : ℕ) (us : List OrderedUnit) (vs : List ReadUnit) → All (λ u. u.address_size ≡ size) us → All (λ u. u.version ≡ version) us → AllZip (IsReadUnit s) us vs → HaveTargetForm version size vs
forms-read s version size [] [] sized shared read = All-nil _
forms-read s version size [] (v ∷ vs) sized shared read = absurd read
forms-read s version size (u ∷ us) [] sized shared read = absurd read
forms-read s version size (u ∷ us) (v ∷ vs) sized shared read =
    let size_is : v.header.address_size ≡ u.address_size = read.0.address_size in
    let version_is : v.header.version ≡ u.version = read.0.version in
    All-cons (λ (w : ReadUnit). (w.header.version ≡ version) × (w.header.address_size ≡ size)) v vs
    (version_is ∙ All-head (λ (g : OrderedUnit). g.version ≡ version) u us shared, size_is ∙ All-head (λ (g : OrderedUnit). g.address_size ≡ size) u us sized)
    (forms-read s version size us vs (All-tail (λ (g : OrderedUnit). g.address_size ≡ size) u us sized) (All-tail (λ (g : OrderedUnit). g.version ≡ version) u us shared) read.1)

-- Sections that read back as given units of a version and of a size have units of this version and of this size.
pub target-form : (order : Endian) (us : List OrderedUnit) (s : List OutputSection) (version size : ℕ) → All (λ u. u.address_size ≡ size) us → All (λ u. u.version ≡ version) us → ReadsBack order us s → HaveTargetForm version size (units (output_sections order s)).items
target-form order us s version size sized shared back =
    let read = back.units_read in
    rw (read) (forms-read (output_sections order s) version size us back.read sized shared back.each)
