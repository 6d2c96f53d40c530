-- The relocations of the lists of units are those of the fields that a reader comes upon: `entries-lists`, for each kind. Here are those up to
-- version 4; those of version 5 are in `RelatedCountedGiven`.
use Rattle.std.proofs.Common.{◌≡◌, ℕ, ◌+◌, ◌<◌, refl, sym, ap, subst, ◌∙◌, List, [], ◌∷◌, ◌++◌, length, map, Bool, true, false}
use Rattle.std.specs.Prelude.{◌==◌, if◌then◌else◌}
use Rattle.std.specs.List.{All, flat_map}
use Rattle.std.specs.Int.{w64, cast_signed}
use Rattle.std.proofs.lemmas.List.Elements.{All-head, All-tail, filter_map-append}
use Rattle.dwc_base.specs.declared.constants.TheConstants.{DW_FORM_data1, DW_FORM_data2, DW_FORM_data4, DW_FORM_data8, DW_FORM_sdata}
use Rattle.dwc_base.specs.declared.section_name.SectionName.{SectionName}
use Rattle.dwc_base.specs.declared.section_name.SectionName.TheVariants.{Loc, Ranges}
use Rattle.dwc_base.specs.Sections.{Sections}
use Rattle.dwc_base.specs.Units.{UnitHeader}
use Rattle.dwc_dwarf.specs.Entries.{Entry}
use Rattle.dwc_dwarf.specs.Values as Values
use Rattle.dwc_dwarf.specs.Values.{Value, is_expression_name, section_offset}
use Rattle.dwc_base.specs.declared.records.Address.{Address as RangeAddress}
use Rattle.dwc_output.specs.Fields.{Field, fields_of_listed, fields_of_named, relocations_of_fields, relocation_of, without_expression}
use Rattle.dwc_dwarf.specs.Lists.{list_source}
use Rattle.dwc_base.specs.Outputs.{OutputRelocation}
use Rattle.dwc_dwarf.specs.RawLists.{is_location_list, is_range_list}
use Rattle.dwc_unit.specs.declared.attributes.Attribute.{Attribute}
use Rattle.dwc_unit.specs.declared.attributes.AttributeValue.{AttributeValue}
use Rattle.dwc_unit.specs.declared.attributes.AttributeValue.TheVariants.{Address, Constant, Flag, Block, Exprloc, StringRef, LineProgramRef, RangeListRef, LocationListRef, UnitRef, DebugInfoRef}
use Rattle.dwc_unit.specs.declared.attributes.DebugInfoRef.TheVariants.{Entry as entry_of}
use Rattle.dwc_unit.specs.declared.lists.ListPlaces.{ListPlaces}
use Rattle.dwc_unit.specs.GivenUnits.{GivenEntry, Places, FitsAttribute, FitsEntry, FitsValue, lists_of_entries, written_of}
use Rattle.dwc_unit.specs.Lists.{ListEntry, behind_attributes, behind_value, ended, list_length, list_relocations, listed_bytes, listed_relocations, lists_of_attributes, location_entry, locations_in, range_entry, ranges_in}
use Rattle.dwc_write.specs.ReadBack.{Contents, given_contents, given_values, read_contents}
use Rattle.dwc_unit.specs.SpelledUnits.{as_data1, as_data2, as_data4, as_data8, as_udata, as_sdata, written_value}
use Rattle.dwc_write.proofs.ListPlaces.{IsPlaceOf, list-length, locations-place, ranges-place}
use Rattle.dwc_write.proofs.ListsGiven.{StandThere, next-attributes, stand-back, stand-front}
use Rattle.dwc_write.proofs.ReadListed.{raw_pair}
use Rattle.dwc_write.proofs.ReadLists as old
use Rattle.dwc_write.proofs.ReadLists.{location-offset, range-offset}
use Rattle.dwc_unit.proofs.RowFields.{at_places-append}
use Rattle.dwc_write.proofs.RelatedLists.{list-related, read_from}

pub both-related : (fs gs : List Field) → relocations_of_fields (fs ++ gs) ≡ relocations_of_fields fs ++ relocations_of_fields gs
both-related fs gs = filter_map-append (λ (f : Field). relocation_of f.offset f.size f.held) fs gs

-- a value of another kind has no list
none-named : (kind : Value → Bool) (s : Sections) (h : UnitHeader) (v : Value) → kind v ≡ false → relocations_of_fields (fields_of_named kind s h v) ≡ []
unfolding fields_of_named
none-named kind s h v other = rw (other, fields_of_named) refl

-- ---- entries of a kind, of which each value's list has its relocations

-- The fields of the list that a value names, in a unit.
abbrev pub FieldsNamed : Type 0
FieldsNamed = UnitHeader → Value → List Field

module _ (version : ℕ) (s : Sections) (h : UnitHeader) (name : SectionName) (named : FieldsNamed) (kind : AttributeValue → List ListEntry) (at : ListPlaces → ℕ) (is : IsPlaceOf kind version h.address_size at) (p : Places) where
  abbrev size : ℕ
  size = h.address_size

  abbrev Stand : ℕ → List ListEntry → Type 0
  Stand place es = StandThere version s h.address_size name place es

  abbrev fields_among : List (ℕ × Value) → List Field
  fields_among xs = flat_map (λ a. named h a.1) xs

  abbrev values_from : ListPlaces → List Attribute → List (ℕ × Value)
  values_from places xs = given_values (behind_attributes version size) p places xs

  abbrev contents_from : ListPlaces → List GivenEntry → List Contents
  contents_from places gs = given_contents (behind_attributes version size) p places gs

  abbrev relocations_from : ℕ → List ListEntry → List OutputRelocation
  relocations_from place es = list_relocations version s.order size place es

  -- two parts, one behind the other
  parts-related : (place : ℕ) (es fs : List ListEntry) → relocations_from place es ++ relocations_from (place + list_length version size es) fs ≡ relocations_from place (es ++ fs)
  parts-related place es fs =
      ap (λ n. relocations_from place es ++ relocations_from (place + n) fs) (sym (list-length version s.order size es)) ∙ sym (at_places-append (listed_bytes version s.order size) (listed_relocations version s.order size) es fs place)

  module _ (each : (places : ListPlaces) (x : Attribute) → FitsAttribute h.address_size x → Stand (at places) (kind x.value) → relocations_of_fields (named h (written_value x.name (written_of p places x.value))) ≡ relocations_from (at places) (kind x.value)) where
    attributes-lists : (places : ListPlaces) (xs : List Attribute) → All (FitsAttribute size) xs → Stand (at places) (lists_of_attributes kind xs) → relocations_of_fields (fields_among (values_from places xs)) ≡ relocations_from (at places) (lists_of_attributes kind xs)
    attributes-lists places [] fits there = refl
    attributes-lists places (x ∷ xs) fits there =
        let es = kind x.value in
        let fs = lists_of_attributes kind xs in
        let after = behind_value version size places x.value in
        let next : at after ≡ at places + list_length version size es = is.value places x.value in
        let own = each places _ (All-head (FitsAttribute size) x xs fits) (stand-front version s size name (at places) es fs there) in
        let others = attributes-lists after xs (All-tail (FitsAttribute size) x xs fits) (subst (λ n. Stand n fs) (sym next) (stand-back version s size name (at places) es fs there)) in
        both-related (named h (written_value x.name (written_of p places x.value))) (fields_among (values_from after xs))
        ∙ ap (λ rs. rs ++ relocations_of_fields (fields_among (values_from after xs))) own
        ∙ ap (λ rs. relocations_from (at places) es ++ rs) (others ∙ ap (λ n. relocations_from n fs) next)
        ∙ parts-related (at places) es fs

    contents-lists : (places : ListPlaces) (gs : List GivenEntry) → All (FitsEntry size) gs → Stand (at places) (lists_of_entries kind gs) → relocations_of_fields (flat_map (λ c. fields_among c.attributes) (contents_from places gs)) ≡ relocations_from (at places) (lists_of_entries kind gs)
    contents-lists places [] fits there = refl
    contents-lists places (g ∷ gs) fits there =
        let es = lists_of_attributes kind g.attributes in
        let fs = lists_of_entries kind gs in
        let after = behind_attributes version size places g.attributes in
        let next : at after ≡ at places + list_length version size es = is.attributes places g.attributes ∙ sym (next-attributes version s size name kind (at places) g.attributes) in
        let own = attributes-lists places g.attributes (All-head (FitsEntry size) g gs fits).attributes (stand-front version s size name (at places) es fs there) in
        let others = contents-lists after gs (All-tail (FitsEntry size) g gs fits) (subst (λ n. Stand n fs) (sym next) (stand-back version s size name (at places) es fs there)) in
        both-related (fields_among (values_from places g.attributes)) (flat_map (λ (c : Contents). fields_among c.attributes) (contents_from after gs))
        ∙ ap (λ rs. rs ++ relocations_of_fields (flat_map (λ (c : Contents). fields_among c.attributes) (contents_from after gs))) own
        ∙ ap (λ rs. relocations_from (at places) es ++ rs) (others ∙ ap (λ n. relocations_from n fs) next)
        ∙ parts-related (at places) es fs

    by-contents : (es : List Entry) → flat_map (λ e. fields_among e.attributes) es ≡ flat_map (λ c. fields_among c.attributes) (map read_contents es)
    by-contents [] = refl
    by-contents (e ∷ es) = ap (λ fs. fields_among e.attributes ++ fs) (by-contents es)

    pub entries-lists : (places : ListPlaces) (es : List Entry) (gs : List GivenEntry) → map read_contents es ≡ contents_from places gs → All (FitsEntry size) gs → Stand (at places) (lists_of_entries kind gs)
        → relocations_of_fields (flat_map (λ e. fields_among e.attributes) es) ≡ relocations_from (at places) (lists_of_entries kind gs)
    entries-lists places es gs same fits there = ap relocations_of_fields (by-contents es ∙ ap (flat_map (λ (c : Contents). fields_among c.attributes)) same) ∙ contents-lists places gs fits there

-- ---- the values of both kinds

constant-listless : (name : ℕ) (a b c d f : Bool) (bits : ℕ)
    → (is_range_list (written_value name (if a then as_data1 bits else (if b then as_data2 bits else (if c then as_data4 bits else (if d then as_data8 bits else (if f then as_sdata (cast_signed w64 bits) else as_udata bits)))))) ≡ false)
    × (is_location_list (written_value name (if a then as_data1 bits else (if b then as_data2 bits else (if c then as_data4 bits else (if d then as_data8 bits else (if f then as_sdata (cast_signed w64 bits) else as_udata bits)))))) ≡ false)
constant-listless name true b c d f bits = (refl, refl)
constant-listless name false true c d f bits = (refl, refl)
constant-listless name false false true d f bits = (refl, refl)
constant-listless name false false false true f bits = (refl, refl)
constant-listless name false false false false true bits = (refl, refl)
constant-listless name false false false false false bits = (refl, refl)

block-listless : (b : Bool) (bytes : List ℕ) → b ≡ false → (is_range_list (if b then Values.expression bytes else Values.block bytes) ≡ false) × (is_location_list (if b then Values.expression bytes else Values.block bytes) ≡ false)
block-listless true bytes e = (refl, refl)
block-listless false bytes e = (refl, refl)

-- a value is no list
abbrev pub NamesNoList : AttributeValue → Type 0
NamesNoList (RangeListRef list) = ⊥
NamesNoList (LocationListRef list) = ⊥
NamesNoList _ = Unit {0}

-- nor is it read as one
pub listless : (size name : ℕ) (p : Places) (places : ListPlaces) (v : AttributeValue) → NamesNoList v → FitsValue size name v → (is_range_list (written_value name (written_of p places v)) ≡ false) × (is_location_list (written_value name (written_of p places v)) ≡ false)
listless size name p places (RangeListRef list) none fits = absurd none
listless size name p places (LocationListRef list) none fits = absurd none
listless size name p places (Address a) none fits = (refl, refl)
listless size name p places (Constant form bits) none fits = constant-listless name (form == DW_FORM_data1) (form == DW_FORM_data2) (form == DW_FORM_data4) (form == DW_FORM_data8) (form == DW_FORM_sdata) bits
listless size name p places (Flag b) none fits = (refl, refl)
listless size name p places (Block bytes) none fits = block-listless (is_expression_name name) bytes.items fits
listless size name p places (Exprloc x) none fits = (refl, refl)
listless size name p places (StringRef id) none fits = (refl, refl)
listless size name p places LineProgramRef none fits = (rw (fits) refl, rw (fits) refl)
listless size name p places (UnitRef id) none fits = (refl, refl)
listless size name p places (DebugInfoRef (entry_of unit id)) none fits = (refl, refl)

-- ---- up to version 4

module _ (s : Sections) (h : UnitHeader) (version : h.version ≡ 4) (some : 0 < h.address_size) (p : Places) where
  -- the entries of a list have their relocations
  related : (place : ℕ) (es : List ListEntry) → relocations_of_fields (fields_of_listed (list_source s h).address_size place (read_from s.order h.address_size place es)) ≡ list_relocations 4 s.order h.address_size place (ended es)
  unfolding list_source
  related place es = list-related s.order h.address_size place es

  ranges-from : (place : ℕ) (rs : List (RangeAddress × ℕ)) → map without_expression (map raw_pair (map range_entry rs)) ≡ read_from s.order h.address_size place (map range_entry rs)
  ranges-from place [] = refl
  ranges-from place (r ∷ rs) = ap (λ xs. without_expression (raw_pair (range_entry r)) ∷ xs) (ranges-from (place + length (listed_bytes 4 s.order h.address_size (range_entry r))) rs)

  -- the relocations of what a value is read as
  abbrev named_relocations : (Value → Bool) → ℕ → ListPlaces → AttributeValue → List OutputRelocation
  named_relocations kind name places v = relocations_of_fields (fields_of_named kind s h (written_value name (written_of p places v)))

  -- a value that is no list has none
  other-range : (name : ℕ) (places : ListPlaces) (v : AttributeValue) → NamesNoList v → FitsValue h.address_size name v → named_relocations is_range_list name places v ≡ []
  other-range name places v none fits = none-named is_range_list s h (written_value name (written_of p places v)) (listless h.address_size name p places v none fits).0

  other-location : (name : ℕ) (places : ListPlaces) (v : AttributeValue) → NamesNoList v → FitsValue h.address_size name v → named_relocations is_location_list name places v ≡ []
  other-location name places v none fits = none-named is_location_list s h (written_value name (written_of p places v)) (listless h.address_size name p places v none fits).1

  range-each-4 : (places : ListPlaces) (x : Attribute) → FitsAttribute h.address_size x → StandThere 4 s h.address_size Ranges places.ranges (ranges_in x.value) → named_relocations is_range_list x.name places x.value ≡ list_relocations 4 s.order h.address_size places.ranges (ranges_in x.value)
  unfolding fields_of_named
  range-each-4 places x fits there = go x.value fits.value there
    where
      go : (v : AttributeValue) → FitsValue h.address_size x.name v → StandThere 4 s h.address_size Ranges places.ranges (ranges_in v) → named_relocations is_range_list x.name places v ≡ list_relocations 4 s.order h.address_size places.ranges (ranges_in v)
      go (RangeListRef list) fit stand =
          let rs = list.ranges.items in
          let found_name = old.ranges-named s h version some places.ranges stand.rest rs stand.bytes fit.1 stand.held in
          let raw = old.ranges-raw s h version some places.ranges stand.rest rs stand.bytes fit.1 stand.held in
          let found : fields_of_named is_range_list s h (Values.range_reference places.ranges) ≡ fields_of_listed (list_source s h).address_size places.ranges (map without_expression (map raw_pair (map range_entry rs))) = rw (found_name, raw) refl in
          ap (λ v. relocations_of_fields (fields_of_named is_range_list s h v)) (range-offset x.name places.ranges fit.0)
          ∙ ap relocations_of_fields (found ∙ ap (fields_of_listed (list_source s h).address_size places.ranges) (ranges-from places.ranges rs)) ∙ related places.ranges (map range_entry rs)
      go (LocationListRef list) fit stand = none-named is_range_list s h (section_offset x.name places.locations) (ap is_range_list (location-offset x.name places.locations fit.0))
      go (Address a) fit stand = other-range x.name places (Address a) tt fit
      go (Constant form bits) fit stand = other-range x.name places (Constant form bits) tt fit
      go (Flag b) fit stand = other-range x.name places (Flag b) tt fit
      go (Block bytes) fit stand = other-range x.name places (Block bytes) tt fit
      go (Exprloc e) fit stand = other-range x.name places (Exprloc e) tt fit
      go (StringRef id) fit stand = other-range x.name places (StringRef id) tt fit
      go LineProgramRef fit stand = other-range x.name places LineProgramRef tt fit
      go (UnitRef id) fit stand = other-range x.name places (UnitRef id) tt fit
      go (DebugInfoRef reference) fit stand = other-range x.name places (DebugInfoRef reference) tt fit

  location-each-4 : (places : ListPlaces) (x : Attribute) → FitsAttribute h.address_size x → StandThere 4 s h.address_size Loc places.locations (locations_in x.value) → named_relocations is_location_list x.name places x.value ≡ list_relocations 4 s.order h.address_size places.locations (locations_in x.value)
  unfolding fields_of_named
  location-each-4 places x fits there = go x.value fits.value there
    where
      go : (v : AttributeValue) → FitsValue h.address_size x.name v → StandThere 4 s h.address_size Loc places.locations (locations_in v) → named_relocations is_location_list x.name places v ≡ list_relocations 4 s.order h.address_size places.locations (locations_in v)
      go (LocationListRef list) fit stand =
          let ls = list.locations.items in
          let found_name = old.locations-named s h version some places.locations stand.rest ls stand.bytes fit.1 stand.short stand.held in
          let raw = old.locations-raw s h version some places.locations stand.rest ls stand.bytes fit.1 stand.short stand.held in
          let found : fields_of_named is_location_list s h (Values.location_reference places.locations) ≡ fields_of_listed (list_source s h).address_size places.locations (read_from s.order h.address_size places.locations (map location_entry ls)) = rw (found_name, raw) refl in
          ap (λ v. relocations_of_fields (fields_of_named is_location_list s h v)) (location-offset x.name places.locations fit.0) ∙ ap relocations_of_fields found ∙ related places.locations (map location_entry ls)
      go (RangeListRef list) fit stand = none-named is_location_list s h (section_offset x.name places.ranges) (ap is_location_list (range-offset x.name places.ranges fit.0))
      go (Address a) fit stand = other-location x.name places (Address a) tt fit
      go (Constant form bits) fit stand = other-location x.name places (Constant form bits) tt fit
      go (Flag b) fit stand = other-location x.name places (Flag b) tt fit
      go (Block bytes) fit stand = other-location x.name places (Block bytes) tt fit
      go (Exprloc e) fit stand = other-location x.name places (Exprloc e) tt fit
      go (StringRef id) fit stand = other-location x.name places (StringRef id) tt fit
      go LineProgramRef fit stand = other-location x.name places LineProgramRef tt fit
      go (UnitRef id) fit stand = other-location x.name places (UnitRef id) tt fit
      go (DebugInfoRef reference) fit stand = other-location x.name places (DebugInfoRef reference) tt fit

-- ---- the kinds

-- What a kind of lists is to show of units of a version: its lists stand in a section, are read as fields by a reader of values, and have their
-- relocations.
pub record IsRelatedKind (version : ℕ) (s : Sections) (name : SectionName) (named : FieldsNamed) (kind : AttributeValue → List ListEntry) (at : ListPlaces → ℕ) : Type 0 where
  pub place : (size : ℕ) → IsPlaceOf kind version size at
  pub related : (h : UnitHeader) → h.version ≡ version → 0 < h.address_size → (p : Places) (places : ListPlaces) (es : List Entry) (gs : List GivenEntry) → map read_contents es ≡ given_contents (behind_attributes version h.address_size) p places gs → All (FitsEntry h.address_size) gs
      → StandThere version s h.address_size name (at places) (lists_of_entries kind gs) → relocations_of_fields (flat_map (λ e. flat_map (λ a. named h a.1) e.attributes) es) ≡ list_relocations version s.order h.address_size (at places) (lists_of_entries kind gs)

pub ranges-related-4 : (s : Sections) → IsRelatedKind 4 s Ranges (fields_of_named is_range_list s) ranges_in (λ places. places.ranges)
ranges-related-4 s = record {
  place = ranges-place 4;
  related = λ h version some p. entries-lists 4 s h Ranges (fields_of_named is_range_list s) ranges_in (λ places. places.ranges) (ranges-place 4 h.address_size) p (range-each-4 s h version some p);
}

pub locations-related-4 : (s : Sections) → IsRelatedKind 4 s Loc (fields_of_named is_location_list s) locations_in (λ places. places.locations)
locations-related-4 s = record {
  place = locations-place 4;
  related = λ h version some p. entries-lists 4 s h Loc (fields_of_named is_location_list s) locations_in (λ places. places.locations) (locations-place 4 h.address_size) p (location-each-4 s h version some p);
}
