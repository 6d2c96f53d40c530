-- The relocations of the lists of units of version 5 are those of the fields that a reader comes upon: `ranges-related-5`,
-- `locations-related-5`.
use Rattle.std.proofs.Common.{◌≡◌, ℕ, ◌<◌, refl, ap, ◌∙◌, List, [], ◌∷◌, map, Bool, false}
use Rattle.std.specs.List.{All, flat_map}
use Rattle.std.proofs.lemmas.List.Elements.{All-cons, All-head, All-nil, All-tail}
use Rattle.dwc_base.specs.declared.section_name.SectionName.TheVariants.{Loclists, Rnglists}
use Rattle.dwc_base.specs.Sections.{Sections}
use Rattle.dwc_base.specs.Units.{UnitHeader}
use Rattle.dwc_dwarf.specs.Values as Values
use Rattle.dwc_dwarf.specs.Values.{Value, is_expression_name, section_offset}
use Rattle.dwc_base.specs.declared.records.Address.{Address as RangeAddress}
use Rattle.dwc_output.specs.Fields.{relocations_of_fields}
use Rattle.dwc_output.specs.NewListFields.{fields_of_kind, new_fields_named}
use Rattle.dwc_dwarf.specs.Lists.{list_source}
use Rattle.dwc_base.specs.Outputs.{OutputRelocation}
use Rattle.dwc_dwarf.specs.RawLists.{RawEntry, RawLocation, is_location_list, is_range_list}
use Rattle.dwc_unit.specs.declared.attributes.Attribute.{Attribute}
use Rattle.dwc_unit.specs.declared.attributes.AttributeValue.{AttributeValue}
use Rattle.dwc_unit.specs.declared.attributes.AttributeValue.TheVariants.{Address, Constant, Flag, Block, Exprloc, StringRef, LineProgramRef, RangeListRef, LocationListRef, UnitRef, DebugInfoRef}
use Rattle.dwc_unit.specs.declared.lists.ListPlaces.{ListPlaces}
use Rattle.dwc_unit.specs.GivenUnits.{Places, FitsAttribute, FitsValue, written_of}
use Rattle.dwc_section.specs.Spelled.{at_places}
use Rattle.dwc_unit.specs.RangeLists.{FitsRange}
use Rattle.dwc_unit.specs.declared.expressions.Expression.{Expression}
use Rattle.dwc_unit.specs.Lists.{ListEntry, FitsLocation, ended, list_relocations, listed_bytes, location_entry, locations_in, range_entry, ranges_in}
use Rattle.dwc_unit.specs.SpelledUnits.{written_value}
use Rattle.dwc_write.proofs.ListPlaces.{locations-place, ranges-place}
use Rattle.dwc_write.proofs.ListsGiven.{StandThere, located-small}
use Rattle.dwc_write.proofs.ReadCounted.{raw_counted, raw_location}
use Rattle.dwc_write.proofs.ReadCountedLists as new
use Rattle.dwc_write.proofs.ReadLists.{location-offset, range-offset}
use Rattle.dwc_write.proofs.RelatedListsGiven.{IsRelatedKind, NamesNoList, entries-lists, listless}
use Rattle.dwc_write.proofs.RelatedLists.{counted-related}

-- a value of another kind has no list
none-named : (kind : Value → Bool) (s : Sections) (h : UnitHeader) (v : Value) → kind v ≡ false → relocations_of_fields (new_fields_named kind s h v) ≡ []
unfolding new_fields_named
none-named kind s h v other = rw (other, new_fields_named) refl

-- ---- the values of both kinds

module _ (s : Sections) (h : UnitHeader) (version : h.version ≡ 5) (some : 0 < h.address_size) (p : Places) where
  -- the entries of a range list have their relocations
  ranges-related-there : (place : ℕ) (rs : List (RangeAddress × ℕ)) → All (FitsRange h.address_size) rs
      → relocations_of_fields (flat_map (λ (q : ℕ × RawEntry). fields_of_kind (list_source s h).address_size q.0 q.1) (at_places (listed_bytes 5 s.order h.address_size) (λ q e. (q, raw_counted e) ∷ []) place (map range_entry rs))) ≡ list_relocations 5 s.order h.address_size place (ended (map range_entry rs))
  unfolding list_source
  ranges-related-there place rs fits = counted-related s.order h.address_size (λ q e. raw_counted e) (λ x. x) (λ q e. refl) place (map range_entry rs) (go rs fits)
    where
      go : (xs : List (RangeAddress × ℕ)) → All (FitsRange h.address_size) xs → All (λ (e : ListEntry). 0 < e.extent) (map range_entry xs)
      go [] all = All-nil _
      go (x ∷ xs) all = All-cons (λ (e : ListEntry). 0 < e.extent) (range_entry x) (map range_entry xs) (All-head (FitsRange h.address_size) x xs all).some (go xs (All-tail (FitsRange h.address_size) x xs all))

  -- and those of a location list
  locations-related-there : (place : ℕ) (ls : List (RangeAddress × ℕ × Expression)) → All (FitsLocation h.address_size) ls
      → relocations_of_fields (flat_map (λ (q : ℕ × RawLocation). fields_of_kind (list_source s h).address_size q.0 q.1.says) (at_places (listed_bytes 5 s.order h.address_size) (λ q e. (q, raw_location s.order h.address_size q e) ∷ []) place (map location_entry ls))) ≡ list_relocations 5 s.order h.address_size place (ended (map location_entry ls))
  unfolding list_source
  locations-related-there place ls fits = counted-related s.order h.address_size (raw_location s.order h.address_size) (λ (x : RawLocation). x.says) (λ q e. refl) place (map location_entry ls) (go ls fits)
    where
      go : (xs : List (RangeAddress × ℕ × Expression)) → All (FitsLocation h.address_size) xs → All (λ (e : ListEntry). 0 < e.extent) (map location_entry xs)
      go [] all = All-nil _
      go (x ∷ xs) all = All-cons (λ (e : ListEntry). 0 < e.extent) (location_entry x) (map location_entry xs) (All-head (FitsLocation h.address_size) x xs all).some (go xs (All-tail (FitsLocation h.address_size) x xs all))

  -- the relocations of what a value is read as
  abbrev named_relocations : (Value → Bool) → ℕ → ListPlaces → AttributeValue → List OutputRelocation
  named_relocations kind name places v = relocations_of_fields (new_fields_named kind s h (written_value name (written_of p places v)))

  -- a value that is no list has none
  other-range : (name : ℕ) (places : ListPlaces) (v : AttributeValue) → NamesNoList v → FitsValue h.address_size name v → named_relocations is_range_list name places v ≡ []
  other-range name places v none fits = none-named is_range_list s h (written_value name (written_of p places v)) (listless h.address_size name p places v none fits).0

  other-location : (name : ℕ) (places : ListPlaces) (v : AttributeValue) → NamesNoList v → FitsValue h.address_size name v → named_relocations is_location_list name places v ≡ []
  other-location name places v none fits = none-named is_location_list s h (written_value name (written_of p places v)) (listless h.address_size name p places v none fits).1

  range-each-5 : (places : ListPlaces) (x : Attribute) → FitsAttribute h.address_size x → StandThere 5 s h.address_size Rnglists places.ranges (ranges_in x.value) → named_relocations is_range_list x.name places x.value ≡ list_relocations 5 s.order h.address_size places.ranges (ranges_in x.value)
  unfolding new_fields_named
  range-each-5 places x fits there = go x.value fits.value there
    where
      go : (v : AttributeValue) → FitsValue h.address_size x.name v → StandThere 5 s h.address_size Rnglists places.ranges (ranges_in v) → named_relocations is_range_list x.name places v ≡ list_relocations 5 s.order h.address_size places.ranges (ranges_in v)
      go (RangeListRef list) fit stand =
          let rs = list.ranges.items in
          let found_name = new.ranges-named s h version some places.ranges stand.rest rs stand.bytes fit.1 stand.held in
          let placed = new.ranges-placed s h version some places.ranges stand.rest rs stand.bytes fit.1 stand.held in
          let found : new_fields_named is_range_list s h (Values.range_reference places.ranges) ≡ flat_map (λ (q : ℕ × RawEntry). fields_of_kind (list_source s h).address_size q.0 q.1) (at_places (listed_bytes 5 s.order h.address_size) (λ q e. (q, raw_counted e) ∷ []) places.ranges (map range_entry rs)) = rw (found_name, placed) refl in
          ap (λ v. relocations_of_fields (new_fields_named is_range_list s h v)) (range-offset x.name places.ranges fit.0) ∙ ap relocations_of_fields found ∙ ranges-related-there places.ranges rs fit.1
      go (LocationListRef list) fit stand = none-named is_range_list s h (section_offset x.name places.locations) (ap is_range_list (location-offset x.name places.locations fit.0))
      go (Address a) fit stand = other-range x.name places (Address a) tt fit
      go (Constant form bits) fit stand = other-range x.name places (Constant form bits) tt fit
      go (Flag b) fit stand = other-range x.name places (Flag b) tt fit
      go (Block bytes) fit stand = other-range x.name places (Block bytes) tt fit
      go (Exprloc e) fit stand = other-range x.name places (Exprloc e) tt fit
      go (StringRef id) fit stand = other-range x.name places (StringRef id) tt fit
      go LineProgramRef fit stand = other-range x.name places LineProgramRef tt fit
      go (UnitRef id) fit stand = other-range x.name places (UnitRef id) tt fit
      go (DebugInfoRef reference) fit stand = other-range x.name places (DebugInfoRef reference) tt fit

  location-each-5 : (places : ListPlaces) (x : Attribute) → FitsAttribute h.address_size x → StandThere 5 s h.address_size Loclists places.locations (locations_in x.value) → named_relocations is_location_list x.name places x.value ≡ list_relocations 5 s.order h.address_size places.locations (locations_in x.value)
  unfolding new_fields_named
  location-each-5 places x fits there = go x.value fits.value there
    where
      go : (v : AttributeValue) → FitsValue h.address_size x.name v → StandThere 5 s h.address_size Loclists places.locations (locations_in v) → named_relocations is_location_list x.name places v ≡ list_relocations 5 s.order h.address_size places.locations (locations_in v)
      go (LocationListRef list) fit stand =
          let ls = list.locations.items in
          let small = located-small s.order h.address_size ls fit.1 stand.small in
          let found_name = new.locations-named s h version some places.locations stand.rest ls stand.bytes fit.1 small stand.held in
          let placed = new.locations-placed s h version some places.locations stand.rest ls stand.bytes fit.1 small stand.held in
          let found : new_fields_named is_location_list s h (Values.location_reference places.locations) ≡ flat_map (λ (q : ℕ × RawLocation). fields_of_kind (list_source s h).address_size q.0 q.1.says) (at_places (listed_bytes 5 s.order h.address_size) (λ q e. (q, raw_location s.order h.address_size q e) ∷ []) places.locations (map location_entry ls)) = rw (found_name, placed) refl in
          ap (λ v. relocations_of_fields (new_fields_named is_location_list s h v)) (location-offset x.name places.locations fit.0) ∙ ap relocations_of_fields found ∙ locations-related-there places.locations ls fit.1
      go (RangeListRef list) fit stand = none-named is_location_list s h (section_offset x.name places.ranges) (ap is_location_list (range-offset x.name places.ranges fit.0))
      go (Address a) fit stand = other-location x.name places (Address a) tt fit
      go (Constant form bits) fit stand = other-location x.name places (Constant form bits) tt fit
      go (Flag b) fit stand = other-location x.name places (Flag b) tt fit
      go (Block bytes) fit stand = other-location x.name places (Block bytes) tt fit
      go (Exprloc e) fit stand = other-location x.name places (Exprloc e) tt fit
      go (StringRef id) fit stand = other-location x.name places (StringRef id) tt fit
      go LineProgramRef fit stand = other-location x.name places LineProgramRef tt fit
      go (UnitRef id) fit stand = other-location x.name places (UnitRef id) tt fit
      go (DebugInfoRef reference) fit stand = other-location x.name places (DebugInfoRef reference) tt fit

-- ---- the kinds

pub ranges-related-5 : (s : Sections) → IsRelatedKind 5 s Rnglists (new_fields_named is_range_list s) ranges_in (λ places. places.ranges)
ranges-related-5 s = record {
  place = ranges-place 5;
  related = λ h version some p. entries-lists 5 s h Rnglists (new_fields_named is_range_list s) ranges_in (λ places. places.ranges) (ranges-place 5 h.address_size) p (range-each-5 s h version some p);
}

pub locations-related-5 : (s : Sections) → IsRelatedKind 5 s Loclists (new_fields_named is_location_list s) locations_in (λ places. places.locations)
locations-related-5 s = record {
  place = locations-place 5;
  related = λ h version some p. entries-lists 5 s h Loclists (new_fields_named is_location_list s) locations_in (λ places. places.locations) (locations-place 5 h.address_size) p (location-each-5 s h version some p);
}
