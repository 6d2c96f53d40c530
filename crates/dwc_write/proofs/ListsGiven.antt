-- The lists of units that are spelled are read where their values say: `entries-read`, for each kind.
use Rattle.std.proofs.Common.{◌≡◌, ℕ, ◌+◌, ◌<◌, ◌⊎◌, inl, inr, sym, ap, subst, ◌∙◌, arith, zero, suc, refl, List, [], ◌∷◌, ◌++◌, append_assoc, length, length-append, drop, map, Ok, false}
use Rattle.std.specs.Prelude.{◌==◌, ◌^◌, if◌then◌else◌}
use Rattle.std.specs.List.{All}
use Rattle.std.proofs.lemmas.Grind.{flat_map-append}
use Rattle.std.proofs.lemmas.List.Elements.{All-cons, All-head, All-nil, All-tail}
use Rattle.std.proofs.lemmas.Bool.{ne_eqb}
use Rattle.std.proofs.Math.Seq.{drop-append_seam}
use Rattle.dwc_base.specs.declared.constants.TheConstants.{DW_RLE_end_of_list}
use Rattle.dwc_base.specs.declared.records.Address.{Address as RangeAddress}
use Rattle.dwc_base.specs.declared.records.Endian.{Endian}
use Rattle.dwc_base.specs.declared.section_name.SectionName.{SectionName}
use Rattle.dwc_base.specs.declared.section_name.SectionName.TheVariants.{Loc, Loclists, Ranges, Rnglists}
use Rattle.dwc_base.specs.Sections.{Sections}
use Rattle.dwc_base.specs.Units.{UnitHeader}
use Rattle.dwc_dwarf.specs.Entries.{Entry}
use Rattle.dwc_dwarf.specs.Values.{location_reference, range_reference}
use Rattle.dwc_output.specs.FieldKinds.{section_of_locations, section_of_ranges}
use Rattle.dwc_output.specs.TreeReading.{ListReading, output_lists}
use Rattle.dwc_unit.specs.declared.attributes.Attribute.{Attribute}
use Rattle.dwc_unit.specs.declared.attributes.AttributeValue.{AttributeValue}
use Rattle.dwc_unit.specs.declared.attributes.AttributeValue.TheVariants.{Address, Constant, Flag, Block, Exprloc, StringRef, LineProgramRef, RangeListRef, LocationListRef, UnitRef, DebugInfoRef}
use Rattle.dwc_unit.specs.declared.lists.ListPlaces.{ListPlaces}
use Rattle.dwc_unit.specs.GivenUnits.{GivenEntry, FitsAttribute, FitsEntry, FitsValue, lists_of_entries}
use Rattle.dwc_unit.specs.RangeLists.{interval_of}
use Rattle.dwc_unit.specs.declared.expressions.Expression.{Expression}
use Rattle.dwc_unit.specs.Lists.{ListEntry, FitsLocation, IsShort, behind_lists, ended, extent_bytes, list_bytes, list_fields, list_length, listed_bytes, listed_fields, lists_of_attributes, location_entry, location_of, locations_in, ranges_in}
use Rattle.dwc_section.specs.SpelledAddresses.{AddressField, IsHeld}
use Rattle.dwc_write.proofs.ListPlaces.{attributes-behind, both-length, extent-length, list-length}
use Rattle.dwc_write.proofs.ReadCountedLists as new
use Rattle.dwc_write.proofs.ReadLists as old
use Rattle.dwc_unit.proofs.RowFields.{at_places-append}
use Rattle.dwc_unit.proofs.ReadValues.{All-back, All-front}

-- ---- what is read of lists

-- a range list is read at a place
abbrev pub IsRangeRead : ListReading → UnitHeader → ℕ → AttributeValue → Type 0
IsRangeRead lists h place (RangeListRef list) = (e : Entry) → lists.ranges_at h e (range_reference place) ≡ Ok (map interval_of list.ranges.items)
IsRangeRead lists h place _ = Unit {0}

-- and a location list
abbrev pub IsLocationRead : ListReading → UnitHeader → ℕ → AttributeValue → Type 0
IsLocationRead lists h place (LocationListRef list) = (e : Entry) → lists.locations_at h e (location_reference place) ≡ Ok (map location_of list.locations.items)
IsLocationRead lists h place _ = Unit {0}

-- Those of a kind of attributes, and of entries, are read from a place on.
abbrev pub AreRead : (AttributeValue → List ListEntry) → (ℕ → AttributeValue → Type 0) → ℕ → ℕ → ℕ → List Attribute → Type 0
AreRead lists Reads version size place [] = Unit {0}
AreRead lists Reads version size place (x ∷ xs) = Reads place x.value × AreRead lists Reads version size (place + list_length version size (lists x.value)) xs

abbrev pub AreAllRead : (AttributeValue → List ListEntry) → (ℕ → AttributeValue → Type 0) → ℕ → ℕ → ℕ → List GivenEntry → Type 0
AreAllRead lists Reads version size place [] = Unit {0}
AreAllRead lists Reads version size place (g ∷ gs) = AreRead lists Reads version size place g.attributes × AreAllRead lists Reads version size (behind_lists lists version size place g.attributes) gs

-- both kinds
abbrev pub AreListsRead : ListReading → UnitHeader → ℕ → ℕ → ListPlaces → List Attribute → Type 0
AreListsRead lists h version size places xs = AreRead ranges_in (IsRangeRead lists h) version size places.ranges xs × AreRead locations_in (IsLocationRead lists h) version size places.locations xs

abbrev pub AreAllListsRead : ListReading → UnitHeader → ℕ → ℕ → ListPlaces → List GivenEntry → Type 0
AreAllListsRead lists h version size places gs = AreAllRead ranges_in (IsRangeRead lists h) version size places.ranges gs × AreAllRead locations_in (IsLocationRead lists h) version size places.locations gs

-- ---- entries that stand in a section

drop-nothing : {A : Type 0} (n : ℕ) → drop {A = A} n [] ≡ []
drop-nothing zero = refl
drop-nothing (suc n) = refl

pub drop-twice : {A : Type 0} (n m : ℕ) (xs : List A) → drop (n + m) xs ≡ drop m (drop n xs)
drop-twice zero m xs = let same : 0 + m ≡ m = omega arith in ap (λ k. drop k xs) same
drop-twice (suc n) m [] = drop-nothing (suc n + m) ∙ sym (drop-nothing m)
drop-twice (suc n) m (x ∷ xs) = let same : suc n + m ≡ suc (n + m) = omega arith in ap (λ k. drop k (x ∷ xs)) same ∙ drop-twice n m xs

module _ (version : ℕ) (s : Sections) (size : ℕ) (name : SectionName) where
  -- Short entries stand at a place in the section, and their fields hold.
  pub record StandThere (place : ℕ) (es : List ListEntry) : Type 0 where
    pub rest : List ℕ
    pub bytes : drop place (s.bytes name) ≡ list_bytes version s.order size es ++ rest
    pub held : All (IsHeld (s.relocations name)) (list_fields version s.order size place es)
    pub short : All (λ e. IsShort version e.holds) es
    pub small : length (list_bytes version s.order size es) < 2 ^ 64

  -- entries one behind another
  module _ (place : ℕ) (es fs : List ListEntry) (there : StandThere place (es ++ fs)) where
    abbrev order_bytes : List ListEntry → List ℕ
    order_bytes xs = list_bytes version s.order size xs

    both : order_bytes (es ++ fs) ++ there.rest ≡ order_bytes es ++ (order_bytes fs ++ there.rest)
    both = ap (λ bs. bs ++ there.rest) (flat_map-append (listed_bytes version s.order size) es fs) ∙ append_assoc (order_bytes es) (order_bytes fs) there.rest

    fields : All (IsHeld (s.relocations name)) (list_fields version s.order size place es ++ list_fields version s.order size (place + length (order_bytes es)) fs)
    fields =
        let P : List AddressField → Type 0 = λ xs. All (IsHeld (s.relocations name)) xs in
        subst P (at_places-append (listed_bytes version s.order size) (listed_fields version s.order size) es fs place) there.held

    pub stand-front : StandThere place es
    stand-front = record {
      rest = order_bytes fs ++ there.rest;
      bytes = there.bytes ∙ both;
      held = All-front (IsHeld (s.relocations name)) (list_fields version s.order size place es) _ fields;
      short = All-front (λ (e : ListEntry). IsShort version e.holds) es fs there.short;
      small = omega (arith, there.small, both-length version s.order size es fs);
    }

    pub stand-back : StandThere (place + list_length version size es) fs
    stand-back =
        let next : place + length (order_bytes es) ≡ place + list_length version size es = ap (λ n. place + n) (list-length version s.order size es) in
        let P : ℕ → Type 0 = λ n. All (IsHeld (s.relocations name)) (list_fields version s.order size n fs) in
        record {
          rest = there.rest;
          bytes = ap (λ n. drop n (s.bytes name)) (sym next) ∙ drop-twice place (length (order_bytes es)) (s.bytes name) ∙ ap (drop (length (order_bytes es))) (there.bytes ∙ both) ∙ drop-append_seam (order_bytes es) (order_bytes fs ++ there.rest);
          held = subst P next (All-back (IsHeld (s.relocations name)) (list_fields version s.order size place es) _ fields);
          short = All-back (λ (e : ListEntry). IsShort version e.holds) es fs there.short;
          small = omega (arith, there.small, both-length version s.order size es fs);
        }

  -- where the next list stands
  module _ (kind : AttributeValue → List ListEntry) (place : ℕ) where
    pub next-attributes : (xs : List Attribute) → place + list_length version size (lists_of_attributes kind xs) ≡ behind_lists kind version size place xs
    next-attributes xs = ap (λ n. place + n) (sym (list-length version s.order size (lists_of_attributes kind xs))) ∙ sym (attributes-behind version s.order size kind place xs)

  -- what is read of each list is read of all
  module _ (kind : AttributeValue → List ListEntry) (Reads : ℕ → AttributeValue → Type 0) (each : (place : ℕ) (x : Attribute) → FitsAttribute size x → StandThere place (kind x.value) → Reads place x.value) where
    attributes-read : (place : ℕ) (xs : List Attribute) → All (FitsAttribute size) xs → StandThere place (lists_of_attributes kind xs) → AreRead kind Reads version size place xs
    attributes-read place [] fits there = tt
    attributes-read place (x ∷ xs) fits there =
        let es = kind x.value in
        let fs = lists_of_attributes kind xs in (
          each place _ (All-head (FitsAttribute size) x xs fits) (stand-front place es fs there),
          attributes-read (place + list_length version size es) xs (All-tail (FitsAttribute size) x xs fits) (stand-back place es fs there),
        )

    pub entries-read : (place : ℕ) (gs : List GivenEntry) → All (FitsEntry size) gs → StandThere place (lists_of_entries kind gs) → AreAllRead kind Reads version size place gs
    entries-read place [] fits there = tt
    entries-read place (g ∷ gs) fits there =
        let es = lists_of_attributes kind g.attributes in
        let fs = lists_of_entries kind gs in
        let P : ℕ → Type 0 = λ n. StandThere n fs in (
          attributes-read place g.attributes (All-head (FitsEntry size) g gs fits).attributes (stand-front place es fs there),
          entries-read (behind_lists kind version size place g.attributes) gs (All-tail (FitsEntry size) g gs fits) (subst P (next-attributes kind place g.attributes) (stand-back place es fs there)),
        )

-- ---- an expression is no longer than what it stands in

pub located-small : (order : Endian) (size : ℕ) (ls : List (RangeAddress × ℕ × Expression)) → All (FitsLocation size) ls → length (list_bytes 5 order size (ended (map location_entry ls))) < 2 ^ 64 → All (λ l. length l.2 < 2 ^ 64) ls
located-small order size [] fits small = All-nil (λ l. length l.2 < 2 ^ 64)
located-small order size (l ∷ ls) fits small =
    let e = location_entry l in
    let es = ended (map location_entry ls) in
    let here = (All-head (FitsLocation size) l ls fits).some in
    let there : (e.extent == 0) ≡ false = ne_eqb e.extent 0 (λ is. absurd (omega (arith, is, here))) in
    let own : listed_bytes 5 order size e ≡ extent_bytes 5 order size e = ap (λ b. if b then DW_RLE_end_of_list ∷ [] else extent_bytes 5 order size e) there in
    let long = length-append (listed_bytes 5 order size e) (list_bytes 5 order size es) in
    let same = ap length own in
    let wide = extent-length 5 order size e in
    let short : length l.2 < 2 ^ 64 = omega (arith, small, long, same, wide) in
    All-cons (λ l. length l.2 < 2 ^ 64) l ls short (located-small order size ls (All-tail (FitsLocation size) l ls fits) (omega (arith, small, long)))

-- ---- the lists of both kinds

-- the versions that are written
abbrev pub IsKnown : ℕ → Type 0
IsKnown version = (version ≡ 4) ⊎ (version ≡ 5)

-- a list of a kind is read where it stands, in a version
abbrev ReadsOne : (AttributeValue → List ListEntry) → (ℕ → SectionName) → (ListReading → UnitHeader → ℕ → AttributeValue → Type 0) → ℕ → Type 0
ReadsOne kind named Reads version =
    (s : Sections) (h : UnitHeader) → h.version ≡ version → 0 < h.address_size → (place : ℕ) (x : Attribute) → FitsAttribute h.address_size x → StandThere version s h.address_size (named version) place (kind x.value) → Reads (output_lists s) h place x.value

range-read-4 : ReadsOne ranges_in section_of_ranges IsRangeRead 4
range-read-4 s h version some place x fits there = go x.value fits.value there
  where
    go : (v : AttributeValue) → FitsValue h.address_size x.name v → StandThere 4 s h.address_size Ranges place (ranges_in v) → IsRangeRead (output_lists s) h place v
    go (RangeListRef list) fit stand = old.ranges-read s h version some place stand.rest list.ranges.items stand.bytes fit.1 stand.held
    go (LocationListRef list) fit stand = tt
    go (Address a) fit stand = tt
    go (Constant form bits) fit stand = tt
    go (Flag b) fit stand = tt
    go (Block bytes) fit stand = tt
    go (Exprloc e) fit stand = tt
    go (StringRef id) fit stand = tt
    go LineProgramRef fit stand = tt
    go (UnitRef id) fit stand = tt
    go (DebugInfoRef reference) fit stand = tt

range-read-5 : ReadsOne ranges_in section_of_ranges IsRangeRead 5
range-read-5 s h version some place x fits there = go x.value fits.value there
  where
    go : (v : AttributeValue) → FitsValue h.address_size x.name v → StandThere 5 s h.address_size Rnglists place (ranges_in v) → IsRangeRead (output_lists s) h place v
    go (RangeListRef list) fit stand = new.ranges-read s h version some place stand.rest list.ranges.items stand.bytes fit.1 stand.held
    go (LocationListRef list) fit stand = tt
    go (Address a) fit stand = tt
    go (Constant form bits) fit stand = tt
    go (Flag b) fit stand = tt
    go (Block bytes) fit stand = tt
    go (Exprloc e) fit stand = tt
    go (StringRef id) fit stand = tt
    go LineProgramRef fit stand = tt
    go (UnitRef id) fit stand = tt
    go (DebugInfoRef reference) fit stand = tt

location-read-4 : ReadsOne locations_in section_of_locations IsLocationRead 4
location-read-4 s h version some place x fits there = go x.value fits.value there
  where
    go : (v : AttributeValue) → FitsValue h.address_size x.name v → StandThere 4 s h.address_size Loc place (locations_in v) → IsLocationRead (output_lists s) h place v
    go (LocationListRef list) fit stand = old.locations-read s h version some place stand.rest list.locations.items stand.bytes fit.1 stand.short stand.held
    go (RangeListRef list) fit stand = tt
    go (Address a) fit stand = tt
    go (Constant form bits) fit stand = tt
    go (Flag b) fit stand = tt
    go (Block bytes) fit stand = tt
    go (Exprloc e) fit stand = tt
    go (StringRef id) fit stand = tt
    go LineProgramRef fit stand = tt
    go (UnitRef id) fit stand = tt
    go (DebugInfoRef reference) fit stand = tt

location-read-5 : ReadsOne locations_in section_of_locations IsLocationRead 5
location-read-5 s h version some place x fits there = go x.value fits.value there
  where
    go : (v : AttributeValue) → FitsValue h.address_size x.name v → StandThere 5 s h.address_size Loclists place (locations_in v) → IsLocationRead (output_lists s) h place v
    go (LocationListRef list) fit stand = new.locations-read s h version some place stand.rest list.locations.items stand.bytes fit.1 (located-small s.order h.address_size list.locations.items fit.1 stand.small) stand.held
    go (RangeListRef list) fit stand = tt
    go (Address a) fit stand = tt
    go (Constant form bits) fit stand = tt
    go (Flag b) fit stand = tt
    go (Block bytes) fit stand = tt
    go (Exprloc e) fit stand = tt
    go (StringRef id) fit stand = tt
    go LineProgramRef fit stand = tt
    go (UnitRef id) fit stand = tt
    go (DebugInfoRef reference) fit stand = tt

-- in each version
read-known : (kind : AttributeValue → List ListEntry) (named : ℕ → SectionName) (Reads : ListReading → UnitHeader → ℕ → AttributeValue → Type 0) (version : ℕ) → IsKnown version → ReadsOne kind named Reads 4 → ReadsOne kind named Reads 5 → ReadsOne kind named Reads version
read-known kind named Reads version (inl is) old new = subst (ReadsOne kind named Reads) (sym is) old
read-known kind named Reads version (inr is) old new = subst (ReadsOne kind named Reads) (sym is) new

module _ (version : ℕ) (known : IsKnown version) (s : Sections) (h : UnitHeader) (is : h.version ≡ version) (some : 0 < h.address_size) where
  pub ranges-listed : (place : ℕ) (gs : List GivenEntry) → All (FitsEntry h.address_size) gs → StandThere version s h.address_size (section_of_ranges version) place (lists_of_entries ranges_in gs) → AreAllRead ranges_in (IsRangeRead (output_lists s) h) version h.address_size place gs
  ranges-listed place gs fits there =
      entries-read version s h.address_size (section_of_ranges version) ranges_in (IsRangeRead (output_lists s) h) (read-known ranges_in section_of_ranges IsRangeRead version known range-read-4 range-read-5 s h is some) place gs fits there

  pub locations-listed : (place : ℕ) (gs : List GivenEntry) → All (FitsEntry h.address_size) gs → StandThere version s h.address_size (section_of_locations version) place (lists_of_entries locations_in gs) → AreAllRead locations_in (IsLocationRead (output_lists s) h) version h.address_size place gs
  locations-listed place gs fits there =
      entries-read version s h.address_size (section_of_locations version) locations_in (IsLocationRead (output_lists s) h) (read-known locations_in section_of_locations IsLocationRead version known location-read-4 location-read-5 s h is some) place gs fits there
