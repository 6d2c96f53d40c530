-- Where entries stand: how long they are does not hang on places, their offsets rise within their unit, and each is found by its
-- offset, in its unit and in the section: `placed-length`, `in-unit`, `in-section`.
use Rattle.std.proofs.Common.{◌≡◌, ℕ, zero, suc, ◌+◌, ◌<◌, ◌≤◌, ◌⊎◌, inl, inr, refl, sym, ap, ◌∙◌, arith, List, [], ◌∷◌, ◌++◌, length, length-append, map, get_or, replicate, Option, Some, None, Bool, true, false, cond, ltb}
use Rattle.std.specs.Prelude.{◌-◌, ◌==◌, if◌then◌else◌, nat_lt, sum_by, option_map, option_and_then, slice_get, position}
use Rattle.std.specs.List.{All, flat_map, position_or_len}
use Rattle.std.specs.Option.{option_or}
use Rattle.std.proofs.lemmas.Bool.{eq-eqb, ne_eqb, lt-ltb, le-ltb, ltb-true, ltb-false}
use Rattle.std.proofs.lemmas.List.Elements.{All-head, All-tail, All-cons, All-nil}
use Rattle.std.proofs.lemmas.List.Sums.{sum_by-cons}
use Rattle.dwc_base.specs.declared.records.Endian.{Endian}
use Rattle.dwc_dwarf.specs.Entries.{Entry}
use Rattle.dwc_dwarf.specs.ReadUnits.{Unit as ReadUnit}
use Rattle.dwc_dwarf.specs.Trees.{place_among}
use Rattle.dwc_base.specs.NumberBytes.{uleb_bytes}
use Rattle.dwc_section.specs.Spelled.{at_places}
use Rattle.dwc_unit.specs.SpelledTables.{table_bytes}
use Rattle.dwc_unit.specs.SpelledUnits.{WrittenEntry, written_bytes, attribute_bytes, next_depth, Shaped, shaped, entry_bytes, entries_bytes, read_entry, header_length}
use Rattle.dwc_write.specs.SpelledSections.{placed_unit_bytes, info_bytes, lines_bytes}
use Rattle.dwc_unit.specs.declared.attributes.Attribute.{Attribute}
use Rattle.dwc_unit.specs.declared.attributes.AttributeValue.{AttributeValue}
use Rattle.dwc_unit.specs.declared.attributes.AttributeValue.TheVariants.{Address, Constant, Flag, Block, Exprloc, StringRef, LineProgramRef, RangeListRef, LocationListRef, UnitRef, DebugInfoRef}
use Rattle.dwc_unit.specs.declared.attributes.DebugInfoRef.TheVariants.{Entry as entry_of}
use Rattle.dwc_unit.specs.GivenUnits.{GivenEntry, OrderedUnit, Places, no_places, EntryShape, place_of, shape_of, code_in, numbered, shapes_in, written_of, written_attribute, written_attributes, written_entries}
use Rattle.dwc_unit.specs.declared.lists.ListPlaces.{ListPlaces}
use Rattle.dwc_unit.specs.Lists.{behind_attributes, no_lists, nowhere}
use Rattle.dwc_unit.specs.GivenTrees.{place_in_order}
use Rattle.dwc_write.specs.Layouts.{AllPlaces, entry_offsets, unit_length, offset_among, offset_if_added, offsets_by_number, places_of_units, offset_in_section, places_in, behind_unit, lists_from, table_of, written_unit, written_units}
use Rattle.dwc_section.proofs.ReadNumbers.{number_bytes-length, uleb_bytes-small, uleb_bytes-more}
use Rattle.dwc_write.proofs.EntriesLaws.{next-first}
use Rattle.dwc_write.proofs.UnitHeaders.{header-some, unit-long}

-- ---- lengths do not hang on places

module _ (order : Endian) (size : ℕ) where
  value-length : (p : Places) (lists : ListPlaces) (v : AttributeValue) → length (written_bytes order size (written_of p lists v)) ≡ length (written_bytes order size (written_of no_places no_lists v))
  value-length p lists (Address a) = refl
  value-length p lists (Constant form bits) = refl
  value-length p lists (Flag b) = refl
  value-length p lists (Block bytes) = refl
  value-length p lists (Exprloc e) = refl
  value-length p lists (StringRef id) = number_bytes-length order 4 (p.text id.index) ∙ sym (number_bytes-length order 4 0)
  value-length p lists LineProgramRef = number_bytes-length order 4 p.line ∙ sym (number_bytes-length order 4 0)
  value-length p lists (RangeListRef list) = number_bytes-length order 4 lists.ranges ∙ sym (number_bytes-length order 4 0)
  value-length p lists (LocationListRef list) = number_bytes-length order 4 lists.locations ∙ sym (number_bytes-length order 4 0)
  value-length p lists (UnitRef id) = number_bytes-length order 4 (p.entry id.index) ∙ sym (number_bytes-length order 4 0)
  value-length p lists (DebugInfoRef (entry_of unit id)) = number_bytes-length order 4 (p.entry_of unit.index id.index) ∙ sym (number_bytes-length order 4 0)

  abbrev unplaced_bytes : List Attribute → List ℕ
  unplaced_bytes xs = flat_map (attribute_bytes order size) (written_attributes nowhere no_places no_lists xs)

  module _ (next : ListPlaces → List Attribute → ListPlaces) (p : Places) where
    abbrev values_bytes : ListPlaces → List Attribute → List ℕ
    values_bytes lists xs = flat_map (attribute_bytes order size) (written_attributes next p lists xs)

    values-length : (lists : ListPlaces) (xs : List Attribute) → length (values_bytes lists xs) ≡ length (unplaced_bytes xs)
    values-length lists [] = refl
    values-length lists (x ∷ xs) =
        let others = values_bytes (next lists (x ∷ [])) xs in
        omega (arith, value-length p lists x.value, values-length (next lists (x ∷ [])) xs, length-append (attribute_bytes order size (written_attribute p lists x)) others, length-append (attribute_bytes order size (written_attribute no_places no_lists x)) (unplaced_bytes xs))

  -- the first of some entries
  abbrev first_shaped : (ListPlaces → List Attribute → ListPlaces) → Places → ListPlaces → List EntryShape → GivenEntry → List GivenEntry → Shaped
  first_shaped next p lists shapes e es = record {
    entry = record { depth = e.depth; code = code_in shapes (shape_of e es); tag = e.tag; attributes = written_attributes next p lists e.attributes };
    has_children = nat_lt e.depth (next_depth (written_entries next p (next lists e.attributes) shapes es));
    ends = e.depth - next_depth (written_entries next p (next lists e.attributes) shapes es);
  }

  abbrev first_unplaced : List EntryShape → GivenEntry → List GivenEntry → Shaped
  first_unplaced shapes e es = first_shaped nowhere no_places no_lists shapes e es

  abbrev unplaced_entries : List EntryShape → List GivenEntry → List WrittenEntry
  unplaced_entries shapes es = written_entries nowhere no_places no_lists shapes es

  module _ (next : ListPlaces → List Attribute → ListPlaces) (p : Places) where
    entry-length : (lists : ListPlaces) (shapes : List EntryShape) (e : GivenEntry) (es : List GivenEntry) → length (entry_bytes order size (first_shaped next p lists shapes e es)) ≡ length (entry_bytes order size (first_unplaced shapes e es))
    entry-length lists shapes e es =
        let zeros : ℕ → List ℕ = λ n. replicate (e.depth - n) 0 in
        let here = next_depth (written_entries next p (next lists e.attributes) shapes es) in
        let there = next_depth (unplaced_entries shapes es) in
        let code = uleb_bytes (code_in shapes (shape_of e es)) in
        let values = values_bytes next p lists e.attributes in
        let ends : length (zeros here) ≡ length (zeros there) = ap (λ n. length {A = ℕ} (zeros n)) (next-first next p (next lists e.attributes) shapes es ∙ sym (next-first nowhere no_places no_lists shapes es)) in
        omega (arith, ends, values-length next p lists e.attributes, length-append code (values ++ zeros here), length-append values (zeros here), length-append code (unplaced_bytes e.attributes ++ zeros there), length-append (unplaced_bytes e.attributes) (zeros there))

    entries-length : (lists : ListPlaces) (shapes : List EntryShape) (es : List GivenEntry) → length (entries_bytes order size (written_entries next p lists shapes es)) ≡ length (entries_bytes order size (unplaced_entries shapes es))
    entries-length lists shapes [] = refl
    entries-length lists shapes (e ∷ es) =
        let rest = entries_bytes order size (written_entries next p (next lists e.attributes) shapes es) in
        omega (arith, entry-length lists shapes e es, entries-length (next lists e.attributes) shapes es, length-append (entry_bytes order size (first_shaped next p lists shapes e es)) rest, length-append (entry_bytes order size (first_unplaced shapes e es)) (entries_bytes order size (unplaced_entries shapes es)))

  -- A unit is as long as it is while nothing has a place.
  pub placed-length : (lists : ListPlaces) (p : Places) (a : ℕ) (u : OrderedUnit) → length (placed_unit_bytes order size (written_unit size lists p a u)) ≡ unit_length order size u
  placed-length lists p a u =
      let next = behind_attributes u.version size in
      let first = lists_from u.version u.entries lists in
      omega (arith, entries-length next p first (shapes_in u) u.entries, unit-long u.version order size a (written_entries next p first (shapes_in u) u.entries))

  -- ---- offsets

  -- the places of entries one behind another
  abbrev pub offsets_from : ℕ → List Shaped → List ℕ
  offsets_from place xs = at_places (entry_bytes order size) (λ q x. q ∷ []) place xs

  pub offsets-same : (next : ListPlaces → List Attribute → ListPlaces) (p : Places) (lists : ListPlaces) (shapes : List EntryShape) (es : List GivenEntry) (place : ℕ) → offsets_from place (shaped (written_entries next p lists shapes es)) ≡ offsets_from place (shaped (unplaced_entries shapes es))
  offsets-same next p lists shapes [] place = refl
  offsets-same next p lists shapes (e ∷ es) place =
      ap (λ n. place ∷ offsets_from (place + n) (shaped (written_entries next p (next lists e.attributes) shapes es))) (entry-length next p lists shapes e es)
      ∙ ap (λ os. place ∷ os) (offsets-same next p (next lists e.attributes) shapes es (place + length (entry_bytes order size (first_unplaced shapes e es))))

  pub offsets-moved : (start : ℕ) (xs : List Shaped) (place : ℕ) → offsets_from (start + place) xs ≡ map (λ o. start + o) (offsets_from place xs)
  offsets-moved start [] place = refl
  offsets-moved start (x ∷ xs) place =
      let n = length (entry_bytes order size x) in
      let same : (start + place) + n ≡ start + (place + n) = omega arith in
      ap (λ m. (start + place) ∷ offsets_from m xs) same ∙ ap (λ os. (start + place) ∷ os) (offsets-moved start xs (place + n))

  pub offsets-read : (xs : List Shaped) (place : ℕ) → map (λ (e : Entry). e.offset) (at_places (entry_bytes order size) (λ q x. read_entry q x ∷ []) place xs) ≡ offsets_from place xs
  offsets-read [] place = refl
  offsets-read (x ∷ xs) place = ap (λ os. place ∷ os) (offsets-read xs (place + length (entry_bytes order size x)))

  uleb-some : (n : ℕ) → 0 < length (uleb_bytes n)
  uleb-some n = go (ltb n 128) refl
    where
      go : (b : Bool) → ltb n 128 ≡ b → 0 < length (uleb_bytes n)
      go true e = rw (uleb_bytes-small n (ltb-true _ _ e)) (omega arith)
      go false e = rw (uleb_bytes-more n (ltb-false _ _ e)) (omega arith)

  entry-some : (x : Shaped) → 0 < length (entry_bytes order size x)
  entry-some x = omega (arith, uleb-some x.entry.code, length-append (uleb_bytes x.entry.code) (flat_map (attribute_bytes order size) x.entry.attributes ++ replicate x.ends 0))

  -- Offsets are below the end of what has them.
  offsets-below : (xs : List Shaped) (place end : ℕ) → place + length (flat_map (entry_bytes order size) xs) ≤ end → All (λ o. o < end) (offsets_from place xs)
  offsets-below [] place end within = All-nil _
  offsets-below (x ∷ xs) place end within =
      let whole = length-append (entry_bytes order size x) (flat_map (entry_bytes order size) xs) in
      All-cons (λ o. o < end) place _ (omega (arith, within, whole, entry-some x)) (offsets-below xs (place + length (entry_bytes order size x)) end (omega (arith, within, whole)))

-- One offset for each entry, above the one before and above a number.
abbrev pub AreAbove : ℕ → List GivenEntry → List ℕ → Type 0
AreAbove low [] [] = Unit {0}
AreAbove low [] (o ∷ os) = ⊥
AreAbove low (e ∷ es) [] = ⊥
AreAbove low (e ∷ es) (o ∷ os) = (low < o) × AreAbove o es os

entries-above : (order : Endian) (size : ℕ) (shapes : List EntryShape) (es : List GivenEntry) (low place : ℕ) → low < place → AreAbove low es (offsets_from order size place (shaped (written_entries nowhere no_places no_lists shapes es)))
entries-above order size shapes [] low place less = tt
entries-above order size shapes (e ∷ es) low place less =
    (less, entries-above order size shapes es place (place + length (entry_bytes order size (first_unplaced order size shapes e es))) (omega (arith, entry-some order size (first_unplaced order size shapes e es))))

among-above : (k : ℕ) (es : List GivenEntry) (os : List ℕ) (low : ℕ) → AreAbove low es os → (offset_among k es os ≡ 0) ⊎ (low < offset_among k es os)
among-above k [] os low above = inl refl
among-above k (e ∷ es) [] low above = inl refl
among-above k (e ∷ es) (o ∷ os) low above = go (e.place == k) (among-above k es os o above.1)
  where
    go : (b : Bool) → ((offset_among k es os ≡ 0) ⊎ (o < offset_among k es os)) → ((if b then o else offset_among k es os) ≡ 0) ⊎ (low < (if b then o else offset_among k es os))
    go true rest = inr above.0
    go false (inl none) = inl none
    go false (inr more) = let first = above.0 in inr (omega (arith, first, more))

among-below : (k end : ℕ) (es : List GivenEntry) (os : List ℕ) → All (λ o. o < end) os → offset_among k es os ≤ end
among-below k end [] os below = omega arith
among-below k end (e ∷ es) [] below = omega arith
among-below k end (e ∷ es) (o ∷ os) below = go (e.place == k) (among-below k end es os (All-tail (λ o. o < end) o os below))
  where
    go : (b : Bool) → offset_among k es os ≤ end → (if b then o else offset_among k es os) ≤ end
    go true rest = let first = All-head (λ o. o < end) o os below in omega (arith, first)
    go false rest = rest

-- the offset of a number
by-number : (es : List GivenEntry) (os : List ℕ) (places : List (Option ℕ)) (id : ℕ) → get_or (map (offset_if_added es os) places) id 0 ≡ offset_if_added es os (place_of id places)
by-number es os [] id = refl
by-number es os (q ∷ qs) zero = refl
by-number es os (q ∷ qs) (suc id) = by-number es os qs id

added-below : (es : List GivenEntry) (os : List ℕ) (end : ℕ) (place : Option ℕ) → All (λ o. o < end) os → offset_if_added es os place ≤ end
added-below es os end None below = omega arith
added-below es os end (Some k) below = among-below k end es os below

-- An offset is within its unit.
pub offset-within : (order : Endian) (size : ℕ) (u : OrderedUnit) (id : ℕ) → get_or (offsets_by_number order size u) id 0 ≤ unit_length order size u
offset-within order size u id =
    let os = entry_offsets order size u in
    let below = offsets-below order size (shaped (written_entries nowhere no_places no_lists (shapes_in u) u.entries)) (header_length u.version) (unit_length order size u) (omega arith) in
    omega (arith, by-number u.entries os u.places id, added-below u.entries os (unit_length order size u) (place_of id u.places) below)

-- ---- units

-- The section of units is as long as they are together.
pub info-length : (order : Endian) (size : ℕ) (units : AllPlaces) (a l : ℕ) (r : ListPlaces) (us : List OrderedUnit) → length (info_bytes order size (written_units order size units a l r us)) ≡ sum_by (unit_length order size) us
info-length order size units a l r [] = refl
info-length order size units a l r (u ∷ us) =
    let p = places_in units u.version (offsets_by_number order size u) l in
    let table_at = a + length (table_bytes (numbered 1 (shapes_in u))) in
    let line_at = l + length (lines_bytes order size (table_of units u)) in
    let lists_at = behind_unit order size r u in
    let rest = written_units order size units table_at line_at lists_at us in
    omega (arith, placed-length order size r p a u, info-length order size units table_at line_at lists_at us, length-append (placed_unit_bytes order size (written_unit size r p a u)) (info_bytes order size rest), sum_by-cons (unit_length order size) u us)

-- The offset of an entry in the section is within it.
pub places-short : (order : Endian) (size start : ℕ) (us : List OrderedUnit) (unit id : ℕ) → offset_in_section (places_of_units order size start us) unit id ≤ start + sum_by (unit_length order size) us
places-short order size start [] unit id = omega arith
places-short order size start (u ∷ us) zero id = omega (arith, offset-within order size u id, sum_by-cons (unit_length order size) u us)
places-short order size start (u ∷ us) (suc unit) id = omega (arith, places-short order size (start + unit_length order size u) us unit id, sum_by-cons (unit_length order size) u us)

-- ---- the first of a list

position-yes : {A : Type 0} (test : A → Bool) (x : A) (xs : List A) → test x ≡ true → position test (x ∷ xs) ≡ Some 0
position-yes test x xs e = go (position_or_len test (x ∷ xs)) (rw (e) refl)
  where
    go : (k : ℕ) → k ≡ 0 → cond (ltb k (suc (length xs))) (Some k) None ≡ Some 0
    go k first = rw (first, lt-ltb 0 (suc (length xs)) (omega arith)) refl

position-no : {A : Type 0} (test : A → Bool) (x : A) (xs : List A) → test x ≡ false → position test (x ∷ xs) ≡ option_map suc (position test xs)
position-no test x xs e = go (position_or_len test xs) (position_or_len test (x ∷ xs)) (rw (e) (omega arith))
  where
    go : (k m : ℕ) → m ≡ suc k → cond (ltb m (suc (length xs))) (Some m) None ≡ option_map suc (cond (ltb k (length xs)) (Some k) None)
    go k m next = choose (ltb k (length xs)) refl
      where
        choose : (b : Bool) → ltb k (length xs) ≡ b → cond (ltb m (suc (length xs))) (Some m) None ≡ option_map suc (cond b (Some k) None)
        choose true less = let within = ltb-true _ _ less in rw (next, lt-ltb (suc k) (suc (length xs)) (omega (arith, within))) refl
        choose false past = let behind = ltb-false _ _ past in rw (next, le-ltb (suc k) (suc (length xs)) (omega (arith, behind))) refl

position-map : {A B : Type 0} (test : B → Bool) (f : A → B) (xs : List A) → position test (map f xs) ≡ position (λ x. test (f x)) xs
position-map test f [] = refl
position-map test f (x ∷ xs) = go (test (f x)) refl (position-map test f xs)
  where
    go : (b : Bool) → test (f x) ≡ b → position test (map f xs) ≡ position (λ y. test (f y)) xs → position test (map f (x ∷ xs)) ≡ position (λ y. test (f y)) (x ∷ xs)
    go true e others = position-yes test (f x) (map f xs) e ∙ sym (position-yes (λ y. test (f y)) x xs e)
    go false e others = position-no test (f x) (map f xs) e ∙ ap (option_map suc) others ∙ sym (position-no (λ y. test (f y)) x xs e)

-- no offset is a number below all of them, or behind them
none-below : (start n low : ℕ) (es : List GivenEntry) (os : List ℕ) → n ≤ start + low → AreAbove low es os → position (λ o. o == n) (map (λ o. start + o) os) ≡ None
none-below start n low [] [] less above = refl
none-below start n low [] (o ∷ os) less above = absurd above
none-below start n low (e ∷ es) [] less above = absurd above
none-below start n low (e ∷ es) (o ∷ os) less above =
    let first = above.0 in
    position-no (λ q. q == n) (start + o) (map (λ q. start + q) os) (ne_eqb _ _ (λ e. absurd (omega (arith, e, first, less)))) ∙ ap (option_map suc) (none-below start n o es os (omega (arith, first, less)) above.1)

none-behind : (start n end : ℕ) (os : List ℕ) → start + end ≤ n → All (λ o. o < end) os → position (λ o. o == n) (map (λ o. start + o) os) ≡ None
none-behind start n end [] past below = refl
none-behind start n end (o ∷ os) past below =
    let first = All-head (λ q. q < end) o os below in
    position-no (λ q. q == n) (start + o) (map (λ q. start + q) os) (ne_eqb _ _ (λ e. absurd (omega (arith, e, first, past)))) ∙ ap (option_map suc) (none-behind start n end os past (All-tail (λ q. q < end) o os below))

-- an entry is found by its offset
found-at : (start k low : ℕ) (es : List GivenEntry) (os : List ℕ) → AreAbove low es os → position (λ o. o == start + offset_among k es os) (map (λ o. start + o) os) ≡ position (λ e. e.place == k) es
found-at start k low [] [] above = refl
found-at start k low [] (o ∷ os) above = absurd above
found-at start k low (e ∷ es) [] above = absurd above
found-at start k low (e ∷ es) (o ∷ os) above = go (e.place == k) refl (among-above k es os o above.1) (found-at start k o es os above.1)
  where
    go : (b : Bool) → (e.place == k) ≡ b → ((offset_among k es os ≡ 0) ⊎ (o < offset_among k es os)) → position (λ q. q == start + offset_among k es os) (map (λ q. start + q) os) ≡ position (λ f. f.place == k) es
        → position (λ q. q == start + (if b then o else offset_among k es os)) (map (λ q. start + q) (o ∷ os)) ≡ position (λ f. f.place == k) (e ∷ es)
    go true is other found = position-yes (λ q. q == start + o) (start + o) (map (λ q. start + q) os) (eq-eqb (start + o) (start + o) refl) ∙ sym (position-yes (λ f. f.place == k) e es is)
    go false is other found =
        position-no (λ q. q == start + offset_among k es os) (start + o) (map (λ q. start + q) os) (ne_eqb _ _ (differ other)) ∙ ap (option_map suc) found ∙ sym (position-no (λ f. f.place == k) e es is)
      where
        differ : ((offset_among k es os ≡ 0) ⊎ (o < offset_among k es os)) → start + o ≡ start + offset_among k es os → ⊥
        differ (inl none) same = let first = above.0 in absurd (omega (arith, first, none, same))
        differ (inr more) same = absurd (omega (arith, more, same))

-- ---- units that stand one behind another

-- A unit that is read stands at a place, and each of its entries at its offset there.
pub record StandsAt (order : Endian) (size start : ℕ) (u : OrderedUnit) (v : ReadUnit) : Type 0 where
  pub begins : v.header.offset ≡ start
  pub offsets : map (λ e. e.offset) v.entries ≡ map (λ o. start + o) (entry_offsets order size u)

abbrev pub StandFrom : Endian → ℕ → ℕ → List OrderedUnit → List ReadUnit → Type 0
StandFrom order size start [] [] = Unit {0}
StandFrom order size start [] (v ∷ vs) = ⊥
StandFrom order size start (u ∷ us) [] = ⊥
StandFrom order size start (u ∷ us) (v ∷ vs) = StandsAt order size start u v × StandFrom order size (start + unit_length order size u) us vs

module _ (order : Endian) (size : ℕ) where
  offsets-above : (u : OrderedUnit) → AreAbove 10 u.entries (entry_offsets order size u)
  offsets-above u = entries-above order size (shapes_in u) u.entries 10 (header_length u.version) (header-some u.version)

  offsets-inside : (u : OrderedUnit) → All (λ o. o < unit_length order size u) (entry_offsets order size u)
  offsets-inside u = offsets-below order size (shaped (written_entries nowhere no_places no_lists (shapes_in u) u.entries)) (header_length u.version) (unit_length order size u) (omega arith)

  -- entries that are read, by their offsets
  by-offset : (start n : ℕ) (u : OrderedUnit) (v : ReadUnit) → StandsAt order size start u v → position (λ e. e.offset == n) v.entries ≡ position (λ o. o == n) (map (λ o. start + o) (entry_offsets order size u))
  by-offset start n u v stands = sym (position-map (λ o. o == n) (λ (e : Entry). e.offset) v.entries) ∙ ap (position (λ o. o == n)) stands.offsets

  -- A unit's entry is found at the offset of its number.
  pub in-unit : (start id : ℕ) (u : OrderedUnit) (v : ReadUnit) → StandsAt order size start u v → position (λ e. e.offset == start + get_or (offsets_by_number order size u) id 0) v.entries ≡ place_in_order u id
  in-unit start id u v stands =
      by-offset start (start + get_or (offsets_by_number order size u) id 0) u v stands
      ∙ ap (λ n. position (λ o. o == start + n) (map (λ o. start + o) os)) (by-number u.entries os u.places id) ∙ go (place_of id u.places)
    where
      os : List ℕ
      os = entry_offsets order size u

      go : (place : Option ℕ) → position (λ o. o == start + offset_if_added u.entries os place) (map (λ o. start + o) os) ≡ option_and_then (λ k. position (λ e. e.place == k) u.entries) place
      go None = none-below start (start + 0) 10 u.entries os (omega arith) (offsets-above u)
      go (Some k) = found-at start k 10 u.entries os (offsets-above u)

  -- no entry stands in front of the units
  none-among : (start number n : ℕ) (us : List OrderedUnit) (vs : List ReadUnit) → n ≤ start → StandFrom order size start us vs → place_among (λ e. e.offset == n) number (map (λ v. v.entries) vs) ≡ None
  none-among start number n [] [] less stand = refl
  none-among start number n [] (v ∷ vs) less stand = absurd stand
  none-among start number n (u ∷ us) [] less stand = absurd stand
  none-among start number n (u ∷ us) (v ∷ vs) less stand =
      let here : position (λ e. e.offset == n) v.entries ≡ None = by-offset start n u v stand.0 ∙ none-below start n 10 u.entries (entry_offsets order size u) (omega (arith, less)) (offsets-above u) in
      ap (λ p. option_or {T = ℕ × ℕ} (option_map (λ place. (number, place)) p) (place_among (λ e. e.offset == n) (suc number) (map (λ v. v.entries) vs))) here
      ∙ none-among (start + unit_length order size u) (suc number) n us vs (omega (arith, less)) stand.1

  -- the offset of an entry in a section: nowhere, or from a place on
  section-from : (start : ℕ) (us : List OrderedUnit) (unit id : ℕ) → (offset_in_section (places_of_units order size start us) unit id ≡ 0) ⊎ (start ≤ offset_in_section (places_of_units order size start us) unit id)
  section-from start [] unit id = inl refl
  section-from start (u ∷ us) zero id = inr (omega arith)
  section-from start (u ∷ us) (suc unit) id = go (section-from (start + unit_length order size u) us unit id)
    where
      go : ((offset_in_section (places_of_units order size (start + unit_length order size u) us) unit id ≡ 0) ⊎ (start + unit_length order size u ≤ offset_in_section (places_of_units order size (start + unit_length order size u) us) unit id))
          → (offset_in_section (places_of_units order size (start + unit_length order size u) us) unit id ≡ 0) ⊎ (start ≤ offset_in_section (places_of_units order size (start + unit_length order size u) us) unit id)
      go (inl none) = inl none
      go (inr more) = inr (omega (arith, more))

  -- An entry of any unit is found at the offset of its numbers, units being numbered from one on.
  pub in-section : (start number : ℕ) (us : List OrderedUnit) (vs : List ReadUnit) (unit id : ℕ) → StandFrom order size start us vs
      → place_among (λ e. e.offset == offset_in_section (places_of_units order size start us) unit id) number (map (λ v. v.entries) vs)
      ≡ option_map (λ place. (number + unit, place)) (option_and_then (λ u. place_in_order u id) (slice_get us unit))
  in-section start number [] [] unit id stand = refl
  in-section start number [] (v ∷ vs) unit id stand = absurd stand
  in-section start number (u ∷ us) [] unit id stand = absurd stand
  in-section start number (u ∷ us) (v ∷ vs) zero id stand =
      let n = start + get_or (offsets_by_number order size u) id 0 in
      let behind = none-among (start + unit_length order size u) (suc number) n us vs (omega (arith, offset-within order size u id)) stand.1 in
      ap (λ p. option_or {T = ℕ × ℕ} (option_map (λ place. (number, place)) p) (place_among (λ e. e.offset == n) (suc number) (map (λ w. w.entries) vs))) (in-unit start id u v stand.0)
      ∙ ap (option_or {T = ℕ × ℕ} (option_map (λ place. (number, place)) (place_in_order u id))) behind ∙ go (place_in_order u id)
    where
      go : (p : Option ℕ) → option_or {T = ℕ × ℕ} (option_map (λ place. (number, place)) p) None ≡ option_map (λ place. (number + 0, place)) p
      go None = refl
      go (Some place) = ap (λ m. Some (m, place)) (omega arith)
  in-section start number (u ∷ us) (v ∷ vs) (suc unit) id stand =
      let next = start + unit_length order size u in
      let n = offset_in_section (places_of_units order size next us) unit id in
      let P : ℕ → Option (ℕ × ℕ) = λ m. option_map (λ place. (m, place)) (option_and_then (λ w. place_in_order w id) (slice_get us unit)) in
      ap (λ p. option_or {T = ℕ × ℕ} (option_map (λ place. (number, place)) p) (place_among (λ e. e.offset == n) (suc number) (map (λ w. w.entries) vs))) (by-offset start n u v stand.0 ∙ none (section-from next us unit id))
      ∙ in-section next (suc number) us vs unit id stand.1 ∙ ap P (omega arith)
    where
      none : (offset_in_section (places_of_units order size (start + unit_length order size u) us) unit id ≡ 0) ⊎ (start + unit_length order size u ≤ offset_in_section (places_of_units order size (start + unit_length order size u) us) unit id)
          → position (λ o. o == offset_in_section (places_of_units order size (start + unit_length order size u) us) unit id) (map (λ o. start + o) (entry_offsets order size u)) ≡ None
      none (inl first) = none-below start _ 10 u.entries (entry_offsets order size u) (omega (arith, first)) (offsets-above u)
      none (inr more) = none-behind start _ (unit_length order size u) (entry_offsets order size u) more (offsets-inside u)
