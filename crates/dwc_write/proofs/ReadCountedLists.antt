-- Range lists and location lists of version 5 that are spelled are read again: their raw entries (`ranges-raw`, `locations-raw`), where each
-- stands (`ranges-placed`, `locations-placed`), and what they give (`ranges-read`, `locations-read`).
use Rattle.std.proofs.Common.{◌≡◌, ℕ, ◌+◌, ◌^◌, ◌<◌, refl, ap, ◌∙◌, arith, List, [], ◌∷◌, ◌++◌, length, drop, map, Some, None, Ok, true}
use Rattle.std.specs.Prelude.{pos, ◌+ℤ◌, int_lt, zip}
use Rattle.std.specs.List.{All, filter_map}
use Rattle.std.proofs.lemmas.Int.{ints}
use Rattle.std.proofs.lemmas.List.Elements.{All-head, All-tail, All-cons, All-nil}
use Rattle.dwc_base.specs.declared.records.Address.{Address}
use Rattle.dwc_base.specs.declared.records.Address.TheVariants.{Constant, Symbol}
use Rattle.dwc_base.specs.declared.faults.Flaw.{Flaw}
use Rattle.dwc_base.specs.declared.faults.What.TheVariants.{LocationList, RangeList}
use Rattle.dwc_base.specs.declared.section_name.SectionName.TheVariants.{Loclists, Rnglists}
use Rattle.dwc_base.specs.Reading.{Unread}
use Rattle.dwc_base.specs.Listing.{Listing, Next, with_first, walk}
use Rattle.dwc_base.specs.Sections.{Sections, Fault}
use Rattle.dwc_base.specs.Spelling.{unread_at}
use Rattle.dwc_base.specs.Units.{UnitHeader}
use Rattle.dwc_dwarf.specs.Entries.{Entry}
use Rattle.dwc_dwarf.specs.Trees.{Interval}
use Rattle.dwc_dwarf.specs.RawLists.{ListSource, ListPlace, list_named, list_fault, raw_ranges, RawEntry, kind_and_entry_at, range_kinds, next_item, raw_entry_at, unread_length, RawLocation, raw_location_at, raw_locations}
use Rattle.dwc_dwarf.specs.Values.{location_reference, range_reference}
use Rattle.dwc_dwarf.specs.Lists.{list_source, list_of_value, ranges_at, ranges_of_value, ListRefusal, interval_given, interval_of_length, base_behind, intervals_given, ListedLocation, with_expression, locations_at, locations_of_value}
use Rattle.dwc_output.specs.NewListFields.{placed_ranges, placed_locations, with_place}
use Rattle.dwc_output.specs.TreeReading.{list_read, unreadable_list, ranges_read, location_said, locations_read}
use Rattle.dwc_unit.specs.declared.expressions.Expression.{Expression}
use Rattle.dwc_section.specs.Spelled.{at_places}
use Rattle.dwc_section.specs.SpelledAddresses.{IsHeld}
use Rattle.dwc_section.specs.Writers.{FitsField}
use Rattle.dwc_unit.specs.RangeLists.{FitsRange, address_behind, interval_of, is_symbol}
use Rattle.dwc_unit.specs.Lists.{ListEntry, FitsLocation, ended, list_bytes, list_fields, listed_bytes, location_entry, location_of, range_entry}
use Rattle.dwc_write.proofs.ReadListed.{list-walked}
use Rattle.dwc_write.proofs.ReadLists.{FitsInterval, given-step, interval, interval-between}
use Rattle.dwc_write.proofs.ReadCounted.{IsCounted, IsLocation, IsRange, location_at, raw_counted, raw_location, reads-locations, reads-placed, reads-ranges}

-- ---- what a list gives

-- both ends are no further apart than a field of an addend is wide
pub extent-small : (size : ℕ) (a : Address) (n : ℕ) → is_symbol a ≡ true → FitsField size a → FitsField size (address_behind a n) → n < 2 ^ 64
extent-small size (Constant m) n symbol begin end = absurd (cc)
extent-small size (Symbol f addend) n symbol begin end = grind (arith, ints, begin, end)

-- an interval of an address and a length
length-given : (size : ℕ) (a : Address) (n : ℕ) → is_symbol a ≡ true → 0 < n → FitsField size (address_behind a n) → interval_of_length a n ≡ Ok (Some (record { begin = a; end = address_behind a n }))
length-given size (Constant m) n symbol some end = absurd (cc)
length-given size (Symbol f addend) n symbol some end =
    let within : int_lt (addend +ℤ pos n) (pos (2 ^ 63)) ≡ true = grind (arith, ints, end) in
    let between = interval-between (Symbol f addend) n refl some in
    rw (interval_of_length, within) (ap Ok between)

entry-given : (s : ListSource) (told : Flaw → Fault) (base : Address) (size : ℕ) (e : ListEntry) → FitsInterval size e → interval_given s told base (raw_counted e) ≡ Ok (Some (interval e))
unfolding interval_given
entry-given s told base size e fits = length-given size e.begin e.extent fits.symbol fits.some fits.ends.end

base-stays : (s : ListSource) (told : Flaw → Fault) (base : Address) (e : ListEntry) → base_behind s told base (raw_counted e) ≡ Ok base
unfolding base_behind
base-stays s told base e = refl

-- each interval is given as it is
list-given : (s : ListSource) (told : Flaw → Fault) (base : Address) (size : ℕ) (es : List ListEntry) → All (FitsInterval size) es → intervals_given s told base (map raw_counted es) None ≡ record { items = map (λ e. Some (interval e)) es; fault = None }
unfolding intervals_given
list-given s told base size [] fits = refl
list-given s told base size (e ∷ es) fits =
    given-step s told base (raw_counted e) (map raw_counted es) None (Some (interval e)) (entry-given s told base size e (All-head (FitsInterval size) e es fits)) (base-stays s told base e)
    ∙ ap (with_first (Some (interval e))) (list-given s told base size es (All-tail (FitsInterval size) e es fits))

counted : (size : ℕ) (e : ListEntry) → FitsInterval size e → IsCounted e
counted size e fits = record { symbol = fits.symbol; some = fits.some; small = extent-small size e.begin e.extent fits.symbol fits.ends.begin fits.ends.end }

-- ---- lists of a unit of version 5, among others

module _ (s : Sections) (h : UnitHeader) (version : h.version ≡ 5) (some : 0 < h.address_size) (start : ℕ) (rest : List ℕ) where
  abbrev size : ℕ
  size = h.address_size

  -- ---- a range list

  abbrev pub ranges_here : ListPlace
  ranges_here = record { section = Rnglists; offset = start }

  are-ranges : (rs : List (Address × ℕ)) → All (FitsRange size) rs → All IsRange (map range_entry rs)
  are-ranges [] fits = All-nil IsRange
  are-ranges (r ∷ rs) fits =
      All-cons IsRange (range_entry r) (map range_entry rs) (record { is = counted size (range_entry r) (All-head (FitsRange size) r rs fits); alone = refl }) (are-ranges rs (All-tail (FitsRange size) r rs fits))

  interval-fits : (rs : List (Address × ℕ)) → All (FitsRange size) rs → All (FitsInterval size) (map range_entry rs)
  interval-fits [] all = All-nil (FitsInterval size)
  interval-fits (r ∷ rs) all = All-cons (FitsInterval size) (range_entry r) (map range_entry rs) (All-head (FitsRange size) r rs all) (interval-fits rs (All-tail (FitsRange size) r rs all))

  counted-placed : (place : ℕ) (es : List ListEntry) → at_places (listed_bytes 5 s.order size) (λ p e. raw_counted e ∷ []) place es ≡ map raw_counted es
  counted-placed place [] = refl
  counted-placed place (e ∷ es) = ap (λ xs. raw_counted e ∷ xs) (counted-placed (place + length (listed_bytes 5 s.order size e)) es)

  -- entries without a fault
  abbrev whole_counted : List RawEntry → Listing Fault RawEntry
  whole_counted xs = record { items = xs; fault = None }

  module _ (rs : List (Address × ℕ)) (bytes : drop start (s.bytes Rnglists) ≡ list_bytes 5 s.order h.address_size (ended (map range_entry rs)) ++ rest) (fits : All (FitsRange h.address_size) rs) (held : All (IsHeld (s.relocations Rnglists)) (list_fields 5 s.order h.address_size start (ended (map range_entry rs)))) where
    pub ranges-raw : raw_ranges (list_source s h) ranges_here ≡ record { items = map raw_counted (map range_entry rs); fault = None }
    unfolding raw_ranges raw_entry_at list_source
    ranges-raw =
        let es = map range_entry rs in
        let reader = kind_and_entry_at range_kinds (s.relocations Rnglists) size in
        let next : Unread → Next Unread Fault RawEntry = next_item reader (list_fault RangeList ranges_here) in
        ap (λ xs. walk unread_length next (unread_at s.order start xs)) bytes
        ∙ list-walked 5 (s.relocations Rnglists) s.order size reader IsRange (λ place e. raw_counted e) (reads-ranges s.order (s.relocations Rnglists) size some) (list_fault RangeList ranges_here) start es rest (are-ranges rs fits) held
        ∙ ap whole_counted (counted-placed start es)

    -- the same with their places
    pub ranges-placed : placed_ranges (list_source s h) ranges_here ≡ at_places (listed_bytes 5 s.order size) (λ p e. (p, raw_counted e) ∷ []) start (map range_entry rs)
    unfolding placed_ranges raw_entry_at list_source
    ranges-placed =
        let es = map range_entry rs in
        let reader = kind_and_entry_at range_kinds (s.relocations Rnglists) size in
        let next : Unread → Next Unread Fault (ℕ × RawEntry) = next_item (with_place reader) (list_fault RangeList ranges_here) in
        let reads = reads-placed 5 (s.relocations Rnglists) s.order size reader IsRange (λ place e. raw_counted e) (reads-ranges s.order (s.relocations Rnglists) size some) in
        ap (λ (l : Listing Fault (ℕ × RawEntry)). l.items)
        (ap (λ xs. walk unread_length next (unread_at s.order start xs)) bytes
        ∙ list-walked 5 (s.relocations Rnglists) s.order size (with_place reader) IsRange (λ place e. (place, raw_counted e)) reads (list_fault RangeList ranges_here) start es rest (are-ranges rs fits) held)

    given-all : (xs : List (Address × ℕ)) → filter_map (λ i. i) (map (λ e. Some (interval e)) (map range_entry xs)) ≡ map interval_of xs
    given-all [] = refl
    given-all (x ∷ xs) = ap (λ is. interval_of x ∷ is) (given-all xs)

    list-at : ranges_at (list_source s h) ranges_here ≡ record { items = map interval_of rs; fault = None }
    unfolding ranges_at
    list-at =
        let given = list-given (list_source s h) (list_fault RangeList ranges_here) (list_source s h).first_base size (map range_entry rs) (interval-fits rs fits) in
        rw (ranges-raw, given, given-all rs) refl

    pub ranges-named : list_named (list_source s h) (range_reference start) ≡ Some (Ok ranges_here)
    unfolding list_named list_source
    ranges-named = rw (version) refl

    list-of_value : (offset : ℕ) → ranges_of_value (list_source s h) offset (range_reference start) ≡ record { items = map interval_of rs; fault = None }
    unfolding ranges_of_value
    list-of_value offset = ap (list_of_value RangeList offset (ranges_at (list_source s h))) ranges-named ∙ list-at

    pub ranges-read : (e : Entry) → ranges_read s h e (range_reference start) ≡ Ok (map interval_of rs)
    unfolding ranges_read
    ranges-read e = ap (λ (l : Listing ListRefusal Interval). list_read (unreadable_list RangeList e (list_named (list_source s h) (range_reference start))) l.items l.fault) (list-of_value e.offset)

  -- ---- a location list

  abbrev pub locations_here : ListPlace
  locations_here = record { section = Loclists; offset = start }

  -- An expression is no longer than a number can say.
  abbrev IsSmall : Address × ℕ × Expression → Type 0
  IsSmall l = length l.2 < 2 ^ 64

  are-locations : (ls : List (Address × ℕ × Expression)) → All (FitsLocation size) ls → All IsSmall ls → All IsLocation (map location_entry ls)
  are-locations [] fits small = All-nil IsLocation
  are-locations (l ∷ ls) fits small =
      All-cons IsLocation (location_entry l) (map location_entry ls)
      (record { is = counted size (location_entry l) (All-head (FitsLocation size) l ls fits); bytes = l.2; holds = refl; small = All-head IsSmall l ls small })
      (are-locations ls (All-tail (FitsLocation size) l ls fits) (All-tail IsSmall l ls small))

  locations-fit : (ls : List (Address × ℕ × Expression)) → All (FitsLocation size) ls → All (FitsInterval size) (map location_entry ls)
  locations-fit [] all = All-nil (FitsInterval size)
  locations-fit (l ∷ ls) all = All-cons (FitsInterval size) (location_entry l) (map location_entry ls) (All-head (FitsLocation size) l ls all) (locations-fit ls (All-tail (FitsLocation size) l ls all))

  -- the entries of a location list that stands at a place
  abbrev pub raw_from : ℕ → List ListEntry → List RawLocation
  raw_from place es = at_places (listed_bytes 5 s.order size) (λ p e. raw_location s.order size p e ∷ []) place es

  says-are : (place : ℕ) (es : List ListEntry) → map (λ r. r.says) (raw_from place es) ≡ map raw_counted es
  says-are place [] = refl
  says-are place (e ∷ es) = ap (λ xs. raw_counted e ∷ xs) (says-are (place + length (listed_bytes 5 s.order size e)) es)

  -- what both parts of the entries give together
  abbrev given_both : ℕ → List ListEntry → List ListedLocation
  given_both place es = filter_map with_expression (zip (map (λ e. Some (interval e)) es) (map (λ r. r.holds) (raw_from place es)))

  both-given : (place : ℕ) (ls : List (Address × ℕ × Expression)) → map location_said (given_both place (map location_entry ls)) ≡ map location_of ls
  both-given place [] = refl
  both-given place (l ∷ ls) = ap (λ xs. location_of l ∷ xs) (both-given (place + length (listed_bytes 5 s.order size (location_entry l))) ls)

  module _ (ls : List (Address × ℕ × Expression)) (bytes : drop start (s.bytes Loclists) ≡ list_bytes 5 s.order h.address_size (ended (map location_entry ls)) ++ rest) (fits : All (FitsLocation h.address_size) ls) (small : All (λ l. length l.2 < 2 ^ 64) ls)
      (held : All (IsHeld (s.relocations Loclists)) (list_fields 5 s.order h.address_size start (ended (map location_entry ls)))) where
    pub locations-raw : raw_locations (list_source s h) locations_here ≡ record { items = raw_from start (map location_entry ls); fault = None }
    unfolding raw_locations raw_location_at raw_entry_at list_source
    locations-raw =
        let es = map location_entry ls in
        let reader = location_at (s.relocations Loclists) size in
        let next : Unread → Next Unread Fault RawLocation = next_item reader (list_fault LocationList locations_here) in
        ap (λ xs. walk unread_length next (unread_at s.order start xs)) bytes
        ∙ list-walked 5 (s.relocations Loclists) s.order size reader IsLocation (λ place e. raw_location s.order size place e) (reads-locations s.order (s.relocations Loclists) size some) (list_fault LocationList locations_here) start es rest (are-locations ls fits small) held

    -- the same with their places
    pub locations-placed : placed_locations (list_source s h) locations_here ≡ at_places (listed_bytes 5 s.order size) (λ p e. (p, raw_location s.order size p e) ∷ []) start (map location_entry ls)
    unfolding placed_locations raw_location_at raw_entry_at list_source
    locations-placed =
        let es = map location_entry ls in
        let reader = location_at (s.relocations Loclists) size in
        let next : Unread → Next Unread Fault (ℕ × RawLocation) = next_item (with_place reader) (list_fault LocationList locations_here) in
        let reads = reads-placed 5 (s.relocations Loclists) s.order size reader IsLocation (λ place e. raw_location s.order size place e) (reads-locations s.order (s.relocations Loclists) size some) in
        ap (λ (l : Listing Fault (ℕ × RawLocation)). l.items)
        (ap (λ xs. walk unread_length next (unread_at s.order start xs)) bytes
        ∙ list-walked 5 (s.relocations Loclists) s.order size (with_place reader) IsLocation (λ place e. (place, raw_location s.order size place e)) reads (list_fault LocationList locations_here) start es rest (are-locations ls fits small) held)

    located-at : locations_at (list_source s h) locations_here ≡ record { items = given_both start (map location_entry ls); fault = None }
    unfolding locations_at
    located-at =
        let es = map location_entry ls in
        let given = list-given (list_source s h) (list_fault LocationList locations_here) (list_source s h).first_base size es (locations-fit ls fits) in
        rw (locations-raw, says-are start es, given) refl

    pub locations-named : list_named (list_source s h) (location_reference start) ≡ Some (Ok locations_here)
    unfolding list_named list_source
    locations-named = rw (version) refl

    located-of_value : (offset : ℕ) → locations_of_value (list_source s h) offset (location_reference start) ≡ record { items = given_both start (map location_entry ls); fault = None }
    unfolding locations_of_value
    located-of_value offset = ap (list_of_value LocationList offset (locations_at (list_source s h))) locations-named ∙ located-at

    pub locations-read : (e : Entry) → locations_read s h e (location_reference start) ≡ Ok (map location_of ls)
    unfolding locations_read
    locations-read e =
        ap (λ (l : Listing ListRefusal ListedLocation). list_read (unreadable_list LocationList e (list_named (list_source s h) (location_reference start))) (map location_said l.items) l.fault) (located-of_value e.offset)
        ∙ ap Ok (both-given start ls)
