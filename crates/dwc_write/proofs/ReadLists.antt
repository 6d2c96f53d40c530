-- Range lists and location lists up to version 4 that are spelled are read again: their raw entries (`ranges-raw`, `locations-raw`), and what
-- they give (`ranges-read`, `locations-read`).
use Rattle.std.proofs.Common.{◌≡◌, ℕ, ◌+◌, ◌<◌, refl, ap, ◌∙◌, arith, List, [], ◌∷◌, ◌++◌, length, drop, map, Option, Some, None, Ok, true, Bool, false}
use Rattle.std.specs.Prelude.{pos, ◌+ℤ◌, int_lt, ◌==◌, ◌||◌, if◌then◌else◌, zip}
use Rattle.std.specs.List.{All, filter_map}
use Rattle.std.proofs.lemmas.Bool.{eq-eqb, eqb-true}
use Rattle.std.proofs.lemmas.Int.{ints}
use Rattle.std.proofs.lemmas.List.Elements.{All-head, All-tail, All-cons, All-nil}
use Rattle.dwc_base.specs.declared.records.Address.{Address}
use Rattle.dwc_base.specs.declared.records.Address.TheVariants.{Constant, Symbol}
use Rattle.dwc_base.specs.declared.constants.TheConstants.{DW_AT_ranges, DW_AT_start_scope, DW_AT_stmt_list}
use Rattle.dwc_base.specs.declared.faults.Flaw.{Flaw}
use Rattle.dwc_base.specs.declared.faults.What.TheVariants.{LocationList, RangeList}
use Rattle.dwc_base.specs.declared.section_name.SectionName.TheVariants.{Loc, Ranges}
use Rattle.dwc_base.specs.Reading.{Unread}
use Rattle.dwc_base.specs.Listing.{Listing, Next, with_first, walk}
use Rattle.dwc_base.specs.Sections.{Sections, Fault}
use Rattle.dwc_dwarf.specs.Trees.{Interval}
use Rattle.dwc_dwarf.specs.RawLists.{ListSource, ListPlace, list_named, list_fault, raw_ranges, RawEntry, pair, pair_at, next_item, raw_entry_at, unread_length, RawLocation, raw_location_at, raw_locations}
use Rattle.dwc_base.specs.Units.{UnitHeader}
use Rattle.dwc_dwarf.specs.Entries.{Entry}
use Rattle.dwc_dwarf.specs.Values.{is_location_name, is_range_name, location_reference, range_reference, line_reference, dropped, section_offset}
use Rattle.dwc_output.specs.TreeReading.{list_read, unreadable_list, ranges_read, location_said, locations_read}
use Rattle.dwc_dwarf.specs.Lists.{list_source, list_of_value, ranges_at, ranges_of_value, ListRefusal, interval_given, base_behind, intervals_given, interval_between, ListedLocation, with_expression, locations_at, locations_of_value}
use Rattle.dwc_base.specs.Spelling.{unread_at}
use Rattle.dwc_unit.specs.declared.expressions.Expression.{Expression}
use Rattle.dwc_section.specs.Spelled.{at_places}
use Rattle.dwc_section.specs.SpelledAddresses.{IsHeld}
use Rattle.dwc_unit.specs.RangeLists.{FitsRange, address_behind, interval_of, is_symbol}
use Rattle.dwc_unit.specs.Lists.{ListEntry, FitsLocation, IsShort, ended, list_bytes, list_fields, listed_bytes, location_entry, location_of, range_entry}
use Rattle.dwc_write.proofs.ReadListed.{ReadsEntries, list-walked, location-end, location-leaves, location-reads, location_at, pair-leaves, range-end, range-reads, raw_location, raw_pair}

-- ---- what a list gives

-- the interval of two addresses of one function
pub interval-between : (a : Address) (n : ℕ) → is_symbol a ≡ true → 0 < n → interval_between a (address_behind a n) ≡ Some (record { begin = a; end = address_behind a n })
interval-between (Constant m) n symbol some = absurd (cc)
interval-between (Symbol f addend) n symbol some =
    let below : int_lt addend (addend +ℤ pos n) ≡ true = grind (arith, ints, some) in
    rw (eq-eqb f f refl, below) refl

abbrev pub interval : ListEntry → Interval
interval e = interval_of (e.begin, e.extent)

-- what is asked of the interval of an entry
abbrev pub FitsInterval : ℕ → ListEntry → Type 0
FitsInterval size e = FitsRange size (e.begin, e.extent)

pair-given : (s : ListSource) (told : Flaw → Fault) (base : Address) (e : ListEntry) → is_symbol e.begin ≡ true → 0 < e.extent → interval_given s told base (raw_pair e) ≡ Ok (Some (interval e))
unfolding interval_given
pair-given s told base e symbol some = go e.begin symbol (interval-between e.begin e.extent symbol some)
  where
    go : (a : Address) → is_symbol a ≡ true → interval_between a (address_behind a e.extent) ≡ Some (record { begin = a; end = address_behind a e.extent }) → interval_given s told base (pair a (address_behind a e.extent)) ≡ Ok (Some (record { begin = a; end = address_behind a e.extent }))
    go (Constant m) symbol is = absurd (cc)
    go (Symbol f addend) symbol is = ap Ok is

pub given-step : (s : ListSource) (told : Flaw → Fault) (base : Address) (e : RawEntry) (es : List RawEntry) (last : Option Fault) (i : Option Interval) → interval_given s told base e ≡ Ok i → base_behind s told base e ≡ Ok base → intervals_given s told base (e ∷ es) last ≡ with_first i (intervals_given s told base es last)
unfolding intervals_given
given-step s told base e es last i given stays = rw (given, stays, intervals_given) refl

base-stays : (s : ListSource) (told : Flaw → Fault) (base : Address) (e : ListEntry) → base_behind s told base (raw_pair e) ≡ Ok base
unfolding base_behind
base-stays s told base e = refl

-- each interval is given as it is
list-given : (s : ListSource) (told : Flaw → Fault) (base : Address) (size : ℕ) (es : List ListEntry) → All (FitsInterval size) es → intervals_given s told base (map raw_pair es) None ≡ record { items = map (λ e. Some (interval e)) es; fault = None }
unfolding intervals_given
list-given s told base size [] fits = refl
list-given s told base size (e ∷ es) fits =
    let here = All-head (FitsInterval size) e es fits in
    given-step s told base (raw_pair e) (map raw_pair es) None (Some (interval e)) (pair-given s told base e here.symbol here.some) (base-stays s told base e)
    ∙ ap (with_first (Some (interval e))) (list-given s told base size es (All-tail (FitsInterval size) e es fits))

-- ---- lists of a unit of version 4, among others

module _ (s : Sections) (h : UnitHeader) (version : h.version ≡ 4) (some : 0 < h.address_size) (start : ℕ) (rest : List ℕ) where
  abbrev size : ℕ
  size = h.address_size

  -- ---- a range list

  abbrev pub ranges_here : ListPlace
  ranges_here = record { section = Ranges; offset = start }

  -- what is asked of an entry of a range list
  record IsRange (e : ListEntry) : Type 0 where
    fits : FitsInterval size e
    alone : e.holds ≡ None

  are-ranges : (rs : List (Address × ℕ)) → All (FitsRange size) rs → All IsRange (map range_entry rs)
  are-ranges [] fits = All-nil IsRange
  are-ranges (r ∷ rs) fits = All-cons IsRange (range_entry r) (map range_entry rs) (record { fits = All-head (FitsRange size) r rs fits; alone = refl }) (are-ranges rs (All-tail (FitsRange size) r rs fits))

  interval-fits : (es : List ListEntry) → All IsRange es → All (FitsInterval size) es
  interval-fits [] all = All-nil (FitsInterval size)
  interval-fits (e ∷ es) all = All-cons (FitsInterval size) e es (All-head IsRange e es all).fits (interval-fits es (All-tail IsRange e es all))

  reads-ranges : ReadsEntries 4 (s.relocations Ranges) s.order size (pair_at (s.relocations Ranges) size) IsRange (λ place e. raw_pair e)
  reads-ranges = record {
    leaves = λ u. pair-leaves (s.relocations Ranges) size u some;
    each = λ place e is held. range-reads s.order (s.relocations Ranges) place size e is.fits.symbol is.alone held;
    end = λ place held. range-end s.order (s.relocations Ranges) place size held;
  }

  pairs-placed : (place : ℕ) (es : List ListEntry) → at_places (listed_bytes 4 s.order size) (λ p e. raw_pair e ∷ []) place es ≡ map raw_pair es
  pairs-placed place [] = refl
  pairs-placed place (e ∷ es) = ap (λ xs. raw_pair e ∷ xs) (pairs-placed (place + length (listed_bytes 4 s.order size e)) es)

  -- entries without a fault
  abbrev whole_pairs : List RawEntry → Listing Fault RawEntry
  whole_pairs xs = record { items = xs; fault = None }

  module _ (rs : List (Address × ℕ)) (bytes : drop start (s.bytes Ranges) ≡ list_bytes 4 s.order h.address_size (ended (map range_entry rs)) ++ rest) (fits : All (FitsRange h.address_size) rs) (held : All (IsHeld (s.relocations Ranges)) (list_fields 4 s.order h.address_size start (ended (map range_entry rs)))) where
    pub ranges-raw : raw_ranges (list_source s h) ranges_here ≡ record { items = map raw_pair (map range_entry rs); fault = None }
    unfolding raw_ranges raw_entry_at list_source
    ranges-raw =
        let es = map range_entry rs in
        let next : Unread → Next Unread Fault RawEntry = next_item (pair_at (s.relocations Ranges) size) (list_fault RangeList ranges_here) in
        ap (λ xs. walk unread_length next (unread_at s.order start xs)) bytes
        ∙ list-walked 4 (s.relocations Ranges) s.order size (pair_at (s.relocations Ranges) size) IsRange (λ place e. raw_pair e) reads-ranges (list_fault RangeList ranges_here) start es rest (are-ranges rs fits) held
        ∙ ap whole_pairs (pairs-placed start es)

    given-all : (xs : List (Address × ℕ)) → filter_map (λ i. i) (map (λ e. Some (interval e)) (map range_entry xs)) ≡ map interval_of xs
    given-all [] = refl
    given-all (x ∷ xs) = ap (λ is. interval_of x ∷ is) (given-all xs)

    list-at : ranges_at (list_source s h) ranges_here ≡ record { items = map interval_of rs; fault = None }
    unfolding ranges_at
    list-at =
        let given = list-given (list_source s h) (list_fault RangeList ranges_here) (list_source s h).first_base size (map range_entry rs) (interval-fits (map range_entry rs) (are-ranges rs fits)) in
        rw (ranges-raw, given, given-all rs) refl

    pub ranges-named : list_named (list_source s h) (range_reference start) ≡ Some (Ok ranges_here)
    unfolding list_named list_source
    ranges-named = rw (version) refl

    list-of_value : (offset : ℕ) → ranges_of_value (list_source s h) offset (range_reference start) ≡ record { items = map interval_of rs; fault = None }
    unfolding ranges_of_value
    list-of_value offset = ap (list_of_value RangeList offset (ranges_at (list_source s h))) ranges-named ∙ list-at

    pub ranges-read : (e : Entry) → ranges_read s h e (range_reference start) ≡ Ok (map interval_of rs)
    unfolding ranges_read
    ranges-read e = ap (λ (l : Listing ListRefusal Interval). list_read (unreadable_list RangeList e (list_named (list_source s h) (range_reference start))) l.items l.fault) (list-of_value e.offset)

  -- ---- a location list

  abbrev pub locations_here : ListPlace
  locations_here = record { section = Loc; offset = start }

  -- what is asked of an entry of a location list
  record IsLocation (e : ListEntry) : Type 0 where
    fits : FitsInterval size e
    bytes : List ℕ
    holds : e.holds ≡ Some bytes
    short : IsShort 4 (Some bytes)

  abbrev Shorts : ListEntry → Type 0
  Shorts e = IsShort 4 e.holds

  are-locations : (ls : List (Address × ℕ × Expression)) → All (FitsLocation size) ls → All Shorts (ended (map location_entry ls)) → All IsLocation (map location_entry ls)
  are-locations [] fits short = All-nil IsLocation
  are-locations (l ∷ ls) fits short =
      All-cons IsLocation (location_entry l) (map location_entry ls)
      (record { fits = All-head (FitsLocation size) l ls fits; bytes = l.2; holds = refl; short = All-head Shorts (location_entry l) (ended (map location_entry ls)) short })
      (are-locations ls (All-tail (FitsLocation size) l ls fits) (All-tail Shorts (location_entry l) (ended (map location_entry ls)) short))

  locations-fit : (es : List ListEntry) → All IsLocation es → All (FitsInterval size) es
  locations-fit [] all = All-nil (FitsInterval size)
  locations-fit (e ∷ es) all = All-cons (FitsInterval size) e es (All-head IsLocation e es all).fits (locations-fit es (All-tail IsLocation e es all))

  reads-locations : ReadsEntries 4 (s.relocations Loc) s.order size (location_at (s.relocations Loc) size) IsLocation (λ place e. raw_location s.order size place e)
  reads-locations = record {
    leaves = λ u. location-leaves (s.relocations Loc) size u some;
    each = λ place e is held. location-reads s.order (s.relocations Loc) place size e is.bytes is.fits.symbol is.holds is.short held;
    end = λ place held. location-end s.order (s.relocations Loc) place size held;
  }

  -- the entries of a location list that stands at a place
  abbrev pub raw_from : ℕ → List ListEntry → List RawLocation
  raw_from place es = at_places (listed_bytes 4 s.order size) (λ p e. raw_location s.order size p e ∷ []) place es

  says-are : (place : ℕ) (es : List ListEntry) → map (λ r. r.says) (raw_from place es) ≡ map raw_pair es
  says-are place [] = refl
  says-are place (e ∷ es) = ap (λ xs. raw_pair e ∷ xs) (says-are (place + length (listed_bytes 4 s.order size e)) es)

  -- what both parts of the entries give together
  abbrev given_both : ℕ → List ListEntry → List ListedLocation
  given_both place es = filter_map with_expression (zip (map (λ e. Some (interval e)) es) (map (λ r. r.holds) (raw_from place es)))

  both-given : (place : ℕ) (ls : List (Address × ℕ × Expression)) → map location_said (given_both place (map location_entry ls)) ≡ map location_of ls
  both-given place [] = refl
  both-given place (l ∷ ls) = ap (λ xs. location_of l ∷ xs) (both-given (place + length (listed_bytes 4 s.order size (location_entry l))) ls)

  module _ (ls : List (Address × ℕ × Expression)) (bytes : drop start (s.bytes Loc) ≡ list_bytes 4 s.order h.address_size (ended (map location_entry ls)) ++ rest) (fits : All (FitsLocation h.address_size) ls) (short : All (λ e. IsShort 4 e.holds) (ended (map location_entry ls)))
      (held : All (IsHeld (s.relocations Loc)) (list_fields 4 s.order h.address_size start (ended (map location_entry ls)))) where
    pub locations-raw : raw_locations (list_source s h) locations_here ≡ record { items = raw_from start (map location_entry ls); fault = None }
    unfolding raw_locations raw_location_at raw_entry_at list_source
    locations-raw =
        let es = map location_entry ls in
        let next : Unread → Next Unread Fault RawLocation = next_item (location_at (s.relocations Loc) size) (list_fault LocationList locations_here) in
        ap (λ xs. walk unread_length next (unread_at s.order start xs)) bytes
        ∙ list-walked 4 (s.relocations Loc) s.order size (location_at (s.relocations Loc) size) IsLocation (λ place e. raw_location s.order size place e) reads-locations (list_fault LocationList locations_here) start es rest (are-locations ls fits short) held

    located-at : locations_at (list_source s h) locations_here ≡ record { items = given_both start (map location_entry ls); fault = None }
    unfolding locations_at
    located-at =
        let es = map location_entry ls in
        let given = list-given (list_source s h) (list_fault LocationList locations_here) (list_source s h).first_base size es (locations-fit es (are-locations ls fits short)) in
        rw (locations-raw, says-are start es, given) refl

    pub locations-named : list_named (list_source s h) (location_reference start) ≡ Some (Ok locations_here)
    unfolding list_named list_source
    locations-named = rw (version) refl

    located-of_value : (offset : ℕ) → locations_of_value (list_source s h) offset (location_reference start) ≡ record { items = given_both start (map location_entry ls); fault = None }
    unfolding locations_of_value
    located-of_value offset = ap (list_of_value LocationList offset (locations_at (list_source s h))) locations-named ∙ located-at

    pub locations-read : (e : Entry) → locations_read s h e (location_reference start) ≡ Ok (map location_of ls)
    unfolding locations_read
    locations-read e =
        ap (λ (l : Listing ListRefusal ListedLocation). list_read (unreadable_list LocationList e (list_named (list_source s h) (location_reference start))) (map location_said l.items) l.fault) (located-of_value e.offset)
        ∙ ap Ok (both-given start ls)

-- ---- the values that name lists

-- a section offset under the name of a range list is the place of one
pub range-offset : (name n : ℕ) → is_range_name name ≡ true → section_offset name n ≡ range_reference n
range-offset name n known = go (name == DW_AT_ranges) refl (name == DW_AT_start_scope) refl known
  where
    go : (a : Bool) → (name == DW_AT_ranges) ≡ a → (b : Bool) → (name == DW_AT_start_scope) ≡ b → (a || b) ≡ true → section_offset name n ≡ range_reference n
    go true is b other known = let e : name ≡ DW_AT_ranges = eqb-true _ _ is in rw (e) refl
    go false not true is known = let e : name ≡ DW_AT_start_scope = eqb-true _ _ is in rw (e) refl
    go false not false other known = absurd (cc)

-- and under that of a location list
pub location-offset : (name n : ℕ) → is_location_name name ≡ true → section_offset name n ≡ location_reference n
location-offset name n known = ap (λ b. if b then location_reference n else (if name == DW_AT_stmt_list then line_reference n else (if is_range_name name then range_reference n else dropped))) known
