-- Where lists stand: one behind another, as their bytes do.
use Rattle.std.proofs.Common.{◌≡◌, ℕ, suc, ◌+◌, ◌<◌, ◌≤◌, refl, sym, ap, ◌∙◌, arith, List, [], ◌∷◌, ◌++◌, length, length-append, drop, get_or, map, Option, Some, None}
use Rattle.std.specs.Prelude.{◌==◌, Bool, true, false, if◌then◌else◌}
use Rattle.std.proofs.lemmas.Grind.{flat_map-append}
use Rattle.std.proofs.lemmas.List.Sums.{sum_by-cons}
use Rattle.dwc_base.specs.declared.records.Endian.{Endian}
use Rattle.dwc_unit.specs.declared.attributes.Attribute.{Attribute}
use Rattle.dwc_unit.specs.declared.attributes.AttributeValue.{AttributeValue}
use Rattle.dwc_unit.specs.declared.lists.ListPlaces.{ListPlaces}
use Rattle.dwc_unit.specs.GivenUnits.{GivenEntry, OrderedUnit, behind_entries, lists_of_entries}
use Rattle.dwc_write.specs.Layouts.{behind_unit, first_place, lists_from}
use Rattle.dwc_unit.specs.Lists.{ListEntry, AreWithin, behind_attributes, behind_lists, behind_value, contribution_bytes, count_bytes, count_length, counted_bytes, counted_length, end_of, ended, extent_bytes, headed_bytes, held_bytes, held_length, list_bytes, list_end, list_length, listed_bytes, listed_length, lists_header, lists_of_attributes, locations_in, pair_bytes, ranges_in}
use Rattle.dwc_section.specs.SpelledAddresses.{address_bytes, stored}
use Rattle.dwc_base.specs.NumberBytes.{number_bytes, uleb_bytes}
use Rattle.dwc_base.specs.declared.constants.TheConstants.{DW_RLE_end_of_list}
use Rattle.dwc_base.specs.declared.records.Address.{Address}
use Rattle.dwc_output.specs.Versions.{is_old}
use Rattle.dwc_write.proofs.ListLaws.{drop-more}
use Rattle.dwc_section.proofs.ReadNumbers.{number_bytes-length}

-- ---- the next lists stand behind

most-behind : (lists : AttributeValue → List ListEntry) (version size place : ℕ) (xs : List Attribute) → place ≤ behind_lists lists version size place xs
most-behind lists version size place [] = omega arith
most-behind lists version size place (x ∷ xs) = omega (arith, most-behind lists version size (place + list_length version size (lists x.value)) xs)

pub within-attributes : (version size : ℕ) (places : ListPlaces) (xs : List Attribute) → AreWithin (behind_attributes version size places xs) → AreWithin places
within-attributes version size places xs short =
    let ranges = short.ranges in
    let locations = short.locations in
    record { ranges = omega (arith, ranges, most-behind ranges_in version size places.ranges xs); locations = omega (arith, locations, most-behind locations_in version size places.locations xs) }

pub within-entries : (version size : ℕ) (places : ListPlaces) (es : List GivenEntry) → AreWithin (behind_entries version size places es) → AreWithin places
within-entries version size places [] short = short
within-entries version size places (e ∷ es) short = within-attributes version size places e.attributes (within-entries version size (behind_attributes version size places e.attributes) es short)

-- the place behind an entry more
pub listed-more : {A : Type 0} (f : A → ListEntry) (version size : ℕ) (xs : List A) (i : ℕ) (d : A) → i < length xs → list_length version size (ended (map f (drop i xs))) ≡ listed_length version size (f (get_or xs i d)) + list_length version size (ended (map f (drop (suc i) xs)))
listed-more f version size xs i d within = ap (λ ys. list_length version size (ended (map f ys))) (drop-more xs i d within) ∙ sum_by-cons (listed_length version size) (f (get_or xs i d)) (ended (map f (drop (suc i) xs)))

-- of a list without entries the end is left
pub end-alone : (version size : ℕ) → list_length version size (ended []) ≡ listed_length version size list_end
end-alone version size = let more = sum_by-cons (listed_length version size) list_end [] in omega (arith, more)

-- an entry by what its parts are
pub of-parts : (e : ListEntry) (extent : ℕ) (holds : Option (List ℕ)) → extent ≡ e.extent → holds ≡ e.holds → record { begin = e.begin; extent = extent; holds = holds } ≡ e
of-parts e extent holds p q = rw (p, q) refl

-- ---- as their bytes do

pub places-equal : {a b c d : ℕ} → a ≡ b → c ≡ d → ◌≡◌ {A = ListPlaces} (record { ranges = a; locations = c }) (record { ranges = b; locations = d })
places-equal {a} {b} {c} {d} p q = rw (p, q) refl

module _ (version : ℕ) (order : Endian) (size : ℕ) where
  count-length : (n : ℕ) → length (count_bytes version order n) ≡ count_length version n
  count-length n = go (is_old version)
    where
      go : (old : Bool) → length (if old then number_bytes order 2 n else uleb_bytes n) ≡ (if old then 2 else length (uleb_bytes n))
      go true = number_bytes-length order 2 n
      go false = refl

  pub held-length : (o : Option (List ℕ)) → length (held_bytes version order o) ≡ held_length version o
  held-length None = refl
  held-length (Some bytes) = omega (arith, length-append (count_bytes version order (length bytes)) bytes, count-length (length bytes))

  pub address-length : (a : Address) → length (address_bytes order size a) ≡ size
  address-length a = number_bytes-length order size (stored a)

  pub pair-length : (e : ListEntry) → length (pair_bytes version order size e) ≡ (size + size) + held_length version e.holds
  pair-length e =
      let begin = address_bytes order size e.begin in
      let end = address_bytes order size (end_of e) in
      let held = held_bytes version order e.holds in
      omega (arith, length-append begin (end ++ held), length-append end held, address-length e.begin, address-length (end_of e), held-length e.holds)

  pub extent-length : (e : ListEntry) → length (extent_bytes version order size e) ≡ 1 + (size + (length (uleb_bytes e.extent) + held_length version e.holds))
  extent-length e =
      let begin = address_bytes order size e.begin in
      let extent = uleb_bytes e.extent in
      let held = held_bytes version order e.holds in
      omega (arith, length-append begin (extent ++ held), length-append extent held, address-length e.begin, held-length e.holds)

  counted-length : (e : ListEntry) → length (counted_bytes version order size e) ≡ counted_length version size e
  counted-length e = go (e.extent == 0)
    where
      go : (ends : Bool) → length (if ends then DW_RLE_end_of_list ∷ [] else extent_bytes version order size e) ≡ (if ends then 1 else 1 + (size + (length (uleb_bytes e.extent) + held_length version e.holds)))
      go true = refl
      go false = extent-length e

  pub listed-length : (e : ListEntry) → length (listed_bytes version order size e) ≡ listed_length version size e
  listed-length e = go (is_old version)
    where
      go : (old : Bool) → length (if old then pair_bytes version order size e else counted_bytes version order size e) ≡ (if old then (size + size) + held_length version e.holds else counted_length version size e)
      go true = pair-length e
      go false = counted-length e

  pub list-length : (es : List ListEntry) → length (list_bytes version order size es) ≡ list_length version size es
  list-length [] = refl
  list-length (e ∷ es) = omega (arith, list-length es, listed-length e, length-append (listed_bytes version order size e) (list_bytes version order size es), sum_by-cons (listed_length version size) e es)

  pub both-length : (es fs : List ListEntry) → length (list_bytes version order size (es ++ fs)) ≡ length (list_bytes version order size es) + length (list_bytes version order size fs)
  both-length es fs = ap length (flat_map-append (listed_bytes version order size) es fs) ∙ length-append (list_bytes version order size es) (list_bytes version order size fs)

  pub attributes-behind : (lists : AttributeValue → List ListEntry) (place : ℕ) (xs : List Attribute) → behind_lists lists version size place xs ≡ place + length (list_bytes version order size (lists_of_attributes lists xs))
  attributes-behind lists place [] = omega arith
  attributes-behind lists place (x ∷ xs) =
      omega (arith, attributes-behind lists (place + list_length version size (lists x.value)) xs, list-length (lists x.value), both-length (lists x.value) (lists_of_attributes lists xs))

  -- the places behind lists, by their bytes
  abbrev pub places_behind : ListPlaces → List ListEntry → List ListEntry → ListPlaces
  places_behind places rs ls = record { ranges = places.ranges + length (list_bytes version order size rs); locations = places.locations + length (list_bytes version order size ls) }

  pub value-behind : (places : ListPlaces) (v : AttributeValue) → behind_value version size places v ≡ places_behind places (ranges_in v) (locations_in v)
  value-behind places v = places-equal (ap (λ n. places.ranges + n) (sym (list-length (ranges_in v)))) (ap (λ n. places.locations + n) (sym (list-length (locations_in v))))

  pub all-behind : (places : ListPlaces) (xs : List Attribute) → behind_attributes version size places xs ≡ places_behind places (lists_of_attributes ranges_in xs) (lists_of_attributes locations_in xs)
  all-behind places xs = places-equal (attributes-behind ranges_in places.ranges xs) (attributes-behind locations_in places.locations xs)

  pub entries-behind : (places : ListPlaces) (es : List GivenEntry) → behind_entries version size places es ≡ places_behind places (lists_of_entries ranges_in es) (lists_of_entries locations_in es)
  entries-behind places [] = places-equal (omega arith) (omega arith)
  entries-behind places (e ∷ es) =
      entries-behind (behind_attributes version size places e.attributes) es
      ∙ places-equal (omega (arith, attributes-behind ranges_in places.ranges e.attributes, both-length (lists_of_attributes ranges_in e.attributes) (lists_of_entries ranges_in es)))
      (omega (arith, attributes-behind locations_in places.locations e.attributes, both-length (lists_of_attributes locations_in e.attributes) (lists_of_entries locations_in es)))

-- Where the lists of a kind stand.
pub record IsPlaceOf (kind : AttributeValue → List ListEntry) (version size : ℕ) (at : ListPlaces → ℕ) : Type 0 where
  pub value : (places : ListPlaces) (v : AttributeValue) → at (behind_value version size places v) ≡ at places + list_length version size (kind v)
  pub attributes : (places : ListPlaces) (xs : List Attribute) → at (behind_attributes version size places xs) ≡ behind_lists kind version size (at places) xs
  pub first : (places : ListPlaces) (es : List GivenEntry) → at (lists_from version es places) ≡ first_place version (lists_of_entries kind es) (at places)
  pub unit : (order : Endian) (places : ListPlaces) (u : OrderedUnit) → at (behind_unit order size places u) ≡ at places + length (contribution_bytes u.version order size (lists_of_entries kind u.entries))

pub ranges-place : (version size : ℕ) → IsPlaceOf ranges_in version size (λ places. places.ranges)
ranges-place version size = record { value = λ places v. refl; attributes = λ places xs. refl; first = λ places es. refl; unit = λ order places u. refl }

pub locations-place : (version size : ℕ) → IsPlaceOf locations_in version size (λ places. places.locations)
locations-place version size = record { value = λ places v. refl; attributes = λ places xs. refl; first = λ places es. refl; unit = λ order places u. refl }

-- ---- the lists of a unit

module _ (version : ℕ) (order : Endian) (size : ℕ) where
  pub header-length : length (lists_header version order size) ≡ 8
  header-length = omega (arith, length-append (number_bytes order 2 version) (size ∷ 0 ∷ number_bytes order 4 0), number_bytes-length order 2 version, number_bytes-length order 4 0)

  -- what stands in front of the first list, with its length
  pub headed-length : (e : ListEntry) (es : List ListEntry) → length (headed_bytes version order size (e ∷ es)) ≡ 12 + length (list_bytes version order size (e ∷ es))
  headed-length e es =
      let body = lists_header version order size ++ list_bytes version order size (e ∷ es) in
      omega (arith, length-append (number_bytes order 4 (length body)) body, number_bytes-length order 4 (length body), length-append (lists_header version order size) (list_bytes version order size (e ∷ es)), header-length)
