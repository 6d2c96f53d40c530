-- Lists are no longer than their widest size, where that is no more than a section holds.
use Rattle.std.proofs.Common.{◌≡◌, ℕ, ◌+◌, ◌^◌, ◌<◌, ◌≤◌, refl, subst, arith, List, [], ◌∷◌, length, length-append, map, Option, Some, None, Bool, true, false}
use Rattle.std.specs.Prelude.{ℤ, pos, ◌+ℤ◌, FitsSigned, ◌==◌, sum_by, if◌then◌else◌}
use Rattle.std.specs.List.{All, flat_map}
use Rattle.std.specs.Int.{w32}
use Rattle.std.proofs.lemmas.Int.{ints}
use Rattle.std.proofs.lemmas.List.Elements.{All-cons, All-head, All-nil, All-tail}
use Rattle.std.proofs.lemmas.List.Sums.{sum_by-cons}
use Rattle.dwc_base.specs.declared.records.Address.{Address as RangeAddress}
use Rattle.dwc_base.specs.declared.records.Address.TheVariants.{Constant as number, Symbol}
use Rattle.dwc_base.specs.declared.records.Endian.{Endian}
use Rattle.dwc_base.specs.NumberBytes.{uleb_bytes}
use Rattle.dwc_output.specs.NewWidest.{widest_interval}
use Rattle.dwc_output.specs.Versions.{is_old}
use Rattle.dwc_output.specs.WidestTrees as trees
use Rattle.dwc_section.specs.Writers.{most_bytes}
use Rattle.dwc_unit.specs.declared.attributes.Attribute.{Attribute}
use Rattle.dwc_unit.specs.declared.attributes.AttributeValue.{AttributeValue}
use Rattle.dwc_unit.specs.declared.attributes.AttributeValue.TheVariants.{Address, Constant, Flag, Block, Exprloc, StringRef, LineProgramRef, RangeListRef, LocationListRef, UnitRef, DebugInfoRef}
use Rattle.dwc_unit.specs.declared.expressions.Expression.{Expression}
use Rattle.dwc_unit.specs.GivenUnits.{FitsAttribute, FitsEntry, FitsOrdered, FitsValue, GivenEntry, OrderedUnit, lists_of_entries}
use Rattle.dwc_unit.specs.RangeLists.{FitsRange}
use Rattle.dwc_unit.specs.Lists.{ListEntry, FitsLocation, contribution_bytes, ended, headed_bytes, held_length, list_bytes, list_end, list_length, listed_length, lists_of_attributes, location_entry, locations_in, range_entry, ranges_in}
use Rattle.dwc_unit.specs.WidestGiven.{behind_lists_header, widest_contribution, widest_held, widest_listed, widest_lists_of}
use Rattle.dwc_write.specs.SpelledOutput.{unit_lists_bytes}
use Rattle.dwc_section.proofs.LebSizes.{uleb-10}
use Rattle.dwc_write.proofs.ListPlaces.{both-length, headed-length, list-length}

-- ---- how many bytes an entry covers

abbrev pub IsCounted : ListEntry → Type 0
IsCounted e = e.extent < 2 ^ 64

symbol-counted : (addend : ℤ) (n : ℕ) → FitsSigned w32 addend → FitsSigned w32 (addend +ℤ pos n) → n < 2 ^ 64
symbol-counted addend n begin end = grind (arith, ints)

range-counted : (size : ℕ) (a : RangeAddress) (n : ℕ) → FitsRange size (a, n) → n < 2 ^ 64
range-counted size (number m) n fits = let is = fits.symbol in absurd (cc)
range-counted size (Symbol symbol addend) n fits = symbol-counted addend n fits.ends.begin fits.ends.end

ended-counted : (es : List ListEntry) → All IsCounted es → All IsCounted (ended es)
ended-counted [] all = All-cons IsCounted list_end [] (omega arith) (All-nil IsCounted)
ended-counted (e ∷ es) all = All-cons IsCounted e (ended es) (All-head IsCounted e es all) (ended-counted es (All-tail IsCounted e es all))

ranges-counted : (size : ℕ) (rs : List (RangeAddress × ℕ)) → All (FitsRange size) rs → All IsCounted (map range_entry rs)
ranges-counted size [] fits = All-nil IsCounted
ranges-counted size (r ∷ rs) fits =
    All-cons IsCounted (range_entry r) (map range_entry rs) (range-counted size r.0 r.1 (All-head (FitsRange size) r rs fits)) (ranges-counted size rs (All-tail (FitsRange size) r rs fits))

locations-counted : (size : ℕ) (ls : List (RangeAddress × ℕ × Expression)) → All (FitsLocation size) ls → All IsCounted (map location_entry ls)
locations-counted size [] fits = All-nil IsCounted
locations-counted size (l ∷ ls) fits =
    All-cons IsCounted (location_entry l) (map location_entry ls) (range-counted size l.0 l.1 (All-head (FitsLocation size) l ls fits)) (locations-counted size ls (All-tail (FitsLocation size) l ls fits))

-- Lists of a kind have such entries.
abbrev pub AreCounted : (AttributeValue → List ListEntry) → Type 0
AreCounted lists = (size name : ℕ) (v : AttributeValue) → FitsValue size name v → All IsCounted (lists v)

pub ranges-small : AreCounted ranges_in
ranges-small size name (RangeListRef list) fits = ended-counted (map range_entry list.ranges.items) (ranges-counted size list.ranges.items fits.1)
ranges-small size name (LocationListRef list) fits = All-nil IsCounted
ranges-small size name (Address a) fits = All-nil IsCounted
ranges-small size name (Constant form bits) fits = All-nil IsCounted
ranges-small size name (Flag b) fits = All-nil IsCounted
ranges-small size name (Block bytes) fits = All-nil IsCounted
ranges-small size name (Exprloc e) fits = All-nil IsCounted
ranges-small size name (StringRef id) fits = All-nil IsCounted
ranges-small size name LineProgramRef fits = All-nil IsCounted
ranges-small size name (UnitRef id) fits = All-nil IsCounted
ranges-small size name (DebugInfoRef reference) fits = All-nil IsCounted

pub locations-small : AreCounted locations_in
locations-small size name (LocationListRef list) fits = ended-counted (map location_entry list.locations.items) (locations-counted size list.locations.items fits.1)
locations-small size name (RangeListRef list) fits = All-nil IsCounted
locations-small size name (Address a) fits = All-nil IsCounted
locations-small size name (Constant form bits) fits = All-nil IsCounted
locations-small size name (Flag b) fits = All-nil IsCounted
locations-small size name (Block bytes) fits = All-nil IsCounted
locations-small size name (Exprloc e) fits = All-nil IsCounted
locations-small size name (StringRef id) fits = All-nil IsCounted
locations-small size name LineProgramRef fits = All-nil IsCounted
locations-small size name (UnitRef id) fits = All-nil IsCounted
locations-small size name (DebugInfoRef reference) fits = All-nil IsCounted

-- ---- an entry

held-old : (version : ℕ) (o : Option (List ℕ)) → is_old version ≡ true → held_length version o ≤ held_length 4 o
held-old version None old = omega arith
held-old version (Some bytes) old = rw (old) (omega arith)

held-new : (version : ℕ) (o : Option (List ℕ)) → is_old version ≡ false → widest_held o ≤ most_bytes → held_length version o ≤ widest_held o
held-new version None new small = omega arith
held-new version (Some bytes) new small = rw (new) (omega (arith, uleb-10 (length bytes) (omega (arith, small))))

listed-short : (version size : ℕ) (e : ListEntry) → size ≤ 8 → IsCounted e → widest_listed version e ≤ most_bytes → listed_length version size e ≤ widest_listed version e
listed-short version size e short counted small = go (is_old version) refl (e.extent == 0) small
  where
    go : (old : Bool) → is_old version ≡ old → (ends : Bool) → (if old then trees.pair_bytes + held_length 4 e.holds else (if ends then 1 else widest_interval + widest_held e.holds)) ≤ most_bytes
        → (if old then (size + size) + held_length version e.holds else (if ends then 1 else 1 + (size + (length (uleb_bytes e.extent) + held_length version e.holds)))) ≤ (if old then trees.pair_bytes + held_length 4 e.holds else (if ends then 1 else widest_interval + widest_held e.holds))
    go true old ends small = omega (arith, short, held-old version e.holds old)
    go false new true small = omega arith
    go false new false small = omega (arith, short, uleb-10 e.extent counted, held-new version e.holds new (omega (arith, small)))

-- lists behind their header
headed-short : (version : ℕ) (order : Endian) (size : ℕ) (es : List ListEntry) (n : ℕ) → length (list_bytes version order size es) ≤ n → length (contribution_bytes version order size es) ≤ behind_lists_header version es n
headed-short version order size [] n short = go (is_old version)
  where
    go : (old : Bool) → length {A = ℕ} (if old then [] else []) ≤ n
    go true = omega arith
    go false = omega arith
headed-short version order size (e ∷ es) n short = go (is_old version)
  where
    go : (old : Bool) → length (if old then list_bytes version order size (e ∷ es) else headed_bytes version order size (e ∷ es)) ≤ (if old then 0 else 12) + n
    go true = omega (arith, short)
    go false = omega (arith, short, headed-length version order size e es)

-- ---- the lists of units

module _ (order : Endian) (size : ℕ) (short : size ≤ 8) (lists : AttributeValue → List ListEntry) (counted : AreCounted lists) where
  length-short : (version : ℕ) (es : List ListEntry) → All IsCounted es → sum_by (widest_listed version) es ≤ most_bytes → list_length version size es ≤ sum_by (widest_listed version) es
  length-short version [] all small = omega arith
  length-short version (e ∷ es) all small =
      let sum = sum_by-cons (widest_listed version) e es in
      let here = listed-short version size e short (All-head IsCounted e es all) (omega (arith, small, sum)) in
      let others = length-short version es (All-tail IsCounted e es all) (omega (arith, small, sum)) in
      omega (arith, here, others, sum, sum_by-cons (listed_length version size) e es)

  attributes-short : (version : ℕ) (xs : List Attribute) → All (FitsAttribute size) xs → sum_by (λ a. sum_by (widest_listed version) (lists a.value)) xs ≤ most_bytes → length (list_bytes version order size (lists_of_attributes lists xs)) ≤ sum_by (λ a. sum_by (widest_listed version) (lists a.value)) xs
  attributes-short version [] fits small = omega arith
  attributes-short version (x ∷ xs) fits small =
      let sum = sum_by-cons (λ (a : Attribute). sum_by (widest_listed version) (lists a.value)) x xs in
      let here = length-short version (lists x.value) (counted size x.name x.value (All-head (FitsAttribute size) x xs fits).value) (omega (arith, small, sum)) in
      let others = attributes-short version xs (All-tail (FitsAttribute size) x xs fits) (omega (arith, small, sum)) in
      omega (arith, here, others, sum, list-length version order size (lists x.value), both-length version order size (lists x.value) (lists_of_attributes lists xs))

  entries-short : (version : ℕ) (es : List GivenEntry) → All (FitsEntry size) es → sum_by (widest_lists_of version lists) es ≤ most_bytes → length (list_bytes version order size (lists_of_entries lists es)) ≤ sum_by (widest_lists_of version lists) es
  entries-short version [] fits small = omega arith
  entries-short version (e ∷ es) fits small =
      let sum = sum_by-cons (widest_lists_of version lists) e es in
      let here = attributes-short version e.attributes (All-head (FitsEntry size) e es fits).attributes (omega (arith, small, sum)) in
      let others = entries-short version es (All-tail (FitsEntry size) e es fits) (omega (arith, small, sum)) in
      omega (arith, here, others, sum, both-length version order size (lists_of_attributes lists e.attributes) (lists_of_entries lists es))

  behind-header : (version : ℕ) (es : List ListEntry) (n : ℕ) → n ≤ behind_lists_header version es n
  behind-header version [] n = omega arith
  behind-header version (e ∷ es) n = omega arith

  unit-short : (u : OrderedUnit) → All (FitsEntry size) u.entries → widest_contribution lists u ≤ most_bytes → length (unit_lists_bytes lists order size u) ≤ widest_contribution lists u
  unit-short u fits small =
      let es = lists_of_entries lists u.entries in
      let n = sum_by (widest_lists_of u.version lists) u.entries in
      headed-short u.version order size es n (entries-short u.version u.entries fits (omega (arith, small, behind-header u.version es n)))

  pub lists-within : (us : List OrderedUnit) → All (λ u. u.address_size ≡ size) us → All FitsOrdered us → sum_by (widest_contribution lists) us ≤ most_bytes → length (flat_map (unit_lists_bytes lists order size) us) ≤ sum_by (widest_contribution lists) us
  lists-within [] sized fits small = omega arith
  lists-within (u ∷ us) sized fits small =
      let sum = sum_by-cons (widest_contribution lists) u us in
      let P : ℕ → Type 0 = λ n. All (FitsEntry n) u.entries in
      let entries = subst P (All-head (λ (v : OrderedUnit). v.address_size ≡ size) u us sized) (All-head FitsOrdered u us fits).entries in
      let here = unit-short u entries (omega (arith, small, sum)) in
      let others = lists-within us (All-tail (λ (v : OrderedUnit). v.address_size ≡ size) u us sized) (All-tail FitsOrdered u us fits) (omega (arith, small, sum)) in
      omega (arith, here, others, sum, length-append (unit_lists_bytes lists order size u) (flat_map (unit_lists_bytes lists order size) us))
