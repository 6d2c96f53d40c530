-- The entries of the lists of units fit their fields, and are short: `ranges-fit`, `locations-fit`.
use Rattle.std.proofs.Common.{◌≡◌, ℕ, List, [], ◌∷◌, map, Option, Some, None, false}
use Rattle.std.specs.List.{All}
use Rattle.std.proofs.lemmas.List.Elements.{All-append, All-cons, All-head, All-nil, All-tail}
use Rattle.dwc_base.specs.declared.records.Address.{Address as RangeAddress}
use Rattle.dwc_output.specs.Versions.{is_old}
use Rattle.dwc_unit.specs.declared.attributes.Attribute.{Attribute}
use Rattle.dwc_unit.specs.declared.attributes.AttributeValue.{AttributeValue}
use Rattle.dwc_unit.specs.declared.attributes.AttributeValue.TheVariants.{Address, Constant, Flag, Block, Exprloc, StringRef, LineProgramRef, RangeListRef, LocationListRef, UnitRef, DebugInfoRef}
use Rattle.dwc_unit.specs.declared.expressions.Expression.{Expression}
use Rattle.dwc_unit.specs.GivenUnits.{GivenEntry, FitsAttribute, FitsEntry, FitsValue, lists_of_entries}
use Rattle.dwc_unit.specs.RangeLists.{FitsEnds, FitsRange}
use Rattle.dwc_unit.specs.Lists.{ListEntry, FitsListed, FitsLocation, IsShort, ended, list_end, lists_of_attributes, location_entry, locations_in, range_entry, ranges_in}
use Rattle.dwc_write.proofs.ReadListed.{zero-small}
use Rattle.dwc_unit.proofs.ReadValues.{All-back, All-front}

abbrev pub HasShort : ℕ → ListEntry → Type 0
HasShort version e = IsShort version e.holds

abbrev HasEnds : ℕ → ListEntry → Type 0
HasEnds size e = FitsEnds size (e.begin, e.extent)

-- from version 5 on no expression is too long
pub new-short : (version : ℕ) (es : List ListEntry) → is_old version ≡ false → All (HasShort version) es
new-short version [] new = All-nil (HasShort version)
new-short version (e ∷ es) new = All-cons (HasShort version) e es (go e.holds) (new-short version es new)
  where
    go : (o : Option (List ℕ)) → IsShort version o
    go None = tt
    go (Some bytes) = rw (new) tt

ends-fit : (size : ℕ) → HasEnds size list_end
ends-fit size = record { begin = zero-small size; end = zero-small size }

-- entries whose ends fit, and their end
both-fit : (version size : ℕ) (es : List ListEntry) → All (HasEnds size) es → All (HasShort version) es → All (FitsListed version size) (ended es)
both-fit version size [] ends short = All-cons (FitsListed version size) list_end [] (record { ends = ends-fit size; short = tt }) (All-nil (FitsListed version size))
both-fit version size (e ∷ es) ends short =
    All-cons (FitsListed version size) e (ended es) (record { ends = All-head (HasEnds size) e es ends; short = All-head (HasShort version) e es short }) (both-fit version size es (All-tail (HasEnds size) e es ends) (All-tail (HasShort version) e es short))

range-ends : (size : ℕ) (rs : List (RangeAddress × ℕ)) → All (FitsRange size) rs → All (HasEnds size) (map range_entry rs)
range-ends size [] fits = All-nil (HasEnds size)
range-ends size (r ∷ rs) fits = All-cons (HasEnds size) (range_entry r) (map range_entry rs) (All-head (FitsRange size) r rs fits).ends (range-ends size rs (All-tail (FitsRange size) r rs fits))

range-short : (version : ℕ) (rs : List (RangeAddress × ℕ)) → All (HasShort version) (map range_entry rs)
range-short version [] = All-nil (HasShort version)
range-short version (r ∷ rs) = All-cons (HasShort version) (range_entry r) (map range_entry rs) tt (range-short version rs)

location-ends : (size : ℕ) (ls : List (RangeAddress × ℕ × Expression)) → All (FitsLocation size) ls → All (HasEnds size) (map location_entry ls)
location-ends size [] fits = All-nil (HasEnds size)
location-ends size (l ∷ ls) fits = All-cons (HasEnds size) (location_entry l) (map location_entry ls) (All-head (FitsLocation size) l ls fits).ends (location-ends size ls (All-tail (FitsLocation size) l ls fits))

-- ---- values

value-ranges : (version size name : ℕ) (v : AttributeValue) → FitsValue size name v → All (FitsListed version size) (ranges_in v)
value-ranges version size name (RangeListRef list) fits = both-fit version size (map range_entry list.ranges.items) (range-ends size list.ranges.items fits.1) (range-short version list.ranges.items)
value-ranges version size name (LocationListRef list) fits = All-nil (FitsListed version size)
value-ranges version size name (Address a) fits = All-nil (FitsListed version size)
value-ranges version size name (Constant form bits) fits = All-nil (FitsListed version size)
value-ranges version size name (Flag b) fits = All-nil (FitsListed version size)
value-ranges version size name (Block bytes) fits = All-nil (FitsListed version size)
value-ranges version size name (Exprloc e) fits = All-nil (FitsListed version size)
value-ranges version size name (StringRef id) fits = All-nil (FitsListed version size)
value-ranges version size name LineProgramRef fits = All-nil (FitsListed version size)
value-ranges version size name (UnitRef id) fits = All-nil (FitsListed version size)
value-ranges version size name (DebugInfoRef reference) fits = All-nil (FitsListed version size)

value-locations : (version size name : ℕ) (v : AttributeValue) → FitsValue size name v → All (HasShort version) (locations_in v) → All (FitsListed version size) (locations_in v)
value-locations version size name (LocationListRef list) fits short =
    both-fit version size (map location_entry list.locations.items) (location-ends size list.locations.items fits.1) (All-front (HasShort version) (map location_entry list.locations.items) (list_end ∷ []) short)
value-locations version size name (RangeListRef list) fits short = All-nil (FitsListed version size)
value-locations version size name (Address a) fits short = All-nil (FitsListed version size)
value-locations version size name (Constant form bits) fits short = All-nil (FitsListed version size)
value-locations version size name (Flag b) fits short = All-nil (FitsListed version size)
value-locations version size name (Block bytes) fits short = All-nil (FitsListed version size)
value-locations version size name (Exprloc e) fits short = All-nil (FitsListed version size)
value-locations version size name (StringRef id) fits short = All-nil (FitsListed version size)
value-locations version size name LineProgramRef fits short = All-nil (FitsListed version size)
value-locations version size name (UnitRef id) fits short = All-nil (FitsListed version size)
value-locations version size name (DebugInfoRef reference) fits short = All-nil (FitsListed version size)

-- ---- entries

attributes-ranges : (version size : ℕ) (xs : List Attribute) → All (FitsAttribute size) xs → All (FitsListed version size) (lists_of_attributes ranges_in xs)
attributes-ranges version size [] fits = All-nil (FitsListed version size)
attributes-ranges version size (x ∷ xs) fits =
    All-append (FitsListed version size) (ranges_in x.value) (lists_of_attributes ranges_in xs) (value-ranges version size x.name x.value (All-head (FitsAttribute size) x xs fits).value) (attributes-ranges version size xs (All-tail (FitsAttribute size) x xs fits))

pub ranges-fit : (version size : ℕ) (es : List GivenEntry) → All (FitsEntry size) es → All (FitsListed version size) (lists_of_entries ranges_in es)
ranges-fit version size [] fits = All-nil (FitsListed version size)
ranges-fit version size (e ∷ es) fits =
    All-append (FitsListed version size) (lists_of_attributes ranges_in e.attributes) (lists_of_entries ranges_in es) (attributes-ranges version size e.attributes (All-head (FitsEntry size) e es fits).attributes) (ranges-fit version size es (All-tail (FitsEntry size) e es fits))

attributes-locations : (version size : ℕ) (xs : List Attribute) → All (FitsAttribute size) xs → All (HasShort version) (lists_of_attributes locations_in xs) → All (FitsListed version size) (lists_of_attributes locations_in xs)
attributes-locations version size [] fits short = All-nil (FitsListed version size)
attributes-locations version size (x ∷ xs) fits short =
    let here = locations_in x.value in
    let behind = lists_of_attributes locations_in xs in
    All-append (FitsListed version size) here behind (value-locations version size x.name x.value (All-head (FitsAttribute size) x xs fits).value (All-front (HasShort version) here behind short)) (attributes-locations version size xs (All-tail (FitsAttribute size) x xs fits) (All-back (HasShort version) here behind short))

pub locations-fit : (version size : ℕ) (es : List GivenEntry) → All (FitsEntry size) es → All (HasShort version) (lists_of_entries locations_in es) → All (FitsListed version size) (lists_of_entries locations_in es)
locations-fit version size [] fits short = All-nil (FitsListed version size)
locations-fit version size (e ∷ es) fits short =
    let here = lists_of_attributes locations_in e.attributes in
    let behind = lists_of_entries locations_in es in
    All-append (FitsListed version size) here behind (attributes-locations version size e.attributes (All-head (FitsEntry size) e es fits).attributes (All-front (HasShort version) here behind short)) (locations-fit version size es (All-tail (FitsEntry size) e es fits) (All-back (HasShort version) here behind short))
