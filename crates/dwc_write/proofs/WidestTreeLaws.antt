-- What given units can take at most is what their trees can: `widest-said`.
use Rattle.std.proofs.Common.{◌≡◌, ℕ, suc, ◌≤◌, ◌+◌, ◌*◌, refl, sym, ap, ◌∙◌, arith, List, [], ◌∷◌, map, length, length-append, Option, Some, None, Bool, true, false}
use Rattle.std.specs.Prelude.{nat_lt, sum_by, ◌==◌, if◌then◌else◌}
use Rattle.std.specs.List.{All, filter_map}
use Rattle.std.proofs.lemmas.List.{length-map}
use Rattle.std.proofs.lemmas.List.Elements.{All-head, All-tail}
use Rattle.std.proofs.lemmas.List.Sums.{sum_by-append, sum_by-cons}
use Rattle.dwc_base.specs.declared.section_name.SectionName.{SectionName}
use Rattle.dwc_base.specs.declared.section_name.SectionName.TheVariants.{Abbrev, Addr, Info, Line, LineStr, Loc, Loclists, Ranges, Rnglists, Str, StrOffsets, CuIndex, Frame}
use Rattle.dwc_output.specs.Widest.{variable_bytes, widest_declaration}
use Rattle.dwc_base.specs.declared.records.Address.{Address as RangeAddress}
use Rattle.dwc_dwarf.specs.Trees.{Location, Tree, TreeValue}
use Rattle.dwc_dwarf.specs.TreeLaws.{values_of}
use Rattle.dwc_output.specs.TreeReading.{entry_or_nothing}
use Rattle.dwc_output.specs.NewWidest.{behind_header, list_header_bytes, widest_interval, widest_lists, widest_located, widest_new_locations, widest_new_ranges}
use Rattle.dwc_output.specs.Versions.{is_old}
use Rattle.dwc_output.specs.WidestTrees as trees
use Rattle.dwc_unit.specs.declared.expressions.Expression.{Expression}
use Rattle.dwc_unit.specs.RangeLists.{interval_of}
use Rattle.dwc_unit.specs.Lists.{ListEntry, ended, held_length, lists_of_attributes, location_entry, location_of, locations_in, range_entry, ranges_in}
use Rattle.dwc_unit.specs.declared.attributes.Attribute.{Attribute}
use Rattle.dwc_unit.specs.declared.attributes.AttributeValue.{AttributeValue}
use Rattle.dwc_unit.specs.declared.attributes.AttributeValue.TheVariants.{Address, Constant, Flag, Block, Exprloc, StringRef, LineProgramRef, RangeListRef, LocationListRef, UnitRef, DebugInfoRef}
use Rattle.dwc_unit.specs.declared.attributes.DebugInfoRef.TheVariants.{Entry as entry_of}
use Rattle.dwc_unit.specs.GivenUnits.{GivenEntry, OrderedUnit, first_depth, lists_of_entries, version_of}
use Rattle.dwc_unit.specs.GivenTrees.{given_said, attribute_said, tree_entry, given_tree, given_trees, trees_from}
use Rattle.dwc_unit.specs.SpelledUnits.{header_length}
use Rattle.dwc_unit.specs.WidestGiven.{behind_lists_header, widest_contribution, widest_held, widest_listed, widest_lists_of, widest_value, widest_entry, lists_of, widest_unit, widest_given, widest_new, widest_said}

-- sums over what is the same of each
sums-same : {A B : Type 0} (view : A → B) (f : A → ℕ) (g : B → ℕ) → ((x : A) → f x ≡ g (view x)) → (xs : List A) → sum_by f xs ≡ sum_by g (map view xs)
sums-same view f g each [] = refl
sums-same view f g each (x ∷ xs) = omega (arith, sum_by-cons f x xs, sum_by-cons g (view x) (map view xs), each x, sums-same view f g each xs)

-- a reference is as long whether it says an entry or nothing
reference-said : (p : Option (ℕ × ℕ)) → 4 ≡ trees.widest_value (entry_or_nothing p)
reference-said None = refl
reference-said (Some p) = refl

-- a reference is no list
no-ranges : (p : Option (ℕ × ℕ)) → 0 ≤ trees.widest_ranges (entry_or_nothing p)
no-ranges None = omega arith
no-ranges (Some p) = omega arith

no-locations : (p : Option (ℕ × ℕ)) → 0 ≤ trees.widest_locations (entry_or_nothing p)
no-locations None = omega arith
no-locations (Some p) = omega arith

-- ---- lists

-- a size that may be none
abbrev amount : Option ℕ → ℕ
amount None = 0
amount (Some n) = n

no-new-ranges : (p : Option (ℕ × ℕ)) → 0 ≤ amount (widest_new_ranges (entry_or_nothing p))
no-new-ranges None = omega arith
no-new-ranges (Some p) = omega arith

no-new-locations : (p : Option (ℕ × ℕ)) → 0 ≤ amount (widest_new_locations (entry_or_nothing p))
no-new-locations None = omega arith
no-new-locations (Some p) = omega arith

taken-none : (least : TreeValue → Option ℕ) (x : TreeValue) (xs : List TreeValue) → least x ≡ None → filter_map least (x ∷ xs) ≡ filter_map least xs
taken-none least x xs is = rw (filter_map, is) refl

taken-some : (least : TreeValue → Option ℕ) (x : TreeValue) (xs : List TreeValue) (n : ℕ) → least x ≡ Some n → filter_map least (x ∷ xs) ≡ n ∷ filter_map least xs
taken-some least x xs n is = rw (filter_map, is) refl

amounts : (least : TreeValue → Option ℕ) (xs : List TreeValue) → sum_by (λ x. amount (least x)) xs ≡ sum_by (λ m. m) (filter_map least xs)
amounts least [] = refl
amounts least (x ∷ xs) = go (least x) refl (amounts least xs)
  where
    go : (o : Option ℕ) → least x ≡ o → sum_by (λ y. amount (least y)) xs ≡ sum_by (λ m. m) (filter_map least xs) → sum_by (λ y. amount (least y)) (x ∷ xs) ≡ sum_by (λ m. m) (filter_map least (x ∷ xs))
    go None is rest = omega (arith, sum_by-cons (λ (y : TreeValue). amount (least y)) x xs, ap amount is, rest, ap (sum_by (λ m. m)) (taken-none least x xs is))
    go (Some n) is rest = omega (arith, sum_by-cons (λ (y : TreeValue). amount (least y)) x xs, ap amount is, rest, ap (sum_by (λ m. m)) (taken-some least x xs n is), sum_by-cons (λ (m : ℕ). m) n (filter_map least xs))

-- an entry of a list by its version
abbrev old_listed : ListEntry → ℕ
old_listed e = trees.pair_bytes + held_length 4 e.holds

abbrev new_listed : ListEntry → ℕ
new_listed e = if e.extent == 0 then 1 else widest_interval + widest_held e.holds

listed-old : (version : ℕ) → is_old version ≡ true → widest_listed version ≡ old_listed
listed-old version old = ap (λ b. λ (e : ListEntry). if b then old_listed e else new_listed e) old

listed-new : (version : ℕ) → is_old version ≡ false → widest_listed version ≡ new_listed
listed-new version new = ap (λ b. λ (e : ListEntry). if b then old_listed e else new_listed e) new

new-some : (e : ListEntry) → 1 ≤ new_listed e
new-some e = go (e.extent == 0)
  where
    go : (ends : Bool) → 1 ≤ (if ends then 1 else widest_interval + widest_held e.holds)
    go true = omega arith
    go false = omega arith

new-most : (e : ListEntry) → new_listed e ≤ widest_interval + widest_held e.holds
new-most e = go (e.extent == 0)
  where
    go : (ends : Bool) → (if ends then 1 else widest_interval + widest_held e.holds) ≤ widest_interval + widest_held e.holds
    go true = omega arith
    go false = omega arith

old-header : (version : ℕ) (ls : List ListEntry) (n : ℕ) → is_old version ≡ true → behind_lists_header version ls n ≡ n
old-header version [] n old = refl
old-header version (l ∷ ls) n old = let header : behind_lists_header version (l ∷ ls) n ≡ 0 + n = ap (λ b. (if b then 0 else list_header_bytes) + n) old in omega (arith, header)

new-header : (version : ℕ) (ls : List ListEntry) (n : ℕ) (ns : List ℕ) → is_old version ≡ false → length ls ≤ n → n ≤ sum_by (λ m. m) ns → behind_lists_header version ls n ≤ behind_header ns
new-header version [] n [] new some small = small
new-header version [] n (m ∷ ms) new some small = omega (arith, small)
new-header version (l ∷ ls) n [] new some small = absurd (omega (arith, some, small))
new-header version (l ∷ ls) n (m ∷ ms) new some small = let header : behind_lists_header version (l ∷ ls) n ≡ 12 + n = ap (λ b. (if b then 0 else list_header_bytes) + n) new in omega (arith, header, small)

where-true : (b : Bool) (m n : ℕ) → b ≡ true → (if b then m else n) ≡ m
where-true b m n is = ap (λ c. if c then m else n) is

where-false : (b : Bool) (m n : ℕ) → b ≡ false → (if b then m else n) ≡ n
where-false b m n is = ap (λ c. if c then m else n) is

-- ---- a unit

module _ (texts : List (List ℕ)) (us : List OrderedUnit) (number : ℕ) (u : OrderedUnit) where
  value-said : (v : AttributeValue) → widest_value v ≡ trees.widest_value (given_said texts us number u v)
  value-said (Address a) = refl
  value-said (Constant form bits) = refl
  value-said (Flag b) = refl
  value-said (Block bytes) = refl
  value-said (Exprloc e) = refl
  value-said (StringRef id) = refl
  value-said LineProgramRef = refl
  value-said (RangeListRef list) = refl
  value-said (LocationListRef list) = refl
  value-said (UnitRef id) = reference-said _
  value-said (DebugInfoRef (entry_of unit id)) = reference-said _

  entry-said : (e : GivenEntry) → widest_entry e ≡ trees.widest_entry (tree_entry texts us number u e)
  entry-said e = ap (λ n. variable_bytes + n) (sums-same (attribute_said texts us number u) (λ a. widest_value a.value) (λ a. trees.widest_value a.1) (λ a. value-said a.value) e.attributes)

  declaration-said : (e : GivenEntry) → widest_declaration (length e.attributes) ≡ widest_declaration (length (tree_entry texts us number u e).attributes)
  declaration-said e = ap widest_declaration (sym (length-map e.attributes (attribute_said texts us number u)))

  first-said : (es : List GivenEntry) → first_depth es ≡ trees.first_depth (map (tree_entry texts us number u) es)
  first-said [] = refl
  first-said (e ∷ es) = refl

  lists-said : (es : List GivenEntry) → lists_of es ≡ trees.lists_of_children (map (tree_entry texts us number u) es)
  lists-said [] = refl
  lists-said (e ∷ es) =
      ap (λ n. (if nat_lt e.depth n then 1 else 0) + lists_of es) (first-said es) ∙ ap (λ n. (if nat_lt e.depth (trees.first_depth (map (tree_entry texts us number u) es)) then 1 else 0) + n) (lists-said es)

  -- a header, the entries, and the ends of their lists
  info-said : widest_unit Info u + 11 ≡ header_length u.version + trees.widest_unit (given_tree texts us number u)
  info-said =
      let entries = sums-same (tree_entry texts us number u) widest_entry trees.widest_entry entry-said u.entries in
      let ends = ap (λ n. n * variable_bytes) (lists-said u.entries) in
      omega (arith, entries, ends)

  old-info : is_old u.version ≡ true → widest_unit Info u ≤ trees.widest_unit (given_tree texts us number u)
  old-info old = let header : header_length u.version ≡ 11 = ap (λ b. if b then 11 else 12) old in omega (arith, info-said, header)

  new-info : is_old u.version ≡ false → widest_unit Info u ≤ suc (trees.widest_unit (given_tree texts us number u))
  new-info new = let header : header_length u.version ≡ 12 = ap (λ b. if b then 11 else 12) new in omega (arith, info-said, header)

  abbreviations-said : widest_unit Abbrev u ≤ trees.widest_declarations (given_tree texts us number u)
  abbreviations-said = omega (arith, sums-same (tree_entry texts us number u) (λ e. widest_declaration (length e.attributes)) (λ e. widest_declaration (length e.attributes)) declaration-said u.entries)

  -- a list of ranges or of locations up to version 4, with its end
  ranges-counted : (rs : List (RangeAddress × ℕ)) → sum_by old_listed (ended (map range_entry rs)) ≡ length (map interval_of rs) * trees.pair_bytes + trees.pair_bytes
  ranges-counted [] = refl
  ranges-counted (r ∷ rs) = omega (arith, ranges-counted rs, sum_by-cons old_listed (range_entry r) (ended (map range_entry rs)))

  locations-counted : (ls : List (RangeAddress × ℕ × Expression)) → sum_by old_listed (ended (map location_entry ls)) ≡ sum_by (λ l. trees.pair_bytes + (2 + length l.bytes)) (map location_of ls) + trees.pair_bytes
  locations-counted [] = refl
  locations-counted (l ∷ ls) =
      omega (arith, locations-counted ls, sum_by-cons old_listed (location_entry l) (ended (map location_entry ls)), sum_by-cons (λ (x : Location). trees.pair_bytes + (2 + length x.bytes)) (location_of l) (map location_of ls))

  -- and from version 5 on
  new-ranges-counted : (rs : List (RangeAddress × ℕ)) → sum_by new_listed (ended (map range_entry rs)) ≤ length (map interval_of rs) * widest_interval + 1
  new-ranges-counted [] = omega arith
  new-ranges-counted (r ∷ rs) = omega (arith, new-ranges-counted rs, new-most (range_entry r), sum_by-cons new_listed (range_entry r) (ended (map range_entry rs)))

  new-locations-counted : (ls : List (RangeAddress × ℕ × Expression)) → sum_by new_listed (ended (map location_entry ls)) ≤ sum_by widest_located (map location_of ls) + 1
  new-locations-counted [] = omega arith
  new-locations-counted (l ∷ ls) =
      omega (arith, new-locations-counted ls, new-most (location_entry l), sum_by-cons new_listed (location_entry l) (ended (map location_entry ls)), sum_by-cons widest_located (location_of l) (map location_of ls))

  range-list-said : (v : AttributeValue) → sum_by old_listed (ranges_in v) ≤ trees.widest_ranges (given_said texts us number u v)
  range-list-said (RangeListRef list) = omega (arith, ranges-counted list.ranges.items)
  range-list-said (LocationListRef list) = omega arith
  range-list-said (Address a) = omega arith
  range-list-said (Constant form bits) = omega arith
  range-list-said (Flag b) = omega arith
  range-list-said (Block bytes) = omega arith
  range-list-said (Exprloc e) = omega arith
  range-list-said (StringRef id) = omega arith
  range-list-said LineProgramRef = omega arith
  range-list-said (UnitRef id) = no-ranges _
  range-list-said (DebugInfoRef (entry_of unit id)) = no-ranges _

  location-list-said : (v : AttributeValue) → sum_by old_listed (locations_in v) ≤ trees.widest_locations (given_said texts us number u v)
  location-list-said (LocationListRef list) = omega (arith, locations-counted list.locations.items)
  location-list-said (RangeListRef list) = omega arith
  location-list-said (Address a) = omega arith
  location-list-said (Constant form bits) = omega arith
  location-list-said (Flag b) = omega arith
  location-list-said (Block bytes) = omega arith
  location-list-said (Exprloc e) = omega arith
  location-list-said (StringRef id) = omega arith
  location-list-said LineProgramRef = omega arith
  location-list-said (UnitRef id) = no-locations _
  location-list-said (DebugInfoRef (entry_of unit id)) = no-locations _

  new-ranges-said : (v : AttributeValue) → sum_by new_listed (ranges_in v) ≤ amount (widest_new_ranges (given_said texts us number u v))
  new-ranges-said (RangeListRef list) = new-ranges-counted list.ranges.items
  new-ranges-said (LocationListRef list) = omega arith
  new-ranges-said (Address a) = omega arith
  new-ranges-said (Constant form bits) = omega arith
  new-ranges-said (Flag b) = omega arith
  new-ranges-said (Block bytes) = omega arith
  new-ranges-said (Exprloc e) = omega arith
  new-ranges-said (StringRef id) = omega arith
  new-ranges-said LineProgramRef = omega arith
  new-ranges-said (UnitRef id) = no-new-ranges _
  new-ranges-said (DebugInfoRef (entry_of unit id)) = no-new-ranges _

  new-locations-said : (v : AttributeValue) → sum_by new_listed (locations_in v) ≤ amount (widest_new_locations (given_said texts us number u v))
  new-locations-said (LocationListRef list) = new-locations-counted list.locations.items
  new-locations-said (RangeListRef list) = omega arith
  new-locations-said (Address a) = omega arith
  new-locations-said (Constant form bits) = omega arith
  new-locations-said (Flag b) = omega arith
  new-locations-said (Block bytes) = omega arith
  new-locations-said (Exprloc e) = omega arith
  new-locations-said (StringRef id) = omega arith
  new-locations-said LineProgramRef = omega arith
  new-locations-said (UnitRef id) = no-new-locations _
  new-locations-said (DebugInfoRef (entry_of unit id)) = no-new-locations _

  -- the lists of a kind that is counted over values and over what they say
  module _ (listed : ListEntry → ℕ) (lists : AttributeValue → List ListEntry) (widest : TreeValue → ℕ) (each : (v : AttributeValue) → sum_by listed (lists v) ≤ widest (given_said texts us number u v)) where
    abbrev of_attributes : List Attribute → ℕ
    of_attributes xs = sum_by (λ a. sum_by listed (lists a.value)) xs

    abbrev of_entries : List GivenEntry → ℕ
    of_entries es = sum_by (λ e. of_attributes e.attributes) es

    attributes-lists : (xs : List Attribute) → of_attributes xs ≤ sum_by widest (map (λ a. a.1) (map (attribute_said texts us number u) xs))
    attributes-lists [] = omega arith
    attributes-lists (x ∷ xs) =
        omega (arith, each x.value, attributes-lists xs, sum_by-cons (λ (a : Attribute). sum_by listed (lists a.value)) x xs, sum_by-cons widest (given_said texts us number u x.value) (map (λ a. a.1) (map (attribute_said texts us number u) xs)))

    entries-lists : (es : List GivenEntry) → of_entries es ≤ sum_by widest (values_of (map (tree_entry texts us number u) es))
    entries-lists [] = omega arith
    entries-lists (e ∷ es) =
        omega (
          arith,
          attributes-lists e.attributes,
          entries-lists es,
          sum_by-cons (λ (x : GivenEntry). of_attributes x.attributes) e es,
          sum_by-append widest (map (λ a. a.1) (map (attribute_said texts us number u) e.attributes)) (values_of (map (tree_entry texts us number u) es)),
        )

    -- up to version 4 they stand without a header
    old-contribution : widest_listed u.version ≡ listed → is_old u.version ≡ true → widest_contribution lists u ≤ sum_by widest (values_of (given_tree texts us number u))
    old-contribution same old =
        let sum : sum_by (widest_lists_of u.version lists) u.entries ≡ of_entries u.entries = ap (λ f. sum_by (λ (e : GivenEntry). sum_by (λ (a : Attribute). sum_by f (lists a.value)) e.attributes) u.entries) same in
        omega (arith, old-header u.version (lists_of_entries lists u.entries) (sum_by (widest_lists_of u.version lists) u.entries) old, sum, entries-lists u.entries)

    -- There are no more entries of lists than they have bytes.
    module _ (some : (e : ListEntry) → 1 ≤ listed e) where
      all-some : (es : List ListEntry) → length es ≤ sum_by listed es
      all-some [] = omega arith
      all-some (e ∷ es) = omega (arith, some e, all-some es, sum_by-cons listed e es)

      attributes-some : (xs : List Attribute) → length (lists_of_attributes lists xs) ≤ of_attributes xs
      attributes-some [] = omega arith
      attributes-some (x ∷ xs) =
          omega (arith, all-some (lists x.value), attributes-some xs, sum_by-cons (λ (a : Attribute). sum_by listed (lists a.value)) x xs, length-append (lists x.value) (lists_of_attributes lists xs))

      entries-some : (es : List GivenEntry) → length (lists_of_entries lists es) ≤ of_entries es
      entries-some [] = omega arith
      entries-some (e ∷ es) =
          omega (arith, attributes-some e.attributes, entries-some es, sum_by-cons (λ (x : GivenEntry). of_attributes x.attributes) e es, length-append (lists_of_attributes lists e.attributes) (lists_of_entries lists es))

      new-contribution : (least : TreeValue → Option ℕ) → widest ≡ (λ x. amount (least x)) → widest_listed u.version ≡ listed → is_old u.version ≡ false → widest_contribution lists u ≤ widest_lists least (given_tree texts us number u)
      new-contribution least is same new =
          let ls = lists_of_entries lists u.entries in
          let values = values_of (given_tree texts us number u) in
          let sum : sum_by (widest_lists_of u.version lists) u.entries ≡ of_entries u.entries = ap (λ f. sum_by (λ (e : GivenEntry). sum_by (λ (a : Attribute). sum_by f (lists a.value)) e.attributes) u.entries) same in
          let whole : sum_by widest values ≡ sum_by (λ x. amount (least x)) values = ap (λ f. sum_by f values) is in
          new-header u.version ls (sum_by (widest_lists_of u.version lists) u.entries) (filter_map least values) new (omega (arith, sum, entries-some u.entries)) (omega (arith, sum, whole, entries-lists u.entries, amounts least values))

  old-ranges : is_old u.version ≡ true → widest_unit Ranges u ≤ sum_by trees.widest_ranges (values_of (given_tree texts us number u))
  old-ranges old = omega (arith, where-true (is_old u.version) (widest_contribution ranges_in u) 0 old, old-contribution old_listed ranges_in trees.widest_ranges range-list-said (listed-old u.version old) old)

  old-locations : is_old u.version ≡ true → widest_unit Loc u ≤ sum_by trees.widest_locations (values_of (given_tree texts us number u))
  old-locations old = omega (arith, where-true (is_old u.version) (widest_contribution locations_in u) 0 old, old-contribution old_listed locations_in trees.widest_locations location-list-said (listed-old u.version old) old)

  new-ranges : is_old u.version ≡ false → widest_unit Rnglists u ≤ widest_lists widest_new_ranges (given_tree texts us number u)
  new-ranges new =
      omega (arith, where-false (is_old u.version) 0 (widest_contribution ranges_in u) new, new-contribution new_listed ranges_in (λ x. amount (widest_new_ranges x)) new-ranges-said new-some widest_new_ranges refl (listed-new u.version new) new)

  new-locations : is_old u.version ≡ false → widest_unit Loclists u ≤ widest_lists widest_new_locations (given_tree texts us number u)
  new-locations new =
      omega (arith, where-false (is_old u.version) 0 (widest_contribution locations_in u) new, new-contribution new_listed locations_in (λ x. amount (widest_new_locations x)) new-locations-said new-some widest_new_locations refl (listed-new u.version new) new)

-- ---- all units

abbrev IsOf : ℕ → OrderedUnit → Type 0
IsOf version u = u.version ≡ version

trees-said : (texts : List (List ℕ)) (f : OrderedUnit → ℕ) (g : Tree → ℕ) (version : ℕ) (old : Bool) → is_old version ≡ old → (all : List OrderedUnit) → ((number : ℕ) (u : OrderedUnit) → is_old u.version ≡ old → f u ≤ g (given_tree texts all number u))
    → (number : ℕ) (us : List OrderedUnit) → All (IsOf version) us → sum_by f us ≤ sum_by g (trees_from texts all number us)
trees-said texts f g version old is all each number [] same = omega arith
trees-said texts f g version old is all each number (u ∷ us) same =
    let here = each number u (ap is_old (All-head (IsOf version) u us same) ∙ is) in
    omega (arith, here, sum_by-cons f u us, sum_by-cons g (given_tree texts all number u) (trees_from texts all (suc number) us), trees-said texts f g version old is all each (suc number) us (All-tail (IsOf version) u us same))

each-more : (f : Tree → ℕ) (ts : List Tree) → sum_by (λ t. suc (f t)) ts ≡ sum_by f ts + length ts
each-more f [] = refl
each-more f (t ∷ ts) = omega (arith, each-more f ts, sum_by-cons (λ (x : Tree). suc (f x)) t ts, sum_by-cons f t ts)

nothing-given : (name : SectionName) (us : List OrderedUnit) → ((u : OrderedUnit) → widest_unit name u ≡ 0) → widest_given name us ≡ 0
nothing-given name [] none = refl
nothing-given name (u ∷ us) none = omega (arith, sum_by-cons (widest_unit name) u us, none u, nothing-given name us none)

nothing-of : (f : OrderedUnit → ℕ) (version : ℕ) (us : List OrderedUnit) → ((u : OrderedUnit) → u.version ≡ version → f u ≤ 0) → All (IsOf version) us → sum_by f us ≡ 0
nothing-of f version [] none same = refl
nothing-of f version (u ∷ us) none same =
    let here = none u (All-head (IsOf version) u us same) in
    omega (arith, sum_by-cons f u us, here, nothing-of f version us none (All-tail (IsOf version) u us same))

-- What is counted over units is no more than what is counted over what they say; texts are counted there alone.
pub widest-said : (name : SectionName) (texts : List (List ℕ)) (us : List OrderedUnit) → All (λ u. u.version ≡ version_of us) us → widest_given name us ≤ widest_said name texts us
widest-said Info texts us same = go (is_old (version_of us)) refl
  where
    go : (old : Bool) → is_old (version_of us) ≡ old → widest_given Info us ≤ (if old then trees.widest_of_trees Info (given_trees texts us) else widest_new Info (given_trees texts us))
    go true old = trees-said texts (widest_unit Info) trees.widest_unit (version_of us) true old us (old-info texts us) 0 us same
    go false new =
        omega (arith, trees-said texts (widest_unit Info) (λ t. suc (trees.widest_unit t)) (version_of us) false new us (new-info texts us) 0 us same, each-more trees.widest_unit (given_trees texts us))
widest-said Abbrev texts us same = go (is_old (version_of us)) refl
  where
    go : (old : Bool) → is_old (version_of us) ≡ old → widest_given Abbrev us ≤ (if old then trees.widest_of_trees Abbrev (given_trees texts us) else widest_new Abbrev (given_trees texts us))
    go true old = trees-said texts (widest_unit Abbrev) trees.widest_declarations (version_of us) true old us (λ number u is. abbreviations-said texts us number u) 0 us same
    go false new = trees-said texts (widest_unit Abbrev) trees.widest_declarations (version_of us) false new us (λ number u is. abbreviations-said texts us number u) 0 us same
widest-said Line texts us same = omega arith
widest-said LineStr texts us same = omega (arith, nothing-given LineStr us (λ u. refl))
widest-said Ranges texts us same = go (is_old (version_of us)) refl
  where
    go : (old : Bool) → is_old (version_of us) ≡ old → widest_given Ranges us ≤ (if old then trees.widest_of_trees Ranges (given_trees texts us) else widest_new Ranges (given_trees texts us))
    go true old = trees-said texts (widest_unit Ranges) (λ t. sum_by trees.widest_ranges (values_of t)) (version_of us) true old us (old-ranges texts us) 0 us same
    go false new = omega (arith, nothing-of (widest_unit Ranges) (version_of us) us (λ u is. omega (arith, where-false (is_old u.version) (widest_contribution ranges_in u) 0 (ap is_old is ∙ new))) same)
widest-said Loc texts us same = go (is_old (version_of us)) refl
  where
    go : (old : Bool) → is_old (version_of us) ≡ old → widest_given Loc us ≤ (if old then trees.widest_of_trees Loc (given_trees texts us) else widest_new Loc (given_trees texts us))
    go true old = trees-said texts (widest_unit Loc) (λ t. sum_by trees.widest_locations (values_of t)) (version_of us) true old us (old-locations texts us) 0 us same
    go false new = omega (arith, nothing-of (widest_unit Loc) (version_of us) us (λ u is. omega (arith, where-false (is_old u.version) (widest_contribution locations_in u) 0 (ap is_old is ∙ new))) same)
widest-said Rnglists texts us same = go (is_old (version_of us)) refl
  where
    go : (old : Bool) → is_old (version_of us) ≡ old → widest_given Rnglists us ≤ (if old then trees.widest_of_trees Rnglists (given_trees texts us) else widest_new Rnglists (given_trees texts us))
    go true old = omega (arith, nothing-of (widest_unit Rnglists) (version_of us) us (λ u is. omega (arith, where-true (is_old u.version) 0 (widest_contribution ranges_in u) (ap is_old is ∙ old))) same)
    go false new = trees-said texts (widest_unit Rnglists) (widest_lists widest_new_ranges) (version_of us) false new us (new-ranges texts us) 0 us same
widest-said Loclists texts us same = go (is_old (version_of us)) refl
  where
    go : (old : Bool) → is_old (version_of us) ≡ old → widest_given Loclists us ≤ (if old then trees.widest_of_trees Loclists (given_trees texts us) else widest_new Loclists (given_trees texts us))
    go true old = omega (arith, nothing-of (widest_unit Loclists) (version_of us) us (λ u is. omega (arith, where-true (is_old u.version) 0 (widest_contribution locations_in u) (ap is_old is ∙ old))) same)
    go false new = trees-said texts (widest_unit Loclists) (widest_lists widest_new_locations) (version_of us) false new us (new-locations texts us) 0 us same
widest-said Addr texts us same = omega (arith, nothing-given Addr us (λ u. refl))
widest-said Str texts us same = omega (arith, nothing-given Str us (λ u. refl))
widest-said StrOffsets texts us same = omega (arith, nothing-given StrOffsets us (λ u. refl))
widest-said CuIndex texts us same = omega (arith, nothing-given CuIndex us (λ u. refl))
widest-said Frame texts us same = omega (arith, nothing-given Frame us (λ u. refl))
