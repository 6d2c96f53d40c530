-- What is found of the lengths of expressions in the order of addition holds in file order (`order-short`), is what the units' trees say
-- (`said-short`), and means that their lists are short (`short-trees`). From version 5 on all lists are.
use Rattle.std.proofs.Common.{◌≡◌, ℕ, suc, ◌<◌, refl, sym, ap, subst, ◌∙◌, arith, List, [], ◌∷◌, ◌++◌, length, map, Option, Some, None, Bool, true, false, eqb, ltb}
use Rattle.std.specs.Prelude.{if◌then◌else◌, ◌&&◌, ◌^◌, ◌↔◌, nat_lt}
use Rattle.std.specs.List.{All, list_all}
use Rattle.std.specs.Cmp.Derive.{both_true}
use Rattle.std.proofs.lemmas.Bool.{and_parts, eq-eqb, ltb-false, ltb-true}
use Rattle.std.proofs.lemmas.List.Elements.{All-append, All-cons, All-head, All-nil, All-tail, All-weaker}
use Rattle.std.proofs.lemmas.List.Folds.{list_all-append, list_all-map}
use Rattle.dwc_dwarf.specs.Trees.{TreeValue}
use Rattle.dwc_dwarf.specs.TreeLaws.{has_short_expressions, have_short_expressions, values_of}
use Rattle.dwc_output.specs.TreeReading.{entry_or_nothing}
use Rattle.dwc_output.specs.Versions.{are_short_in, is_old}
use Rattle.dwc_base.specs.declared.records.Address.{Address as RangeAddress}
use Rattle.dwc_unit.specs.declared.attributes.Attribute.{Attribute}
use Rattle.dwc_unit.specs.declared.attributes.AttributeValue.{AttributeValue}
use Rattle.dwc_unit.specs.declared.attributes.AttributeValue.TheVariants.{Address, Constant, Flag, Block, Exprloc, StringRef, LineProgramRef, RangeListRef, LocationListRef, UnitRef, DebugInfoRef}
use Rattle.dwc_unit.specs.declared.attributes.DebugInfoRef.TheVariants.{Entry as entry_of}
use Rattle.dwc_unit.specs.declared.expressions.Expression.{Expression}
use Rattle.dwc_unit.specs.GivenTrees.{given_said, attribute_said, tree_entry, given_tree, trees_from, given_trees}
use Rattle.dwc_unit.specs.GivenUnits.{Addition, GivenEntry, GivenUnit, OrderedUnit, AreBehindParents, AreShortUnits, AreWritable, FitsGivenUnit, HaveShortLists, IsRooted, IsWritable, size_of, version_of, below, entry_at, in_file_order, lists_of_entries, ordered}
use Rattle.dwc_unit.specs.Lists.{FitsCount, ListEntry, ended, list_end, lists_of_attributes, location_entry, location_of, locations_in}
use Rattle.dwc_write.specs.ShortLists.{are_short_units, are_short_values, is_short_location, is_short_unit, is_short_value}
use Rattle.dwc_write.proofs.ListsFit.{HasShort, new-short}

-- ---- file order: what passes of all additions passes of all entries, and the other way round

both-ways : (a b : Bool) → (a ≡ true → b ≡ true) → (b ≡ true → a ≡ true) → a ≡ b
both-ways true true f g = refl
both-ways true false f g = let e = f refl in absurd (cc)
both-ways false true f g = let e = g refl in absurd (cc)
both-ways false false f g = refl

module _ (test : List Attribute → Bool) where
  abbrev of_additions : List Addition → Bool
  of_additions es = list_all (λ (e : Addition). test e.attributes) es

  abbrev of_entries : List GivenEntry → Bool
  of_entries gs = list_all (λ (g : GivenEntry). test g.attributes) gs

  entries-both : (xs ys : List GivenEntry) → of_entries xs ≡ true → of_entries ys ≡ true → of_entries (xs ++ ys) ≡ true
  entries-both xs ys first second = list_all-append (λ (g : GivenEntry). test g.attributes) xs ys ∙ both_true first second

  entries-parts : (xs ys : List GivenEntry) → of_entries (xs ++ ys) ≡ true → (of_entries xs ≡ true) × (of_entries ys ≡ true)
  entries-parts xs ys all = and_parts _ _ (sym (list_all-append (λ (g : GivenEntry). test g.attributes) xs ys) ∙ all)

  below-passes : (depth parent place : ℕ) (es : List Addition) → of_additions es ≡ true → of_entries (below depth parent place es) ≡ true
  below-passes depth parent place [] all = refl
  below-passes depth parent place (e ∷ es) all =
      let parts = and_parts (test e.attributes) (of_additions es) all in
      go (eqb e.parent parent) parts.0 (below-passes (suc depth) place (suc place) es parts.1) (below-passes depth parent (suc place) es parts.1)
    where
      go : (b : Bool) → test e.attributes ≡ true → of_entries (below (suc depth) place (suc place) es) ≡ true → of_entries (below depth parent (suc place) es) ≡ true
          → of_entries (if b then entry_at depth place e ∷ (below (suc depth) place (suc place) es ++ below depth parent (suc place) es) else below depth parent (suc place) es) ≡ true
      go true here inner behind = both_true here (entries-both (below (suc depth) place (suc place) es) (below depth parent (suc place) es) inner behind)
      go false here inner behind = behind

  -- what is below a place passes, at some depth
  record IsPassed (parent place : ℕ) (es : List Addition) : Type 0 where
    depth : ℕ
    passes : of_entries (below depth parent place es) ≡ true

  -- an entry below its parent
  record HasPassed (depth parent place : ℕ) (e : Addition) (es : List Addition) : Type 0 where
    here : test e.attributes ≡ true
    inner : of_entries (below (suc depth) place (suc place) es) ≡ true

  its-parent : (depth place : ℕ) (e : Addition) (es : List Addition) → of_entries (below depth e.parent place (e ∷ es)) ≡ true → HasPassed depth e.parent place e es
  its-parent depth place e es all = go (eqb e.parent e.parent) (eq-eqb e.parent e.parent refl) all
    where
      go : (b : Bool) → b ≡ true → of_entries (if b then entry_at depth place e ∷ (below (suc depth) place (suc place) es ++ below depth e.parent (suc place) es) else below depth e.parent (suc place) es) ≡ true → HasPassed depth e.parent place e es
      go true same all =
          let parts = and_parts (test e.attributes) (of_entries (below (suc depth) place (suc place) es ++ below depth e.parent (suc place) es)) all in
          record { here = parts.0; inner = (entries-parts (below (suc depth) place (suc place) es) (below depth e.parent (suc place) es) parts.1).0 }
      go false same all = absurd (cc)

  -- what is below a place passes behind an entry, too
  passes-behind : (depth parent place : ℕ) (e : Addition) (es : List Addition) → of_entries (below depth parent place (e ∷ es)) ≡ true → of_entries (below depth parent (suc place) es) ≡ true
  passes-behind depth parent place e es all = go (eqb e.parent parent) all
    where
      go : (b : Bool) → of_entries (if b then entry_at depth place e ∷ (below (suc depth) place (suc place) es ++ below depth parent (suc place) es) else below depth parent (suc place) es) ≡ true → of_entries (below depth parent (suc place) es) ≡ true
      go true all =
          let parts = and_parts (test e.attributes) (of_entries (below (suc depth) place (suc place) es ++ below depth parent (suc place) es)) all in
          (entries-parts (below (suc depth) place (suc place) es) (below depth parent (suc place) es) parts.1).1
      go false all = all

  -- Each addition is below a place in front of it.
  all-reached : (place : ℕ) (es : List Addition) → AreBehindParents place es → ((parent : ℕ) → parent < place → IsPassed parent place es) → of_additions es ≡ true
  all-reached place [] rooted passed = refl
  all-reached place (e ∷ es) rooted passed =
      let own = passed e.parent rooted.0 in
      let has = its-parent own.depth place e es own.passes in
      both_true has.here (all-reached (suc place) es rooted.1 (λ parent less. go parent less (ltb parent place) refl own has))
    where
      go : (parent : ℕ) → parent < suc place → (b : Bool) → ltb parent place ≡ b → (own : IsPassed e.parent place (e ∷ es)) → HasPassed own.depth e.parent place e es → IsPassed parent (suc place) es
      go parent less true before own has = let other = passed parent (ltb-true _ _ before) in record { depth = other.depth; passes = passes-behind other.depth parent place e es other.passes }
      go parent less false not own has =
          let past = ltb-false _ _ not in
          let same : place ≡ parent = omega (arith, less, past) in
          record { depth = suc own.depth; passes = subst (λ p. of_entries (below (suc own.depth) p (suc place) es) ≡ true) same has.inner }

  pub order-passes : (es : List Addition) → IsRooted es → of_additions es ≡ of_entries (in_file_order es)
  order-passes [] rooted = refl
  order-passes (root ∷ es) rooted =
      both-ways _ _ (λ all. let parts = and_parts (test root.attributes) (of_additions es) all in both_true parts.0 (below-passes 1 0 1 es parts.1))
      (λ all. let parts = and_parts (test root.attributes) (of_entries (below 1 0 1 es)) all in both_true parts.0 (all-reached 1 es rooted (λ parent less. only parent less parts.1)))
    where
      only : (parent : ℕ) → parent < 1 → of_entries (below 1 0 1 es) ≡ true → IsPassed parent 1 es
      only parent less passes = let same : 0 ≡ parent = omega (arith, less) in record { depth = 1; passes = subst (λ p. of_entries (below 1 p 1 es) ≡ true) same passes }

-- the expressions of a unit
pub order-short : (u : GivenUnit) → FitsGivenUnit u → list_all (λ e. are_short_values e.attributes) u.additions ≡ is_short_unit (ordered u)
order-short u fits = order-passes are_short_values u.additions fits.rooted

-- ---- what the trees say

module _ (texts : List (List ℕ)) (all : List OrderedUnit) (number : ℕ) (u : OrderedUnit) where
  no-expressions : (p : Option (ℕ × ℕ)) → true ≡ has_short_expressions (entry_or_nothing p)
  no-expressions None = refl
  no-expressions (Some p) = refl

  value-short : (v : AttributeValue) → is_short_value v ≡ has_short_expressions (given_said texts all number u v)
  value-short (LocationListRef list) = sym (list_all-map (λ l. nat_lt (length l.bytes) (2 ^ 16)) location_of list.locations.items)
  value-short (RangeListRef list) = refl
  value-short (Address a) = refl
  value-short (Constant form bits) = refl
  value-short (Flag b) = refl
  value-short (Block bytes) = refl
  value-short (Exprloc e) = refl
  value-short (StringRef id) = refl
  value-short LineProgramRef = refl
  value-short (UnitRef id) = no-expressions _
  value-short (DebugInfoRef (entry_of unit id)) = no-expressions _

  attributes-short : (xs : List Attribute) → are_short_values xs ≡ list_all has_short_expressions (map (λ a. a.1) (map (attribute_said texts all number u) xs))
  attributes-short [] = refl
  attributes-short (x ∷ xs) = ap (λ b. b && are_short_values xs) (value-short x.value) ∙ ap (λ b. has_short_expressions (given_said texts all number u x.value) && b) (attributes-short xs)

  entries-short : (gs : List GivenEntry) → list_all (λ g. are_short_values g.attributes) gs ≡ list_all has_short_expressions (values_of (map (tree_entry texts all number u) gs))
  entries-short [] = refl
  entries-short (g ∷ gs) =
      let own = map (λ (a : ℕ × TreeValue). a.1) (map (attribute_said texts all number u) g.attributes) in
      let rest = values_of (map (tree_entry texts all number u) gs) in
      ap (λ b. b && list_all (λ (x : GivenEntry). are_short_values x.attributes) gs) (attributes-short g.attributes) ∙ ap (λ b. list_all has_short_expressions own && b) (entries-short gs) ∙ sym (list_all-append has_short_expressions own rest)

units-short : (texts : List (List ℕ)) (all : List OrderedUnit) (number : ℕ) (us : List OrderedUnit) → list_all is_short_unit us ≡ have_short_expressions (trees_from texts all number us)
units-short texts all number [] = refl
units-short texts all number (u ∷ us) =
    ap (λ b. b && list_all is_short_unit us) (entries-short texts all number u u.entries) ∙ ap (λ b. list_all has_short_expressions (values_of (given_tree texts all number u)) && b) (units-short texts all (suc number) us)

-- Given units are short exactly where their trees have short expressions.
said-short : (texts : List (List ℕ)) (us : List OrderedUnit) → list_all is_short_unit us ≡ have_short_expressions (given_trees texts us)
said-short texts us = units-short texts us 0 us

-- A refusal for an expression: a unit is not short, up to version 4.
pub not-short : (texts : List (List ℕ)) (us : List OrderedUnit) → (are_short_in (version_of us) (given_trees texts us) ≡ false) ↔ ((is_old (version_of us) ≡ true) × (list_all is_short_unit us ≡ false))
not-short texts us = go (is_old (version_of us)) refl
  where
    go : (old : Bool) → is_old (version_of us) ≡ old → ((if old then have_short_expressions (given_trees texts us) else true) ≡ false) ↔ ((is_old (version_of us) ≡ true) × (list_all is_short_unit us ≡ false))
    go true old = (λ long. (old, said-short texts us ∙ long), λ both. sym (said-short texts us) ∙ both.1)
    go false new = (λ wrong. absurd (cc), λ both. let wrong : false ≡ true = sym new ∙ both.0 in absurd (cc))

old-short-in : (texts : List (List ℕ)) (us : List OrderedUnit) → is_old (version_of us) ≡ true → are_short_in (version_of us) (given_trees texts us) ≡ have_short_expressions (given_trees texts us)
old-short-in texts us old = ap (λ b. if b then have_short_expressions (given_trees texts us) else true) old

-- ---- lists of such units

short-count : (old : Bool) (bytes : List ℕ) → length bytes < 2 ^ 16 → FitsCount old bytes
short-count true bytes short = short
short-count false bytes short = tt

module _ (version : ℕ) where
  abbrev IsFew : ListEntry → Type 0
  IsFew e = HasShort version e

  locations-short : (ls : List (RangeAddress × ℕ × Expression)) → list_all is_short_location ls ≡ true → All IsFew (ended (map location_entry ls))
  locations-short [] short = All-cons IsFew list_end [] tt (All-nil IsFew)
  locations-short (l ∷ ls) short =
      let parts = and_parts (is_short_location l) (list_all is_short_location ls) short in
      All-cons IsFew (location_entry l) (ended (map location_entry ls)) (short-count (is_old version) l.2 (ltb-true _ _ parts.0)) (locations-short ls parts.1)

  value-lists : (v : AttributeValue) → is_short_value v ≡ true → All IsFew (locations_in v)
  value-lists (LocationListRef list) short = locations-short list.locations.items short
  value-lists (RangeListRef list) short = All-nil IsFew
  value-lists (Address a) short = All-nil IsFew
  value-lists (Constant form bits) short = All-nil IsFew
  value-lists (Flag b) short = All-nil IsFew
  value-lists (Block bytes) short = All-nil IsFew
  value-lists (Exprloc e) short = All-nil IsFew
  value-lists (StringRef id) short = All-nil IsFew
  value-lists LineProgramRef short = All-nil IsFew
  value-lists (UnitRef id) short = All-nil IsFew
  value-lists (DebugInfoRef reference) short = All-nil IsFew

  attributes-lists : (xs : List Attribute) → are_short_values xs ≡ true → All IsFew (lists_of_attributes locations_in xs)
  attributes-lists [] short = All-nil IsFew
  attributes-lists (x ∷ xs) short =
      let parts = and_parts (is_short_value x.value) (are_short_values xs) short in
      All-append IsFew (locations_in x.value) (lists_of_attributes locations_in xs) (value-lists x.value parts.0) (attributes-lists xs parts.1)

  entries-lists : (gs : List GivenEntry) → list_all (λ g. are_short_values g.attributes) gs ≡ true → HaveShortLists version gs
  entries-lists [] short = All-nil IsFew
  entries-lists (g ∷ gs) short =
      let parts = and_parts (are_short_values g.attributes) (list_all (λ (x : GivenEntry). are_short_values x.attributes) gs) short in
      All-append IsFew (lists_of_attributes locations_in g.attributes) (lists_of_entries locations_in gs) (attributes-lists g.attributes parts.0) (entries-lists gs parts.1)

short-units : (us : List OrderedUnit) → list_all is_short_unit us ≡ true → AreShortUnits us
short-units [] short = All-nil (λ u. HaveShortLists u.version u.entries)
short-units (u ∷ us) short =
    let parts = and_parts (is_short_unit u) (list_all is_short_unit us) short in
    All-cons (λ (v : OrderedUnit). HaveShortLists v.version v.entries) u us (entries-lists u.version u.entries parts.0) (short-units us parts.1)

-- from version 5 on all are
pub new-units : (version : ℕ) (us : List OrderedUnit) → is_old version ≡ false → All (λ u. u.version ≡ version) us → AreShortUnits us
new-units version [] new same = All-nil (λ u. HaveShortLists u.version u.entries)
new-units version (u ∷ us) new same =
    let own = ap is_old (All-head (λ (v : OrderedUnit). v.version ≡ version) u us same) ∙ new in
    All-cons (λ (v : OrderedUnit). HaveShortLists v.version v.entries) u us (new-short u.version (lists_of_entries locations_in u.entries) own) (new-units version us new (All-tail (λ (v : OrderedUnit). v.version ≡ version) u us same))

-- the same of what a test of the given units answers
pub tested : (texts : List (List ℕ)) (version : ℕ) (seen us : List GivenUnit) (short : Bool) → version ≡ version_of (map ordered us) → seen ≡ us → short ≡ are_short_units version seen → short ≡ are_short_in (version_of (map ordered us)) (given_trees texts (map ordered us))
tested texts version seen us short same are is =
    let said : list_all (λ u. is_short_unit (ordered u)) us ≡ have_short_expressions (given_trees texts (map ordered us)) = sym (list_all-map is_short_unit ordered us) ∙ said-short texts (map ordered us) in
    is ∙ ap (λ n. are_short_units n seen) same ∙ ap (are_short_units (version_of (map ordered us))) are ∙ ap (λ b. if is_old (version_of (map ordered us)) then b else true) said

-- Units of one version that are not refused for an expression are short.
pub short-trees : (texts : List (List ℕ)) (us : List OrderedUnit) → All (λ u. u.version ≡ version_of us) us → are_short_in (version_of us) (given_trees texts us) ≡ true → AreShortUnits us
short-trees texts us same short = go (is_old (version_of us)) refl
  where
    go : (old : Bool) → is_old (version_of us) ≡ old → AreShortUnits us
    go true old = short-units us (said-short texts us ∙ sym (old-short-in texts us old) ∙ short)
    go false new = new-units (version_of us) us new same

-- those that can be written
pub short-writable : (texts : List (List ℕ)) (us : List OrderedUnit) → AreWritable us → are_short_in (version_of us) (given_trees texts us) ≡ true → AreShortUnits us
short-writable texts us writable short = short-trees texts us (All-weaker (IsWritable (version_of us) (size_of us)) (λ u. u.version ≡ version_of us) (λ u h. h.version) us writable) short
