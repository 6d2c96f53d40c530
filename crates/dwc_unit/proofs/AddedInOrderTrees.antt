-- Units whose entries were added in file order say what is meant: by numbers that are put to places (`trees-renumbered`), and where
-- numbers are places, as it is meant (`trees-in-order`).
use Rattle.std.proofs.Common.{◌≡◌, ℕ, zero, suc, ◌+◌, ◌<◌, refl, sym, ap, ◌∙◌, arith, List, [], ◌∷◌, length, map, Bool, true, false, cond, ltb, Option, Some, None}
use Rattle.std.specs.Prelude.{◌==◌, nat_lt, position, slice_get, option_map, option_and_then}
use Rattle.std.specs.List.{All, AllZip, position_or_len}
use Rattle.std.proofs.lemmas.Bool.{eq-eqb, le-ltb, lt-ltb, ltb-false, ltb-true, ne_eqb}
use Rattle.std.proofs.lemmas.List.Elements.{All-head, All-tail, All-weaker}
use Rattle.dwc_dwarf.specs.Trees.{TreeValue, TreeEntry}
use Rattle.dwc_dwarf.specs.TreeLaws.{HasAllTargets, size_of_unit}
use Rattle.dwc_output.specs.TreeReading.{entry_or_nothing}
use Rattle.dwc_unit.specs.declared.attributes.Attribute.{Attribute}
use Rattle.dwc_unit.specs.declared.attributes.AttributeValue.{AttributeValue}
use Rattle.dwc_unit.specs.declared.attributes.AttributeValue.TheVariants.{Address, Constant, Flag, Block, Exprloc, StringRef, LineProgramRef, RangeListRef, LocationListRef, UnitRef, DebugInfoRef}
use Rattle.dwc_unit.specs.declared.attributes.DebugInfoRef.TheVariants.{Entry}
use Rattle.dwc_unit.specs.GivenUnits.{Addition, FitsGivenUnit, GivenUnit, entry_at, ordered, place_of}
use Rattle.dwc_unit.specs.GivenTrees.{attribute_said, given_said, given_tree, given_trees, place_in_order, tree_entry, trees_from}
use Rattle.dwc_unit.specs.AddedInOrder.{IsInOrder, IsNumberedByPlaces, attribute_meant, entries_with, entry_meant, tree_meant, trees_meant, value_meant}
use Rattle.dwc_unit.specs.Renumbered.{LeadsToEntries, place_at, renumbered, renumbered_attribute, renumbered_entry, renumbered_trees}
use Rattle.dwc_unit.proofs.UnitLaws.{place-below}
use Rattle.dwc_unit.proofs.AddedInOrder.{in-order-listed}
use Rattle.dwc_unit.proofs.AddedInOrderUnits.{numbered-leads, numbered-place}
use Rattle.dwc_unit.proofs.RenumberedLaws.{renumbered-same}

-- ---- the entry at a place

position-yes : {A : Type 0} (test : A → Bool) (x : A) (xs : List A) → test x ≡ true → position test (x ∷ xs) ≡ Some 0
position-yes test x xs e = go (position_or_len test (x ∷ xs)) (rw (e) refl)
  where
    go : (k : ℕ) → k ≡ 0 → cond (ltb k (suc (length xs))) (Some k) None ≡ Some 0
    go k first = rw (first, lt-ltb 0 (suc (length xs)) (omega arith)) refl

position-no : {A : Type 0} (test : A → Bool) (x : A) (xs : List A) → test x ≡ false → position test (x ∷ xs) ≡ option_map suc (position test xs)
position-no test x xs e = go (position_or_len test xs) (position_or_len test (x ∷ xs)) (rw (e) (omega arith))
  where
    go : (k m : ℕ) → m ≡ suc k → cond (ltb m (suc (length xs))) (Some m) None ≡ option_map suc (cond (ltb k (length xs)) (Some k) None)
    go k m next = choose (ltb k (length xs)) refl
      where
        choose : (b : Bool) → ltb k (length xs) ≡ b → cond (ltb m (suc (length xs))) (Some m) None ≡ option_map suc (cond b (Some k) None)
        choose true less = let within = ltb-true _ _ less in rw (next, lt-ltb (suc k) (suc (length xs)) (omega (arith, within))) refl
        choose false past = let behind = ltb-false _ _ past in rw (next, le-ltb (suc k) (suc (length xs)) (omega (arith, behind))) refl

entry-found : (place id n : ℕ) (ds : List ℕ) (es : List Addition) → n ≡ place + id → id < length es → length ds ≡ length es → position (λ e. e.place == n) (entries_with place ds es) ≡ Some id
entry-found place id n [] [] is within same = absurd (omega (arith, within))
entry-found place id n [] (e ∷ es) is within same = absurd (omega (arith, same))
entry-found place id n (d ∷ ds) [] is within same = absurd (omega (arith, within))
entry-found place zero n (d ∷ ds) (e ∷ es) is within same = position-yes (λ x. x.place == n) (entry_at d place e) (entries_with (suc place) ds es) (eq-eqb place n (omega (arith, is)))
entry-found place (suc id) n (d ∷ ds) (e ∷ es) is within same =
    position-no (λ x. x.place == n) (entry_at d place e) (entries_with (suc place) ds es) (ne_eqb _ _ (λ h. absurd (omega (arith, is, h))))
    ∙ ap (option_map suc) (entry-found (suc place) id n ds es (omega (arith, is)) (omega (arith, within)) (omega (arith, same)))

pub tree-length : (texts : List (List ℕ)) (number : ℕ) (ds : List ℕ) (es : List Addition) → length ds ≡ length es → length (tree_meant texts number ds es) ≡ length es
tree-length texts number [] [] same = refl
tree-length texts number [] (e ∷ es) same = absurd (omega (arith, same))
tree-length texts number (d ∷ ds) [] same = absurd (omega (arith, same))
tree-length texts number (d ∷ ds) (e ∷ es) same = ap suc (tree-length texts number ds es (omega (arith, same)))

-- The entry of a number stands at its place of its unit.
place-same : (ds : List ℕ) (u : GivenUnit) (id : ℕ) → IsInOrder ds u → LeadsToEntries u → place_in_order (ordered u) id ≡ place_of id u.places
place-same ds u id order leads = go (place_of id u.places) refl
  where
    go : (p : Option ℕ) → place_of id u.places ≡ p → option_and_then (λ place. position (λ e. e.place == place) (ordered u).entries) p ≡ p
    go None is = refl
    go (Some place) is =
        ap (position (λ e. e.place == place)) (in-order-listed ds u.additions order)
        ∙ entry-found 0 place place ds u.additions (omega arith) (place-below (length u.additions) id place u.places leads is) order.counted

-- The same among units.
place-among : (dss : List (List ℕ)) (us : List GivenUnit) (unit id : ℕ) → AllZip IsInOrder dss us → All LeadsToEntries us
    → option_and_then (λ u. place_in_order u id) (slice_get (map ordered us) unit) ≡ option_and_then (λ u. place_of id u.places) (slice_get us unit)
place-among [] [] unit id orders leads = refl
place-among [] (u ∷ us) unit id orders leads = absurd orders
place-among (ds ∷ dss) [] unit id orders leads = absurd orders
place-among (ds ∷ dss) (u ∷ us) zero id orders leads = place-same ds u id orders.0 (All-head LeadsToEntries u us leads)
place-among (ds ∷ dss) (u ∷ us) (suc unit) id orders leads = place-among dss us unit id orders.1 (All-tail LeadsToEntries u us leads)

-- ---- values, entries and units

module _ (texts : List (List ℕ)) (dss : List (List ℕ)) (us : List GivenUnit) (orders : AllZip IsInOrder dss us) (leads : All LeadsToEntries us) where
  abbrev to_place : TreeValue → TreeValue
  to_place = renumbered (place_at us)

  value-renumbered : (number : ℕ) (u : GivenUnit) (v : AttributeValue) → slice_get (map ordered us) number ≡ Some (ordered u) → given_said texts (map ordered us) number (ordered u) v ≡ to_place (value_meant texts number v)
  value-renumbered number u (Address a) here = refl
  value-renumbered number u (Constant form bits) here = refl
  value-renumbered number u (Flag b) here = refl
  value-renumbered number u (Block bytes) here = refl
  value-renumbered number u (Exprloc e) here = refl
  value-renumbered number u (StringRef id) here = refl
  value-renumbered number u LineProgramRef here = refl
  value-renumbered number u (RangeListRef list) here = refl
  value-renumbered number u (LocationListRef list) here = refl
  value-renumbered number u (UnitRef id) here =
      ap (λ o. entry_or_nothing (option_map (λ place. (number, place)) o))
      (ap (option_and_then (λ x. place_in_order x id.index)) (sym here) ∙ place-among dss us number id.index orders leads)
  value-renumbered number u (DebugInfoRef (Entry unit id)) here =
      ap (λ o. entry_or_nothing (option_map (λ place. (unit.index, place)) o)) (place-among dss us unit.index id.index orders leads)

  attributes-renumbered : (number : ℕ) (u : GivenUnit) (xs : List Attribute) → slice_get (map ordered us) number ≡ Some (ordered u)
      → map (attribute_said texts (map ordered us) number (ordered u)) xs ≡ map (renumbered_attribute (place_at us)) (map (attribute_meant texts number) xs)
  attributes-renumbered number u [] here = refl
  attributes-renumbered number u (x ∷ xs) here =
      ap (λ v. (x.name, v) ∷ map (attribute_said texts (map ordered us) number (ordered u)) xs) (value-renumbered number u x.value here)
      ∙ ap (λ ys. renumbered_attribute (place_at us) (attribute_meant texts number x) ∷ ys) (attributes-renumbered number u xs here)

  entries-renumbered : (number place : ℕ) (u : GivenUnit) (ds : List ℕ) (es : List Addition) → slice_get (map ordered us) number ≡ Some (ordered u)
      → map (tree_entry texts (map ordered us) number (ordered u)) (entries_with place ds es) ≡ map (renumbered_entry (place_at us)) (tree_meant texts number ds es)
  entries-renumbered number place u [] es here = refl
  entries-renumbered number place u (d ∷ ds) [] here = refl
  entries-renumbered number place u (d ∷ ds) (e ∷ es) here =
      let E : List (ℕ × TreeValue) → TreeEntry = λ attributes. record { depth = d; tag = e.tag; attributes = attributes } in
      ap (λ ys. E ys ∷ map (tree_entry texts (map ordered us) number (ordered u)) (entries_with (suc place) ds es)) (attributes-renumbered number u e.attributes here)
      ∙ ap (λ ys. renumbered_entry (place_at us) (entry_meant texts number d e) ∷ ys) (entries-renumbered number (suc place) u ds es here)

  unit-renumbered : (number : ℕ) (ds : List ℕ) (u : GivenUnit) → IsInOrder ds u → slice_get (map ordered us) number ≡ Some (ordered u)
      → given_tree texts (map ordered us) number (ordered u) ≡ map (renumbered_entry (place_at us)) (tree_meant texts number ds u.additions)
  unit-renumbered number ds u order here =
      ap (map (tree_entry texts (map ordered us) number (ordered u))) (in-order-listed ds u.additions order)
      ∙ entries-renumbered number 0 u ds u.additions here

  units-renumbered : (number : ℕ) (css : List (List ℕ)) (vs : List GivenUnit) → AllZip IsInOrder css vs → ((i : ℕ) → slice_get (map ordered us) (number + i) ≡ slice_get (map ordered vs) i)
      → trees_from texts (map ordered us) number (map ordered vs) ≡ renumbered_trees (place_at us) (trees_meant texts number css vs)
  units-renumbered number [] [] all there = refl
  units-renumbered number [] (v ∷ vs) all there = absurd all
  units-renumbered number (ds ∷ css) [] all there = absurd all
  units-renumbered number (ds ∷ css) (v ∷ vs) all there =
      let here : slice_get (map ordered us) number ≡ Some (ordered v) = ap (slice_get (map ordered us)) (omega arith) ∙ there 0 in
      ap (λ t. t ∷ trees_from texts (map ordered us) (suc number) (map ordered vs)) (unit-renumbered number ds v all.0 here)
      ∙ ap (λ ts. map (renumbered_entry (place_at us)) (tree_meant texts number ds v.additions) ∷ ts) (units-renumbered (suc number) css vs all.1 (λ i. ap (slice_get (map ordered us)) (omega arith) ∙ there (suc i)))

-- Units whose entries were added in file order say what is meant by their numbers, with these put to places.
pub trees-renumbered : (texts : List (List ℕ)) (dss : List (List ℕ)) (us : List GivenUnit) → AllZip IsInOrder dss us → All LeadsToEntries us → given_trees texts (map ordered us) ≡ renumbered_trees (place_at us) (trees_meant texts 0 dss us)
trees-renumbered texts dss us orders leads = units-renumbered texts dss us orders leads 0 dss us orders (λ i. ap (slice_get (map ordered us)) (omega arith))

-- A unit that is given is as the law asks.
pub fit-leads : (us : List GivenUnit) → All FitsGivenUnit us → All LeadsToEntries us
fit-leads us fits = All-weaker FitsGivenUnit LeadsToEntries (λ u fit. fit.known) us fits

-- ---- units whose numbers are places

-- A place that a tree has is that of the entry of that number.
place-there : (texts : List (List ℕ)) (number : ℕ) (dss : List (List ℕ)) (us : List GivenUnit) (unit id : ℕ) → AllZip IsInOrder dss us → All IsNumberedByPlaces us → nat_lt id (size_of_unit (trees_meant texts number dss us) unit) ≡ true
    → option_and_then (λ u. place_of id u.places) (slice_get us unit) ≡ Some id
place-there texts number [] [] unit id orders numbered there = absurd (omega (arith, ltb-true _ _ there))
place-there texts number [] (u ∷ us) unit id orders numbered there = absurd orders
place-there texts number (ds ∷ dss) [] unit id orders numbered there = absurd orders
place-there texts number (ds ∷ dss) (u ∷ us) zero id orders numbered there =
    numbered-place u id (All-head IsNumberedByPlaces u us numbered) (omega (arith, ltb-true _ _ there, tree-length texts number ds u.additions orders.0.counted))
place-there texts number (ds ∷ dss) (u ∷ us) (suc unit) id orders numbered there = place-there texts (suc number) dss us unit id orders.1 (All-tail IsNumberedByPlaces u us numbered) there

-- They say what is meant, where each reference goes to an entry that is there.
pub trees-in-order : (texts : List (List ℕ)) (dss : List (List ℕ)) (us : List GivenUnit) → AllZip IsInOrder dss us → All IsNumberedByPlaces us → HasAllTargets (trees_meant texts 0 dss us) → given_trees texts (map ordered us) ≡ trees_meant texts 0 dss us
trees-in-order texts dss us orders numbered go =
    trees-renumbered texts dss us orders (All-weaker IsNumberedByPlaces LeadsToEntries numbered-leads us numbered)
    ∙ renumbered-same (place_at us) (trees_meant texts 0 dss us) (λ unit id there. ap (option_map (λ place. (unit, place))) (place-there texts 0 dss us unit id orders numbered there)) go
