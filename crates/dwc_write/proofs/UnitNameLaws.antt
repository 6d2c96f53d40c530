-- The compilation directory of a unit that is found among its root's attributes is the one that its tree says: `own-root`. The names of units one
-- behind another: `units-more`, `units-done`.
use Rattle.std.proofs.Common.{◌≡◌, ℕ, zero, suc, ◌+◌, ◌<◌, ◌≤◌, refl, sym, ap, subst, ◌∙◌, arith, List, [], ◌∷◌, length, map, drop, get_or, Bool, true, false, cond, ltb, Option, Some, None}
use Rattle.std.specs.Prelude.{◌==◌, option_map}
use Rattle.std.specs.List.{flat_map, position, position_or_len}
use Rattle.std.specs.Option.{unwrap_or}
use Rattle.std.proofs.lemmas.Bool.{ltb-false}
use Rattle.std.proofs.lemmas.List.{drop_all}
use Rattle.std.proofs.lemmas.List.Quantifiers.{position-Some}
use Rattle.std.proofs.lemmas.List.Sums.{fails_before_first, fold-append}
use Rattle.dwc_base.specs.declared.constants.TheConstants.{DW_AT_comp_dir}
use Rattle.dwc_dwarf.specs.Trees.{Tree}
use Rattle.dwc_dwarf.specs.TreeLaws.{text_said, texts_ended, with_new_text}
use Rattle.dwc_output.specs.NewWidest.{directory_said}
use Rattle.dwc_output.specs.TreeReading.{entry_or_nothing}
use Rattle.dwc_section.specs.declared.error.WriteError.{WriteError}
use Rattle.dwc_unit.specs.declared.attributes.Attribute.{Attribute}
use Rattle.dwc_unit.specs.declared.attributes.AttributeValue.{AttributeValue}
use Rattle.dwc_unit.specs.declared.attributes.AttributeValue.TheVariants.{Address, Constant, Flag, Block, Exprloc, StringRef, LineProgramRef, RangeListRef, LocationListRef, UnitRef, DebugInfoRef}
use Rattle.dwc_unit.specs.declared.attributes.DebugInfoRef.TheVariants.{Entry}
use Rattle.dwc_unit.specs.FileOrders.{no_addition}
use Rattle.dwc_unit.specs.GivenTrees.{attribute_said, given_said, place_in_order, place_in_units, tree_entry}
use Rattle.dwc_unit.specs.GivenUnits.{Addition, GivenEntry, GivenUnit, OrderedUnit, IsRooted, ordered}
use Rattle.dwc_unit.specs.LineNames.{own_directory}
use Rattle.dwc_write.specs.declared.line_names.LineNames.{LineNames}
use Rattle.dwc_write.specs.PathTables.{with_paths}
use Rattle.dwc_write.specs.PathViews.{IsPathLayout, IsPathRefusal}
use Rattle.dwc_write.specs.UnitNames.{own_among, text_said_by}
use Rattle.dwc_write.proofs.PathLaws.{paths-longer, refused-longer}

-- ---- the compilation directory

no-text : (o : Option (ℕ × ℕ)) → text_said (entry_or_nothing o) ≡ None
no-text None = refl
no-text (Some p) = refl

value-said : (texts : List (List ℕ)) (u : OrderedUnit) (v : AttributeValue) → text_said_by texts v ≡ unwrap_or (text_said (given_said texts [] 0 u v)) []
value-said texts u (Address a) = refl
value-said texts u (Constant form bits) = refl
value-said texts u (Flag b) = refl
value-said texts u (Block bytes) = refl
value-said texts u (Exprloc e) = refl
value-said texts u (StringRef id) = refl
value-said texts u LineProgramRef = refl
value-said texts u (RangeListRef list) = refl
value-said texts u (LocationListRef list) = refl
value-said texts u (UnitRef id) = sym (ap (λ o. unwrap_or o []) (no-text (option_map (λ place. (0, place)) (place_in_order u id.index))))
value-said texts u (DebugInfoRef (Entry unit id)) = sym (ap (λ o. unwrap_or o []) (no-text (place_in_units [] unit.index id.index)))

-- that of an entry's attributes is what a tree with it in front says
pub own-said : (texts : List (List ℕ)) (u : OrderedUnit) (depth tag : ℕ) (others : Tree) (xs : List Attribute)
    → own_among texts xs ≡ directory_said (record { depth = depth; tag = tag; attributes = map (attribute_said texts [] 0 u) xs } ∷ others)
own-said texts u depth tag others [] = refl
own-said texts u depth tag others (a ∷ xs) = go (a.name == DW_AT_comp_dir) refl (own-said texts u depth tag others xs)
  where
    go : (b : Bool) → (a.name == DW_AT_comp_dir) ≡ b → own_among texts xs ≡ directory_said (record { depth = depth; tag = tag; attributes = map (attribute_said texts [] 0 u) xs } ∷ others)
        → own_among texts (a ∷ xs) ≡ directory_said (record { depth = depth; tag = tag; attributes = map (attribute_said texts [] 0 u) (a ∷ xs) } ∷ others)
    go true e rest = rw (e) (value-said texts u a.value)
    go false e rest = rw (e) rest

-- That among the attributes of an entry in file order is the one that a unit with this entry in front says.
pub own-first : (texts : List (List ℕ)) (u : OrderedUnit) (e : GivenEntry) (es : List GivenEntry) → u.entries ≡ e ∷ es → own_among texts e.attributes ≡ own_directory texts u
own-first texts u e es there = own-said texts u e.depth e.tag (map (tree_entry texts [] 0 u) es) e.attributes ∙ ap (λ xs. directory_said (map (tree_entry texts [] 0 u) xs)) (sym there)

-- The same of the root of a unit that is given.
pub own-root : (texts : List (List ℕ)) (u : GivenUnit) → IsRooted u.additions → own_among texts (get_or u.additions 0 no_addition).attributes ≡ own_directory texts (ordered u)
own-root texts u rooted = go u.additions rooted refl
  where
    go : (es : List Addition) → IsRooted es → u.additions ≡ es → own_among texts (get_or es 0 no_addition).attributes ≡ own_directory texts (ordered u)
    go [] none is = absurd none
    go (root ∷ es) some is =
        let P : List Addition → Type 0 = λ all. own_among texts root.attributes ≡ own_directory texts (ordered (record { version = u.version; address_size = u.address_size; lines = u.lines; places = u.places; additions = all })) in
        subst P (sym is) (own-first texts (ordered (record { version = u.version; address_size = u.address_size; lines = u.lines; places = u.places; additions = root ∷ es })) _ _ refl)

-- there is a root
pub root-there : (es : List Addition) → IsRooted es → 0 < length es
root-there [] none = absurd none
root-there (root ∷ es) some = omega arith

-- the first attribute of the name, where there is one
pub own-found : (texts : List (List ℕ)) (xs : List Attribute) (k : ℕ) (d : Attribute) → position (λ a. a.name == DW_AT_comp_dir) xs ≡ Some k → own_among texts xs ≡ text_said_by texts (get_or xs k d).value
own-found texts xs k d found = let at = position-Some (λ a. a.name == DW_AT_comp_dir) xs k d found in go xs k at.0 at.1 at.2
  where
    go : (ys : List Attribute) (j : ℕ) → j < length ys → ((get_or ys j d).name == DW_AT_comp_dir) ≡ true → ((i : ℕ) → i < j → ((get_or ys i d).name == DW_AT_comp_dir) ≡ false) → own_among texts ys ≡ text_said_by texts (get_or ys j d).value
    go [] j within is before = absurd (omega arith)
    go (y ∷ ys) zero within is before = rw (is) refl
    go (y ∷ ys) (suc j) within is before = rw (before 0 (omega arith)) (go ys j (omega arith) is (λ i less. before (suc i) (omega arith)))

none-there : {X : Type 0} (p : X → Bool) (xs : List X) → position p xs ≡ None → (k : ℕ) (d : X) → k < length xs → p (get_or xs k d) ≡ false
none-there p xs none k d within = let past = go (ltb (position_or_len p xs) (length xs)) refl none in fails_before_first p xs k d (omega (arith, past, within))
  where
    go : (b : Bool) → ltb (position_or_len p xs) (length xs) ≡ b → cond {A = Option ℕ} b (Some (position_or_len p xs)) None ≡ None → length xs ≤ position_or_len p xs
    go true e is = absurd (cc)
    go false e is = ltb-false _ _ e

-- and where there is none
pub own-none : (texts : List (List ℕ)) (xs : List Attribute) → position (λ a. a.name == DW_AT_comp_dir) xs ≡ None → own_among texts xs ≡ []
own-none texts xs none = go xs (λ i d within. none-there (λ a. a.name == DW_AT_comp_dir) xs none i d within)
  where
    go : (ys : List Attribute) → ((i : ℕ) (d : Attribute) → i < length ys → ((get_or ys i d).name == DW_AT_comp_dir) ≡ false) → own_among texts ys ≡ []
    go [] others = refl
    go (y ∷ ys) others = rw (others 0 y (omega arith)) (go ys (λ i d within. others (suc i) d (omega arith)))

-- ---- the names of units

-- The names of the first units are used, and with those of the units that are left all are.
pub record AreNaming {A : Type 0} (f : A → List (List ℕ)) (xs : List A) (i : ℕ) (start l : LineNames) : Type 0 where
  pub used : with_paths l.texts (flat_map f (drop i xs)) ≡ with_paths start.texts (flat_map f xs)
  pub laid : IsPathLayout l

pub units-start : {A : Type 0} (f : A → List (List ℕ)) (xs : List A) (l : LineNames) → IsPathLayout l → AreNaming f xs 0 l l
units-start f xs l laid = record { used = refl; laid = laid }

pub units-more : {A : Type 0} (f : A → List (List ℕ)) (xs : List A) (i : ℕ) (x : A) (start l v : LineNames) → drop i xs ≡ x ∷ drop (i + 1) xs → AreNaming f xs i start l → (v.texts ≡ with_paths l.texts (f x)) × IsPathLayout v → AreNaming f xs (i + 1) start v
units-more f xs i x start l v there on step = record {
  used = ap (λ ts. with_paths ts (flat_map f (drop (i + 1) xs))) step.0 ∙ sym (fold-append with_new_text l.texts (f x) (flat_map f (drop (i + 1) xs))) ∙ ap (λ ys. with_paths l.texts (flat_map f ys)) (sym there) ∙ on.used;
  laid = step.1;
}

pub units-refused : {A : Type 0} (f : A → List (List ℕ)) (xs : List A) (i : ℕ) (x : A) (start l : LineNames) (e : WriteError) → drop i xs ≡ x ∷ drop (i + 1) xs → AreNaming f xs i start l → IsPathRefusal e (length (texts_ended (with_paths l.texts (f x))))
    → IsPathRefusal e (length (texts_ended (with_paths start.texts (flat_map f xs))))
units-refused f xs i x start l e there on refused =
    let others = flat_map f (drop (i + 1) xs) in
    let whole : with_paths (with_paths l.texts (f x)) others ≡ with_paths start.texts (flat_map f xs) = sym (fold-append with_new_text l.texts (f x) others) ∙ ap (λ ys. with_paths l.texts (flat_map f ys)) (sym there) ∙ on.used in
    refused-longer e _ _ refused (omega (arith, paths-longer others (with_paths l.texts (f x)), ap (λ ts. length (texts_ended ts)) whole))

pub units-done : {A : Type 0} (f : A → List (List ℕ)) (xs : List A) (i : ℕ) (start l : LineNames) → length xs ≤ i → AreNaming f xs i start l → (l.texts ≡ with_paths start.texts (flat_map f xs)) × IsPathLayout l
units-done f xs i start l past on = (ap (λ ys. with_paths l.texts (flat_map f ys)) (sym (drop_all i xs past)) ∙ on.used, on.laid)
