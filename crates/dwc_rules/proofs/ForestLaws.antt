-- Every reference of a forest goes to an entry that is there, where its drafts say no place themselves.
use Rattle.std.proofs.Common.{◌≡◌, ℕ, zero, suc, ◌<◌, ◌+◌, List, [], ◌∷◌, ◌++◌, length, get_or, map, Option, Some, None, Bool, true, false, refl, sym, ap, subst, arith}
use Rattle.std.specs.Prelude.{◌==◌, fold, filter_map, if◌then◌else◌, option_to_list, position, option_map, flat_map, nat_lt}
use Rattle.std.specs.List.{AllZip, cons_option, list_all}
use Rattle.std.specs.Option.{option_or, unwrap_or, is_some}
use Rattle.std.proofs.lemmas.Bool.{false≢true, lt-ltb, ltb-true}
use Rattle.std.proofs.Math.Seq.{get_or-append_seam}
use Rattle.std.proofs.lemmas.List.{append-nil, append_assoc, length-append, length-map}
use Rattle.std.proofs.lemmas.List.Quantifiers.{position-Some}
use Rattle.dwc_dwarf.specs.Trees.{TreeValue, address, constant, flag, block, expression, text, line_table, ranges, locations, nothing, entry, TreeEntry, Tree, set_attribute, place_among}
use Rattle.dwc_rules.specs.Drafts.{Goal, made_of, synthetic_entry, DraftValue, done, goes_to, Draft}
use Rattle.dwc_rules.specs.DraftForests.{ModuleDrafts, units_drafted, is_made_of, place_in, place_of_goal, settled, settled_entry, settled_unit, trees_from, forest}
use Rattle.dwc_dwarf.specs.TreeLaws.{size_of_unit, goes_somewhere, values_of, HasAllTargets}

-- what is said of one value holds of the other, where both are said to be there
pub some_same : {A : Type 0} (P : A → Type 0) (x y : A) → Some x ≡ Some y → P x → P y
some_same P x y h holds = subst P (ap (λ o. unwrap_or o x) h) holds

-- nothing is no value
pub none_is : {A : Type 0} (x : A) → None ≡ Some x → ⊥
none_is x h = false≢true (ap (λ o. is_some o) h)

-- a place that is found lies within
position_within : {A : Type 0} (test : A → Bool) (xs : List A) (i : ℕ) → position test xs ≡ Some i → i < length xs
position_within test [] i h = absurd (none_is i h)
position_within test (x ∷ xs) i h = (position-Some test (x ∷ xs) i x h).0

-- a unit's number and a place in it, among units
abbrev IsWithin : {A : Type 0} → List (List A) → ℕ × ℕ → Type 0
IsWithin us p = p.1 < length (get_or us p.0 [])

-- a place that is found in one unit, or in those behind it
found_with : {A : Type 0} (test : A → Bool) (before : List (List A)) (u : List A) (others : List (List A)) (p : ℕ × ℕ) (o : Option ℕ) → position test u ≡ o
    → (rest : Option (ℕ × ℕ)) → (rest ≡ Some p → IsWithin (before ++ u ∷ others) p)
    → option_or (option_map (λ place. (length before, place)) o) rest ≡ Some p → IsWithin (before ++ u ∷ others) p
found_with test before u others p (Some i) h rest further is =
    some_same (IsWithin (before ++ u ∷ others)) (length before, i) p is (subst (λ x. i < length x) (sym (get_or-append_seam before u others [])) (position_within test u i h))
found_with test before u others p None h rest further is = further is

-- one unit more
one_more : {A : Type 0} (before : List A) (u : A) → suc (length before) ≡ length (before ++ (u ∷ []))
one_more before u = omega (arith, length-append before (u ∷ []))

-- a place that is found among units lies within them, whatever stands before and behind them
found_within : {A : Type 0} (test : A → Bool) (before us behind : List (List A)) (p : ℕ × ℕ) → place_among test (length before) us ≡ Some p → IsWithin (before ++ (us ++ behind)) p
found_within test before [] behind p is = absurd (none_is p is)
found_within test before (u ∷ us) behind p is =
    found_with test before u (us ++ behind) p (position test u) refl (place_among test (suc (length before)) us)
    (λ h. subst (λ xs. IsWithin xs p) (append_assoc before (u ∷ []) (us ++ behind)) (found_within test (before ++ (u ∷ [])) us behind p (subst (λ n. place_among test n us ≡ Some p) (one_more before u) h)))
    is

-- an entry of a unit by its place
within_if : (before : List (List Draft)) (ds : List Draft) (others : List (List Draft)) (place : ℕ) (p : ℕ × ℕ) (b : Bool) → nat_lt place (length ds) ≡ b
    → (if b then Some (length before, place) else None) ≡ Some p → IsWithin (before ++ ds ∷ others) p
within_if before ds others place p true h is =
    some_same (IsWithin (before ++ ds ∷ others)) (length before, place) p is (subst (λ x. place < length x) (sym (get_or-append_seam before ds others [])) (ltb-true place (length ds) h))
within_if before ds others place p false h is = absurd (none_is p is)

-- a goal that is somewhere is in a unit of the output
goal_within : (before : List (List Draft)) (m : ModuleDrafts) (behind : List (List Draft)) (g : Goal) (p : ℕ × ℕ) → place_of_goal (length before) m g ≡ Some p → IsWithin (before ++ (units_drafted m ++ behind)) p
goal_within before m behind (made_of offset role) p is = found_within (is_made_of offset role) before (units_drafted m) behind p is
goal_within before m behind (synthetic_entry place) p is = of_synthetic m.synthetic is
  where
    of_synthetic : (synthetic : Option (List Draft)) → place_in (length before) place synthetic ≡ Some p → IsWithin (before ++ (option_to_list synthetic ++ m.carried ++ behind)) p
    of_synthetic None h = absurd (none_is p h)
    of_synthetic (Some ds) h = within_if before ds (m.carried ++ behind) place p (nat_lt place (length ds)) refl h

-- ---- sizes of trees

-- trees and units have as many entries, one to one
abbrev SameSizes : List Tree → List (List Draft) → Type 0
SameSizes ts us = AllZip (λ t u. length t ≡ length u) ts us

same_at : (ts : List Tree) (us : List (List Draft)) → SameSizes ts us → (k : ℕ) → length (get_or us k []) ≡ length (get_or ts k [])
same_at [] [] same k = refl
same_at [] (u ∷ us) same k = absurd same
same_at (t ∷ ts) [] same k = absurd same
same_at (t ∷ ts) (u ∷ us) same zero = sym same.0
same_at (t ∷ ts) (u ∷ us) same (suc k) = same_at ts us same.1 k

same_both : (ts ss : List Tree) (us vs : List (List Draft)) → SameSizes ts us → SameSizes ss vs → SameSizes (ts ++ ss) (us ++ vs)
same_both [] ss [] vs h k = k
same_both [] ss (u ∷ us) vs h k = absurd h
same_both (t ∷ ts) ss [] vs h k = absurd h
same_both (t ∷ ts) ss (u ∷ us) vs h k = (h.0, same_both ts ss us vs h.1 k)

same_settled : (places : Goal → Option (ℕ × ℕ)) (us : List (List Draft)) → SameSizes (map (settled_unit places) us) us
same_settled places [] = tt
same_settled places (u ∷ us) = (length-map u (settled_entry places), same_settled places us)

-- the units of all modules
abbrev all_units : List ModuleDrafts → List (List Draft)
all_units ms = flat_map units_drafted ms

same_trees : (number : ℕ) (ms : List ModuleDrafts) → SameSizes (trees_from number ms) (all_units ms)
same_trees number [] = tt
same_trees number (m ∷ ms) = same_both (map (settled_unit (place_of_goal number m)) (units_drafted m)) (trees_from (number + length (units_drafted m)) ms) (units_drafted m) (all_units ms) (same_settled (place_of_goal number m) (units_drafted m)) (same_trees (number + length (units_drafted m)) ms)

-- ---- values

-- something holds of each of some things
abbrev pub Each : {A : Type 0} → (A → Type 0) → List A → Type 0
Each P [] = Unit {0}
Each P (x ∷ xs) = P x × Each P xs

pub each_chosen : {A : Type 0} (P : A → Type 0) (xs ys : List A) (b : Bool) → Each P xs → Each P ys → Each P (if b then xs else ys)
each_chosen P xs ys true h k = h
each_chosen P xs ys false h k = k

each_set : {A : Type 0} (P : ℕ × A → Type 0) (a : ℕ × A) (bs : List (ℕ × A)) → P a → Each P bs → Each P (set_attribute a bs)
each_set P a [] h k = (h, tt)
each_set P a (b ∷ bs) h k = each_chosen P (a ∷ bs) (b ∷ set_attribute a bs) (a.0 == b.0) (h, k.1) (k.0, each_set P a bs h k.1)

each_in_order : {A : Type 0} (P : ℕ × A → Type 0) (before attributes : List (ℕ × A)) → Each P before → Each P attributes → Each P (fold (λ so_far a. set_attribute a so_far) before attributes)
each_in_order P before [] h k = h
each_in_order P before (a ∷ attributes) h k = each_in_order P (set_attribute a before) attributes (each_set P a before k.0 h) k.1

pub each_cons : {B : Type 0} (P : B → Type 0) (o : Option B) (ys : List B) → ((y : B) → o ≡ Some y → P y) → Each P ys → Each P (cons_option o ys)
each_cons P None ys h k = k
each_cons P (Some y) ys h k = (h y refl, k)

pub each_filter_map : {A B : Type 0} (f : A → Option B) (P : B → Type 0) (xs : List A) → Each (λ x. (y : B) → f x ≡ Some y → P y) xs → Each P (filter_map f xs)
each_filter_map f P [] h = tt
each_filter_map f P (x ∷ xs) h = each_cons P (f x) (filter_map f xs) h.0 (each_filter_map f P xs h.1)

pub each_mapped : {A B : Type 0} (f : A → B) (P : A → Type 0) (Q : B → Type 0) → ((x : A) → P x → Q (f x)) → (xs : List A) → Each P xs → Each Q (map f xs)
each_mapped f P Q step [] h = tt
each_mapped f P Q step (x ∷ xs) h = (step x h.0, each_mapped f P Q step xs h.1)

pub each_both : {A : Type 0} (P : A → Type 0) (xs ys : List A) → Each P xs → Each P ys → Each P (xs ++ ys)
each_both P [] ys h k = k
each_both P (x ∷ xs) ys h k = (h.0, each_both P xs ys h.1 k)

all_true : {A : Type 0} (test : A → Bool) (xs : List A) → Each (λ x. test x ≡ true) xs → list_all test xs ≡ true
all_true test [] h = refl
all_true test (x ∷ xs) h = rw (h.0) (all_true test xs h.1)

-- ---- drafts

-- A draft's value says no place itself, and is not nothing; if it goes somewhere, its goal has a property.
abbrev pub SaysNoPlace : (Goal → Type 0) → ℕ × DraftValue → Type 0
SaysNoPlace Has a = says a.1
  where
    says : DraftValue → Type 0
    says (done v) = goes_somewhere [] v ≡ true
    says (goes_to g) = Has g

-- any goal
abbrev pub Anywhere : Goal → Type 0
Anywhere g = Unit {0}

-- of an attribute of a tree, that its reference goes somewhere
abbrev Goes : List Tree → ℕ × TreeValue → Type 0
Goes ts a = goes_somewhere ts a.1 ≡ true

no_place_goes : (ts : List Tree) (v : TreeValue) → goes_somewhere [] v ≡ true → goes_somewhere ts v ≡ true
no_place_goes ts (entry number place) h = absurd (omega (arith, ltb-true place 0 h))
no_place_goes ts nothing h = absurd (false≢true h)
no_place_goes ts (address a) h = refl
no_place_goes ts (constant form bits) h = refl
no_place_goes ts (flag b) h = refl
no_place_goes ts (block bytes) h = refl
no_place_goes ts (expression bytes) h = refl
no_place_goes ts (text bytes) h = refl
no_place_goes ts line_table h = refl
no_place_goes ts (ranges is) h = refl
no_place_goes ts (locations ls) h = refl

-- where goals are, in some trees
abbrev AreIn : (Goal → Option (ℕ × ℕ)) → List Tree → Type 0
AreIn places ts = (g : Goal) (p : ℕ × ℕ) → places g ≡ Some p → IsWithin ts p

placed_goes : (ts : List Tree) (name : ℕ) (o : Option (ℕ × ℕ)) → ((p : ℕ × ℕ) → o ≡ Some p → IsWithin ts p) → (y : ℕ × TreeValue) → option_map (λ v. (name, v)) (option_map (λ p. entry p.0 p.1) o) ≡ Some y → Goes ts y
placed_goes ts name None h y is = absurd (none_is y is)
placed_goes ts name (Some p) h y is = some_same (Goes ts) (name, entry p.0 p.1) y is (lt-ltb p.1 (size_of_unit ts p.0) (h p refl))

settled_goes : (ts : List Tree) (places : Goal → Option (ℕ × ℕ)) → AreIn places ts → (name : ℕ) (v : DraftValue) → SaysNoPlace Anywhere (name, v) → (y : ℕ × TreeValue) → settled places (name, v) ≡ Some y → Goes ts y
settled_goes ts places within name (done v) h y is = some_same (Goes ts) (name, v) y is (no_place_goes ts v h)
settled_goes ts places within name (goes_to g) h y is = placed_goes ts name (places g) (within g) y is

-- ---- trees

-- of an entry, a unit and a module before places are known, that they say no place themselves
abbrev pub EntrySaysNoPlace : (Goal → Type 0) → Draft → Type 0
EntrySaysNoPlace Has d = Each (SaysNoPlace Has) d.attributes

abbrev pub UnitSaysNoPlace : (Goal → Type 0) → List Draft → Type 0
UnitSaysNoPlace Has ds = Each (EntrySaysNoPlace Has) ds

abbrev pub ModuleSaysNoPlace : (Goal → Type 0) → ModuleDrafts → Type 0
ModuleSaysNoPlace Has m = Each (UnitSaysNoPlace Has) (units_drafted m)

-- of an entry and a unit of trees, that their references go somewhere
abbrev EntryGoes : List Tree → TreeEntry → Type 0
EntryGoes ts e = Each (Goes ts) e.attributes

abbrev UnitGoes : List Tree → Tree → Type 0
UnitGoes ts t = Each (EntryGoes ts) t

attributes_go : (ts : List Tree) (places : Goal → Option (ℕ × ℕ)) → AreIn places ts → (as' : List (ℕ × DraftValue)) → Each (SaysNoPlace Anywhere) as' → Each (λ a. (y : ℕ × TreeValue) → settled places a ≡ Some y → Goes ts y) as'
attributes_go ts places within [] h = tt
attributes_go ts places within (a ∷ as') h = (settled_goes ts places within a.0 a.1 h.0, attributes_go ts places within as' h.1)

entry_goes : (ts : List Tree) (places : Goal → Option (ℕ × ℕ)) → AreIn places ts → (d : Draft) → EntrySaysNoPlace Anywhere d → EntryGoes ts (settled_entry places d)
entry_goes ts places within d h = each_in_order (Goes ts) [] (filter_map (settled places) d.attributes) tt (each_filter_map (settled places) (Goes ts) d.attributes (attributes_go ts places within d.attributes h))

unit_goes : (ts : List Tree) (places : Goal → Option (ℕ × ℕ)) → AreIn places ts → (ds : List Draft) → UnitSaysNoPlace Anywhere ds → UnitGoes ts (settled_unit places ds)
unit_goes ts places within ds h = each_mapped (settled_entry places) (EntrySaysNoPlace Anywhere) (EntryGoes ts) (entry_goes ts places within) ds h

-- the goals of a module are in the trees of all
goals_in : (ts : List Tree) (before : List (List Draft)) (m : ModuleDrafts) (behind : List (List Draft)) → SameSizes ts (before ++ (units_drafted m ++ behind)) → AreIn (place_of_goal (length before) m) ts
goals_in ts before m behind same g p is = subst (λ n. p.1 < n) (same_at ts (before ++ (units_drafted m ++ behind)) same p.0) (goal_within before m behind g p is)

modules_go : (ts : List Tree) (before : List (List Draft)) (ms : List ModuleDrafts) → SameSizes ts (before ++ all_units ms) → Each (ModuleSaysNoPlace Anywhere) ms → Each (UnitGoes ts) (trees_from (length before) ms)
modules_go ts before [] same h = tt
modules_go ts before (m ∷ ms) same h =
    each_both (UnitGoes ts) (map (settled_unit (place_of_goal (length before) m)) (units_drafted m)) (trees_from (length before + length (units_drafted m)) ms)
    (each_mapped (settled_unit (place_of_goal (length before) m)) (UnitSaysNoPlace Anywhere) (UnitGoes ts) (unit_goes ts (place_of_goal (length before) m) (goals_in ts before m (all_units ms) same)) (units_drafted m) h.0)
    (subst (λ n. Each (UnitGoes ts) (trees_from n ms)) (length-append before (units_drafted m))
    (modules_go ts (before ++ units_drafted m) ms (subst (λ us. SameSizes ts us) (sym (append_assoc before (units_drafted m) (all_units ms))) same) h.1))

-- ---- the law

values_go : (ts : List Tree) (es : Tree) → UnitGoes ts es → Each (λ v. goes_somewhere ts v ≡ true) (values_of es)
values_go ts [] h = tt
values_go ts (e ∷ es) h = each_both (λ v. goes_somewhere ts v ≡ true) (map (λ a. a.1) e.attributes) (values_of es) (each_mapped (λ a. a.1) (Goes ts) (λ v. goes_somewhere ts v ≡ true) (λ a k. k) e.attributes h.0) (values_go ts es h.1)

units_go : (ts us : List Tree) → Each (UnitGoes ts) us → Each (λ t. list_all (goes_somewhere ts) (values_of t) ≡ true) us
units_go ts [] h = tt
units_go ts (u ∷ us) h = (all_true (goes_somewhere ts) (values_of u) (values_go ts u h.0), units_go ts us h.1)

-- Where the drafts of modules say no places themselves, every reference of their forest goes to an entry that is there.
pub references-go : (ms : List ModuleDrafts) → Each (ModuleSaysNoPlace Anywhere) ms → HasAllTargets (forest ms None)
unfolding forest
references-go ms h = subst HasAllTargets (sym (append-nil (trees_from 0 ms))) (all_true (λ t. list_all (goes_somewhere (trees_from 0 ms)) (values_of t)) (trees_from 0 ms) (units_go (trees_from 0 ms) (trees_from 0 ms) (modules_go (trees_from 0 ms) [] ms (same_trees 0 ms) h)))
