-- Attributes by their names: what an index of places owes, and what setting a value does.
use Rattle.std.proofs.Common.{◌≡◌, ℕ, zero, suc, ◌+◌, ◌-◌, ◌<◌, ◌≤◌, refl, sym, ap, subst, ◌∙◌, arith, rules, List, [], ◌∷◌, ◌++◌, length, get_or, drop, Option, Some, None, Bool, true, false, eqb, ltb, cond, nat_cmp}
use Rattle.std.specs.Prelude.{◌==◌, slice_set, unwrap_or}
use Rattle.std.specs.Ordering.{is_eq}
use Rattle.std.specs.List.{position, position_or_len}
use Rattle.std.specs.BTreeMap.{BTreeMap, get}
use Rattle.std.proofs.lemmas.Bool.{ltb-false, eqb-false, eqb-true}
use Rattle.std.proofs.lemmas.List.{at_drop_more}
use Rattle.std.proofs.lemmas.List.Quantifiers.{position-Some}
use Rattle.std.proofs.lemmas.List.Sums.{fails_before_first}
use Rattle.std.proofs.lemmas.Iterator.Adapters.{position_from-zero}
use Rattle.dwc_unit.specs.declared.attributes.Attribute.{Attribute}
use Rattle.dwc_unit.specs.declared.attributes.AttributeValue.{AttributeValue}
use Rattle.dwc_unit.specs.declared.attributes.AttributeValue.TheVariants.{LineProgramRef}
use Rattle.dwc_unit.specs.AttributePlaces.{place_from, IsIndexed}
use Rattle.dwc_unit.specs.GivenUnits.{set_attribute}

-- ---- what is set

set-first : (name : ℕ) (value : AttributeValue) (xs : List Attribute) (place : ℕ) (d : Attribute) → place < length xs → ((get_or xs place d).name == name) ≡ true → ((k : ℕ) → k < place → ((get_or xs k d).name == name) ≡ false)
    → slice_set xs place (record { name = name; value = value }) ≡ set_attribute name value xs
set-first name value [] place d within here before = absurd (omega arith)
set-first name value (a ∷ xs) zero d within here before = rw (here) refl
set-first name value (a ∷ xs) (suc place) d within here before =
    let other : eqb a.name name ≡ false = before 0 (omega arith) in
    rw (other) (ap (λ ys. a ∷ ys) (set-first name value xs place d (omega arith) here (λ k low. before (suc k) (omega (arith, low)))))

set-found : (name : ℕ) (value : AttributeValue) (xs : List Attribute) (place : ℕ) (d : Attribute) → position (λ a. a.name == name) xs ≡ Some place → slice_set xs place (record { name = name; value = value }) ≡ set_attribute name value xs
set-found name value xs place d found =
    let is = position-Some (λ a. a.name == name) xs place d found in
    set-first name value xs place d is.0 is.1 is.2

set-last : (name : ℕ) (value : AttributeValue) (xs : List Attribute) (d : Attribute) → ((k : ℕ) → k < length xs → ((get_or xs k d).name == name) ≡ false) → xs ++ record { name = name; value = value } ∷ [] ≡ set_attribute name value xs
set-last name value [] d none = refl
set-last name value (a ∷ xs) d none =
    let other : eqb a.name name ≡ false = none 0 (omega arith) in
    rw (other) (ap (λ ys. a ∷ ys) (set-last name value xs d (λ k low. none (suc k) (omega (arith, low)))))

set-new : (name : ℕ) (value : AttributeValue) (xs : List Attribute) → position (λ a. a.name == name) xs ≡ None → xs ++ record { name = name; value = value } ∷ [] ≡ set_attribute name value xs
set-new name value xs none =
    let past : length xs ≤ position_or_len (λ a. a.name == name) xs = go (ltb (position_or_len (λ a. a.name == name) xs) (length xs)) refl none in
    set-last name value xs (record { name = name; value = value }) (λ k low. fails_before_first (λ a. a.name == name) xs k (record { name = name; value = value }) (omega (arith, low, past)))
  where
    go : (b : Bool) → ltb (position_or_len (λ a. a.name == name) xs) (length xs) ≡ b → cond {A = Option ℕ} b (Some (position_or_len (λ a. a.name == name) xs)) None ≡ None → length xs ≤ position_or_len (λ a. a.name == name) xs
    go true e h = absurd (cc)
    go false e h = ltb-false _ _ e

-- the same by the first place of a name
pub set-here : (name : ℕ) (value : AttributeValue) (xs : List Attribute) (place : ℕ) → place_from 0 xs name ≡ Some place → slice_set xs place (record { name = name; value = value }) ≡ set_attribute name value xs
set-here name value xs place found = set-found name value xs place (record { name = name; value = value }) (position_from-zero (λ a. a.name == name) xs ∙ found)

pub set-behind : (name : ℕ) (value : AttributeValue) (xs : List Attribute) → place_from 0 xs name ≡ None → xs ++ record { name = name; value = value } ∷ [] ≡ set_attribute name value xs
set-behind name value xs none = set-new name value xs (position_from-zero (λ a. a.name == name) xs ∙ none)

-- ---- the index

-- the attribute before the k-th decides its name's place
pub place_from-before : (xs : List Attribute) (k : ℕ) (d : Attribute) (q : ℕ) → 0 < k → k ≤ length xs
    → cond (is_eq (nat_cmp (get_or xs (k - 1) d).name q)) (Some (k - 1)) (place_from k (drop k xs) q) ≡ place_from (k - 1) (drop (k - 1) xs) q
place_from-before xs k d q some inside =
    let e : (k - 1) + 1 ≡ k = omega (arith, some) in
    rw (at_drop_more (λ t. place_from (k - 1) t q) xs (k - 1) d (omega (arith, some, inside)), e) (search rules)

-- an attribute that is found stands within
pub within : (xs : List Attribute) (name place : ℕ) → place_from 0 xs name ≡ Some place → place < length xs
within xs name place found = (position-Some (λ a. a.name == name) xs place (record { name = name; value = LineProgramRef }) (position_from-zero (λ a. a.name == name) xs ∙ found)).0

place-set : (start : ℕ) (xs : List Attribute) (place : ℕ) (d a : Attribute) (q : ℕ) → place < length xs → (get_or xs place d).name ≡ a.name → place_from start (slice_set xs place a) q ≡ place_from start xs q
place-set start [] place d a q inside same = absurd (omega arith)
place-set start (x ∷ xs) zero d a q inside same = rw (same) refl
place-set start (x ∷ xs) (suc place) d a q inside same = ap (λ o. cond (eqb x.name q) (Some start) o) (place-set (start + 1) xs place d a q (omega arith) same)

-- another value of the same name leaves the places
pub index-set : (xs : List Attribute) (place : ℕ) (a : Attribute) (index : Option (BTreeMap ℕ ℕ)) → place_from 0 xs a.name ≡ Some place → IsIndexed xs index → IsIndexed (slice_set xs place a) index
index-set xs place a index found indexed =
    let is = position-Some (λ x. x.name == a.name) xs place a (position_from-zero (λ x. x.name == a.name) xs ∙ found) in
    λ m some q. indexed m some q ∙ sym (place-set 0 xs place a a q is.0 (eqb-true _ _ is.1))

place-push : (start : ℕ) (xs : List Attribute) (a : Attribute) (q : ℕ) → place_from start xs a.name ≡ None → place_from start (xs ++ a ∷ []) q ≡ cond (eqb a.name q) (Some (start + length xs)) (place_from start xs q)
place-push start [] a q none = ap (λ n. cond (eqb a.name q) (Some n) None) (omega arith)
place-push start (x ∷ xs) a q none = go (eqb x.name a.name) refl none (place-push (start + 1) xs a q)
  where
    more : (start : ℕ) → (start + 1) + length xs ≡ start + suc (length xs)
    more start = omega arith

    by : eqb x.name a.name ≡ false → (b c : Bool) → eqb x.name q ≡ b → eqb a.name q ≡ c → (o p : Option ℕ) → o ≡ cond c (Some ((start + 1) + length xs)) p → cond b (Some start) o ≡ cond c (Some (start + suc (length xs))) (cond b (Some start) p)
    by other true true e f o p is = absurd (eqb-false _ _ other (eqb-true _ _ e ∙ sym (eqb-true _ _ f)))
    by other true false e f o p is = refl
    by other false true e f o p is = is ∙ ap Some (more start)
    by other false false e f o p is = is

    go : (b : Bool) → eqb x.name a.name ≡ b → cond b (Some start) (place_from (start + 1) xs a.name) ≡ None
        → (place_from (start + 1) xs a.name ≡ None → place_from (start + 1) (xs ++ a ∷ []) q ≡ cond (eqb a.name q) (Some ((start + 1) + length xs)) (place_from (start + 1) xs q))
        → cond (eqb x.name q) (Some start) (place_from (start + 1) (xs ++ a ∷ []) q) ≡ cond (eqb a.name q) (Some (start + suc (length xs))) (cond (eqb x.name q) (Some start) (place_from (start + 1) xs q))
    go true other h rest = absurd (cc)
    go false other h rest = by other (eqb x.name q) (eqb a.name q) refl refl (place_from (start + 1) (xs ++ a ∷ []) q) (place_from (start + 1) xs q) (rest h)

-- an attribute of a new name behind the others
pub places-push : (xs : List Attribute) (a : Attribute) (q : ℕ) → place_from 0 xs a.name ≡ None → cond (is_eq (nat_cmp a.name q)) (Some (length xs)) (place_from 0 xs q) ≡ place_from 0 (xs ++ a ∷ []) q
places-push xs a q none = rw (place-push 0 xs a q none) (search rules)

pub index-push : (xs now : List Attribute) (a : Attribute) (m n : BTreeMap ℕ ℕ) (len : ℕ) → now ≡ xs ++ a ∷ [] → len ≡ length xs → place_from 0 xs a.name ≡ None → IsIndexed xs (Some m)
    → ((q : ℕ) → get nat_cmp n q ≡ cond (is_eq (nat_cmp a.name q)) (Some len) (get nat_cmp m q)) → IsIndexed now (Some n)
index-push xs now a m n len pushed long none indexed updates = λ x some q.
    let same : n ≡ x = ap (λ o. unwrap_or o n) some in
    subst (λ y. get nat_cmp y q ≡ place_from 0 now q) same
    (updates q ∙ ap (λ k. cond (is_eq (nat_cmp a.name q)) (Some k) (get nat_cmp m q)) long ∙ ap (λ o. cond (is_eq (nat_cmp a.name q)) (Some (length xs)) o) (indexed m refl q)
    ∙ places-push xs a q none ∙ ap (λ ys. place_from 0 ys q) (sym pushed))

pub index-none : (xs : List Attribute) → IsIndexed xs None
index-none xs = λ m some q. absurd (cc)
