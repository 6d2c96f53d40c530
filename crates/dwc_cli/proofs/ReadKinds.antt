-- What holds of all that a kind of the map file reads, where numbers fit 64 bits.
use Rattle.std.proofs.Common.{◌≡◌, ℕ, ◌^◌, ◌<◌, arith, List, [], ◌∷◌, Option, Some, None, Bool, true, false, cond, nat_cmp, refl, sym, ◌∙◌, ap, subst}
use Rattle.std.specs.Prelude.{pos, ◌-ℤ◌, int_lt, int_le, All, nat_lt}
use Rattle.std.specs.FinMap as finite
use Rattle.std.specs.FinMap.{get-from_entries, get-empty}
use Rattle.std.specs.Ordering.{eq_by_cmp}
use Rattle.std.specs.Cmp.{nat_cmp_total}
use Rattle.std.proofs.lemmas.Bool.{ltb-true}
use Rattle.std.proofs.lemmas.Int.{ints}
use Rattle.std.proofs.lemmas.List.Elements.{All-nil, All-cons, All-head, All-tail}
use Rattle.serde_json.specs.Data.{unsigned, negative, float, Data, null, boolean, number, string, array, object, Items, no_items, item, Members}
use Rattle.serde_json.specs.Find.{get_member}
use Rattle.dwc_base.specs.Reading.{is_64_bit}
use Rattle.dwc_map.specs.MapValues.{number_below, u32_of, i64_of, all_items, list_of, pair_of, have_distinct_keys, table_by, table_of, members_of, required, value_or, with_default}
use Rattle.dwc_cli.proofs.Options.{same_some, bind-some, only_if-some}
use Rattle.dwc_cli.proofs.ReadNumbers.{Fits, FitItems, FitMembers, fits-signed, fits-member}

-- ---- what holds of all that a kind reads

abbrev pub Holds : {A : Type 0} → (A → Type 0) → (Data → Option A) → Type 0
Holds {A} P kind = (d : Data) (x : A) → Fits d → kind d ≡ Some x → P x

module _ {A : Type 0} (P : A → Type 0) (kind : Data → Option A) (holds : Holds P kind) where
  items-hold : (ds : Items) (xs : List A) → FitItems ds → all_items kind ds ≡ Some xs → All P xs
  items-hold no_items xs fit e = subst (All P) (same_some [] xs e) (All-nil P)
  items-hold (item d ds) xs fit e =
      let first = bind-some (kind d) _ xs e in
      let others = bind-some (all_items kind ds) _ xs first.2 in
      subst (All P) (same_some (first.0 ∷ others.0) xs others.2) (All-cons P first.0 others.0 (holds d first.0 fit.0 first.1) (items-hold ds others.0 fit.1 others.1))

  pub list-holds : Holds (All P) (list_of kind)
  list-holds null xs fit e = absurd (cc)
  list-holds (boolean b) xs fit e = absurd (cc)
  list-holds (number n) xs fit e = absurd (cc)
  list-holds (string s) xs fit e = absurd (cc)
  list-holds (array ds) xs fit e = items-hold ds xs fit e
  list-holds (object ms) xs fit e = absurd (cc)

  pub required-holds : (name : List ℕ) (ms : Members) (x : A) → FitMembers ms → required name kind ms ≡ Some x → P x
  required-holds name ms x fit e = let d = bind-some (get_member name ms) kind x e in holds d.0 x (fits-member name ms d.0 fit d.1) d.2

  pub default-holds : (name : List ℕ) (default : A) (ms : Members) (x : A) → P default → FitMembers ms → with_default name default kind ms ≡ Some x → P x
  default-holds name default ms x given fit e = go (get_member name ms) refl e
    where
      go : (o : Option Data) → get_member name ms ≡ o → value_or default kind o ≡ Some x → P x
      go None at e = subst P (same_some default x e) given
      go (Some d) at e = holds d x (fits-member name ms d fit at) e

pub members-fit : Holds FitMembers members_of
members-fit null ms fit e = absurd (cc)
members-fit (boolean b) ms fit e = absurd (cc)
members-fit (number n) ms fit e = absurd (cc)
members-fit (string s) ms fit e = absurd (cc)
members-fit (array ds) ms fit e = absurd (cc)
members-fit (object found) ms fit e = subst FitMembers (same_some found ms e) fit

module _ {A B : Type 0} (P : A → Type 0) (Q : B → Type 0) (first : Data → Option A) (second : Data → Option B) (holds : Holds P first) (hold : Holds Q second) where
  pub pair-holds : Holds (λ (p : A × B). P p.0 × Q p.1) (pair_of first second)
  pair-holds null p fit e = absurd (cc)
  pair-holds (boolean b) p fit e = absurd (cc)
  pair-holds (number n) p fit e = absurd (cc)
  pair-holds (string s) p fit e = absurd (cc)
  pair-holds (array no_items) p fit e = absurd (cc)
  pair-holds (array (item d no_items)) p fit e = absurd (cc)
  pair-holds (array (item d (item f no_items))) p fit e =
      let x = bind-some (first d) _ p e in
      let y = bind-some (second f) _ p x.2 in
      subst (λ (q : A × B). P q.0 × Q q.1) {x = (x.0, y.0)} (same_some (x.0, y.0) p y.2) (holds d x.0 fit.0 x.1, hold f y.0 (fit.1).0 y.1)
  pair-holds (array (item d (item f (item g ds)))) p fit e = absurd (cc)
  pair-holds (object ms) p fit e = absurd (cc)

-- ---- numbers

pub below : (limit : ℕ) → Holds (λ n. n < limit) (number_below limit)
below limit null n fit e = absurd (cc)
below limit (boolean b) n fit e = absurd (cc)
below limit (number (unsigned m)) n fit e = let kept = only_if-some (nat_lt m limit) m n e in subst (λ k. k < limit) kept.1 (ltb-true m limit kept.0)
below limit (number (negative z)) n fit e = absurd (cc)
below limit (number (float x)) n fit e = absurd (cc)
below limit (string s) n fit e = absurd (cc)
below limit (array ds) n fit e = absurd (cc)
below limit (object ms) n fit e = absurd (cc)

fits-positive : (n : ℕ) → n < 2 ^ 63 → is_64_bit (pos n) ≡ true
fits-positive n small =
    let above : int_lt (pos n) (pos 0 -ℤ pos (2 ^ 63)) ≡ false = grind (arith, ints) in
    let below : int_le (pos (2 ^ 63)) (pos n) ≡ false = grind (arith, ints) in
    fits-signed (pos n) above below

pub signed : Holds (λ z. is_64_bit z ≡ true) i64_of
signed null z fit e = absurd (cc)
signed (boolean b) z fit e = absurd (cc)
signed (number (unsigned n)) z fit e = let kept = only_if-some (nat_lt n (2 ^ 63)) (pos n) z e in subst (λ y. is_64_bit y ≡ true) kept.1 (fits-positive n (ltb-true n (2 ^ 63) kept.0))
signed (number (negative y)) z fit e = let kept = only_if-some (int_le (pos 0 -ℤ pos (2 ^ 63)) y) y z e in subst (λ x. is_64_bit x ≡ true) kept.1 fit
signed (number (float x)) z fit e = absurd (cc)
signed (string s) z fit e = absurd (cc)
signed (array ds) z fit e = absurd (cc)
signed (object ms) z fit e = absurd (cc)

-- ---- tables

-- P holds of each value of a finite map
abbrev pub HoldsIn : {X : Type 0} → (X → Type 0) → finite.FinMap nat_cmp X → Type 0
HoldsIn {X} P t = (key : ℕ) (x : X) → finite.get t key ≡ Some x → P x

pub empty-holds : {X : Type 0} (P : X → Type 0) → HoldsIn P finite.empty
empty-holds P key x at = let none : None ≡ Some x = sym (get-empty nat_cmp key) ∙ at in absurd (cc)

module _ {X : Type 0} (P : X → Type 0) (kind : Data → Option X) (holds : Holds P kind) where
  abbrev Row : ℕ × X → Type 0
  Row p = (p.0 < 2 ^ 32) × P p.1

  found-holds : (rows : List (ℕ × X)) (key : ℕ) (x : X) → All Row rows → finite.find nat_cmp key rows ≡ Some x → P x
  found-holds [] key x all e = absurd (cc)
  found-holds (row ∷ rows) key x all e = go (eq_by_cmp nat_cmp key row.0) (found-holds rows key x (All-tail Row row rows all)) e
    where
      go : (b : Bool) → (finite.find nat_cmp key rows ≡ Some x → P x) → cond b (Some row.1) (finite.find nat_cmp key rows) ≡ Some x → P x
      go true later e = subst P (same_some row.1 x e) (All-head Row row rows all).1
      go false later e = later e

  pub table-holds : Holds (HoldsIn P) (table_of kind)
  table-holds null t fit e = absurd (cc)
  table-holds (boolean b) t fit e = absurd (cc)
  table-holds (number n) t fit e = absurd (cc)
  table-holds (string s) t fit e = absurd (cc)
  table-holds (array ds) t fit e = λ key x at.
      let rows = bind-some (all_items (pair_of u32_of kind) ds) table_by t e in
      let kept = only_if-some (have_distinct_keys rows.0) (finite.from_entries rows.0) t rows.2 in
      found-holds rows.0 key x (items-hold Row (pair_of u32_of kind) (pair-holds (λ n. n < 2 ^ 32) P u32_of kind (below (2 ^ 32)) holds) ds rows.0 fit rows.1)
      (sym (get-from_entries nat_cmp_total rows.0 key) ∙ ap (λ m. finite.get m key) kept.1 ∙ at)
  table-holds (object ms) t fit e = absurd (cc)
