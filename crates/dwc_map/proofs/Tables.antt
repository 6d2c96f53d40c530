-- Tables with distinct keys, read from their ends.
use Rattle.std.proofs.Common.{◌≡◌, ℕ, zero, suc, ◌+◌, ◌-◌, ◌<◌, ◌≤◌, List, [], ◌∷◌, drop, length, map, get_or, Option, Some, None, Bool, true, false, nat_cmp, refl, sym, ap, ◌∙◌, arith}
use Rattle.std.specs.Prelude.{◌==◌, ◌&&◌, ◌||◌, not, cond, is_some, unwrap_or, option_map}
use Rattle.std.specs.Ordering.{is_eq}
use Rattle.std.specs.FinMap as finite
use Rattle.std.specs.FinMap.{get-empty, get-insert}
use Rattle.std.specs.Cmp.{nat_cmp_total, unsigned_tied, eq_by_cmp_equiv}
use Rattle.std.proofs.lemmas.Bool.{true≢false, false≢true}
use Rattle.std.proofs.lemmas.List.{at_drop_more}
use Rattle.std.proofs.Math.Bool.{and-false}
use Rattle.serde_json.specs.Data.{Data, Items, item}
use Rattle.serde_json.specs.View.{view, items_view}
use Rattle.serde_json.specs.declared.value.Value.{Value}
use Rattle.dwc_isa.specs.declared.reg.Reg.{Reg}
use Rattle.dwc_isa.specs.Registers.{numbers}
use Rattle.dwc_map.specs.MapValues.{◌>>=◌, only_if, u32_of, pair_of, all_items, has_key, have_distinct_keys, table_by, table_in}

module _ {X : Type 0} where
  -- the keys of a finite map are those of its pairs
  pub key-of : (rows : List (ℕ × X)) (key : ℕ) → is_some (finite.get (finite.from_entries {R = nat_cmp} rows) key) ≡ has_key rows key
  key-of [] key = ap is_some (get-empty nat_cmp key)
  key-of (row ∷ rows) key =
      ap is_some (get-insert nat_cmp_total (finite.from_entries rows) row.0 row.1 key)
      ∙ ap (λ b. is_some (cond b (Some row.1) (finite.get (finite.from_entries {R = nat_cmp} rows) key))) (unsigned_tied key row.0)
      ∙ go (key == row.0) (key-of rows key)
    where
      go : (b : Bool) → is_some (finite.get (finite.from_entries {R = nat_cmp} rows) key) ≡ has_key rows key
          → is_some (cond b (Some row.1) (finite.get (finite.from_entries {R = nat_cmp} rows) key)) ≡ (b || has_key rows key)
      go true later = refl
      go false later = later

  same_some : (x y : finite.FinMap nat_cmp X) → Some x ≡ Some y → x ≡ y
  same_some x y e = ap (λ o. unwrap_or o x) e

  -- a pair in front of pairs that are a map
  front : (row : ℕ × X) (rows : List (ℕ × X)) (b : Bool) (m : finite.FinMap nat_cmp X) → only_if b (finite.from_entries rows) ≡ Some m
      → only_if (not (has_key rows row.0) && b) (finite.from_entries (row ∷ rows)) ≡ only_if (not (is_some (finite.get m row.0))) (finite.insert m row.0 row.1)
  front row rows true m e =
      let same = same_some (finite.from_entries rows) m e in
      rw (← same, key-of rows row.0) (go (has_key rows row.0))
    where
      go : (b : Bool) → only_if (not b && true) (finite.from_entries {R = nat_cmp} (row ∷ rows)) ≡ only_if (not b) (finite.insert (finite.from_entries rows) row.0 row.1)
      go true = refl
      go false = refl
  front row rows false m e = absurd (cc)

  -- an item in front of items that are a table
  pub table-more : (kind : Data → Option X) (d : Data) (ds : Items) (row : ℕ × X) (m : finite.FinMap nat_cmp X) → pair_of u32_of kind d ≡ Some row → table_in kind ds ≡ Some m
      → table_in kind (item d ds) ≡ only_if (not (is_some (finite.get m row.0))) (finite.insert m row.0 row.1)
  table-more kind d ds row m is = rw is (go (all_items (pair_of u32_of kind) ds))
    where
      go : (o : Option (List (ℕ × X))) → o >>= table_by ≡ Some m → ((o >>= λ xs. Some (row ∷ xs)) >>= table_by) ≡ only_if (not (is_some (finite.get m row.0))) (finite.insert m row.0 row.1)
      go None e = absurd (cc)
      go (Some rows) e = front row rows (have_distinct_keys rows) m e

  -- one that is no pair
  pub table-unread : (kind : Data → Option X) (d : Data) (ds : Items) → pair_of u32_of kind d ≡ None → table_in kind (item d ds) ≡ None
  table-unread kind d ds is = rw is refl

  -- items in front of items that are no table
  behind-none : (kind : Data → Option X) (d : Data) (ds : Items) → table_in kind ds ≡ None → table_in kind (item d ds) ≡ None
  behind-none kind d ds = go (pair_of u32_of kind d) (all_items (pair_of u32_of kind) ds)
    where
      both : (b c : Bool) (rows more : List (ℕ × X)) → only_if c (finite.from_entries {R = nat_cmp} rows) ≡ None → only_if (b && c) (finite.from_entries {R = nat_cmp} more) ≡ None
      both b true rows more e = absurd (cc)
      both true false rows more e = refl
      both false false rows more e = refl

      go : (o : Option (ℕ × X)) (p : Option (List (ℕ × X))) → p >>= table_by ≡ None → ((o >>= λ x. p >>= λ xs. Some (x ∷ xs)) >>= table_by) ≡ None
      go None p e = refl
      go (Some row) None e = refl
      go (Some row) (Some rows) e = both (not (has_key rows row.0)) (have_distinct_keys rows) rows (row ∷ rows) e

  pub table-none : (kind : Data → Option X) (vs : List Value) (k : ℕ) → table_in kind (items_view (drop k vs)) ≡ None → table_in kind (items_view vs) ≡ None
  table-none kind vs zero e = e
  table-none kind [] (suc k) e = e
  table-none kind (v ∷ vs) (suc k) e = behind-none kind (view v) (items_view vs) (table-none kind vs k e)

-- the values from the one before the k-th on
values-before : (vs : List Value) (k : ℕ) (v : Value) → 0 < k → k ≤ length vs → v ≡ get_or vs (k - 1) v → items_view (drop (k - 1) vs) ≡ item (view v) (items_view (drop k vs))
values-before vs k v some inside is =
    let e : (k - 1) + 1 ≡ k = omega (arith, some) in
    rw (at_drop_more items_view vs (k - 1) v (omega (arith, some, inside)), e, ← is) refl

-- a look-up that is not there is none
no_row : {A B : Type 0} (f : A → B) (o : Option A) → ((x : A) → o ≡ Some x → ⊥) → option_map f o ≡ None
no_row f None h = refl
no_row f (Some x) h = absurd (h x refl)

-- a look-up is there where its view is
pub is_some-map : {A B : Type 0} (f : A → B) (o : Option A) → is_some (option_map f o) ≡ is_some o
is_some-map f None = refl
is_some-map f (Some x) = refl

module _ {X : Type 0} (kind : Data → Option X) (vs : List Value) (k : ℕ) (v : Value) (some : 0 < k) (inside : k ≤ length vs) (is : v ≡ get_or vs (k - 1) v) where
  -- the value before the k-th is no pair
  pub values-unread : {A : Type 0} (f : A → ℕ × X) (o : Option A) → option_map f o ≡ pair_of u32_of kind (view v) → ((x : A) → o ≡ Some x → ⊥) → None ≡ table_in kind (items_view vs)
  values-unread f o read none =
      let unread : pair_of u32_of kind (view v) ≡ None = sym read ∙ no_row f o none in
      sym (table-none kind vs (k - 1) (ap (table_in kind) (values-before vs k v some inside is) ∙ table-unread kind (view v) (items_view (drop k vs)) unread))

  -- or a pair, behind which a table stands
  behind : (row : ℕ × X) (m : finite.FinMap nat_cmp X) (b : Bool) → pair_of u32_of kind (view v) ≡ Some row → table_in kind (items_view (drop k vs)) ≡ Some m → is_some (finite.get m row.0) ≡ b
      → table_in kind (items_view (drop (k - 1) vs)) ≡ only_if (not b) (finite.insert m row.0 row.1)
  behind row m b read table there =
      ap (table_in kind) (values-before vs k v some inside is)
      ∙ table-more kind (view v) (items_view (drop k vs)) row m read table
      ∙ ap (λ c. only_if (not c) (finite.insert m row.0 row.1)) there

  -- that has its key
  pub values-twice : (row : ℕ × X) (m : finite.FinMap nat_cmp X) → pair_of u32_of kind (view v) ≡ Some row → table_in kind (items_view (drop k vs)) ≡ Some m → is_some (finite.get m row.0) ≡ true → None ≡ table_in kind (items_view vs)
  values-twice row m read table there = sym (table-none kind vs (k - 1) (behind row m true read table there))

  -- or lacks it
  pub values-more : (row : ℕ × X) (m : finite.FinMap nat_cmp X) → pair_of u32_of kind (view v) ≡ Some row → table_in kind (items_view (drop k vs)) ≡ Some m → is_some (finite.get m row.0) ≡ false
      → table_in kind (items_view (drop (k - 1) vs)) ≡ Some (finite.insert m row.0 row.1)
  values-more row m read table there = behind row m false read table there

-- ---- registers

-- what is said of the contrary of a test
pub contrary-false : (b c : Bool) → b ≡ not c → b ≡ false → c ≡ true
contrary-false b true e f = refl
contrary-false b false e f = absurd (true≢false (sym e ∙ f))

pub contrary-true : (b c : Bool) → b ≡ not c → b ≡ true → c ≡ false
contrary-true b true e f = absurd (false≢true (sym e ∙ f))
contrary-true b false e f = refl

-- where some of them are not distinct, not all are
not_distinct : (rs : List (Reg × ℕ)) (k : ℕ) → have_distinct_keys (map numbers (drop k rs)) ≡ false → have_distinct_keys (map numbers rs) ≡ false
not_distinct rs zero e = e
not_distinct [] (suc k) e = e
not_distinct (r ∷ rs) (suc k) e = rw (not_distinct rs k e, and-false)

module _ (rs : List (Reg × ℕ)) (k : ℕ) (d : Reg × ℕ) (some : 0 < k) (inside : k ≤ length rs) where
  -- the registers from the one before the k-th on
  registers-before : map numbers (drop (k - 1) rs) ≡ numbers (get_or rs (k - 1) d) ∷ map numbers (drop k rs)
  registers-before =
      let e : (k - 1) + 1 ≡ k = omega (arith, some) in
      rw (at_drop_more (map numbers) rs (k - 1) d (omega (arith, some, inside)), e) refl

  -- it stands among those behind it
  pub registers-twice : has_key (map numbers (drop k rs)) ((get_or rs (k - 1) d).0).0 ≡ true → false ≡ have_distinct_keys (map numbers rs)
  registers-twice there = sym (not_distinct rs (k - 1) (ap have_distinct_keys registers-before ∙ ap (λ b. not b && have_distinct_keys (map numbers (drop k rs))) there))

  -- or does not
  pub registers-distinct : has_key (map numbers (drop k rs)) ((get_or rs (k - 1) d).0).0 ≡ false → have_distinct_keys (map numbers (drop k rs)) ≡ true → have_distinct_keys (map numbers (drop (k - 1) rs)) ≡ true
  registers-distinct there distinct = ap have_distinct_keys registers-before ∙ ap (λ b. not b && have_distinct_keys (map numbers (drop k rs))) there ∙ distinct

  -- the registers with it
  pub registers-seen : (q : ℕ) (old new : Bool) → new ≡ cond (is_eq (nat_cmp ((get_or rs (k - 1) d).0).0 q)) true old → old ≡ has_key (map numbers (drop k rs)) q → new ≡ has_key (map numbers (drop (k - 1) rs)) q
  registers-seen q old new added is =
      added
      ∙ ap (λ b. cond b true old) ((eq_by_cmp_equiv nat_cmp_total).symm ((get_or rs (k - 1) d).0).0 q ∙ unsigned_tied q ((get_or rs (k - 1) d).0).0)
      ∙ either (q == ((get_or rs (k - 1) d).0).0) old
      ∙ ap (λ b. (q == ((get_or rs (k - 1) d).0).0) || b) is
      ∙ ap (λ rows. has_key rows q) (sym registers-before)
    where
      either : (b c : Bool) → cond b true c ≡ (b || c)
      either true c = refl
      either false c = refl
