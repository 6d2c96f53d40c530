-- Where values lie, by the tokens of a map file.
use Rattle.std.proofs.Common.{◌≡◌, ℕ, ℤ, ◌-◌, ◌<◌, List, [], ◌∷◌, ◌++◌, codes, option_map, Bool, true, false, Option, Some, None, nat_cmp, refl, sym, ap, ◌∙◌, arith}
use Rattle.std.specs.Prelude.{◌==◌, ◌&&◌, ◌||◌, not, is_some, unwrap_or}
use Rattle.std.specs.FinMap as finite
use Rattle.std.specs.FinMap.{from_entries_push, get-from_entries, nat_cmp-IsAntisymmetric}
use Rattle.std.specs.Cmp.{nat_cmp_total}
use Rattle.std.proofs.lemmas.Bool.{or_parts, or_from, true≢false, false≢true}
use Rattle.std.proofs.lemmas.List.Folds.{list_any-append}
use Rattle.json.specs.Token as token
use Rattle.json.specs.Token.{Token, begin_array, end_array}
use Rattle.json.specs.Json.{value}
use Rattle.json.proofs.Grammar.{value_is}
use Rattle.serde_json.specs.Data.{Data, null, boolean, number, string, array, object, item, no_items}
use Rattle.serde_json.specs.Read.{of_json, converted}
use Rattle.dwc_native.specs.Compiled.{Place, in_register, at_frame_offset, LabelRange}
use Rattle.dwc_map.specs.ByTokens.{Tells, TellsPlace, TellsTable}
use Rattle.dwc_map.specs.MapFile.{label_range_of, labels_of, place_of}
use Rattle.dwc_map.specs.MapValues.{◌>>=◌, only_if, u32_of, i64_of, pair_of, list_of, table_of, table_by, has_key, have_distinct_keys}
use Rattle.dwc_map.proofs.Tables.{key-of}
use Rattle.dwc_map.proofs.TokenLists.{list-told}
use Rattle.dwc_map.proofs.TokenShapes.{items-cons, items-nil, list-read}

-- a place behind its name
place-told : {A : Type 0} (kind : Data → Option A) (name : List ℕ) (depth : ℕ) (old between new : List Token) (x : A) (place : Place) → old ≡ token.string name ∷ between → (t : Tells depth kind between x new) → place_of (string name) t.found ≡ Some place → TellsPlace depth old place new
place-told kind name depth old between new x place opens t is = record {
  between = between;
  name = string name;
  number = t.found;
  named = ap (converted of_json) (ap (value depth) opens ∙ value_is depth (token.string name ∷ between));
  numbered = t.read;
  is = is;
}

pub reg-told : (depth : ℕ) (old between new : List Token) (n : ℕ) → old ≡ token.string (codes "reg") ∷ between → Tells depth u32_of between n new → TellsPlace depth old (in_register n) new
reg-told depth old between new n opens t = place-told u32_of (codes "reg") depth old between new n (in_register n) opens t (ap (option_map in_register) t.is)

pub cfa-told : (depth : ℕ) (old between new : List Token) (z : ℤ) → old ≡ token.string (codes "cfa") ∷ between → Tells depth i64_of between z new → TellsPlace depth old (at_frame_offset z) new
cfa-told depth old between new z opens t = place-told i64_of (codes "cfa") depth old between new z (at_frame_offset z) opens t (ap (option_map at_frame_offset) t.is)

pub range-told : (depth : ℕ) (old t1 t2 t3 t4 new : List Token) (start end : ℕ) (place : Place) → 0 < depth → old ≡ begin_array ∷ t1 → Tells (depth - 1) u32_of t1 start t2 → Tells (depth - 1) u32_of t2 end t3 → TellsPlace (depth - 1) t3 place t4 → t4 ≡ end_array ∷ new
    → Tells depth label_range_of old (record { place = place; start = start; end = end }) new
unfolding label_range_of
range-told depth old t1 t2 t3 t4 new start end place some opens a b p closes =
    let ds = item a.found (item b.found (item p.name (item p.number no_items))) in
    record {
      found = array ds;
      read = list-read depth old t1 new ds some opens
          (items-cons (depth - 1) t1 t2 new a.found (item b.found (item p.name (item p.number no_items))) a.read
          (items-cons (depth - 1) t2 t3 new b.found (item p.name (item p.number no_items)) b.read
          (items-cons (depth - 1) t3 p.between new p.name (item p.number no_items) p.named
          (items-cons (depth - 1) p.between t4 new p.number no_items p.numbered (items-nil (depth - 1) t4 new closes)))));
      is = rw (a.is, b.is, p.is) refl;
    }

-- ---- tables

module _ {X : Type 0} where
  -- no key stands twice where a new one is added behind others
  distinct-push : (rows : List (ℕ × X)) (key : ℕ) (x : X) → has_key rows key ≡ false → have_distinct_keys rows ≡ true → have_distinct_keys (rows ++ (key, x) ∷ []) ≡ true
  distinct-push [] key x new distinct = refl
  distinct-push (row ∷ rows) key x new distinct =
      let parts = or_parts (key == row.0) (has_key rows key) new in
      let others = both (has_key rows row.0) (have_distinct_keys rows) distinct in
      let there : has_key (rows ++ (key, x) ∷ []) row.0 ≡ false = list_any-append (λ r. row.0 == r.0) rows ((key, x) ∷ []) ∙ or_from (has_key rows row.0) ((row.0 == key) || false) others.0 (or_from (row.0 == key) false (turned row.0 key parts.0) refl) in
      rw (there, distinct-push rows key x parts.1 others.1)
    where
      both : (a b : Bool) → (not a && b) ≡ true → (a ≡ false) × (b ≡ true)
      both true b e = absurd (false≢true e)
      both false b e = (refl, e)

      turned : (a b : ℕ) → (b == a) ≡ false → (a == b) ≡ false
      turned a b e = grind arith

  -- a table with a row more, whose key is new
  pub table-push : (rows : List (ℕ × X)) (table : finite.FinMap nat_cmp X) (key : ℕ) (x : X) → table_by rows ≡ Some table → is_some (finite.get table key) ≡ false → table_by (rows ++ (key, x) ∷ []) ≡ Some (finite.insert table key x)
  table-push rows table key x is new = go (have_distinct_keys rows) refl is
    where
      none : (o : Option X) → is_some o ≡ false → o ≡ None
      none None e = refl
      none (Some y) e = absurd (true≢false e)

      go : (b : Bool) → have_distinct_keys rows ≡ b → only_if b (finite.from_entries {R = nat_cmp} rows) ≡ Some table → table_by (rows ++ (key, x) ∷ []) ≡ Some (finite.insert table key x)
      go false distinct e = absurd (cc)
      go true distinct e =
          let same : finite.from_entries {R = nat_cmp} rows ≡ table = ap (λ o. unwrap_or o table) e in
          let absent : finite.get (finite.from_entries {R = nat_cmp} rows) key ≡ None = ap (λ m. finite.get m key) same ∙ none (finite.get table key) new in
          let unkept : has_key rows key ≡ false = sym (key-of rows key) ∙ ap is_some absent in
          ap (λ b. only_if b (finite.from_entries {R = nat_cmp} (rows ++ (key, x) ∷ []))) (distinct-push rows key x unkept distinct)
          ∙ ap Some (from_entries_push nat_cmp_total nat_cmp-IsAntisymmetric rows key x (sym (get-from_entries nat_cmp_total rows key) ∙ absent) ∙ ap (λ m. finite.insert m key x) same)

  table-of : (kind : Data → Option X) (d : Data) → table_of kind d ≡ (list_of (pair_of u32_of kind) d >>= table_by)
  table-of kind null = refl
  table-of kind (boolean b) = refl
  table-of kind (number n) = refl
  table-of kind (string s) = refl
  table-of kind (array ds) = refl
  table-of kind (object ms) = refl

  pub table-told : (kind : Data → Option X) (depth : ℕ) (old start new : List Token) (table : finite.FinMap nat_cmp X) → 0 < depth → old ≡ begin_array ∷ start → TellsTable (depth - 1) kind start table new → Tells depth (table_of kind) old table new
  table-told kind depth old start new table some opens t =
      let l = list-told (pair_of u32_of kind) depth old start new t.rows some opens t.read in
      record { found = l.found; read = l.read; is = table-of kind l.found ∙ ap (λ o. o >>= table_by) l.is ∙ t.is }

pub labels-told : (depth : ℕ) (old start new : List Token) (table : finite.FinMap nat_cmp (List LabelRange)) → 0 < depth → old ≡ begin_array ∷ start → TellsTable (depth - 1) (list_of label_range_of) start table new → Tells depth labels_of old table new
unfolding labels_of
labels-told depth old start new table some opens t =
    let l = table-told (list_of label_range_of) depth old start new table some opens t in
    record { found = l.found; read = l.read; is = l.is }
