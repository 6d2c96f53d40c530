-- Lists and objects of a known form, read value by value.
use Rattle.std.proofs.Common.{◌≡◌, ℕ, ◌-◌, ◌^◌, ◌<◌, ◌≤◌, List, ◌∷◌, length, Option, Some, None, refl, sym, ap, ◌∙◌, arith, lt-ltb}
use Rattle.json.specs.Token as token
use Rattle.json.specs.Token.{Token, begin_array, begin_object, end_array}
use Rattle.json.specs.Json as json
use Rattle.json.specs.Json.{parse_map, after_end_array, read_key, items, members, value}
use Rattle.json.proofs.Grammar.{closed_array, items_end, items_more, left, members_end, members_more, read_key-shorter, skip_value-shorter, value_is}
use Rattle.serde_json.specs.Data.{Data, null, array, number, unsigned, Items, no_items, item, Members, put}
use Rattle.serde_json.specs.Read.{of_json, of_items, of_members, converted}
use Rattle.dwc_map.specs.ByTokens.{IsNumber, IsSource, Tells}
use Rattle.dwc_map.specs.MapValues.{pair_of, source_of, u32_of}
use Rattle.dwc_map.proofs.TokenLists.{array-read, converted_some}
use Rattle.dwc_map.proofs.TokenMembers.{with-member}

-- a value stands in front of some tokens
abbrev pub Reads : ℕ → List Token → Data → List Token → Type 0
Reads depth old d new = converted of_json (value depth old) ≡ Some (d, new)

-- the items to come of a list
abbrev pub ReadsItems : ℕ → List Token → Items → List Token → Type 0
ReadsItems depth old ds new = (n : ℕ) → length old ≤ n → converted of_items (items (value depth) n old) ≡ Some (ds, new)

-- the members to come of an object, behind those that were read
abbrev pub ReadsMembers : ℕ → List Token → Members → Members → List Token → Type 0
ReadsMembers depth old before all new = (n : ℕ) → length old ≤ n → converted (λ ms. of_members ms before) (members (value depth) n old) ≡ Some (all, new)

-- a value does not begin with the bracket that closes a list
still : (depth : ℕ) (ts r : List Token) (j : json.Json) → value depth ts ≡ Some (j, r) → after_end_array ts ≡ None
still depth ts r j is = go (after_end_array ts) refl
  where
    never : (x : List Token) → ts ≡ end_array ∷ x → ⊥
    never x e =
        let h : ◌≡◌ {A = Option (json.Json × List Token)} None (Some (j, r)) = sym (value_is depth (end_array ∷ x)) ∙ ap (value depth) (sym e) ∙ is in
        absurd (cc)

    go : (o : Option (List Token)) → after_end_array ts ≡ o → after_end_array ts ≡ None
    go None e = e
    go (Some x) e = absurd (never x (closed_array ts x e))

shorter : (depth : ℕ) (old new : List Token) (d : Data) → Reads depth old d new → length new < length old
shorter depth old new d read = let j = converted_some of_json (value depth old) d new read in skip_value-shorter depth old new (ap left j.1)

pub items-closed : (depth : ℕ) (old new : List Token) → after_end_array old ≡ Some new → ReadsItems depth old no_items new
items-closed depth old new closes n enough = ap (converted of_items) (items_end (value depth) n old new enough closes)

pub items-nil : (depth : ℕ) (old new : List Token) → old ≡ end_array ∷ new → ReadsItems depth old no_items new
items-nil depth old new closes = items-closed depth old new (ap after_end_array closes)

with-item : (j : json.Json) (d : Data) (ds : Items) (new : List Token) (o : Option (json.Items × List Token)) → of_json j ≡ Some d → converted of_items o ≡ Some (ds, new) → converted of_items (parse_map (json.item j) o) ≡ Some (item d ds, new)
with-item j d ds new o is read =
    let js = converted_some of_items o ds new read in
    ap (λ p. converted of_items (parse_map (json.item j) p)) js.1 ∙ rw (is, js.2)

pub items-cons : (depth : ℕ) (old mid new : List Token) (d : Data) (ds : Items) → Reads depth old d mid → ReadsItems depth mid ds new → ReadsItems depth old (item d ds) new
items-cons depth old mid new d ds read more n enough =
    let j = converted_some of_json (value depth old) d mid read in
    let less = shorter depth old mid d read in
    let some : 0 < n = omega (arith, less, enough) in
    ap (converted of_items) (items_more (value depth) n old mid j.0 some (still depth old mid j.0 j.1) j.1)
    ∙ with-item j.0 d ds new (items (value depth) (n - 1) mid) j.2 (more (n - 1) (omega (arith, less, enough)))

pub list-read : (depth : ℕ) (old start new : List Token) (ds : Items) → 0 < depth → old ≡ begin_array ∷ start → ReadsItems (depth - 1) start ds new → Reads depth old (array ds) new
list-read depth old start new ds some opens read = array-read depth old start new ds some opens (read (length start) (omega arith))

pub members-nil : (depth : ℕ) (old new : List Token) (all : Members) → read_key old ≡ Some (None, new) → ReadsMembers depth old all all new
members-nil depth old new all over n enough = ap (converted (λ ms. of_members ms all)) (members_end (value depth) n old new enough over)

pub members-cons : (depth : ℕ) (old behind mid new : List Token) (k : List ℕ) (d : Data) (before all : Members) → read_key old ≡ Some (Some k, behind) → Reads depth behind d mid → ReadsMembers depth mid (put k d before) all new → ReadsMembers depth old before all new
members-cons depth old behind mid new k d before all key read more n enough =
    let j = converted_some of_json (value depth behind) d mid read in
    let less : length mid < length old = omega (arith, shorter depth behind mid d read, read_key-shorter old (Some k) behind key) in
    let some : 0 < n = omega (arith, less, enough) in
    ap (converted (λ ms. of_members ms before)) (members_more (value depth) n k old behind mid j.0 some key j.1)
    ∙ with-member k j.0 d before j.2 (members (value depth) (n - 1) mid) ∙ more (n - 1) (omega (arith, less, enough))

-- ---- numbers, sources and pairs

pub number-told : (depth : ℕ) (old new : List Token) (n : ℕ) → (s : List ℕ) × (old ≡ token.number s ∷ new) × IsNumber s n → Tells depth u32_of old n new
number-told depth old new n t = record {
  found = number (unsigned n);
  read = ap (converted of_json) (ap (value depth) t.1 ∙ value_is depth (token.number t.0 ∷ new)) ∙ rw (t.2.0);
  is = rw (lt-ltb n (2 ^ 32) t.2.1);
}

pub source-told : (depth : ℕ) (old new : List Token) (o : Option ℕ) → IsSource old o new → Tells depth source_of old o new
source-told depth old new None is = record { found = null; read = ap (converted of_json) (ap (value depth) is ∙ value_is depth (token.null ∷ new)); is = refl }
source-told depth old new (Some n) t = record {
  found = number (unsigned n);
  read = ap (converted of_json) (ap (value depth) t.1 ∙ value_is depth (token.number t.0 ∷ new)) ∙ rw (t.2.0);
  is = rw (lt-ltb n (2 ^ 32 - 1) t.3);
}

pub pair-told : {A B : Type 0} (first : Data → Option A) (second : Data → Option B) (depth : ℕ) (old start mid last new : List Token) (x : A) (y : B) → 0 < depth → old ≡ begin_array ∷ start → Tells (depth - 1) first start x mid → Tells (depth - 1) second mid y last → last ≡ end_array ∷ new
    → Tells depth (pair_of first second) old (x, y) new
pair-told first second depth old start mid last new x y some opens a b closes = record {
  found = array (item a.found (item b.found no_items));
  read = list-read depth old start new (item a.found (item b.found no_items)) some opens
      (items-cons (depth - 1) start mid new a.found (item b.found no_items) a.read (items-cons (depth - 1) mid last new b.found no_items b.read (items-nil (depth - 1) last new closes)));
  is = rw (a.is, b.is);
}
