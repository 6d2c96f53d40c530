-- A list of values of a kind, as its items are read one after another.
use Rattle.std.proofs.Common.{◌≡◌, ℕ, ◌-◌, ◌<◌, ◌≤◌, List, [], ◌∷◌, ◌++◌, map, length, Result, Ok, Err, Option, Some, None, option_map, option_and_then, refl, sym, ap, ap₂, ◌∙◌, subst, arith}
use Rattle.std.proofs.lemmas.List.{append-nil}
use Rattle.std.specs.Prelude.{IfOk, OnOk}
use Rattle.json.specs.Token.{Token, begin_array}
use Rattle.json.specs.Json as json
use Rattle.json.specs.Json.{Parse, parse_map, after_end_array, items, value}
use Rattle.json.proofs.Grammar.{items_end, items_more, value-begin_array}
use Rattle.serde_json.specs.Data.{Data, array, Items, no_items, item}
use Rattle.serde_json.specs.View.{items_of}
use Rattle.serde_json.specs.Read.{of_json, of_items, converted}
use Rattle.dwc_map.specs.ByTokens.{Tells}
use Rattle.dwc_map.specs.MapValues.{◌>>=◌, all_items, list_of}

pub if-ok : {A E : Type 0} (P Q : A → Type 0) (r : Result A E) → ((x : A) → P x → Q x) → IfOk r P → IfOk r Q
if-ok P Q (Ok x) more h = more x h
if-ok P Q (Err e) more h = tt

pub on-ok : {A E : Type 0} (P : Type 0) (r : Result A E) → P → OnOk r P
on-ok P (Ok x) h = h
on-ok P (Err e) h = tt

pub map-push : {A B : Type 0} (f : A → B) (xs : List A) (x : A) → map f (xs ++ x ∷ []) ≡ map f xs ++ f x ∷ []
map-push f [] x = refl
map-push f (z ∷ xs) x = ap (λ ys. f z ∷ ys) (map-push f xs x)

pub both-more : {A B : Type 0} (f g : A → B) (xs : List A) (x : A) → map f xs ≡ map g xs → f x ≡ g x → map f (xs ++ x ∷ []) ≡ map g (xs ++ x ∷ [])
both-more f g xs x same last = map-push f xs x ∙ ap₂ (λ ys y. ys ++ y ∷ []) same last ∙ sym (map-push g xs x)

-- what is converted, and what is left
pub converted_some : {A B : Type 0} (f : A → Option B) (o : Option (A × List Token)) (b : B) (r : List Token) → converted f o ≡ Some (b, r) → (a : A) × (o ≡ Some (a, r)) × (f a ≡ Some b)
converted_some f None b r e = absurd (cc)
converted_some {A} {B} f (Some p) b r e = go (f p.0) refl e
  where
    go : (x : Option B) → f p.0 ≡ x → option_map {U = B × List Token} (λ y. (y, p.1)) x ≡ Some (b, r) → (a : A) × (Some p ≡ Some (a, r)) × (f a ≡ Some b)
    go None is h = absurd (cc)
    go (Some y) is h =
        let rest : p.1 ≡ r = ap (λ (o : Option (B × List Token)). elim o [ None ↦ r | Some q ↦ q.1 ]) h in
        let same : y ≡ b = ap (λ (o : Option (B × List Token)). elim o [ None ↦ b | Some q ↦ q.0 ]) h in
        (p.0, ap (λ s. Some (p.0, s)) rest, is ∙ ap (λ x. Some x) same)

module _ {A : Type 0} (kind : Data → Option A) where
  -- items of the kind
  abbrev pub of_kind : json.Items → Option (List A)
  of_kind js = option_and_then (all_items kind) (of_items js)

  abbrev typed : Option (json.Items × List Token) → Option (List A × List Token)
  typed o = converted of_kind o

  joined : (j : json.Json) (d : Data) (x : A) → of_json j ≡ Some d → kind d ≡ Some x → (o : Option (json.Items × List Token)) → typed (parse_map (json.item j) o) ≡ parse_map (λ xs. x ∷ xs) (typed o)
  joined j d x is told None = refl
  joined j d x is told (Some p) =
      ap (λ o. option_map (λ b. (b, p.1)) (option_and_then (all_items kind) (option_and_then (λ e. option_map (item e) (of_items p.0)) o))) is
      ∙ go (of_items p.0)
    where
      last : (o : Option A) (xs : Option (List A)) → o ≡ Some x → option_map {U = List A × List Token} (λ b. (b, p.1)) (o >>= λ y. xs >>= λ ys. Some (y ∷ ys)) ≡ parse_map (λ ys. x ∷ ys) (option_map (λ b. (b, p.1)) xs)
      last None xs e = absurd (cc)
      last (Some y) None e = refl
      last (Some y) (Some ys) e = ap (λ (o : Option A). elim o [ None ↦ None | Some z ↦ Some (z ∷ ys, p.1) ]) e

      go : (o : Option Items) → option_map {U = List A × List Token} (λ b. (b, p.1)) (option_and_then (all_items kind) (option_map (item d) o)) ≡ parse_map (λ xs. x ∷ xs) (option_map (λ b. (b, p.1)) (option_and_then (all_items kind) o))
      go None = refl
      go (Some ds) = last (kind d) (all_items kind ds) told

  module _ (depth : ℕ) where
    abbrev left : ℕ → List Token → Option (List A × List Token)
    left n ts = typed (items (value depth) n ts)

    -- Items were read, and are those of the whole list with those to come.
    pub record ItemsAlong (start now : List Token) (xs : List A) : Type 0 where
      pub most : ℕ
      pub enough : length now ≤ most
      pub later : length now ≤ length start
      pub read : left (length start) start ≡ parse_map (λ ys. xs ++ ys) (left most now)

    none-before : (o : Option (List A × List Token)) → o ≡ parse_map (λ ys. [] ++ ys) o
    none-before None = refl
    none-before (Some p) = refl

    pub items-start : (start : List Token) → ItemsAlong start start []
    items-start start = record { most = length start; enough = omega arith; later = omega arith; read = none-before (left (length start) start) }

    append-more : (xs : List A) (x : A) (ys : List A) → xs ++ x ∷ ys ≡ (xs ++ x ∷ []) ++ ys
    append-more [] x ys = refl
    append-more (z ∷ xs) x ys = ap (λ zs. z ∷ zs) (append-more xs x ys)

    one-more : (xs : List A) (x : A) (o : Option (List A × List Token)) → parse_map (λ ys. xs ++ ys) (parse_map (λ ys. x ∷ ys) o) ≡ parse_map (λ ys. (xs ++ x ∷ []) ++ ys) o
    one-more xs x None = refl
    one-more xs x (Some p) = ap (λ ys. Some (ys, p.1)) (append-more xs x p.0)

    pub items-next : (start now next : List Token) (xs : List A) (x : A) → after_end_array now ≡ None → Tells depth kind now x next → length next < length now → ItemsAlong start now xs → ItemsAlong start next (xs ++ x ∷ [])
    items-next start now next xs x going told less a =
        let j = converted_some of_json (value depth now) told.found next told.read in
        let some : 0 < a.most = omega (arith, less, a.enough) in
        let turn : left a.most now ≡ parse_map (λ ys. x ∷ ys) (left (a.most - 1) next) = ap typed (items_more (value depth) a.most now next j.0 some going j.1) ∙ joined j.0 told.found x j.2 told.is (items (value depth) (a.most - 1) next) in
        record {
          most = a.most - 1;
          enough = omega (arith, less, a.enough);
          later = omega (arith, less, a.later);
          read = a.read ∙ ap (parse_map (λ ys. xs ++ ys)) turn ∙ one-more xs x (left (a.most - 1) next);
        }

    -- the same, behind the test for the end
    pub items-added : (start now tested next : List Token) (xs ys : List A) (x : A) → (after_end_array now ≡ None) × (tested ≡ now) → Tells depth kind tested x next → length next < length tested → ys ≡ xs ++ x ∷ [] → ItemsAlong start now xs
        → ItemsAlong start next ys
    items-added start now tested next xs ys x going told less is a =
        subst (ItemsAlong start next) (sym is)
        (items-next start now next xs x going.0 (subst (λ ts. Tells depth kind ts x next) going.1 told) (subst (λ ts. length next < length ts) going.1 less) a)

    -- and of what is pushed to other items
    pub items-pushed : {X : Type 0} (view : X → A) (start now tested next : List Token) (xs ys : List X) (x : X) → (after_end_array now ≡ None) × (tested ≡ now) → Tells depth kind tested (view x) next → length next < length tested → ys ≡ xs ++ x ∷ [] → ItemsAlong start now (map view xs)
        → ItemsAlong start next (map view ys)
    items-pushed view start now tested next xs ys x going told less is a =
        items-added start now tested next (map view xs) (map view ys) (view x) going told less (ap (map view) is ∙ map-push view xs x) a

    pub items-over : (start now rest : List Token) (xs : List A) → after_end_array now ≡ Some rest → ItemsAlong start now xs → left (length start) start ≡ Some (xs, rest)
    items-over start now rest xs over a =
        a.read ∙ ap (parse_map (λ ys. xs ++ ys)) (ap typed (items_end (value depth) a.most now rest a.enough over)) ∙ ap (λ ys. Some (ys, rest)) (append-nil xs)

  -- What is read of the items behind the bracket of a list is told by the list.
  pub list-told : (depth : ℕ) (old start rest : List Token) (xs : List A) → 0 < depth → old ≡ begin_array ∷ start → left (depth - 1) (length start) start ≡ Some (xs, rest) → Tells depth (list_of kind) old xs rest
  list-told depth old start rest xs some opens read =
      let js = converted_some of_kind (items (value (depth - 1)) (length start) start) xs rest read in
      let parts = go (of_items js.0) refl js.2 in
      let first : value depth old ≡ Some (json.array js.0, rest) = ap (value depth) opens ∙ value-begin_array depth start some ∙ ap (parse_map json.array) js.1 in
      record { found = array parts.0; read = ap (converted of_json) first ∙ ap (λ o. option_map (λ d. (d, rest)) (option_map array o)) parts.1; is = parts.2 }
    where
      go : (o : Option Items) → of_items (converted_some of_kind (items (value (depth - 1)) (length start) start) xs rest read).0 ≡ o → option_and_then (all_items kind) o ≡ Some xs → (ds : Items) × (of_items (converted_some of_kind (items (value (depth - 1)) (length start) start) xs rest read).0 ≡ Some ds) × (all_items kind ds ≡ Some xs)
      go None is e = absurd (cc)
      go (Some ds) is e = (ds, is, e)

-- ---- items of any kind

one-some : (d : Data) (ds : Items) (xs : List Data) (o : Option (List Data)) → ((ys : List Data) → o ≡ Some ys → ds ≡ items_of ys) → (o >>= λ ys. Some (d ∷ ys)) ≡ Some xs → item d ds ≡ items_of xs
one-some d ds xs None rest h = absurd (cc)
one-some d ds xs (Some ys) rest h = ap (item d) (rest ys refl) ∙ ap (λ (o : Option (List Data)). elim o [ None ↦ no_items | Some zs ↦ items_of zs ]) h

each-some : (ds : Items) (xs : List Data) → all_items (λ d. Some d) ds ≡ Some xs → ds ≡ items_of xs
each-some no_items xs e = ap (λ (o : Option (List Data)). elim o [ None ↦ no_items | Some ys ↦ items_of ys ]) e
each-some (item d ds) xs e = one-some d ds xs (all_items (λ x. Some x) ds) (each-some ds) e

-- What is read of the items behind the bracket of a list, as its items.
pub items-read : (depth : ℕ) (start rest : List Token) (xs : List Data) → converted (of_kind (λ d. Some d)) (items (value depth) (length start) start) ≡ Some (xs, rest) → converted of_items (items (value depth) (length start) start) ≡ Some (items_of xs, rest)
items-read depth start rest xs read =
    let js = converted_some (of_kind (λ d. Some d)) (items (value depth) (length start) start) xs rest read in
    ap (converted of_items) js.1 ∙ go js.0 (of_items js.0) refl js.2
  where
    go : (j : json.Items) (o : Option Items) → of_items j ≡ o → option_and_then (all_items (λ d. Some d)) o ≡ Some xs → converted of_items (Some (j, rest)) ≡ Some (items_of xs, rest)
    go j None is e = absurd (cc)
    go j (Some ds) is e = ap (option_map (λ d. (d, rest))) is ∙ ap (λ d. Some (d, rest)) (each-some ds xs e)

-- and as one list more
pub array-read : (depth : ℕ) (old start rest : List Token) (ds : Items) → 0 < depth → old ≡ begin_array ∷ start → converted of_items (items (value (depth - 1)) (length start) start) ≡ Some (ds, rest) → converted of_json (value depth old) ≡ Some (array ds, rest)
array-read depth old start rest ds some opens read =
    let js = converted_some of_items (items (value (depth - 1)) (length start) start) ds rest read in
    ap (converted of_json) (ap (value depth) opens ∙ value-begin_array depth start some ∙ ap (parse_map json.array) js.1) ∙ ap (λ o. option_map (λ d. (d, rest)) (option_map array o)) js.2
