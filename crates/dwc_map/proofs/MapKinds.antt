-- Names and kinds of the map file's values.
use Rattle.std.proofs.Common.{◌≡◌, ◌≢◌, ◌<◌, ◌+◌, List, ℕ, suc, Option, Some, None, Bool, true, false, [], ◌∷◌, ◌++◌, length, map, drop, get_or, option_map, bytes_eq, codes, sym, ap, refl, ◌∙◌}
use Rattle.std.specs.Str.{IsUtf8, is_utf8}
use Rattle.std.proofs.lemmas.Str.{IsUtf8-from_is_utf8, is_utf8-from_IsUtf8}
use Rattle.std.proofs.lemmas.List.{append_assoc, at_drop_more}
use Rattle.std.proofs.Math.Bool.{and-false}
use Rattle.std.proofs.lemmas.Slice.Eq.{bytes_eq-Decides}
use Rattle.serde_json.specs.Data.{Data, null, boolean, number, string, array, object, no_items, item}
use Rattle.serde_json.specs.Read.{read}
use Rattle.serde_json.specs.Find.{as_array}
use Rattle.serde_json.specs.View.{view, items_view}
use Rattle.serde_json.specs.declared.value.Value.{Value}
use Rattle.dwc_map.specs.MapFile.{MapModule, architectures, have_counts, map_in, map_in_bytes}
use Rattle.dwc_map.specs.MapValues.{named_in, pair_of, four_of, list_of, table_in, table_of, all_items, ◌>>=◌}
use Rattle.dwc_map.proofs.TokenLists.{map-push}

-- a test that cannot hold is false
false_from_not : (b : Bool) → (b ≡ true → ⊥) → b ≡ false
false_from_not true h = absurd (h refl)
false_from_not false h = refl

-- two texts that differ
pub bytes_eq-false : (xs ys : List ℕ) → (ys ≡ xs → ⊥) → bytes_eq xs ys ≡ false
bytes_eq-false xs ys h = false_from_not (bytes_eq xs ys) (λ e. h (sym ((bytes_eq-Decides xs ys).0 e)))

-- a text that is the name of no architecture
pub named_in-no_architecture : (name : List ℕ) → (name ≡ codes "x86_64" → ⊥) → (name ≡ codes "aarch64" → ⊥) → (name ≡ codes "s390x" → ⊥) → (name ≡ codes "riscv64" → ⊥) → (name ≡ codes "pulley" → ⊥)
    → named_in architectures name ≡ None
named_in-no_architecture name h1 h2 h3 h4 h5 =
    rw (bytes_eq-false (codes "x86_64") name h1, bytes_eq-false (codes "aarch64") name h2, bytes_eq-false (codes "s390x") name h3, bytes_eq-false (codes "riscv64") name h4, bytes_eq-false (codes "pulley") name h5)

-- a pair by its parts
pub pair_of_parts : {A B : Type 0} (first : Data → Option A) (second : Data → Option B) (d : Data) → pair_of first second d ≡ pair_of Some Some d >>= λ p. first p.0 >>= λ x. second p.1 >>= λ y. Some (x, y)
pair_of_parts f g null = refl
pair_of_parts f g (boolean b) = refl
pair_of_parts f g (number n) = refl
pair_of_parts f g (string s) = refl
pair_of_parts f g (array no_items) = refl
pair_of_parts f g (array (item d no_items)) = refl
pair_of_parts f g (array (item d (item e no_items))) = refl
pair_of_parts f g (array (item d (item e (item h ds)))) = refl
pair_of_parts f g (object ms) = refl

-- the items of a list of another length than two are no pair
items_of_another_length : (vs : List Value) → length vs ≢ 2 → None ≡ pair_of Some Some (array (items_view vs))
items_of_another_length [] h = refl
items_of_another_length (v ∷ []) h = refl
items_of_another_length (v ∷ w ∷ []) h = absurd (h refl)
items_of_another_length (v ∷ w ∷ x ∷ vs) h = refl

-- a list of another length than two is no pair
pub pair_of-another_length : (vs : List Value) (d : Data) → Some (items_view vs) ≡ as_array d → length vs ≢ 2 → None ≡ pair_of Some Some d
pair_of-another_length vs null e h = cc
pair_of-another_length vs (boolean b) e h = cc
pair_of-another_length vs (number n) e h = cc
pair_of-another_length vs (string s) e h = cc
pair_of-another_length vs (array ds) e h = let same : items_view vs ≡ ds = cc in rw same at (items_of_another_length vs h)
pair_of-another_length vs (object ms) e h = cc

-- a list by its items
pub list_of_items : {A : Type 0} (kind : Data → Option A) (d : Data) → list_of kind d ≡ as_array d >>= all_items kind
list_of_items kind null = refl
list_of_items kind (boolean b) = refl
list_of_items kind (number n) = refl
list_of_items kind (string s) = refl
list_of_items kind (array ds) = refl
list_of_items kind (object ms) = refl

-- items that were read, behind others
append-front : {A : Type 0} (xs : List A) (x : A) (o : Option (List A)) → option_map (λ ys. (xs ++ x ∷ []) ++ ys) o ≡ option_map (λ ys. xs ++ ys) (o >>= λ ys. Some (x ∷ ys))
append-front xs x None = refl
append-front xs x (Some ys) = ap (λ zs. Some zs) (append_assoc xs (x ∷ []) ys)

-- the values of a list from one on that is of a kind
values-next : {A : Type 0} (kind : Data → Option A) (vs : List Value) (i : ℕ) (v : Value) (x : A) → i < length vs → v ≡ get_or vs i v → kind (view v) ≡ Some x
    → all_items kind (items_view (drop i vs)) ≡ all_items kind (items_view (drop (i + 1) vs)) >>= λ ys. Some (x ∷ ys)
values-next kind vs i v x inside at read =
    let later = all_items kind (items_view (drop (i + 1) vs)) in
    ap (all_items kind) (at_drop_more items_view vs i v inside)
    ∙ ap (λ w. kind (view w) >>= λ y. later >>= λ ys. Some (y ∷ ys)) (sym at)
    ∙ ap (λ o. o >>= λ y. later >>= λ ys. Some (y ∷ ys)) read

-- Values of a list were read, and are those of the whole list with those to come; so they are with the next one.
pub values-pushed : {X A : Type 0} (kind : Data → Option A) (f : X → A) (vs : List Value) (i : ℕ) (v : Value) (xs ys : List X) (x : X) (whole : Option (List A)) → i < length vs → v ≡ get_or vs i v → option_map f (Some x) ≡ kind (view v) → ys ≡ xs ++ x ∷ []
    → option_map (λ zs. map f xs ++ zs) (all_items kind (items_view (drop i vs))) ≡ whole → option_map (λ zs. map f ys ++ zs) (all_items kind (items_view (drop (i + 1) vs))) ≡ whole
values-pushed kind f vs i v xs ys x whole inside at read is before =
    let later = all_items kind (items_view (drop (i + 1) vs)) in
    ap (λ zs. option_map (λ us. zs ++ us) later) (ap (map f) is ∙ map-push f xs x)
    ∙ append-front (map f xs) (f x) later
    ∙ ap (option_map (λ zs. map f xs ++ zs)) (sym (values-next kind vs i v (f x) inside at (sym read)))
    ∙ before

-- a table by its items
pub table_of_items : {X : Type 0} (kind : Data → Option X) (d : Data) → table_of kind d ≡ as_array d >>= table_in kind
table_of_items kind null = refl
table_of_items kind (boolean b) = refl
table_of_items kind (number n) = refl
table_of_items kind (string s) = refl
table_of_items kind (array ds) = refl
table_of_items kind (object ms) = refl

-- the items of a list of another length than four are no four
items_of_another_length-four : (vs : List Value) → length vs ≢ 4 → None ≡ four_of (array (items_view vs))
items_of_another_length-four [] h = refl
items_of_another_length-four (v ∷ []) h = refl
items_of_another_length-four (v ∷ w ∷ []) h = refl
items_of_another_length-four (v ∷ w ∷ x ∷ []) h = refl
items_of_another_length-four (v ∷ w ∷ x ∷ y ∷ []) h = absurd (h refl)
items_of_another_length-four (v ∷ w ∷ x ∷ y ∷ z ∷ vs) h = refl

-- a list of another length than four is no four
pub four_of-another_length : (vs : List Value) (d : Data) → Some (items_view vs) ≡ as_array d → length vs ≢ 4 → None ≡ four_of d
four_of-another_length vs null e h = cc
four_of-another_length vs (boolean b) e h = cc
four_of-another_length vs (number n) e h = cc
four_of-another_length vs (string s) e h = cc
four_of-another_length vs (array ds) e h = let same : items_view vs ≡ ds = cc in rw same at (items_of_another_length-four vs h)
four_of-another_length vs (object ms) e h = cc

-- lists of another length have not these counts
pub have_counts-another_length : (ns : List ℕ) (ms : List MapModule) → length ms ≢ length ns → false ≡ have_counts ns ms
have_counts-another_length [] [] h = absurd (h refl)
have_counts-another_length [] (m ∷ ms) h = refl
have_counts-another_length (n ∷ ns) [] h = refl
have_counts-another_length (n ∷ ns) (m ∷ ms) h =
    let later : have_counts ns ms ≡ false = sym (have_counts-another_length ns ms (λ e. h (ap suc e))) in
    rw (later, and-false)

-- bytes that were read have the value of what was read
pub map_in_bytes_read : (bytes : List ℕ) (d : Data) → IsUtf8 bytes → read bytes ≡ Some d → map_in_bytes bytes ≡ map_in d
unfolding map_in_bytes
map_in_bytes_read bytes d text is = rw (is_utf8-from_IsUtf8 bytes text, is)

-- bytes that are no JSON text have no value
pub map_in_bytes_unread : (bytes : List ℕ) → (IsUtf8 bytes → read bytes ≡ None) → map_in_bytes bytes ≡ None
unfolding map_in_bytes
map_in_bytes_unread bytes none = unread (is_utf8 bytes) refl
  where
    unread : (b : Bool) → is_utf8 bytes ≡ b → map_in_bytes bytes ≡ None
    unread true is = rw (is, none (IsUtf8-from_is_utf8 bytes is))
    unread false is = rw is
