-- The entries of a map in order: each key once, and with its last value.
use Rattle.std.proofs.Common.{◌≡◌, ℕ, ◌+◌, ◌<◌, drop, length, get_or, List, [], ◌∷◌, map, refl, sym, subst, ◌∙◌, ap}
use Rattle.std.proofs.lemmas.List.{drop_more}
use Rattle.std.specs.Prelude.{Option, Some, None, T, Bool, true, false, ◌&&◌, cond}
use Rattle.std.specs.declared.cmp.Ordering.{Ordering}
use Rattle.std.specs.declared.cmp.Ordering.TheVariants.{Less, Equal, Greater}
use Rattle.std.specs.List.{fold, AllByRecursion}
use Rattle.std.specs.List.Sorted.{IsStrictlySortedBy}
use Rattle.std.specs.Ordering.{eq_by_cmp, match_ordering, is_eq, is_lt, nat_cmp, ordering_then}
use Rattle.std.specs.BTreeMap.{BTreeMap, IsOrdered, get, is_at, insert_entry}
use Rattle.std.specs.Map.{lookup}
use Rattle.std.specs.Cmp.{IsTotalOrder, nat_cmp_total, then_total, on_total}
use Rattle.std.specs.FinMap.{put, find, is_sorted, IsAntisymmetric, nat_cmp-IsAntisymmetric}
use Rattle.std.specs.FinMap.Entries.{below_all, is_sorted-put, find-put, same_entries, by_order}
use Rattle.dwc_base.specs.SortedEntries.{sorted_entries, pair_cmp}

pub pair_cmp-total : IsTotalOrder pair_cmp
pair_cmp-total = then_total (on_total (λ x. x.0) nat_cmp_total) (on_total (λ x. x.1) nat_cmp_total)

pub pair_cmp-IsAntisymmetric : IsAntisymmetric pair_cmp
pair_cmp-IsAntisymmetric x y e = go (nat_cmp x.0 y.0) refl e
  where
    go : (r : Ordering) → nat_cmp x.0 y.0 ≡ r → ordering_then r (nat_cmp x.1 y.1) ≡ Equal → x ≡ y
    go Less p e = absurd (subst (λ r. T (is_eq r)) (sym e) tt)
    go Equal p e = λ i. (nat_cmp-IsAntisymmetric x.0 y.0 p i, nat_cmp-IsAntisymmetric x.1 y.1 e i)
    go Greater p e = absurd (subst (λ r. T (is_eq r)) (sym e) tt)

-- ---- the order

sorted-from : {K X : Type 0} (R : K → K → Ordering) (o : IsTotalOrder R) (sorted entries : List (K × X)) → T (is_sorted R sorted) → T (is_sorted R (fold (λ es e. put R e.0 e.1 es) sorted entries))
sorted-from R o sorted [] h = h
sorted-from R o sorted (e ∷ es) h = sorted-from R o (put R e.0 e.1 sorted) es (is_sorted-put R o e.0 e.1 sorted h)

pub sorted_entries-is_sorted : {K X : Type 0} (R : K → K → Ordering) (o : IsTotalOrder R) (entries : List (K × X)) → T (is_sorted R (sorted_entries R entries))
sorted_entries-is_sorted R o entries = sorted-from R o [] entries tt

less : (r : Ordering) → T (is_lt r) → r ≡ Less
less Less h = refl
less Equal h = absurd h
less Greater h = absurd h

both : (a b : Bool) → T (a && b) → T a × T b
both true b h = (tt, h)
both false b h = absurd h

above-all : {K X : Type 0} (R : K → K → Ordering) (key : K) (es : List (K × X)) → T (below_all R key es) → AllByRecursion (λ y. R key y ≡ Less) (map (λ e. e.0) es)
above-all R key [] h = tt
above-all R key (e ∷ es) h =
    let split = both (is_lt (R key e.0)) (below_all R key es) h in
    (less (R key e.0) split.0, above-all R key es split.1)

keys-rise : {K X : Type 0} (R : K → K → Ordering) (es : List (K × X)) → T (is_sorted R es) → IsStrictlySortedBy R (map (λ e. e.0) es)
unfolding IsStrictlySortedBy
keys-rise R [] h = tt
keys-rise R (e ∷ es) h =
    let split = both (below_all R e.0 es) (is_sorted R es) h in
    (above-all R e.0 es split.0, keys-rise R es split.1)

-- the keys rise
pub sorted_entries-rise : {K X : Type 0} (R : K → K → Ordering) (o : IsTotalOrder R) (entries : List (K × X)) → IsStrictlySortedBy R (map (λ e. e.0) (sorted_entries R entries))
sorted_entries-rise R o entries = keys-rise R (sorted_entries R entries) (sorted_entries-is_sorted R o entries)

-- ---- the values

-- the value of the last entry of a key, or one that was there before
abbrev pub last_value : {K X : Type 0} → (K → K → Ordering) → K → Option X → List (K × X) → Option X
last_value R key before [] = before
last_value R key before (e ∷ es) = last_value R key (cond (eq_by_cmp R key e.0) (Some e.1) before) es

finds-from : {K X : Type 0} (R : K → K → Ordering) (o : IsTotalOrder R) (key : K) (sorted entries : List (K × X)) → find R key (fold (λ es e. put R e.0 e.1 es) sorted entries) ≡ last_value R key (find R key sorted) entries
finds-from R o key sorted [] = refl
finds-from R o key sorted (e ∷ es) = finds-from R o key (put R e.0 e.1 sorted) es ∙ ap (λ before. last_value R key before es) (find-put R o key e.0 e.1 sorted)

pub sorted_entries-has_last : {K X : Type 0} (R : K → K → Ordering) (o : IsTotalOrder R) (key : K) (entries : List (K × X)) → find R key (sorted_entries R entries) ≡ last_value R key None entries
sorted_entries-has_last R o key entries = finds-from R o key [] entries

-- ---- no other list

all-above : {K X : Type 0} (R : K → K → Ordering) (key : K) (es : List (K × X)) → AllByRecursion (λ y. R key y ≡ Less) (map (λ e. e.0) es) → T (below_all R key es)
all-above R key [] h = tt
all-above R key (e ∷ es) h = rw h.0 (all-above R key es h.1)

rise-sorted : {K X : Type 0} (R : K → K → Ordering) (es : List (K × X)) → IsStrictlySortedBy R (map (λ e. e.0) es) → T (is_sorted R es)
unfolding IsStrictlySortedBy
rise-sorted R [] h = tt
rise-sorted R (e ∷ es) h = together (below_all R e.0 es) (is_sorted R es) (all-above R e.0 es h.0) (rise-sorted R es h.1)
  where
    together : (a b : Bool) → T a → T b → T (a && b)
    together true b x y = y
    together false b x y = x

-- entries whose keys rise, with the last value of each key
pub sorted_entries-are : {K X : Type 0} (R : K → K → Ordering) → IsTotalOrder R → IsAntisymmetric R → (entries es : List (K × X)) → IsStrictlySortedBy R (map (λ e. e.0) es) → ((key : K) → find R key es ≡ last_value R key None entries) → es ≡ sorted_entries R entries
sorted_entries-are R o same entries es rise is =
    same_entries R o same es (sorted_entries R entries) (rise-sorted R es rise) (sorted_entries-is_sorted R o entries) (λ key. is key ∙ sym (sorted_entries-has_last R o key entries))

-- ---- values seen as others

seen-put : {K X Y : Type 0} (R : K → K → Ordering) (f : X → Y) (key : K) (value : X) (es : List (K × X)) → map (λ e. (e.0, f e.1)) (put R key value es) ≡ put R key (f value) (map (λ e. (e.0, f e.1)) es)
seen-put R f key value [] = refl
seen-put R f key value (e ∷ es) = go (R key e.0) (seen-put R f key value es)
  where
    go : (r : Ordering) → map (λ e. (e.0, f e.1)) (put R key value es) ≡ put R key (f value) (map (λ e. (e.0, f e.1)) es) → map (λ e. (e.0, f e.1)) (by_order r ((key, value) ∷ e ∷ es) ((e.0, value) ∷ es) (e ∷ put R key value es)) ≡ by_order r ((key, f value) ∷ (e.0, f e.1) ∷ map (λ e. (e.0, f e.1)) es) ((e.0, f value) ∷ map (λ e. (e.0, f e.1)) es) ((e.0, f e.1) ∷ put R key (f value) (map (λ e. (e.0, f e.1)) es))
    go Less rest = refl
    go Equal rest = refl
    go Greater rest = ap (λ ys. (e.0, f e.1) ∷ ys) rest

-- entries put into a map one by one
abbrev put_all : {K X : Type 0} → (K → K → Ordering) → List (K × X) → List (K × X) → List (K × X)
put_all R sorted entries = fold (λ es e. put R e.0 e.1 es) sorted entries

seen-from : {K X Y : Type 0} (R : K → K → Ordering) (f : X → Y) (sorted entries : List (K × X)) → map (λ e. (e.0, f e.1)) (put_all R sorted entries) ≡ put_all R (map (λ e. (e.0, f e.1)) sorted) (map (λ e. (e.0, f e.1)) entries)
seen-from R f sorted [] = refl
seen-from R f sorted (e ∷ es) = seen-from R f (put R e.0 e.1 sorted) es ∙ ap (λ start. put_all R start (map (λ e. (e.0, f e.1)) es)) (seen-put R f e.0 e.1 sorted)

pub sorted_entries-seen : {K X Y : Type 0} (R : K → K → Ordering) (f : X → Y) (entries : List (K × X)) → map (λ e. (e.0, f e.1)) (sorted_entries R entries) ≡ sorted_entries R (map (λ e. (e.0, f e.1)) entries)
sorted_entries-seen R f entries = seen-from R f [] entries

-- ---- maps

lookup-find : {K X : Type 0} (R : K → K → Ordering) (key : K) (es : List (K × X)) → lookup (is_at (R key)) es ≡ find R key es
lookup-find R key [] = refl
lookup-find R key (e ∷ es) = ap (λ rest. cond (eq_by_cmp R key e.0) (Some e.1) rest) (lookup-find R key es)

-- a map with the last value of each key has the sorted entries
pub sorted_entries-map : {K X : Type 0} (R : K → K → Ordering) → IsTotalOrder R → IsAntisymmetric R → (entries : List (K × X)) (m : BTreeMap K X) → IsOrdered R m → ((key : K) → get R m key ≡ last_value R key None entries) → m.entries ≡ sorted_entries R entries
sorted_entries-map R o same entries m rise is = sorted_entries-are R o same entries m.entries rise (λ key. sym (lookup-find R key m.entries) ∙ is key)

-- ---- maps that are filled one by one

insert-put : {K X : Type 0} (R : K → K → Ordering) (es : List (K × X)) (key : K) (value : X) → insert_entry R es key value ≡ put R key value es
insert-put R [] key value = refl
insert-put R (e ∷ es) key value = go (R key e.0) (insert-put R es key value)
  where
    go : (r : Ordering) → insert_entry R es key value ≡ put R key value es → match_ordering r ((key, value) ∷ e ∷ es) ((e.0, value) ∷ es) (e ∷ insert_entry R es key value) ≡ by_order r ((key, value) ∷ e ∷ es) ((e.0, value) ∷ es) (e ∷ put R key value es)
    go Less rest = refl
    go Equal rest = refl
    go Greater rest = ap (λ ys. e ∷ ys) rest

-- the entries of a map, with what is put into it behind them
abbrev pub filled : {K X : Type 0} → (K → K → Ordering) → List (K × X) → List (K × X) → List (K × X)
filled R sorted entries = fold (λ es e. put R e.0 e.1 es) sorted entries

-- one more of a list was inserted, seen as an entry
pub filled-more : {T K X : Type 0} (R : K → K → Ordering) (entry : T → K × X) (old new total : List (K × X)) (all : List T) (i : ℕ) (d : T) → i < length all
    → new ≡ insert_entry R old (entry (get_or all i d)).0 (entry (get_or all i d)).1 → filled R old (map entry (drop i all)) ≡ total → filled R new (map entry (drop (i + 1) all)) ≡ total
filled-more R entry old new total all i d inside inserted so_far =
    let rest = map entry (drop (i + 1) all) in
    let next = entry (get_or all i d) in
    ap (λ es. filled R es rest) (inserted ∙ insert-put R old next.0 next.1) ∙ ap (λ ys. filled R old (map entry ys)) (sym (drop_more all i d inside)) ∙ so_far
