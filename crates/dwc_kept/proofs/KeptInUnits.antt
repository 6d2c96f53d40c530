-- The kept entries of a unit are those that stand at the offsets of its module's kept entries, and these offsets rise.
use Rattle.std.proofs.Common.{◌≡◌, ◌≢◌, ℕ, zero, suc, ◌^◌, ◌<◌, ◌≤◌, ◌⊎◌, List, [], ◌∷◌, ◌++◌, length, get_or, map, refl, ap, ap₂, sym, subst, ◌∙◌, inl, inr, arith, append-nil, Bool, true, false, cond, None, All}
use Rattle.std.specs.Prelude.{◌==◌, ◌||◌, nat_lt, AllPairs}
use Rattle.std.specs.List.{filter, list_any}
use Rattle.std.proofs.lemmas.Bool.{eq-eqb, ne_eqb, lt-ltb}
use Rattle.std.proofs.lemmas.List.{length-map}
use Rattle.std.proofs.lemmas.List.Elements.{filter-append, All-nil, All-cons}
use Rattle.dwc_dwarf.specs.Entries.{Entry}
use Rattle.dwc_rules.specs.Carried.{Module, placed_entries}
use Rattle.dwc_dwarf.specs.ReadUnits.{Unit, units}
use Rattle.dwc_rules.specs.Kept.{Placed, keeps}
use Rattle.dwc_rules.specs.KeptEntries.{has_place}
use Rattle.dwc_rules.specs.KeptModules.{KeptModule, kept_module, kept_in, entries_passing}
use Rattle.dwc_dwarf.specs.UnitOffsets.{RiseIn}
use Rattle.dwc_kept.specs.KeptUnits.{offsets_kept, stands_at, kept_of_unit, is_in_unit, AreEntryOffsets}
use Rattle.dwc_base.proofs.InLists.{IsIn, in-at, in-append, append-left, append-right, in-filter}
use Rattle.dwc_kept.proofs.KeptLaws.{in-place, kept-closed}
use Rattle.dwc_kept.proofs.KeptOffsets.{filter-same, kept-filter}
use Rattle.dwc_kept.proofs.KeptStanding.{UnitsStand, read-stand, unit-from, placed_at, in-unit-same}

-- ---- lists

filter-swap : {A : Type 0} (p q : A → Bool) (xs : List A) → filter p (filter q xs) ≡ filter q (filter p xs)
filter-swap p q [] = refl
filter-swap {A} p q (x ∷ xs) = go (p x) (q x) refl refl (filter-swap p q xs)
  where
    go : (a b : Bool) → p x ≡ a → q x ≡ b → filter p (filter q xs) ≡ filter q (filter p xs) → filter p (cond {A = List A} b (x ∷ filter q xs) (filter q xs)) ≡ filter q (cond {A = List A} a (x ∷ filter p xs) (filter p xs))
    go true true e f h = ap (λ t. cond {A = List A} t (x ∷ filter p (filter q xs)) (filter p (filter q xs))) e ∙ ap (λ ys. x ∷ ys) h ∙ sym (ap (λ t. cond {A = List A} t (x ∷ filter q (filter p xs)) (filter q (filter p xs))) f)
    go true false e f h = h ∙ sym (ap (λ t. cond {A = List A} t (x ∷ filter q (filter p xs)) (filter q (filter p xs))) f)
    go false true e f h = ap (λ t. cond {A = List A} t (x ∷ filter p (filter q xs)) (filter p (filter q xs))) e ∙ h
    go false false e f h = h

pub filter-map : {A B : Type 0} (f : A → B) (t : B → Bool) (xs : List A) → filter t (map f xs) ≡ map f (filter (λ x. t (f x)) xs)
filter-map f t [] = refl
filter-map {A} {B} f t (x ∷ xs) = ap (λ ys. cond {A = List B} (t (f x)) (f x ∷ ys) ys) (filter-map f t xs) ∙ go (t (f x))
  where
    go : (b : Bool) → cond {A = List B} b (f x ∷ map f (filter (λ y. t (f y)) xs)) (map f (filter (λ y. t (f y)) xs)) ≡ map f (cond {A = List A} b (x ∷ filter (λ y. t (f y)) xs) (filter (λ y. t (f y)) xs))
    go true = refl
    go false = refl

pub any-map : {A B : Type 0} (f : A → B) (t : B → Bool) (xs : List A) → list_any t (map f xs) ≡ list_any (λ x. t (f x)) xs
any-map f t [] = refl
any-map f t (x ∷ xs) = ap (λ b. t (f x) || b) (any-map f t xs)

any-some : {A : Type 0} (t : A → Bool) (xs : List A) → list_any t xs ≡ nat_lt 0 (length (filter t xs))
any-some t [] = refl
any-some {A} t (x ∷ xs) = go (t x) (any-some t xs)
  where
    go : (b : Bool) → list_any t xs ≡ nat_lt 0 (length (filter t xs)) → (b || list_any t xs) ≡ nat_lt 0 (length (cond {A = List A} b (x ∷ filter t xs) (filter t xs)))
    go true h = sym (lt-ltb 0 (suc (length (filter t xs))) (omega arith))
    go false h = h

-- ---- the entries of one unit among those of some

all-of-unit : (n : ℕ) (es : List Entry) → filter (λ p. p.unit == n) (placed_at n es) ≡ placed_at n es
all-of-unit n [] = refl
all-of-unit n (e ∷ es) =
    ap (λ b. cond {A = List Placed} b (record { unit = n; entry = e } ∷ filter (λ p. p.unit == n) (placed_at n es)) (filter (λ p. p.unit == n) (placed_at n es))) (eq-eqb n n refl)
    ∙ ap (λ (ps : List Placed). record { unit = n; entry = e } ∷ ps) (all-of-unit n es)

none-of-unit : (k n : ℕ) (es : List Entry) → n ≢ k → filter (λ p. p.unit == k) (placed_at n es) ≡ []
none-of-unit k n [] h = refl
none-of-unit k n (e ∷ es) h =
    ap (λ b. cond {A = List Placed} b (record { unit = n; entry = e } ∷ filter (λ p. p.unit == k) (placed_at n es)) (filter (λ p. p.unit == k) (placed_at n es))) (ne_eqb n k h)
    ∙ none-of-unit k n es h

none-behind : (from k : ℕ) (us : List Unit) → UnitsStand from us → k < from → filter (λ p. p.unit == k) (placed_entries us) ≡ []
none-behind from k [] h less = refl
none-behind from k (u ∷ us) h less =
    filter-append (λ p. p.unit == k) (placed_at u.header.offset u.entries) (placed_entries us)
    ∙ ap₂ (λ xs ys. xs ++ ys) (none-of-unit k u.header.offset u.entries (λ e. absurd (omega (arith, e, less, h.0)))) (none-behind u.header.end k us h.4 (omega (arith, less, h.0, h.1)))

pub of-unit : (from : ℕ) (us : List Unit) (u : Unit) → UnitsStand from us → IsIn u us → filter (λ p. p.unit == u.header.offset) (placed_entries us) ≡ placed_at u.header.offset u.entries
of-unit from [] u h i = absurd i
of-unit from (v ∷ vs) u h (inl e) =
    filter-append (λ p. p.unit == u.header.offset) (placed_at v.header.offset v.entries) (placed_entries vs)
    ∙ ap₂ (λ xs ys. xs ++ ys) (subst (λ w. filter (λ p. p.unit == u.header.offset) (placed_at w.header.offset w.entries) ≡ placed_at u.header.offset u.entries) e (all-of-unit u.header.offset u.entries))
    (let same : u.header.offset ≡ v.header.offset = ap (λ w. w.header.offset) e in none-behind v.header.end u.header.offset vs h.4 (omega (arith, same, h.1)))
    ∙ append-nil (placed_at u.header.offset u.entries)
of-unit from (v ∷ vs) u h (inr i) =
    filter-append (λ p. p.unit == u.header.offset) (placed_at v.header.offset v.entries) (placed_entries vs)
    ∙ ap₂ (λ xs ys. xs ++ ys) (none-of-unit u.header.offset v.header.offset v.entries (λ e. absurd (omega (arith, e, h.1, unit-from v.header.end vs u h.4 i)))) (of-unit v.header.end vs u h.4 i)

-- ---- their order

-- offsets of entries rise, from a number on
abbrev pub Rising : ℕ → List Placed → Type 0
Rising n [] = Prim.Unit {0}
Rising n (p ∷ ps) = (n ≤ p.entry.offset) × Rising (suc p.entry.offset) ps

rising-weaker : (n low : ℕ) (ps : List Placed) → low ≤ n → Rising n ps → Rising low ps
rising-weaker n low [] le h = tt
rising-weaker n low (p ∷ ps) le h = (omega (arith, le, h.0), h.1)

rising-unit : (n from end : ℕ) (es : List Entry) (rest : List Placed) → from ≤ end → RiseIn from end es → Rising end rest → Rising from (placed_at n es ++ rest)
rising-unit n from end [] rest le h k = rising-weaker end from rest le k
rising-unit n from end (e ∷ es) rest le h k = (h.0, rising-unit n (suc e.offset) end es rest (omega (arith, h.1)) h.2 k)

pub rising-units : (from : ℕ) (us : List Unit) → UnitsStand from us → Rising from (placed_entries us)
rising-units from [] h = tt
rising-units from (u ∷ us) h = rising-weaker u.header.offset from _ h.0 (rising-unit u.header.offset u.header.offset u.header.end u.entries (placed_entries us) (omega (arith, h.1)) h.2 (rising-units u.header.end us h.4))

pub rising-filter : (t : Placed → Bool) (n : ℕ) (ps : List Placed) → Rising n ps → Rising n (filter t ps)
rising-filter t n [] h = tt
rising-filter t n (p ∷ ps) h = go (t p) (rising-filter t (suc p.entry.offset) ps h.1)
  where
    go : (b : Bool) → Rising (suc p.entry.offset) (filter t ps) → Rising n (cond {A = List Placed} b (p ∷ filter t ps) (filter t ps))
    go true k = (h.0, k)
    go false k = rising-weaker (suc p.entry.offset) n (filter t ps) (omega (arith, h.0)) k

rising-at : (n : ℕ) (ps : List Placed) (k d : ℕ) → Rising n ps → k < length (map (λ p. p.entry.offset) ps) → n ≤ get_or (map (λ p. p.entry.offset) ps) k d
rising-at n [] k d h less = absurd (omega (arith, less))
rising-at n (p ∷ ps) zero d h less = h.0
rising-at n (p ∷ ps) (suc k) d h less = omega (arith, h.0, rising-at (suc p.entry.offset) ps k d h.1 (omega (arith, less)))

rising-order : (n : ℕ) (ps : List Placed) → Rising n ps → AllPairs (λ a b. a < b) (map (λ p. p.entry.offset) ps)
rising-order n [] h i j d below less = absurd (omega (arith, less))
rising-order n (p ∷ ps) h i zero d below less = absurd (omega (arith, below))
rising-order n (p ∷ ps) h zero (suc j) d below less = let behind = rising-at (suc p.entry.offset) ps j d h.1 (omega (arith, less)) in omega (arith, behind)
rising-order n (p ∷ ps) h (suc i) (suc j) d below less = rising-order (suc p.entry.offset) ps h.1 i j d (omega (arith, below)) (omega (arith, less))

rising-apart : (n : ℕ) (ps : List Placed) → Rising n ps → AllPairs (λ e f. e.entry.offset ≢ f.entry.offset) ps
rising-apart n ps h i j d below less e =
    let order = rising-order n ps h i j d.entry.offset below (omega (arith, less, length-map ps (λ p. p.entry.offset))) in
    absurd (omega (arith, e, order, at ps i d (omega (arith, below, less)), at ps j d less))
  where
    at : (qs : List Placed) (k : ℕ) (c : Placed) → k < length qs → get_or (map (λ p. p.entry.offset) qs) k c.entry.offset ≡ (get_or qs k c).entry.offset
    at [] k c inside = refl
    at (q ∷ qs) zero c inside = refl
    at (q ∷ qs) (suc k) c inside = at qs k c (omega (arith, inside))

-- ---- kept entries of modules

-- What holds of the kept entries of a module.
pub record AreKept (m : KeptModule) : Type 0 where
  pub stand : UnitsStand 0 m.units
  pub entries : m.entries ≡ placed_entries m.units
  pub kept : filter (λ p. has_place m.kept p.entry.offset) m.entries ≡ m.kept
  pub closed : (e f : Placed) → IsIn e m.entries → IsIn f m.entries → has_place m.kept e.entry.offset ≡ true → keeps m.entries e f ≡ true → has_place m.kept f.entry.offset ≡ true

pub passing-in : (t : Unit → Entry → Bool) (us : List Unit) (p : Placed) → IsIn p (entries_passing t us) → IsIn p (placed_entries us)
passing-in t [] p i = absurd i
passing-in t (u ∷ us) p i = go (in-append (placed_at u.header.offset (filter (t u) u.entries)) (entries_passing t us) p i) (passing-in t us p)
  where
    some : (es : List Entry) → IsIn p (placed_at u.header.offset (filter (t u) es)) → IsIn p (placed_at u.header.offset es)
    some [] j = j
    some (e ∷ es) j = first (t u e) j (some es)
      where
        first : (b : Bool) → IsIn p (placed_at u.header.offset (cond {A = List Entry} b (e ∷ filter (t u) es) (filter (t u) es))) → (IsIn p (placed_at u.header.offset (filter (t u) es)) → IsIn p (placed_at u.header.offset es)) → IsIn p (placed_at u.header.offset (e ∷ es))
        first true (inl same) rest = inl same
        first true (inr k) rest = inr (rest k)
        first false k rest = inr (rest k)

    go : IsIn p (placed_at u.header.offset (filter (t u) u.entries)) ⊎ IsIn p (entries_passing t us) → (IsIn p (entries_passing t us) → IsIn p (placed_entries us)) → IsIn p (placed_entries (u ∷ us))
    go (inl j) rest = append-left (placed_at u.header.offset u.entries) (placed_entries us) p (some u.entries j)
    go (inr j) rest = append-right (placed_at u.header.offset u.entries) (placed_entries us) p (rest j)

-- It holds of a module whose units are read without a fault, whatever is required.
pub are-kept : (is_required : Unit → Entry → Bool) (m : Module) → (units m.sections).fault ≡ None → AreKept (kept_module is_required m)
unfolding kept_module
are-kept is_required m none = record {
  stand = stand;
  entries = refl;
  kept = kept-filter es required apart within;
  closed = kept-closed es required within apart;
}
  where
    stand : UnitsStand 0 (units m.sections).items
    stand = read-stand m.sections none

    es : List Placed
    es = placed_entries (units m.sections).items

    required : List Placed
    required = entries_passing is_required (units m.sections).items

    within : (e : Placed) → IsIn e required → IsIn e es
    within e i = passing-in is_required (units m.sections).items e i

    apart : AllPairs (λ e f. e.entry.offset ≢ f.entry.offset) es
    apart = rising-apart 0 es (rising-units 0 (units m.sections).items stand)

module _ (m : KeptModule) (are : AreKept m) where
  -- whether a kept entry stands at an offset, by the offsets of the kept ones
  pub kept-at : (offset : ℕ) → list_any (λ o. o == offset) (offsets_kept m) ≡ has_place m.kept offset
  kept-at offset = any-map (λ p. p.entry.offset) (λ o. o == offset) m.kept

  pub kept-entry : (p : Placed) → IsIn p m.kept → IsIn p m.entries × (has_place m.kept p.entry.offset ≡ true)
  kept-entry p i = in-filter (λ q. has_place m.kept q.entry.offset) m.entries p (subst (IsIn p) (sym are.kept) i)

  pub in-unit : (u : Unit) → IsIn u m.units → kept_in m u ≡ placed_at u.header.offset (kept_of_unit (offsets_kept m) u)
  in-unit u i =
      ap (filter (λ p. p.unit == u.header.offset)) (sym are.kept)
      ∙ filter-swap (λ p. p.unit == u.header.offset) (λ p. has_place m.kept p.entry.offset) m.entries
      ∙ ap (filter (λ p. has_place m.kept p.entry.offset)) (ap (filter (λ p. p.unit == u.header.offset)) are.entries ∙ of-unit 0 m.units u are.stand i)
      ∙ filter-map (λ e. record { unit = u.header.offset; entry = e }) (λ p. has_place m.kept p.entry.offset) u.entries
      ∙ ap (placed_at u.header.offset) (filter-same (λ e. has_place m.kept e.offset) (stands_at (offsets_kept m)) u.entries (λ e j. sym (kept-at e.offset)))

  offsets-placed : (n : ℕ) (es : List Entry) → map (λ p. p.entry.offset) (placed_at n es) ≡ map (λ e. e.offset) es
  offsets-placed n [] = refl
  offsets-placed n (e ∷ es) = ap (λ os. e.offset ∷ os) (offsets-placed n es)

  pub within-unit : (u : Unit) → IsIn u m.units → filter (is_in_unit u.header) (offsets_kept m) ≡ map (λ e. e.offset) (kept_of_unit (offsets_kept m) u)
  within-unit u i =
      filter-map (λ p. p.entry.offset) (is_in_unit u.header) m.kept
      ∙ ap (map (λ p. p.entry.offset)) (filter-same (λ p. is_in_unit u.header p.entry.offset) (λ p. p.unit == u.header.offset) m.kept same ∙ in-unit u i)
      ∙ offsets-placed u.header.offset (kept_of_unit (offsets_kept m) u)
    where
      same : (p : Placed) → IsIn p m.kept → is_in_unit u.header p.entry.offset ≡ (p.unit == u.header.offset)
      same p j = in-unit-same 0 m.units u p are.stand i (subst (IsIn p) are.entries (kept-entry p j).0)

  pub kept-rising : Rising 0 m.kept
  kept-rising = subst (Rising 0) are.kept (rising-filter (λ p. has_place m.kept p.entry.offset) 0 m.entries (subst (Rising 0) (sym are.entries) (rising-units 0 m.units are.stand)))

  pub offsets-order : AllPairs (λ a b. a < b) (offsets_kept m)
  offsets-order = rising-order 0 m.kept kept-rising

  pub some-in-unit : (u : Unit) → IsIn u m.units → list_any (λ p. p.unit == u.header.offset) m.kept ≡ nat_lt 0 (length (kept_of_unit (offsets_kept m) u))
  some-in-unit u i =
      any-some (λ p. p.unit == u.header.offset) m.kept
      ∙ ap (λ ps. nat_lt 0 (length ps)) (in-unit u i)
      ∙ ap (nat_lt 0) (length-map (kept_of_unit (offsets_kept m) u) (λ e. record { unit = u.header.offset; entry = e }))

  -- Lists of offsets of kept entries are of offsets of entries of the module.
  pub kept-offsets : (lists : List (List ℕ)) → ((os : List ℕ) → IsIn os lists → (o : ℕ) → IsIn o os → IsIn o (offsets_kept m)) → All (λ offset. offset < 2 ^ 32) (offsets_kept m) → AreEntryOffsets m lists
  kept-offsets lists among small = record {
    of_entries = all-from (All (λ offset. has_place m.entries offset ≡ true)) lists (λ os i. all-from (λ offset. has_place m.entries offset ≡ true) os (λ o j. of_entry o (among os i o j)));
    small = all-from (All (λ offset. offset < 2 ^ 32)) lists (λ os i. all-from (λ offset. offset < 2 ^ 32) os (λ o j. is_small o (among os i o j)));
  }
    where
      all-from : {A : Type 0} (P : A → Type 0) (xs : List A) → ((x : A) → IsIn x xs → P x) → All P xs
      all-from P [] h = All-nil P
      all-from P (x ∷ xs) h = All-cons P x xs (h x (inl refl)) (all-from P xs (λ y i. h y (inr i)))

      in-map : (ps : List Placed) (o : ℕ) → IsIn o (map (λ p. p.entry.offset) ps) → (p : Placed) × IsIn p ps × (p.entry.offset ≡ o)
      in-map [] o i = absurd i
      in-map (p ∷ ps) o (inl e) = (p, inl refl, sym e)
      in-map (p ∷ ps) o (inr i) = let found = in-map ps o i in (found.0, inr found.1, found.2)

      of_entry : (o : ℕ) → IsIn o (offsets_kept m) → has_place m.entries o ≡ true
      of_entry o i = let found = in-map m.kept o i in in-place m.entries found.0 o (kept-entry found.0 found.1).0 found.2

      is_small : (o : ℕ) → IsIn o (offsets_kept m) → o < 2 ^ 32
      is_small o i = let at = in-at (offsets_kept m) o i in subst (λ k. k < 2 ^ 32) at.2 (small at.0 o at.1)
