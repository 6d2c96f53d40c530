-- What is made of the kept entries of a unit is in file order.
use Rattle.std.proofs.Common.{◌≡◌, ℕ, suc, ◌<◌, ◌≤◌, List, [], ◌∷◌, ◌++◌, map, Bool, true, false, refl, subst, sym, arith}
use Rattle.std.specs.Prelude.{◌==◌, ◌&&◌, drop, nat_lt, nat_le, not, Option, Some, None, Result, option_map, option_to_list, IsTrue}
use Rattle.std.specs.Cmp.Derive.{both_true}
use Rattle.std.proofs.lemmas.Bool.{false≢true, eq-eqb, and_parts, eqb-true, ltb-true, lt-ltb, le-leb, leb-true, ltb-false}
use Rattle.std.proofs.lemmas.List.{map-append}
use Rattle.std.proofs.lemmas.List.Sums.{take_while-cons}
use Rattle.dwc_rules.specs.Kept.{Placed}
use Rattle.dwc_native.specs.Compiled.{Memory, no_memory, defined, imported}
use Rattle.dwc_dwarf.specs.Trees.{Location}
use Rattle.dwc_rules.specs.Drafts.{Draft}
use Rattle.dwc_rules.specs.SyntheticUnit.{synthetic_unit}
use Rattle.dwc_rules.specs.Clones.{UnitSource}
use Rattle.dwc_native.specs.BuiltExpressions.{BuildRefusal}
use Rattle.dwc_rules.specs.LocationRules.{ExpressionSource}
use Rattle.dwc_rules.specs.ContextVariable.{context_over, context_pointer, context_variable, context_entries, locations_or_none}
use Rattle.dwc_rules.specs.EntryRules.{wrappers_of}
use Rattle.dwc_rules.specs.CarriedDrafts.{draft_told, entry_made, unit_drafts}
use Rattle.dwc_rules.specs.Wrappers.{WrapperSource, is_wrapped, wrapper, wrapper_types, inner, outer, with_wrapper, entries_made}
use Rattle.dwc_rules.specs.DraftOrder.{go_on_below, are_within, IsInFileOrder, KeepFileOrder}

-- ---- depths as facts

-- the depths of some entries, and of some of the input
abbrev depths : List Draft → List ℕ
depths ds = map (λ d. d.depth) ds

abbrev placed_depths : List Placed → List ℕ
placed_depths es = map (λ e. e.entry.depth) es

-- depths that go on below one, behind one of them
abbrev GoOn : ℕ → ℕ → List ℕ → Type 0
GoOn depth before [] = Unit {0}
GoOn depth before (d ∷ ds) = (depth < d) × (d ≤ suc before) × GoOn depth d ds

from-test : (depth before : ℕ) (ds : List ℕ) → IsTrue (go_on_below depth before ds) → GoOn depth before ds
from-test depth before [] h = tt
from-test depth before (d ∷ ds) h =
    let all = and_parts (nat_lt depth d && nat_le d (suc before)) (go_on_below depth d ds) h in
    let first = and_parts (nat_lt depth d) (nat_le d (suc before)) all.0 in
    (ltb-true depth d first.0, leb-true d (suc before) first.1, from-test depth d ds all.1)

to-test : (depth before : ℕ) (ds : List ℕ) → GoOn depth before ds → IsTrue (go_on_below depth before ds)
to-test depth before [] h = refl
to-test depth before (d ∷ ds) h = rw (lt-ltb depth d h.0, le-leb d (suc before) h.1) (to-test depth d ds h.2)

-- a deeper entry before them
deeper-before : (depth b c : ℕ) (ds : List ℕ) → b ≤ c → GoOn depth b ds → GoOn depth c ds
deeper-before depth b c [] le h = tt
deeper-before depth b c (d ∷ ds) le h = (h.0, omega (arith, le, h.1), h.2)

-- what goes on below a depth may be followed by what goes on behind that depth
followed : (floor m b : ℕ) (xs ys : List ℕ) → floor ≤ m → m ≤ b → GoOn m b xs → GoOn floor m ys → GoOn floor b (xs ++ ys)
followed floor m b [] ys low le h k = deeper-before floor m b ys le k
followed floor m b (x ∷ xs) ys low le h k = (omega (arith, low, h.0), h.1, followed floor m x xs ys low (omega (arith, h.0)) h.2 k)

-- ---- the parts of a wrapper

-- the entries in front that lie below a depth, which go on below it
taken : (floor k b : ℕ) (ds : List Draft) → k ≤ b → GoOn floor b (depths ds) → GoOn k b (depths (inner k ds))
taken floor k b [] le h = tt
taken floor k b (d ∷ ds) le h = go (nat_lt k d.depth) refl (λ below. taken floor k d.depth ds (omega (arith, below)) h.2)
  where
    go : (test : Bool) → nat_lt k d.depth ≡ test → (k < d.depth → GoOn k d.depth (depths (inner k ds))) → GoOn k b (depths (inner k (d ∷ ds)))
    go true e rest = rw (take_while-cons (λ x. nat_lt k x.depth) d ds, e) (ltb-true k d.depth e, h.1, rest (ltb-true k d.depth e))
    go false e rest = rw (take_while-cons (λ x. nat_lt k x.depth) d ds, e) tt

-- the entries behind those go on behind the depth itself
dropped : (floor k b : ℕ) (ds : List Draft) → GoOn floor b (depths ds) → GoOn floor k (depths (outer k ds))
dropped floor k b [] h = tt
dropped floor k b (d ∷ ds) h = go (nat_lt k d.depth) refl (dropped floor k d.depth ds h.2)
  where
    go : (test : Bool) → nat_lt k d.depth ≡ test → GoOn floor k (depths (outer k ds)) → GoOn floor k (depths (outer k (d ∷ ds)))
    go true e rest = rw e rest
    go false e rest = rw e (h.0, omega (arith, ltb-false k d.depth e), h.2)

-- ---- a wrapper

-- the entries of a wrapper behind its first go on below its depth
wrapper-goes_on : (s : WrapperSource) (e : Placed) → GoOn e.entry.depth e.entry.depth (depths (drop 1 (wrapper s e)))
wrapper-goes_on s e = (omega arith, omega arith, (omega arith, omega arith, (omega arith, omega arith, (omega arith, omega arith, (omega arith, omega arith, (omega arith, omega arith, (omega arith, omega arith, (omega arith, omega arith, tt))))))))

-- a wrapper in front of entries that go on behind the wrapped one
wrapped-goes_on : (s : WrapperSource) (floor b : ℕ) (e : Placed) (ds : List Draft) → floor < e.entry.depth → e.entry.depth ≤ suc b → GoOn floor e.entry.depth (depths ds) → GoOn floor b (depths (with_wrapper s e ds))
wrapped-goes_on s floor b e ds low high h =
    let k = e.entry.depth in
    let inside = inner k ds in
    let outside = outer k ds in
    let behind : GoOn floor k (depths (wrapper_types s e ++ outside)) = (low, omega arith, (low, omega arith, (low, omega arith, dropped floor k k ds h))) in
    let within : GoOn floor k (depths inside ++ depths (wrapper_types s e ++ outside)) = followed floor k k (depths inside) (depths (wrapper_types s e ++ outside)) (omega (arith, low)) (omega arith) (taken floor k k ds (omega arith) h) behind in
    let within_drafts : GoOn floor k (depths (inside ++ (wrapper_types s e ++ outside))) = subst (λ xs. GoOn floor k xs) (sym (map-append (λ d. d.depth) inside (wrapper_types s e ++ outside))) within in
    (low, high, followed floor k k (depths (drop 1 (wrapper s e))) (depths (inside ++ (wrapper_types s e ++ outside))) (omega (arith, low)) (omega arith) (wrapper-goes_on s e) within_drafts)

-- ---- whole units

-- what an entry becomes by itself, in front of others that go on behind its depth
by-itself : (floor b k : ℕ) (xs ys : List Draft) → floor < k → k ≤ suc b → IsTrue (are_within k (depths xs)) → GoOn floor k (depths ys) → GoOn floor b (depths (xs ++ ys))
by-itself floor b k [] ys low high fits h = absurd (false≢true fits)
by-itself floor b k (x ∷ xs) ys low high fits h =
    let parts = and_parts (x.depth == k) (go_on_below k x.depth (depths xs)) fits in
    let same : x.depth ≡ k = eqb-true x.depth k parts.0 in
    let all = followed floor k x.depth (depths xs) (depths ys) (omega (arith, low)) (omega (arith, same)) (from-test k x.depth (depths xs) parts.1) h in
    (omega (arith, low, same), omega (arith, high, same), subst (λ ds. GoOn floor x.depth ds) (sym (map-append (λ d. d.depth) xs ys)) all)

-- what is made of entries that go on behind a depth goes on behind it
made-goes_on : (s : WrapperSource) (clone : Placed → List Draft) → ((e : Placed) → IsTrue (are_within e.entry.depth (depths (clone e)))) → (floor b : ℕ) (es : List Placed) → GoOn floor b (placed_depths es) → GoOn floor b (depths (entries_made s clone es))
unfolding entries_made
made-goes_on s clone good floor b [] h = tt
made-goes_on s clone good floor b (e ∷ es) h = go (is_wrapped s.output e) (made-goes_on s clone good floor e.entry.depth es h.2)
  where
    go : (test : Bool) → GoOn floor e.entry.depth (depths (entries_made s clone es)) → GoOn floor b (depths (elim test [ true ↦ with_wrapper s e (entries_made s clone es) | false ↦ clone e ++ entries_made s clone es ]))
    go true rest = wrapped-goes_on s floor b e (entries_made s clone es) h.0 h.1 rest
    go false rest = by-itself floor b e.entry.depth (clone e) (entries_made s clone es) h.0 h.1 (good e) rest

-- the root and what lies in it
root-whole : (k : ℕ) (xs ys : List Draft) → k ≡ 0 → IsTrue (are_within k (depths xs)) → GoOn 0 k (depths ys) → IsInFileOrder (xs ++ ys)
root-whole k [] ys zero fits h = absurd (false≢true fits)
root-whole k (x ∷ xs) ys is_0 fits h =
    let parts = and_parts (x.depth == k) (go_on_below k x.depth (depths xs)) fits in
    let same : x.depth ≡ k = eqb-true x.depth k parts.0 in
    let inside : GoOn 0 x.depth (depths xs) = subst (λ n. GoOn n x.depth (depths xs)) is_0 (from-test k x.depth (depths xs) parts.1) in
    let behind : GoOn 0 0 (depths ys) = subst (λ n. GoOn 0 n (depths ys)) is_0 h in
    let all = followed 0 0 x.depth (depths xs) (depths ys) (omega arith) (omega arith) inside behind in
    let first : (x.depth == 0) ≡ true = eq-eqb x.depth 0 (omega (arith, same, is_0)) in
    both_true first (to-test 0 x.depth (depths (xs ++ ys)) (subst (λ ds. GoOn 0 x.depth ds) (sym (map-append (λ d. d.depth) xs ys)) all))

-- What is made of a unit's kept entries in file order is in file order.
pub entries_made-in_order : (s : WrapperSource) (clone : Placed → List Draft) (root : Placed) (es : List Placed) → KeepFileOrder s clone root es
unfolding entries_made
entries_made-in_order s clone root es good plain order = go (is_wrapped s.output root) plain
  where
    go : (test : Bool) → IsTrue (not test) → IsInFileOrder (elim test [ true ↦ with_wrapper s root (entries_made s clone es) | false ↦ clone root ++ entries_made s clone es ])
    go true plain = absurd (false≢true plain)
    go false plain =
        let parts = and_parts (root.entry.depth == 0) (go_on_below 0 root.entry.depth (placed_depths es)) order in
        root-whole root.entry.depth (clone root) (entries_made s clone es) (eqb-true root.entry.depth 0 parts.0) (good root)
        (made-goes_on s clone good 0 root.entry.depth es (from-test 0 root.entry.depth (placed_depths es) parts.1))

-- ---- carried units

-- an entry with the variable of the context, if it gets one
with-context : (c : ExpressionSource) (e : Placed) (d : Draft) → d.depth ≡ e.entry.depth → IsTrue (are_within e.entry.depth (depths (d ∷ context_entries c e)))
with-context c e d same = both_true (eq-eqb d.depth e.entry.depth same) (to-test e.entry.depth d.depth (depths (context_entries c e)) (go (context_over c e)))
  where
    go : (o : Option (Result (List Location) BuildRefusal)) → GoOn e.entry.depth d.depth (depths (option_to_list (option_map (λ located. context_variable (suc e.entry.depth) (context_pointer c) (locations_or_none located)) o)))
    go None = tt
    go (Some located) = (omega arith, omega (arith, same), tt)

-- What is made of a carried unit is in file order.
pub unit-in_order : (c : ExpressionSource) (s : UnitSource) (big_endian : Bool) (root : Placed) (es : List Placed) → IsTrue (not (is_wrapped c.told.output root)) → IsTrue (are_within 0 (placed_depths (root ∷ es))) → IsInFileOrder (unit_drafts c s big_endian (root ∷ es))
unit-in_order c s big_endian root es plain order = entries_made-in_order (wrappers_of c) (entry_made c s big_endian) root es (λ e. with-context c e (draft_told c s big_endian e) refl) plain order

-- the unit of a module is in file order
pub synthetic-in_order : (set_memory : List ℕ) (m : Memory) → IsInFileOrder (synthetic_unit set_memory m)
unfolding synthetic_unit
synthetic-in_order set_memory no_memory = refl
synthetic-in_order set_memory (defined offset) = refl
synthetic-in_order set_memory (imported a b) = refl
