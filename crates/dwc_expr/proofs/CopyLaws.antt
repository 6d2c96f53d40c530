-- Copies of operations for the native ranges of a scope, whose ranges are given by where they begin and how long they are.
use Rattle.std.proofs.Common.{◌≡◌, ℕ, suc, ◌<◌, ◌≤◌, Bool, true, false, cond, nat_lt, pos, List, [], ◌∷◌, ◌++◌, length, drop, append-nil, map, filter, flat_map, Option, Some, None, option_map, ltb-true, refl, ap, sym, ◌∙◌, arith}
use Rattle.std.proofs.lemmas.Int.{ints}
use Rattle.std.proofs.lemmas.List.{drop_all, map-append}
use Rattle.dwc_native.specs.BuiltExpressions.{BuiltExpressions, copied}
use Rattle.dwc_native.specs.Functions.{Function, function_at}
use Rattle.dwc_native.specs.Placed.{scope_intervals}
use Rattle.dwc_native.specs.ShownSources.{exact_ranges, Apart}
use Rattle.dwc_native.specs.Runs.{is_range, meets, start_in, end_in, runs, closed_ranges, native_ranges, native_in_function, interval_of, as_intervals, native}
use Rattle.dwc_dwarf.specs.Trees.{Interval, Location}
use Rattle.dwc_base.specs.declared.records.OutputFor.{OutputFor}
use Rattle.dwc_base.specs.declared.records.OutputFor.TheVariants.{Default, Debugger}
use Rattle.dwc_base.specs.declared.records.Address.{Address}
use Rattle.dwc_base.specs.declared.records.Address.TheVariants.{Symbol}
use Rattle.dwc_addr.specs.Translations.{with_length, with_lengths}
use Rattle.dwc_addr.proofs.ShownLaws.{maximal}
use Rattle.dwc_unit.specs.RangeLists as given
use Rattle.dwc_expr.specs.Copies.{copy_at}

-- a range that has a byte, by its begin and its length, is the interval
pub interval-said : (number : ℕ) (start end : ℕ) → start < end → given.interval_of (with_length number (start, end)) ≡ interval_of number (start, end)
interval-said number start end some = ap (λ z. record { begin = Symbol number (pos start); end = Symbol number z }) (omega (arith, ints, some))

ranges-said : (number : ℕ) (rs : List (ℕ × ℕ)) → map given.interval_of (map (with_length number) (filter is_range rs)) ≡ map (interval_of number) (filter is_range rs)
ranges-said number [] = refl
ranges-said number (r ∷ rs) = go (is_range r) refl (ranges-said number rs)
  where
    go : (b : Bool) → is_range r ≡ b → map given.interval_of (map (with_length number) (filter is_range rs)) ≡ map (interval_of number) (filter is_range rs)
        → map given.interval_of (map (with_length number) (cond {A = List (ℕ × ℕ)} b (r ∷ filter is_range rs) (filter is_range rs))) ≡ map (interval_of number) (cond {A = List (ℕ × ℕ)} b (r ∷ filter is_range rs) (filter is_range rs))
    go true some more = ap (λ i. i ∷ map given.interval_of (map (with_length number) (filter is_range rs))) (interval-said number r.0 r.1 (ltb-true r.0 r.1 some)) ∙ ap (λ is. interval_of number r ∷ is) more
    go false none more = more

closed-said : (f : Function) (start end : ℕ) → map given.interval_of (map (with_length f.number) (closed_ranges f start end)) ≡ map (interval_of f.number) (closed_ranges f start end)
closed-said f start end = go (nat_lt start end)
  where
    all : List (ℕ × ℕ)
    all = map (λ r. (start_in start r, end_in end r)) (filter (meets start end) (runs f))

    go : (b : Bool) → map given.interval_of (map (with_length f.number) (cond {A = List (ℕ × ℕ)} b (filter is_range all) [])) ≡ map (interval_of f.number) (cond {A = List (ℕ × ℕ)} b (filter is_range all) [])
    go true = ranges-said f.number all
    go false = refl

-- ranges that do not touch have a byte each
apart-said : (number from to : ℕ) (rs : List (ℕ × ℕ)) → Apart from to rs → map given.interval_of (map (with_length number) rs) ≡ map (interval_of number) rs
apart-said number from to [] h = refl
apart-said number from to (r ∷ rs) h = ap (λ i. i ∷ map given.interval_of (map (with_length number) rs)) (interval-said number r.0 r.1 h.1) ∙ ap (λ is. interval_of number r ∷ is) (apart-said number (suc r.1) to rs h.3)

native-said : (f : Function) (start end : ℕ) → map given.interval_of (map (with_length f.number) (native_ranges f start end)) ≡ map (interval_of f.number) (native_ranges f start end)
unfolding native_ranges
native-said f start end = go f.output
  where
    go : (output : OutputFor)
        → map given.interval_of (map (with_length f.number) (elim output [ Default ↦ closed_ranges f start end | Debugger ↦ exact_ranges f start end ]))
        ≡ map (interval_of f.number) (elim output [ Default ↦ closed_ranges f start end | Debugger ↦ exact_ranges f start end ])
    go Default = closed-said f start end
    go Debugger = apart-said f.number 0 f.length (exact_ranges f start end) (maximal f start end)

-- those of an interval
pub intervals-said : (fs : List Function) (start end : ℕ) → map given.interval_of (with_lengths (native_in_function fs start end)) ≡ native fs start end
unfolding native native_in_function
intervals-said fs start end = go (function_at fs start)
  where
    go : (o : Option Function) → map given.interval_of (with_lengths (option_map (λ f. (f.number, native_ranges f start end)) o)) ≡ as_intervals (option_map (λ f. (f.number, native_ranges f start end)) o)
    go None = refl
    go (Some f) = native-said f start end

-- the copies of an interval's ranges
abbrev pub copies_of : List Function → List ℕ → ℕ × ℕ → List Location
copies_of fs bytes i = map (copy_at bytes) (with_lengths (native_in_function fs i.0 i.1))

-- bytes over an interval
abbrev pub over_interval : List ℕ → Interval → Location
over_interval bytes i = record { over = i; bytes = bytes }

copies-over : (bytes : List ℕ) (rs : List (Address × ℕ)) → map (copy_at bytes) rs ≡ map (over_interval bytes) (map given.interval_of rs)
copies-over bytes [] = refl
copies-over bytes (r ∷ rs) = ap (λ ls. copy_at bytes r ∷ ls) (copies-over bytes rs)

-- and of a scope
pub copies-are : (fs : List Function) (bytes : List ℕ) (scope : List (ℕ × ℕ)) → flat_map (copies_of fs bytes) scope ≡ map (over_interval bytes) (scope_intervals fs scope)
copies-are fs bytes [] = refl
copies-are fs bytes (i ∷ is) =
    ap (λ ls. ls ++ flat_map (copies_of fs bytes) is) (copies-over bytes (with_lengths (native_in_function fs i.0 i.1)) ∙ ap (map (over_interval bytes)) (intervals-said fs i.0 i.1))
    ∙ ap (λ ls. map (over_interval bytes) (native fs i.0 i.1) ++ ls) (copies-are fs bytes is)
    ∙ sym (map-append (over_interval bytes) (native fs i.0 i.1) (scope_intervals fs is))

-- all that is pushed
pub copied-whole : (fs : List Function) (bytes : List ℕ) (scope : List (ℕ × ℕ)) (i : ℕ) (pushed : List Location) → length scope ≤ i → pushed ++ flat_map (copies_of fs bytes) (drop i scope) ≡ flat_map (copies_of fs bytes) scope
    → copied (scope_intervals fs scope) bytes ≡ record { expressions = pushed; covers_entire_scope = false }
copied-whole fs bytes scope i pushed end whole =
    ap {B = BuiltExpressions} (λ ls. record { expressions = ls; covers_entire_scope = false })
    (sym (copies-are fs bytes scope) ∙ sym whole ∙ ap (λ is. pushed ++ flat_map (copies_of fs bytes) is) (drop_all i scope end) ∙ append-nil pushed)
