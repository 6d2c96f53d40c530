-- What an interval is translated to ascends in the function that it begins in, where the address maps of the functions are good.
use Rattle.std.proofs.Common.{◌≡◌, ℕ, suc, ◌≤◌, refl, sym, subst, arith, List, [], ◌∷◌, map, Option, Some, None, inl, inr}
use Rattle.std.specs.Prelude.{◌⊎◌, ◌==◌, nat_lt, if◌then◌else◌, option_map, Bool, true, false}
use Rattle.std.specs.Option.{option_or, unwrap_or}
use Rattle.std.specs.List.{AllByRecursion, filter, find}
use Rattle.std.proofs.lemmas.Bool.{ltb-true, ltb-false}
use Rattle.dwc_base.specs.declared.records.MapFault.{MapFault}
use Rattle.dwc_base.specs.declared.records.OutputFor.{OutputFor}
use Rattle.dwc_base.specs.declared.records.OutputFor.TheVariants.{Default, Debugger}
use Rattle.dwc_base.specs.declared.records.MapFault.TheVariants.{CodeFalls, CodePastBody, SourceOutside}
use Rattle.dwc_native.specs.Functions.{AddressMap, Function, map_fault, entry_fault, is_source_within, function_of, function_at, wasm_entry}
use Rattle.dwc_base.specs.Wasm.{last_of}
use Rattle.dwc_native.specs.ShownSources.{exact_ranges, Apart}
use Rattle.dwc_native.specs.Runs.{Position, Run, native_end, source_positions, in_front, pieces, has_code, joined, joined_positions, first_native, runs_from, runs, start_in, end_in, meets, is_range, closed_ranges, native_ranges, native_in_function, as_intervals, native, Ascend, AscendInOne, HasGoodMap, TranslationsAscend}
use Rattle.dwc_addr.proofs.EntryLaws.{good-so}
use Rattle.dwc_addr.proofs.OwnerLaws.{function_at-among}
use Rattle.dwc_addr.proofs.ShownLaws.{maximal}

-- ---- positions

-- Positions lie behind one another, from one native offset up to another.
abbrev pub Span : ℕ → ℕ → List Position → Type 0
Span low high [] = low ≤ high
Span low high (p ∷ ps) = (low ≤ p.start) × (p.start ≤ p.end) × Span p.end high ps

span-weaker : (low mid high : ℕ) (ps : List Position) → low ≤ mid → Span mid high ps → Span low high ps
span-weaker low mid high [] le h = omega (arith, le, h)
span-weaker low mid high (p ∷ ps) le h = (omega (arith, le, h.0), h.1, h.2)

-- entries whose code offsets do not fall, up to the function's length
abbrev pub EntriesTo : ℕ → ℕ → List (ℕ × Option ℕ) → Type 0
EntriesTo low len [] = low ≤ len
EntriesTo low len (e ∷ es) = (low ≤ e.0) × EntriesTo e.0 len es

pub entries-first : (low len : ℕ) (es : List (ℕ × Option ℕ)) → EntriesTo low len es → low ≤ native_end len es
entries-first low len [] h = h
entries-first low len (e ∷ es) h = h.0

entries-begun : (low len : ℕ) (es : List (ℕ × Option ℕ)) → EntriesTo low len es → EntriesTo (native_end len es) len es
entries-begun low len [] h = omega arith
entries-begun low len (e ∷ es) h = (omega arith, h.1)

pub positions-span : (low len : ℕ) (es : List (ℕ × Option ℕ)) → EntriesTo low len es → Span low len (source_positions len es)
positions-span low len [] h = h
positions-span low len ((offset, None) ∷ es) h = span-weaker low offset len _ h.0 (positions-span offset len es h.1)
positions-span low len ((offset, Some source) ∷ es) h = (h.0, entries-first offset len es h.1, positions-span (native_end len es) len es (entries-begun offset len es h.1))

-- ---- pieces and runs

-- pieces lie behind one another, each but the first with a position
abbrev pub Spans : ℕ → ℕ → List (List Position) → Type 0
Spans low high [] = low ≤ high
Spans low high (ps ∷ []) = Span low high ps
Spans low high (ps ∷ qs ∷ pss) = Span low (first_native qs) ps × Spans (first_native qs) high (qs ∷ pss)

-- a piece begins where its first position does
from-first : (low high : ℕ) (p : Position) (ps : List Position) → Span low high (p ∷ ps) → Span p.start high (p ∷ ps)
from-first low high p ps h = (omega arith, h.1, h.2)

front-spans : (low high : ℕ) (p : Position) (pss : List (List Position)) → low ≤ p.start → p.start ≤ p.end → Spans p.end high pss → Spans low high (in_front p pss)
front-spans low high p [] le some h = (le, some, h)
front-spans low high p ([] ∷ []) le some h = (le, some, h)
front-spans low high p ([] ∷ qs ∷ pss) le some h = ((le, some, h.0), h.1)
front-spans low high p ((q ∷ qs) ∷ []) le some h = go (nat_lt q.wasm p.wasm)
  where
    go : (b : Bool) → Spans low high (if b then (p ∷ []) ∷ (q ∷ qs) ∷ [] else (p ∷ q ∷ qs) ∷ [])
    go true = ((le, some, h.0), from-first p.end high q qs h)
    go false = (le, some, h)
front-spans low high p ((q ∷ qs) ∷ rs ∷ pss) le some h = go (nat_lt q.wasm p.wasm)
  where
    go : (b : Bool) → Spans low high (if b then (p ∷ []) ∷ (q ∷ qs) ∷ rs ∷ pss else (p ∷ q ∷ qs) ∷ rs ∷ pss)
    go true = ((le, some, h.0.0), (from-first p.end (first_native rs) q qs h.0, h.1))
    go false = ((le, some, h.0), h.1)

pub pieces-spans : (low high : ℕ) (ps : List Position) → Span low high ps → Spans low high (pieces ps)
pieces-spans low high [] h = h
pieces-spans low high (p ∷ ps) h = front-spans low high p (pieces ps) h.0 h.1 (pieces-spans p.end high ps h.2)

-- a position lies between two native offsets
abbrev pub Inside : ℕ → ℕ → Position → Type 0
Inside low high p = (low ≤ p.start) × (low ≤ p.end) × (p.start ≤ high) × (p.end ≤ high)

pub span-through : (low high : ℕ) (ps : List Position) → Span low high ps → low ≤ high
span-through low high [] h = h
span-through low high (p ∷ ps) h = omega (arith, h.0, h.1, span-through p.end high ps h.2)

pub span-inside : (base low high : ℕ) (ps : List Position) → base ≤ low → Span low high ps → AllByRecursion (Inside base high) ps
span-inside base low high [] le h = tt
span-inside base low high (p ∷ ps) le h =
    let through = span-through p.end high ps h.2 in
    ((omega (arith, le, h.0), omega (arith, le, h.0, h.1), omega (arith, h.1, through), through), span-inside base p.end high ps (omega (arith, le, h.0, h.1)) h.2)

joined-inside : (low high : ℕ) (p : Position) (js : List Position) → Inside low high p → AllByRecursion (Inside low high) js → AllByRecursion (Inside low high) (joined p js)
joined-inside low high p [] first h = (first, tt)
joined-inside low high p (q ∷ qs) first h = go (p.start == q.start)
  where
    both : (b : Bool) → Inside low high (record p { end = if b then p.end else q.end })
    both true = first
    both false = (first.0, h.0.1, first.2, h.0.3)

    go : (b : Bool) → AllByRecursion (Inside low high) (if b then record p { end = if has_code p then p.end else q.end } ∷ qs else p ∷ q ∷ qs)
    go true = (both (has_code p), h.1)
    go false = (first, h)

all-inside : (low high : ℕ) (ps : List Position) → AllByRecursion (Inside low high) ps → AllByRecursion (Inside low high) (joined_positions ps)
all-inside low high [] h = tt
all-inside low high (p ∷ ps) h = joined-inside low high p (joined_positions ps) h.0 (all-inside low high ps h.1)

-- Runs lie behind one another, each with its positions between its ends.
abbrev pub RunSpan : ℕ → ℕ → List Run → Type 0
RunSpan low high [] = low ≤ high
RunSpan low high (r ∷ rs) = (low ≤ r.start) × (r.start ≤ r.end) × AllByRecursion (Inside r.start r.end) r.positions × RunSpan r.end high rs

spans-through : (low high : ℕ) (pss : List (List Position)) → Spans low high pss → low ≤ high
spans-through low high [] h = h
spans-through low high (ps ∷ []) h = span-through low high ps h
spans-through low high (ps ∷ qs ∷ pss) h = omega (arith, span-through low (first_native qs) ps h.0, spans-through (first_native qs) high (qs ∷ pss) h.1)

runs-span : (f : Function) (wasm low : ℕ) (pss : List (List Position)) → low ≤ f.length → Spans low f.length pss → RunSpan low f.length (runs_from f wasm low pss)
runs-span f wasm low [] le h = le
runs-span f wasm low (ps ∷ []) le h = (omega arith, le, all-inside low f.length ps (span-inside low low f.length ps (omega arith) h), omega arith)
runs-span f wasm low (ps ∷ qs ∷ pss) le h =
    let through = spans-through (first_native qs) f.length (qs ∷ pss) h.1 in
    (omega arith, span-through low (first_native qs) ps h.0, all-inside low (first_native qs) ps (span-inside low low (first_native qs) ps (omega arith) h.0), runs-span f _ (first_native qs) (qs ∷ pss) through h.1)

-- ---- the range of a run

abbrev pub Holds : (Position → Type 0) → Option Position → Type 0
Holds P None = Unit {0}
Holds P (Some p) = P p

module _ (P : Position → Type 0) (test : Position → Bool) where
  pub found-holds : (js : List Position) → AllByRecursion P js → Holds P (find test js)
  found-holds [] h = tt
  found-holds (j ∷ js) h = go (test j) (found-holds js h.1)
    where
      go : (b : Bool) → Holds P (find test js) → Holds P (if b then Some j else find test js)
      go true more = h.0
      go false more = more

  pub passing-hold : (js : List Position) → AllByRecursion P js → AllByRecursion P (filter test js)
  passing-hold [] h = tt
  passing-hold (j ∷ js) h = go (test j) (passing-hold js h.1)
    where
      go : (b : Bool) → AllByRecursion P (filter test js) → AllByRecursion P (if b then j ∷ filter test js else filter test js)
      go true more = (h.0, more)
      go false more = more

pub last-holds : (P : Position → Type 0) (js : List Position) → AllByRecursion P js → Holds P (last_of js)
last-holds P [] h = tt
last-holds P (j ∷ js) h = go (last_of js) (last-holds P js h.1)
  where
    go : (o : Option Position) → Holds P o → Holds P (Some (unwrap_or o j))
    go None more = h.0
    go (Some p) more = more

start-least : (low high : ℕ) (o p : Option Position) → Holds (Inside low high) o → Holds (Inside low high) p → low ≤ unwrap_or (option_or (option_map (λ (x : Position). x.start) o) (option_map (λ (x : Position). x.end) p)) low
start-least low high (Some x) p h k = h.0
start-least low high None (Some y) h k = k.1
start-least low high None None h k = omega arith

end-most : (low high : ℕ) (o p : Option Position) → Holds (Inside low high) o → Holds (Inside low high) p → unwrap_or (option_or (option_map (λ (x : Position). x.end) o) (option_map (λ (x : Position). x.start) p)) high ≤ high
end-most low high (Some x) p h k = h.3
end-most low high None (Some y) h k = k.2
end-most low high None None h k = omega arith

pub range-start : (a : ℕ) (r : Run) → AllByRecursion (Inside r.start r.end) r.positions → r.start ≤ start_in a r
range-start a r h =
    start-least r.start r.end (find (λ p. p.wasm == a) r.positions) (last_of (filter (λ p. nat_lt p.wasm a) r.positions))
    (found-holds (Inside r.start r.end) (λ p. p.wasm == a) r.positions h) (last-holds (Inside r.start r.end) _ (passing-hold (Inside r.start r.end) (λ p. nat_lt p.wasm a) r.positions h))

pub range-end : (a : ℕ) (r : Run) → AllByRecursion (Inside r.start r.end) r.positions → end_in a r ≤ r.end
range-end a r h =
    end-most r.start r.end (last_of (filter (λ p. p.wasm == a) r.positions)) (find (λ p. nat_lt a p.wasm) r.positions)
    (last-holds (Inside r.start r.end) _ (passing-hold (Inside r.start r.end) (λ p. p.wasm == a) r.positions h)) (found-holds (Inside r.start r.end) (λ p. nat_lt a p.wasm) r.positions h)

-- ---- the ranges of runs

ascend-weaker : (low mid high : ℕ) (rs : List (ℕ × ℕ)) → low ≤ mid → Ascend mid high rs → Ascend low high rs
ascend-weaker low mid high [] le h = omega (arith, le, h)
ascend-weaker low mid high (r ∷ rs) le h = (omega (arith, le, h.0), h.1, h.2)

ranges-ascend : (start end low high : ℕ) (rs : List Run) → RunSpan low high rs → Ascend low high (filter is_range (map (λ r. (start_in start r, end_in end r)) (filter (meets start end) rs)))
ranges-ascend start end low high [] h = h
ranges-ascend start end low high (r ∷ rs) h = go (meets start end r) (ranges-ascend start end r.end high rs h.3)
  where
    rest : List (ℕ × ℕ)
    rest = filter is_range (map (λ r. (start_in start r, end_in end r)) (filter (meets start end) rs))

    one : (b : Bool) → is_range (start_in start r, end_in end r) ≡ b → Ascend r.end high rest → Ascend low high (if b then (start_in start r, end_in end r) ∷ rest else rest)
    one true is more = (omega (arith, h.0, range-start start r h.2), ltb-true (start_in start r) (end_in end r) is, ascend-weaker (end_in end r) r.end high rest (range-end end r h.2) more)
    one false is more = ascend-weaker low r.end high rest (omega (arith, h.0, h.1)) more

    go : (b : Bool) → Ascend r.end high rest → Ascend low high (filter is_range (map (λ r. (start_in start r, end_in end r)) (if b then r ∷ filter (meets start end) rs else filter (meets start end) rs)))
    go true more = one (is_range (start_in start r, end_in end r)) refl more
    go false more = ascend-weaker low r.end high rest (omega (arith, h.0, h.1)) more

-- ---- functions with good maps

-- entries without a fault do not fall, and lie in the function
entries-to : (start end len code : ℕ) (es : List (ℕ × Option ℕ)) → code ≤ len → entry_fault start end len code es ≡ None → EntriesTo code len es
entries-to start end len code [] le = λ h. le
entries-to start end len code (e ∷ es) le = go (nat_lt e.0 code) (nat_lt len e.0) (is_source_within start end e.1) refl refl (entries-to start end len e.0 es)
  where
    go : (a b c : Bool) → nat_lt e.0 code ≡ a → nat_lt len e.0 ≡ b → (e.0 ≤ len → entry_fault start end len e.0 es ≡ None → EntriesTo e.0 len es)
        → ◌≡◌ {A = Option MapFault} (if a then Some CodeFalls else (if b then Some CodePastBody else (if c then entry_fault start end len e.0 es else Some SourceOutside))) None
        → EntriesTo code len (e ∷ es)
    go true b c ea eb more h = absurd (cc)
    go false true c ea eb more h = absurd (cc)
    go false false false ea eb more h = absurd (cc)
    go false false true ea eb more h = (ltb-false e.0 code ea, more (ltb-false len e.0 eb) h)

wasm-to : (code_offset low len : ℕ) (es : List (ℕ × Option ℕ)) → EntriesTo low len es → EntriesTo low len (map (wasm_entry code_offset) es)
wasm-to code_offset low len [] h = h
wasm-to code_offset low len (e ∷ es) h = (h.0, wasm-to code_offset e.0 len es h.1)

pub good-to : (code_offset : ℕ) (m : AddressMap) → map_fault code_offset m ≡ None → EntriesTo 0 m.body_len (map (wasm_entry code_offset) m.entries)
good-to code_offset m h = wasm-to code_offset 0 m.body_len m.entries (good-so (EntriesTo 0 m.body_len m.entries) code_offset m (λ start end. entries-to start end m.body_len 0 m.entries (omega arith)) h)

pub good-runs : (f : Function) → EntriesTo 0 f.length f.entries → RunSpan 0 f.length (runs f)
unfolding runs
good-runs f h = runs-span f f.start 0 (pieces (source_positions f.length f.entries)) (omega arith) (pieces-spans 0 f.length (source_positions f.length f.entries) (positions-span 0 f.length f.entries h))

closed-ascend : (f : Function) (start end : ℕ) → EntriesTo 0 f.length f.entries → Ascend 0 f.length (closed_ranges f start end)
closed-ascend f start end h = go (nat_lt start end)
  where
    go : (b : Bool) → Ascend 0 f.length (if b then filter is_range (map (λ r. (start_in start r, end_in end r)) (filter (meets start end) (runs f))) else [])
    go true = ranges-ascend start end 0 f.length (runs f) (good-runs f h)
    go false = omega arith

-- ranges that do not touch ascend
apart-ascend : (low from to : ℕ) (rs : List (ℕ × ℕ)) → low ≤ from → low ≤ to → Apart from to rs → Ascend low to rs
apart-ascend low from to [] before within h = within
apart-ascend low from to (r ∷ rs) before within h = (omega (arith, before, h.0), h.1, apart-ascend r.1 (suc r.1) to rs (omega arith) h.2 h.3)

entries-ascend : (f : Function) (start end : ℕ) → EntriesTo 0 f.length f.entries → Ascend 0 f.length (native_ranges f start end)
unfolding native_ranges
entries-ascend f start end h = go f.output
  where
    go : (output : OutputFor) → Ascend 0 f.length (elim output [ Default ↦ closed_ranges f start end | Debugger ↦ exact_ranges f start end ])
    go Default = closed-ascend f start end h
    go Debugger = apart-ascend 0 0 f.length (exact_ranges f start end) (omega arith) (omega arith) (maximal f start end)

-- The native ranges of an interval in a function whose map is good ascend in it.
pub ranges-ascend_in : (f : Function) (start end : ℕ) → HasGoodMap f → Ascend 0 f.length (native_ranges f start end)
ranges-ascend_in f start end good = subst (λ (g : Function). Ascend 0 g.length (native_ranges g start end)) (sym good.made) (entries-ascend (function_of f.output good.code_offset f.number good.address_map) start end (good-to good.code_offset good.address_map good.good))

-- What an interval is translated to is empty, or ascends in the function that it begins in.
pub translations-ascend : (fs : List Function) → TranslationsAscend fs
unfolding native native_in_function
translations-ascend fs good start end = go (function_at fs start) refl
  where
    go : (o : Option Function) → function_at fs start ≡ o
        → (as_intervals (option_map (λ f. (f.number, native_ranges f start end)) o) ≡ []) ⊎ AscendInOne fs start (as_intervals (option_map (λ f. (f.number, native_ranges f start end)) o))
    go None is = inl refl
    go (Some f) is = inr (record {
      function = f;
      begun = is;
      ranges = native_ranges f start end;
      told = refl;
      ascend = ranges-ascend_in f start end (function_at-among HasGoodMap fs start f good is);
    })
