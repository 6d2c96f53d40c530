-- What intervals are translated to keeps them as a scope, where the address maps of the functions are good.
use Rattle.std.proofs.Common.{◌≡◌, ℕ, ◌+◌, ◌<◌, ◌≤◌, refl, sym, ◌∙◌, subst, arith, List, [], ◌∷◌, map, length, get_or, Option, Some, None, inl, inr}
use Rattle.std.specs.Prelude.{◌==◌, ◌≢◌, nat_lt, nat_le, ◌&&◌, if◌then◌else◌, option_map, is_some, Bool, true, false, All, AllPairs, Contains}
use Rattle.std.specs.List.{AllByRecursion, filter, filter_map, flat_map}
use Rattle.std.specs.Option.{unwrap_or}
use Rattle.std.proofs.lemmas.Bool.{lt-ltb, le-leb, ltb-true, leb-true, eqb-true, eq-eqb}
use Rattle.std.proofs.lemmas.List.Elements.{All-nil, All-cons, All-head, All-tail}
use Rattle.std.proofs.lemmas.List.Kept.{AllPairs-cons, AllPairs-filter}
use Rattle.dwc_base.specs.declared.records.OutputFor.{OutputFor}
use Rattle.dwc_base.specs.declared.records.OutputFor.TheVariants.{Default, Debugger}
use Rattle.dwc_native.specs.Functions.{AddressMap, Function, map_fault, function_of, functions_of, function_at}
use Rattle.dwc_dwarf.specs.Trees.{Interval}
use Rattle.dwc_native.specs.Runs.{Run, runs, start_in, end_in, meets, is_range, closed_ranges, native_ranges, interval_of, native_in_function, as_intervals, native, Ascend, HasGoodMap}
use Rattle.dwc_native.specs.ScopesKept.{wasm_interval, native_of_intervals}
use Rattle.dwc_native.specs.ScopesKept.{source_of_byte, HasDistinctSources, is_at_or_below, is_behind, cover_byte, IsInSome, IsInOneOf, AreNumbered, TranslationsKeepScopes}
use Rattle.dwc_base.proofs.InLists.{IsIn, at-in, contains-in, in-contains, any-in, in-any, in-filter, filter-in, in-map, map-in, in-flat_map, flat_map-in}
use Rattle.dwc_addr.specs.Transforms.{first_bad_map}
use Rattle.dwc_addr.proofs.EntryLaws.{all-good}
use Rattle.dwc_addr.proofs.OwnerLaws.{function_at-among}
use Rattle.dwc_addr.proofs.AscendLaws.{range-start, range-end, ranges-ascend_in}
use Rattle.dwc_addr.proofs.ByteLaws.{start-sound, start-whole, end-sound, end-whole}
use Rattle.dwc_addr.proofs.ExactScopes.{function_at-named, same-function, for-debugger, scope-shown}
use Rattle.dwc_addr.proofs.ExactKeeps.{in-range, shown-if}
use Rattle.dwc_addr.proofs.SourceLaws.{RunHas, HasIfIn, RunAt, run-at, IsPlaced, function-has, function-chain, function-placed}

all-in : {A : Type 0} (P : A → Type 0) (xs : List A) (x : A) → AllByRecursion P xs → IsIn x xs → P x
all-in P [] x h i = absurd i
all-in P (y ∷ ys) x h (inl same) = subst P (sym same) h.0
all-in P (y ∷ ys) x h (inr i) = all-in P ys x h.1 i

both-true : (a b : Bool) → (a && b) ≡ true → (a ≡ true) × (b ≡ true)
both-true true b h = (refl, h)
both-true false b h = absurd (cc)

-- ---- native ranges of runs

-- the native range of an interval in a run
abbrev range_of : ℕ → ℕ → Run → ℕ × ℕ
range_of start end r = (start_in start r, end_in end r)

-- the ranges of a function whose output is not for a debugger
for-default : (f : Function) (start end : ℕ) → f.output ≡ Default → native_ranges f start end ≡ closed_ranges f start end
unfolding native_ranges
for-default f start end is = rw is refl

in-ranges : (f : Function) (start end : ℕ) (n : ℕ × ℕ) → IsIn n (closed_ranges f start end) → (r : Run) × IsIn r (runs f) × (n ≡ range_of start end r)
in-ranges f start end n i = go (nat_lt start end) i
  where
    go : (b : Bool) → IsIn n (if b then filter is_range (map (range_of start end) (filter (meets start end) (runs f))) else []) → (r : Run) × IsIn r (runs f) × (n ≡ range_of start end r)
    go false j = absurd j
    go true j =
        let found = in-map (range_of start end) (filter (meets start end) (runs f)) n (in-filter is_range (map (range_of start end) (filter (meets start end) (runs f))) n j).0 in
        (found.0, (in-filter (meets start end) (runs f) found.0 found.1).0, found.2)

ranges-in : (f : Function) (start end : ℕ) (r : Run) → start < end → IsIn r (runs f) → meets start end r ≡ true → is_range (range_of start end r) ≡ true → IsIn (range_of start end r) (closed_ranges f start end)
ranges-in f start end r less i met some = rw (lt-ltb start end less) (filter-in is_range (map (range_of start end) (filter (meets start end) (runs f))) (range_of start end r) (map-in (range_of start end) (filter (meets start end) (runs f)) r (filter-in (meets start end) (runs f) r i met)) some)

-- an interval that some interval is translated to
record IsTranslated (fs : List Function) (w : ℕ × ℕ) (i : Interval) : Type 0 where
  function : Function
  begun : function_at fs w.0 ≡ Some function
  range : ℕ × ℕ
  among : IsIn range (native_ranges function w.0 w.1)
  told : i ≡ interval_of function.number range

in-native : (fs : List Function) (w : ℕ × ℕ) (i : Interval) → IsIn i (native fs w.0 w.1) → IsTranslated fs w i
unfolding native native_in_function
in-native fs w i j = go (function_at fs w.0) refl j
  where
    go : (o : Option Function) → function_at fs w.0 ≡ o → IsIn i (as_intervals (option_map (λ f. (f.number, native_ranges f w.0 w.1)) o)) → IsTranslated fs w i
    go None is k = absurd k
    go (Some f) is k = let found = in-map (interval_of f.number) (native_ranges f w.0 w.1) i k in record { function = f; begun = is; range = found.0; among = found.1; told = found.2 }

native-in : (fs : List Function) (w : ℕ × ℕ) (f : Function) (n : ℕ × ℕ) → function_at fs w.0 ≡ Some f → IsIn n (native_ranges f w.0 w.1) → IsIn (interval_of f.number n) (native fs w.0 w.1)
unfolding native native_in_function
native-in fs w f n is i = rw is (map-in (interval_of f.number) (native_ranges f w.0 w.1) n i)

-- ---- what is covered

abbrev covers : ℕ → ℕ → Interval → Bool
covers number byte i = is_at_or_below number byte i.begin && is_behind number byte i.end

covers-so : (n number byte : ℕ) (r : ℕ × ℕ) → covers number byte (interval_of n r) ≡ true → (n ≡ number) × (r.0 ≤ byte) × (byte < r.1)
covers-so n number byte r h =
    let two = both-true ((n == number) && nat_le r.0 byte) ((n == number) && nat_lt byte r.1) h in
    let first = both-true (n == number) (nat_le r.0 byte) two.0 in
    let second = both-true (n == number) (nat_lt byte r.1) two.1 in
    (eqb-true n number first.0, leb-true r.0 byte first.1, ltb-true byte r.1 second.1)

so-covers : (number byte : ℕ) (r : ℕ × ℕ) → r.0 ≤ byte → byte < r.1 → covers number byte (interval_of number r) ≡ true
so-covers number byte r from to = rw (eq-eqb number number refl, le-leb r.0 byte from, lt-ltb byte r.1 to) refl

ascend-through : (low high : ℕ) (rs : List (ℕ × ℕ)) → Ascend low high rs → low ≤ high
ascend-through low high [] h = h
ascend-through low high (r ∷ rs) h = omega (arith, h.0, h.1, ascend-through r.1 high rs h.2)

ascend-inside : (low high : ℕ) (rs : List (ℕ × ℕ)) (r : ℕ × ℕ) → Ascend low high rs → IsIn r rs → (r.0 < r.1) × (r.1 ≤ high)
ascend-inside low high [] r h k = absurd k
ascend-inside low high (s ∷ rs) r h (inl same) = subst (λ (x : ℕ × ℕ). (x.0 < x.1) × (x.1 ≤ high)) (sym same) (h.1, ascend-through s.1 high rs h.2)
ascend-inside low high (s ∷ rs) r h (inr k) = ascend-inside s.1 high rs r h.2 k

-- a native range of an interval lies in the function
within-function : (w : ℕ × ℕ) (f : Function) (n : ℕ × ℕ) → HasGoodMap f → IsIn n (native_ranges f w.0 w.1) → (n.0 < n.1) × (n.1 ≤ f.length)
within-function w f n good among = ascend-inside 0 f.length (native_ranges f w.0 w.1) n (ranges-ascend_in f w.0 w.1 good) among

module _ (fs : List Function) (numbered : AreNumbered fs) (ws : List (ℕ × ℕ)) where
  abbrev all : List Interval
  all = flat_map (λ w. native fs w.0 w.1) ws

  good-at : (a : ℕ) (f : Function) → function_at fs a ≡ Some f → HasGoodMap f
  good-at a f is = function_at-among HasGoodMap fs a f numbered.good is

  -- each interval lies in a function
  lies : (i : Interval) → IsIn i all → IsInOneOf fs i
  lies i j =
      let found = in-flat_map (λ w. native fs w.0 w.1) ws i j in
      let t = in-native fs found.0 i found.2 in
      record {
        function = t.function;
        among = (function_at-named fs found.0.0 t.function t.begun).among;
        named = (function_at-named fs found.0.0 t.function t.begun).named;
        range = t.range;
        told = t.told;
        within = let in_it = within-function found.0 t.function t.range (good-at found.0.0 t.function t.begun) t.among in (omega (arith, in_it.0), in_it.1);
      }

  -- a byte that is covered has a source in one of the intervals
  covers-none_else : (f : Function) (byte source : ℕ) → Contains fs f → is_some f.symbol ≡ true → HasDistinctSources f → cover_byte all f.number byte ≡ true → source_of_byte f byte ≡ Some source → IsInSome ws source
  covers-none_else f byte source among named distinct covered is =
      let hit = any-in (covers f.number byte) all covered in
      let found = in-flat_map (λ w. native fs w.0 w.1) ws hit.0 hit.1 in
      at found.0 found.1 hit.0 (in-native fs found.0 hit.0 found.2) hit.2
    where
      of_run : (w : ℕ × ℕ) (r : Run) → IsIn w ws → HasGoodMap f → IsIn r (runs f) → start_in w.0 r ≤ byte → byte < end_in w.1 r → IsInSome ws source
      of_run w r i good in_runs from to =
          let placed = all-in (IsPlaced f.length) (runs f) r (function-placed f good) in_runs in
          let above = range-start w.0 r placed.1 in
          let below = range-end w.1 r placed.1 in
          let has = all-in (HasIfIn byte source) (runs f) r (function-has f byte source good distinct (omega (arith, to, below, placed.0)) is) in_runs (omega (arith, from, above)) (omega (arith, to, below)) in
          record { interval = w; among = in-contains ws w i; from = start-sound byte source w.0 r has.has from; to = end-sound byte source w.1 r has.has to }

      of_range : (w n : ℕ × ℕ) → IsIn w ws → HasGoodMap f → IsIn n (native_ranges f w.0 w.1) → n.0 ≤ byte → byte < n.1 → (o : OutputFor) → f.output ≡ o → IsInSome ws source
      of_range w n i good in_ranges from to Default output =
          let run = in-ranges f w.0 w.1 n (subst (λ rs. IsIn n rs) (for-default f w.0 w.1 output) in_ranges) in
          of_run w run.0 i good run.1 (subst (λ (n : ℕ × ℕ). n.0 ≤ byte) run.2 from) (subst (λ (n : ℕ × ℕ). byte < n.1) run.2 to)
      of_range w n i good in_ranges from to Debugger output =
          let ends = in-range f byte source w n is (subst (λ rs. IsIn n rs) (for-debugger f w.0 w.1 output) in_ranges) from to (omega (arith, to, (within-function w f n good in_ranges).1)) in
          record { interval = w; among = in-contains ws w i; from = ends.0; to = omega (arith, ends.1) }

      at : (w : ℕ × ℕ) → IsIn w ws → (i : Interval) → IsTranslated fs w i → covers f.number byte i ≡ true → IsInSome ws source
      at w i j t hit =
          let so = covers-so t.function.number f.number byte t.range (subst (λ k. covers f.number byte k ≡ true) t.told hit) in
          let same : t.function ≡ f = same-function fs t.function f numbered (function_at-named fs w.0 t.function t.begun) (record { among = among; named = named }) so.0 in
          of_range w t.range i (good-at w.0 f (subst (λ (g : Function). function_at fs w.0 ≡ Some g) same t.begun)) (subst (λ (g : Function). IsIn t.range (native_ranges g w.0 w.1)) same t.among) so.1 so.2 f.output refl

  -- and each with a source from an interval's begin to before its end is
  covers-all : (w : ℕ × ℕ) (f : Function) (byte source : ℕ) → Contains ws w → function_at fs w.0 ≡ Some f → HasDistinctSources f → byte < f.length → source_of_byte f byte ≡ Some source → w.0 ≤ source → source < w.1 → cover_byte all f.number byte ≡ true
  covers-all w f byte source among begun distinct less is from to = go f.output refl
    where
      run : RunAt byte (runs f)
      run = run-at 0 f.length byte (runs f) (function-chain f) (omega arith) less

      has : RunHas byte source run.run
      has = all-in (HasIfIn byte source) (runs f) run.run (function-has f byte source (good-at w.0 f begun) distinct less is) run.among run.begun run.ended

      low : start_in w.0 run.run ≤ byte
      low = start-whole byte source w.0 run.run has.has run.begun from

      high : byte < end_in w.1 run.run
      high = end-whole byte source w.1 run.run has.has run.ended to

      met : meets w.0 w.1 run.run ≡ true
      met = rw (lt-ltb run.run.wasm_start w.1 (omega (arith, has.from, to)), le-leb w.0 run.run.wasm_end (omega (arith, has.to, from))) refl

      ranged : IsIn (range_of w.0 w.1 run.run) (closed_ranges f w.0 w.1)
      ranged = ranges-in f w.0 w.1 run.run (omega (arith, from, to)) run.among met (lt-ltb (start_in w.0 run.run) (end_in w.1 run.run) (omega (arith, low, high)))

      go : (o : OutputFor) → f.output ≡ o → cover_byte all f.number byte ≡ true
      go Default output =
          in-any (covers f.number byte) all (interval_of f.number (range_of w.0 w.1 run.run))
          (flat_map-in (λ w. native fs w.0 w.1) ws w (interval_of f.number (range_of w.0 w.1 run.run)) (contains-in ws w among)
          (native-in fs w f (range_of w.0 w.1 run.run) begun (subst (λ rs. IsIn (range_of w.0 w.1 run.run) rs) (sym (for-default f w.0 w.1 output)) ranged)))
          (so-covers f.number byte (range_of w.0 w.1 run.run) low high)
      go Debugger output =
          let named = function_at-named fs w.0 f begun in
          scope-shown fs numbered f byte output named.among named.named less ws ∙ shown-if fs ws w f byte source is among begun from to

-- What intervals are translated to keeps them as a scope.
pub translations-keep_scopes : (fs : List Function) → TranslationsKeepScopes fs
unfolding native_of_intervals
translations-keep_scopes fs numbered is =
    let ws = filter_map wasm_interval is in
    record {
      inside = λ k d less. lies fs numbered ws _ (at-in (flat_map (λ w. native fs w.0 w.1) ws) k d less);
      no_more = covers-none_else fs numbered ws;
      no_less = covers-all fs numbered ws;
      exact = λ f byte output among named within. scope-shown fs numbered f byte output among named within ws;
    }

-- ---- functions of address maps

made-good : (output : OutputFor) (code_offset number : ℕ) (m : AddressMap) → map_fault code_offset m ≡ None → HasGoodMap (function_of output code_offset number m)
made-good output code_offset number m good = record { code_offset = code_offset; address_map = m; good = good; made = go m.symbol }
  where
    with_number : Option ℕ → ℕ → Function
    with_number symbol n = record {
      output = output;
      number = unwrap_or (option_map (λ s. n) symbol) 0;
      symbol = option_map (λ s. n) symbol;
      start = (function_of output code_offset number m).start;
      end = (function_of output code_offset number m).end;
      length = m.body_len;
      entries = (function_of output code_offset number m).entries;
    }

    go : (symbol : Option ℕ) → with_number symbol number ≡ with_number symbol (unwrap_or (option_map (λ s. number) symbol) 0)
    go None = refl
    go (Some s) = refl

all-made_good : (output : OutputFor) (code_offset number : ℕ) (ms : List AddressMap) → All (λ m. map_fault code_offset m ≡ None) ms → All HasGoodMap (functions_of output code_offset number ms)
all-made_good output code_offset number [] h = All-nil HasGoodMap
all-made_good output code_offset number (m ∷ ms) h =
    All-cons HasGoodMap (function_of output code_offset number m) (functions_of output code_offset (number + 1) ms) (made-good output code_offset number m (All-head (λ (a : AddressMap). map_fault code_offset a ≡ None) m ms h))
    (all-made_good output code_offset (number + 1) ms (All-tail (λ (a : AddressMap). map_fault code_offset a ≡ None) m ms h))

-- the number of a function with a symbol is its own
named-number : (output : OutputFor) (code_offset number : ℕ) (m : AddressMap) → is_some (function_of output code_offset number m).symbol ≡ true → (function_of output code_offset number m).number ≡ number
named-number output code_offset number m h = go m.symbol h
  where
    go : (o : Option ℕ) → is_some (option_map (λ s. number) o) ≡ true → unwrap_or (option_map (λ s. number) o) 0 ≡ number
    go None h = absurd (cc)
    go (Some s) h = refl

-- functions with a symbol, of which the first has a number, have that one or others above it
abbrev NumberedFrom : ℕ → Function → Type 0
NumberedFrom number f = is_some f.symbol ≡ true → number ≤ f.number

numbers-rise : (output : OutputFor) (code_offset low number : ℕ) (ms : List AddressMap) → low ≤ number → All (NumberedFrom low) (functions_of output code_offset number ms)
numbers-rise output code_offset low number [] le = All-nil (NumberedFrom low)
numbers-rise output code_offset low number (m ∷ ms) le =
    All-cons (NumberedFrom low) (function_of output code_offset number m) (functions_of output code_offset (number + 1) ms) (λ named. omega (arith, le, named-number output code_offset number m named)) (numbers-rise output code_offset low (number + 1) ms (omega (arith, le)))

named-apart : (output : OutputFor) (code_offset number : ℕ) (ms : List AddressMap) → AllPairs (λ (f g : Function). is_some f.symbol ≡ true → is_some g.symbol ≡ true → f.number ≢ g.number) (functions_of output code_offset number ms)
named-apart output code_offset number [] = λ i j d less inside. absurd (omega (arith, inside))
named-apart output code_offset number (m ∷ ms) =
    AllPairs-cons (λ (f g : Function). is_some f.symbol ≡ true → is_some g.symbol ≡ true → f.number ≢ g.number) (function_of output code_offset number m) (functions_of output code_offset (number + 1) ms)
    (λ k d inside named other same. omega (arith, numbers-rise output code_offset (number + 1) (number + 1) ms (omega arith) k d inside other, named-number output code_offset number m named, same))
    (named-apart output code_offset (number + 1) ms)

-- Functions made of address maps of which none is bad have good maps, and those with a symbol numbers of their own.
pub made-numbered : (output : OutputFor) (code_offset number : ℕ) (ms : List AddressMap) → first_bad_map code_offset 0 ms ≡ None → AreNumbered (functions_of output code_offset number ms)
made-numbered output code_offset number ms good = record {
  good = all-made_good output code_offset number ms (all-good code_offset 0 ms good);
  apart = among-named (functions_of output code_offset number ms) (named-apart output code_offset number ms);
}
  where
    among-named : (fs : List Function) → AllPairs (λ (f g : Function). is_some f.symbol ≡ true → is_some g.symbol ≡ true → f.number ≢ g.number) fs → AllPairs (λ (f g : Function). f.number ≢ g.number) (filter (λ (f : Function). is_some f.symbol) fs)
    among-named fs apart = λ i j d less inside.
        let kept = AllPairs-filter (λ (f g : Function). is_some f.symbol ≡ true → is_some g.symbol ≡ true → f.number ≢ g.number) (λ (f : Function). is_some f.symbol) fs apart in
        kept i j d less inside (passing i d (omega (arith, less, inside))) (passing j d inside)
      where
        passing : (k : ℕ) (d : Function) → k < length (filter (λ (f : Function). is_some f.symbol) fs) → is_some (get_or (filter (λ (f : Function). is_some f.symbol) fs) k d).symbol ≡ true
        passing k d inside = (in-filter (λ (f : Function). is_some f.symbol) fs _ (at-in (filter (λ (f : Function). is_some f.symbol) fs) k d inside)).1
