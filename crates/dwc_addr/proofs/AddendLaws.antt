-- What addresses and intervals are translated to lies in a function, and addends say it where no function is too long.
use Rattle.std.proofs.Common.{◌≡◌, ℕ, ◌≤◌, refl, sym, subst, arith, List, [], ◌∷◌, map, Option, Some, None, pos}
use Rattle.std.specs.Prelude.{◌==◌, nat_lt, nat_le, if◌then◌else◌, option_map, Bool, true, false, is_some, All, IfSome, FitsSigned}
use Rattle.std.specs.Int.{w32}
use Rattle.std.specs.Option.{option_or, unwrap_or}
use Rattle.std.specs.List.{AllByRecursion, filter, find}
use Rattle.std.proofs.lemmas.Bool.{ltb-false}
use Rattle.std.proofs.lemmas.List.Elements.{All-nil, All-cons}
use Rattle.dwc_base.specs.declared.records.Address.TheVariants.{Symbol}
use Rattle.dwc_native.specs.Functions.{Function, function_of, function_at, with_symbol, owner, is_unlinked}
use Rattle.dwc_base.specs.Wasm.{last_of}
use Rattle.dwc_native.specs.Runs.{Position, Run, runs, start_in, has_offset, native_offset, native_ranges, native_in_function, native, translated, interval_of, as_intervals, Ascend, HasGoodMap}
use Rattle.dwc_native.specs.Addends.{is_long, longest_function, HaveAddends, IsSaid, AreSaid, TranslationsAreSaid}
use Rattle.dwc_addr.proofs.AscendLaws.{EntriesTo, Inside, Holds, RunSpan, found-holds, passing-hold, last-holds, good-runs, good-to, ranges-ascend_in}
use Rattle.dwc_addr.proofs.OwnerLaws.{function_at-among}

-- ---- a native offset is no more than the function's length

runs-through : (low high : ℕ) (rs : List Run) → RunSpan low high rs → low ≤ high
runs-through low high [] h = h
runs-through low high (r ∷ rs) h = omega (arith, h.0, h.1, runs-through r.end high rs h.3)

start-most : (low high : ℕ) (o p : Option Position) → low ≤ high → Holds (Inside low high) o → Holds (Inside low high) p → unwrap_or (option_or (option_map (λ (x : Position). x.start) o) (option_map (λ (x : Position). x.end) p)) low ≤ high
start-most low high (Some x) p le h k = h.2
start-most low high None (Some y) le h k = k.3
start-most low high None None le h k = le

start-inside : (a : ℕ) (r : Run) → r.start ≤ r.end → AllByRecursion (Inside r.start r.end) r.positions → start_in a r ≤ r.end
start-inside a r le h =
    start-most r.start r.end (find (λ p. p.wasm == a) r.positions) (last_of (filter (λ p. nat_lt p.wasm a) r.positions)) le
    (found-holds (Inside r.start r.end) (λ p. p.wasm == a) r.positions h) (last-holds (Inside r.start r.end) _ (passing-hold (Inside r.start r.end) (λ p. nat_lt p.wasm a) r.positions h))

found-inside : (a low high : ℕ) (test : Run → Bool) (rs : List Run) → RunSpan low high rs → unwrap_or (option_map (start_in a) (find test rs)) high ≤ high
found-inside a low high test [] h = omega arith
found-inside a low high test (r ∷ rs) h = go (test r) (found-inside a r.end high test rs h.3)
  where
    go : (b : Bool) → unwrap_or (option_map (start_in a) (find test rs)) high ≤ high → unwrap_or (option_map (start_in a) (if b then Some r else find test rs)) high ≤ high
    go true more = omega (arith, start-inside a r h.1 h.2, runs-through r.end high rs h.3)
    go false more = more

entries-inside : (f : Function) (a : ℕ) → EntriesTo 0 f.length f.entries → native_offset f a ≤ f.length
unfolding native_offset
entries-inside f a h = go (nat_le f.end a)
  where
    go : (b : Bool) → (if b then f.length else unwrap_or (option_map (start_in a) (find (has_offset a) (runs f))) f.length) ≤ f.length
    go true = omega arith
    go false = found-inside a 0 f.length (has_offset a) (runs f) (good-runs f h)

offset-inside : (f : Function) (a : ℕ) → HasGoodMap f → native_offset f a ≤ f.length
offset-inside f a good = subst (λ (g : Function). native_offset g a ≤ g.length) (sym good.made) (entries-inside (function_of f.output good.code_offset f.number good.address_map) a (good-to good.code_offset good.address_map good.good))

-- ---- a function that an address is in has a symbol

at-symbol : (fs : List Function) (a : ℕ) (f : Function) → function_at fs a ≡ Some f → is_some f.symbol ≡ true
at-symbol fs a f h = go (is_unlinked a) (owner fs a) h
  where
    go : (b : Bool) (o : Option Function) → ◌≡◌ {A = Option Function} (if b then None else with_symbol o) (Some f) → is_some f.symbol ≡ true
    go true o h = absurd (cc)
    go false None h = absurd (cc)
    go false (Some g) h = one (is_some g.symbol) refl h
      where
        one : (c : Bool) → is_some g.symbol ≡ c → ◌≡◌ {A = Option Function} (if c then Some g else None) (Some f) → is_some f.symbol ≡ true
        one true is h = let same : g ≡ f = cc in rw (← same) is
        one false is h = absurd (cc)

-- so it is not too long where none is
short-symbol : (f : Function) → is_some f.symbol ≡ true → is_long f ≡ false → f.length ≤ longest_function
short-symbol f some short =
    let less : nat_lt longest_function f.length ≡ false = rw some at short in
    ltb-false longest_function f.length less

said-below : (n m : ℕ) → n ≤ m → m ≤ longest_function → FitsSigned w32 (pos n)
said-below n m le small = omega (arith, le, small)

-- ---- translations

intervals-said : (number low len : ℕ) (rs : List (ℕ × ℕ)) → len ≤ longest_function → Ascend low len rs → All AreSaid (map (interval_of number) rs)
intervals-said number low len [] small h = All-nil AreSaid
intervals-said number low len (r ∷ rs) small h =
    let through = ascend-through r.1 len rs h.2 in
    All-cons AreSaid (interval_of number r) (map (interval_of number) rs) (said-below r.0 len (omega (arith, through, h.1)) small, said-below r.1 len through small) (intervals-said number r.1 len rs small h.2)
  where
    ascend-through : (low high : ℕ) (rs : List (ℕ × ℕ)) → Ascend low high rs → low ≤ high
    ascend-through low high [] h = h
    ascend-through low high (r ∷ rs) h = omega (arith, h.0, h.1, ascend-through r.1 high rs h.2)

module _ (fs : List Function) (have : HaveAddends fs) where
  short-at : (a : ℕ) (f : Function) → function_at fs a ≡ Some f → f.length ≤ longest_function
  short-at a f is = short-symbol f (at-symbol fs a f is) (function_at-among (λ g. is_long g ≡ false) fs a f have.short is)

  address-said : (a : ℕ) → IfSome (translated fs a) IsSaid
  unfolding translated
  address-said a = go (function_at fs a) refl
    where
      go : (o : Option Function) → function_at fs a ≡ o → IfSome (option_map (λ f. Symbol f.number (pos (native_offset f a))) o) IsSaid
      go None is = tt
      go (Some f) is = said-below (native_offset f a) f.length (offset-inside f a (function_at-among HasGoodMap fs a f have.maps is)) (short-at a f is)

  intervals-are_said : (start end : ℕ) → All AreSaid (native fs start end)
  unfolding native native_in_function
  intervals-are_said start end = go (function_at fs start) refl
    where
      go : (o : Option Function) → function_at fs start ≡ o → All AreSaid (as_intervals (option_map (λ f. (f.number, native_ranges f start end)) o))
      go None is = All-nil AreSaid
      go (Some f) is = intervals-said f.number 0 f.length (native_ranges f start end) (short-at start f is) (ranges-ascend_in f start end (function_at-among HasGoodMap fs start f have.maps is))

-- What addresses and intervals are translated to can be said.
pub translations-are_said : (fs : List Function) → HaveAddends fs → TranslationsAreSaid fs
translations-are_said fs have = record { addresses = address-said fs have; intervals = intervals-are_said fs have }
