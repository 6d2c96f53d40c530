-- The stretches of a function that are made from its recorded sources, and the ranges that are found in them.
use Rattle.std.proofs.Common.{◌≡◌, ℕ, zero, suc, ◌<◌, ◌≤◌, ◌+◌, ◌-◌, List, [], ◌∷◌, ◌++◌, map, length, drop, get_or, true, false, refl, ap, sym, ◌∙◌, subst, arith, inl, inr, Option, Some, None}
use Rattle.std.specs.Prelude.{Bool, ◌⊎◌, nat_le, if◌then◌else◌, option_map, slice_get}
use Rattle.std.specs.Option.{option_or, unwrap_or}
use Rattle.std.specs.List.{filter_map}
use Rattle.std.proofs.lemmas.Bool.{cases_lt, le-leb, lt-leb}
use Rattle.std.proofs.lemmas.List.{get_or_append_left, get_or_push, get_or_past, get_or_default, length-append, drop_more, drop_all}
use Rattle.dwc_base.specs.Listing.{first_of}
use Rattle.dwc_native.specs.Functions.{Recorded, recorded_entry}
use Rattle.dwc_native.specs.ShownSources.{last_source, shown_source, is_source_in, ranges_where, exact_ranges}
use Rattle.dwc_compiled.proofs.GapLaws.{recorded-merged}
use Rattle.dwc_addr.specs.declared.address_map.AddressMap.{AddressMap}
use Rattle.dwc_addr.specs.declared.stretch.Stretch.{Stretch}
use Rattle.dwc_addr.specs.declared.function_map.FunctionMap.{FunctionMap}
use Rattle.dwc_addr.specs.PositionPlaces.{IsCountBelow}
use Rattle.dwc_addr.specs.Rising.{RisesFrom}
use Rattle.dwc_addr.specs.Runs.{recorded_view}
use Rattle.dwc_addr.specs.Stretches.{shown_among, AreStretchesTo, AreStretches, no_stretch, AreAlike}
use Rattle.dwc_addr.specs.Transforms.{function_view}
use Rattle.dwc_addr.specs.Translations.{stretch_start, shown_from}
use Rattle.dwc_addr.proofs.RisingLaws.{RisesFrom-weaker}
use Rattle.dwc_addr.proofs.RangeWhereLaws.{where-passed, where-range, none-left}

-- ---- stretches that are made

-- behind all stretches stands what begins behind them
stretch-front : (ss : List Stretch) (last behind : Stretch) (k : ℕ) → k ≤ length ss → get_or (ss ++ (last ∷ [])) k behind ≡ get_or ss k last
stretch-front ss last behind k le = go (cases_lt k (length ss))
  where
    go : (k < length ss) ⊎ (length ss ≤ k) → get_or (ss ++ (last ∷ [])) k behind ≡ get_or ss k last
    go (inl less) = get_or_append_left ss (last ∷ []) behind k less ∙ get_or_default ss k behind last less
    go (inr past) = get_or_push ss last behind k (omega (arith, le, past)) ∙ sym (get_or_past ss k last past)

stretch-past : (ss : List Stretch) (last behind : Stretch) (k : ℕ) → length ss ≤ k → get_or (ss ++ (last ∷ [])) (suc k) behind ≡ behind
stretch-past ss last behind k past = get_or_past (ss ++ (last ∷ [])) (suc k) behind (omega (arith, past, length-append ss (last ∷ [])))

module _ (start : ℕ) (es : List Recorded) where
  -- A stretch more, up to another that begins behind it.
  pub stretches-pushed : (ss : List Stretch) (last behind : Stretch) → AreStretchesTo start es last ss → last.start < behind.start
      → ((byte : ℕ) → last.start ≤ byte → byte < behind.start → shown_among start es byte ≡ last.source) → AreStretchesTo start es behind (ss ++ (last ∷ []))
  stretches-pushed ss last behind h less shows = (ap (λ s. s.start) (stretch-front ss last behind 0 (omega arith)) ∙ h.0, λ k inside. rises k inside (cases_lt k (length ss)), λ k byte inside from to. shown k byte inside (cases_lt k (length ss)) from to)
    where
      all : List Stretch
      all = ss ++ (last ∷ [])

      at : (k : ℕ) → k ≤ length ss → (get_or all k behind).start ≡ (get_or ss k last).start
      at k le = ap (λ s. s.start) (stretch-front ss last behind k le)

      -- the last one
      last-at : (k : ℕ) → length ss ≤ k → k < length all → get_or all k behind ≡ last
      last-at k past inside = get_or_push ss last behind k (omega (arith, past, inside, length-append ss (last ∷ [])))

      rises : (k : ℕ) → k < length all → (k < length ss) ⊎ (length ss ≤ k) → (get_or all k behind).start < (get_or all (suc k) behind).start
      rises k inside (inl front) = omega (arith, h.1 k front, at k (omega (arith, front)), at (suc k) (omega (arith, front)))
      rises k inside (inr past) = omega (arith, less, ap (λ s. s.start) (last-at k past inside), ap (λ s. s.start) (stretch-past ss last behind k past))

      shown : (k byte : ℕ) → k < length all → (k < length ss) ⊎ (length ss ≤ k) → (get_or all k behind).start ≤ byte → byte < (get_or all (suc k) behind).start → shown_among start es byte ≡ (get_or all k behind).source
      shown k byte inside (inl front) from to =
          h.2 k byte front (omega (arith, from, at k (omega (arith, front)))) (omega (arith, to, at (suc k) (omega (arith, front))))
          ∙ ap (λ s. s.source) (sym (stretch-front ss last behind k (omega (arith, front))))
      shown k byte inside (inr past) from to =
          shows byte (omega (arith, from, ap (λ s. s.start) (last-at k past inside))) (omega (arith, to, ap (λ s. s.start) (stretch-past ss last behind k past)))
          ∙ ap (λ s. s.source) (sym (last-at k past inside))

  -- What begins behind them may be another that begins there too.
  stretches-to : (ss : List Stretch) (behind other : Stretch) → behind.start ≡ other.start → AreStretchesTo start es behind ss → AreStretchesTo start es other ss
  stretches-to ss behind other same h = (
    sym (at 0) ∙ h.0,
    λ k inside. omega (arith, h.1 k inside, at k, at (suc k)),
    λ k byte inside from to.
        h.2 k byte inside (omega (arith, from, at k)) (omega (arith, to, at (suc k))) ∙ ap (λ s. s.source) (get_or_default ss k behind other inside),
  )
    where
      at : (k : ℕ) → (get_or ss k behind).start ≡ (get_or ss k other).start
      at k = go (cases_lt k (length ss))
        where
          go : (k < length ss) ⊎ (length ss ≤ k) → (get_or ss k behind).start ≡ (get_or ss k other).start
          go (inl less) = ap (λ s. s.start) (get_or_default ss k behind other less)
          go (inr past) = ap (λ s. s.start) (get_or_past ss k behind past) ∙ same ∙ ap (λ s. s.start) (sym (get_or_past ss k other past))

  -- The stretches so far, up to the last one that is not among them; what is shown from that on hangs on the sources that are left.
  pub record SoFar (ss : List Stretch) (last : Stretch) (left : List Recorded) : Type 0 where
    pub made : AreStretchesTo start es last ss
    pub shows : (byte : ℕ) → last.start ≤ byte → shown_among start es byte ≡ unwrap_or (last_source left byte) last.source
    pub order : RisesFrom (λ e. e.native) last.start left

  -- no source is at or below a byte in front of all
  pub none-below : (low byte : ℕ) (left : List Recorded) → RisesFrom (λ e. e.native) low left → byte < low → last_source left byte ≡ None
  none-below low byte [] order less = refl
  none-below low byte (e ∷ left) order less = rw (none-below e.native byte left order.1 (omega (arith, less, order.0)), lt-leb e.native byte (omega (arith, less, order.0))) refl

  behind-one : (o : Option ℕ) (wasm source : ℕ) → unwrap_or (option_or o (Some wasm)) source ≡ unwrap_or o wasm
  behind-one None wasm source = refl
  behind-one (Some x) wasm source = refl

  abbrev stretch_of : Recorded → Stretch
  stretch_of e = record { start = e.native; source = e.wasm }

  shown-from : (e : Recorded) (left : List Recorded) (last : Stretch) (byte : ℕ) → e.native ≤ byte → unwrap_or (last_source (e ∷ left) byte) last.source ≡ unwrap_or (last_source left byte) e.wasm
  shown-from e left last byte from = rw (le-leb e.native byte from) (behind-one (last_source left byte) e.wasm last.source)

  pub so_far-later : (ss : List Stretch) (last : Stretch) (e : Recorded) (left : List Recorded) → last.start < e.native → SoFar ss last (e ∷ left) → SoFar (ss ++ (last ∷ [])) (stretch_of e) left
  so_far-later ss last e left less h = record {
    made = stretches-pushed ss last (stretch_of e) h.made less (λ byte from to.
        h.shows byte from ∙ ap (λ o. unwrap_or o last.source) (none-below e.native byte (e ∷ left) (omega arith, h.order.1) to));
    shows = λ byte from. h.shows byte (omega (arith, from, less)) ∙ shown-from e left last byte from;
    order = h.order.1;
  }

  pub so_far-same : (ss : List Stretch) (last : Stretch) (e : Recorded) (left : List Recorded) → e.native ≤ last.start → SoFar ss last (e ∷ left) → SoFar ss (stretch_of e) left
  so_far-same ss last e left le h =
      let same : last.start ≡ e.native = omega (arith, le, h.order.0) in
      record {
        made = stretches-to ss last (stretch_of e) same h.made;
        shows = λ byte from. h.shows byte (omega (arith, from, same)) ∙ shown-from e left last byte from;
        order = h.order.1;
      }

  -- A source that is shown already adds nothing.
  pub so_far-kept : (ss : List Stretch) (last : Stretch) (e : Recorded) (left : List Recorded) → e.wasm ≡ last.source → SoFar ss last (e ∷ left) → SoFar ss last left
  so_far-kept ss last e left same h = record {
    made = h.made;
    shows = λ byte from. h.shows byte from ∙ go byte (cases_lt byte e.native);
    order = RisesFrom-weaker (λ e. e.native) last.start e.native left h.order.0 h.order.1;
  }
    where
      go : (byte : ℕ) → (byte < e.native) ⊎ (e.native ≤ byte) → unwrap_or (last_source (e ∷ left) byte) last.source ≡ unwrap_or (last_source left byte) last.source
      go byte (inl less) = ap (λ o. unwrap_or (option_or o (if nat_le e.native byte then Some e.wasm else None)) last.source) (none-below e.native byte left h.order.1 less) ∙ rw (lt-leb e.native byte less, none-below e.native byte left h.order.1 less) refl
      go byte (inr from) = shown-from e left last byte from ∙ ap (unwrap_or (last_source left byte)) same

  -- With the last one they are all, where no source that is left lies below the end.
  pub so_far-end : (len : ℕ) (ss : List Stretch) (last : Stretch) (left : List Recorded) → last.start < len → ((byte : ℕ) → byte < len → last_source left byte ≡ None) → SoFar ss last left
      → AreStretches start len es (ss ++ (last ∷ []))
  so_far-end len ss last left less none h = stretches-pushed ss last (no_stretch len) h.made less (λ byte from to. h.shows byte from ∙ ap (λ o. unwrap_or o last.source) (none byte to))

  -- at the begin there is none
  pub so_far-begin : (source : ℕ) → source ≡ unwrap_or (option_map (λ e. e.wasm) (first_of es)) start → RisesFrom (λ e. e.native) 0 es → SoFar [] (record { start = 0; source = source }) es
  so_far-begin source is order = record {
    made = (refl, λ k inside. absurd (omega (arith, inside)), λ k byte inside from to. absurd (omega (arith, inside)));
    shows = λ byte from. ap (λ s. unwrap_or (last_source es byte) s) (sym is);
    order = order;
  }

  pub stretches-empty : AreStretches start 0 es []
  stretches-empty = (refl, λ k inside. absurd (omega (arith, inside)), λ k byte inside from to. absurd (omega (arith, inside)))

-- the next of the sources that are left
pub left-next : (xs : List AddressMap) (place : ℕ) (e : AddressMap) → place < length xs → e ≡ get_or xs place e → map recorded_view (drop place xs) ≡ recorded_view e ∷ map recorded_view (drop (place + 1) xs)
left-next xs place e inside is = ap (map recorded_view) (drop_more xs place e inside ∙ ap (λ x. x ∷ drop (place + 1) xs) (sym is))

-- behind those that begin below an end none does
pub left-behind : (xs : List AddressMap) (count place len low : ℕ) → IsCountBelow (λ e. e.generated) xs len count → count ≤ place → RisesFrom (λ e. e.native) low (map recorded_view (drop place xs)) → RisesFrom (λ e. e.native) len (map recorded_view (drop place xs))
left-behind xs count place len low h past order = go (cases_lt place (length xs))
  where
    go : (place < length xs) ⊎ (length xs ≤ place) → RisesFrom (λ e. e.native) len (map recorded_view (drop place xs))
    go (inr all) = rw (drop_all place xs all) tt
    go (inl less) =
        let e : AddressMap = get_or xs place (record { generated = 0; wasm = 0 }) in
        let split = left-next xs place e less (get_or_default xs place (record { generated = 0; wasm = 0 }) e less) in
        subst (RisesFrom (λ e. e.native) len) (sym split) (h.above place (record { generated = 0; wasm = 0 }) past less, (subst (RisesFrom (λ e. e.native) low) split order).1)

-- the first source of a function, if it has one
pub first-kept : (xs : List AddressMap) (x : AddressMap) (start : ℕ) → slice_get xs 0 ≡ Some x → x.wasm ≡ unwrap_or (option_map (λ e. e.wasm) (first_of (map recorded_view xs))) start
first-kept [] x start is = absurd (cc)
first-kept (y ∷ ys) x start is = ap (λ o. unwrap_or (option_map (λ (e : AddressMap). e.wasm) o) start) (sym is)

pub first-none : (xs : List AddressMap) (start : ℕ) → slice_get xs 0 ≡ None → start ≡ unwrap_or (option_map (λ e. e.wasm) (first_of (map recorded_view xs))) start
first-none [] start is = refl
first-none (y ∷ ys) start is = absurd (cc)

-- the sources of entries that rise
pub recorded-rise : (low : ℕ) (es : List (ℕ × Option ℕ)) → RisesFrom (λ e. e.0) low es → RisesFrom (λ e. e.native) low (filter_map recorded_entry es)
recorded-rise low [] h = tt
recorded-rise low ((native, None) ∷ es) h = RisesFrom-weaker (λ e. e.native) low native _ h.0 (recorded-rise native es h.1)
recorded-rise low ((native, Some source) ∷ es) h = (h.0, recorded-rise native es h.1)

-- There are no more of them than a function has bytes.
pub stretches-few : (start len : ℕ) (es : List Recorded) (ss : List Stretch) → AreStretches start len es ss → length ss ≤ len
stretches-few start len es ss h =
    let past : (get_or ss (length ss) (no_stretch len)).start ≡ len = ap (λ s. s.start) (get_or_past ss (length ss) (no_stretch len) (omega arith)) in
    omega (arith, past, low (length ss) (omega arith))
  where
    low : (k : ℕ) → k ≤ length ss → k ≤ (get_or ss k (no_stretch len)).start
    low zero le = omega arith
    low (suc k) le = omega (arith, low k (omega (arith, le)), h.1 k (omega (arith, le)))

-- ---- ranges that are found

module _ (m : FunctionMap) where
  -- what is shown is shown by the sources that are kept
  shown-kept : (byte : ℕ) → shown_source (function_view m) byte ≡ shown_among m.wasm_start (map recorded_view m.addresses) byte
  unfolding shown_source
  shown-kept byte = ap (λ es. shown_among m.wasm_start es byte) (recorded-merged m.gaps.now 0 (map recorded_view m.addresses))

  module _ (start end : ℕ) where
    abbrev wanted : ℕ → Bool
    wanted byte = is_source_in start end (shown_source (function_view m) byte)

    -- behind the last stretch there is none
    pub shown-beyond : (k : ℕ) → length m.stretches.items ≤ k → shown_from m start end k ≡ []
    shown-beyond k past =
        let ended : m.len - stretch_start m k ≡ 0 = omega (arith, ap (λ s. s.start) (get_or_past m.stretches.items k (no_stretch m.len) past)) in
        ap (ranges_where wanted (stretch_start m k)) ended ∙ none-left wanted (stretch_start m k)

    module _ (h : AreStretches m.wasm_start m.len (map recorded_view m.addresses) m.stretches.items) where
      pub shown-all : shown_from m start end 0 ≡ exact_ranges (function_view m) start end
      unfolding exact_ranges
      shown-all =
          let whole : m.len - 0 ≡ m.len = omega arith in
          ap (λ n. ranges_where wanted n (m.len - n)) h.0 ∙ ap (ranges_where wanted 0) whole

      -- stretches begin one behind the other, and not behind the end
      starts-low : (n k : ℕ) → n + k ≡ length m.stretches.items → stretch_start m k ≤ m.len
      starts-low zero k is = omega (arith, ap (λ s. s.start) (get_or_past m.stretches.items k (no_stretch m.len) (omega (arith, is))))
      starts-low (suc n) k is = omega (arith, starts-low n (suc k) (omega (arith, is)), h.1 k (omega (arith, is)))

      start-low : (k : ℕ) → k ≤ length m.stretches.items → stretch_start m k ≤ m.len
      start-low k le = starts-low (length m.stretches.items - k) k (omega (arith, le))

      starts-rise : (n k : ℕ) → k + n ≤ length m.stretches.items → stretch_start m k + n ≤ stretch_start m (k + n)
      starts-rise zero k le = let same : k + 0 ≡ k = omega arith in omega (arith, ap (stretch_start m) same)
      starts-rise (suc n) k le =
          let same : k + suc n ≡ suc k + n = omega arith in
          omega (arith, ap (stretch_start m) same, starts-rise n (suc k) (omega (arith, le)), h.1 k (omega (arith, le)))

      -- at each byte of stretches that are alike it is wanted so
      bytes-alike : (is_inside : Bool) (n k byte : ℕ) → k + n ≤ length m.stretches.items → AreAlike m.stretches.items start end is_inside k (k + n) → stretch_start m k ≤ byte → byte < stretch_start m (k + n) → wanted byte ≡ is_inside
      bytes-alike is_inside zero k byte le alike from to = let same : k + 0 ≡ k = omega arith in absurd (omega (arith, from, to, ap (stretch_start m) same))
      bytes-alike is_inside (suc n) k byte le alike from to = go (cases_lt byte (stretch_start m (suc k))) (bytes-alike is_inside n (suc k) byte (omega (arith, le)) (λ j d low high inside. alike j d (omega (arith, low)) (omega (arith, high)) inside))
        where
          same : k + suc n ≡ suc k + n
          same = omega arith

          go : (byte < stretch_start m (suc k)) ⊎ (stretch_start m (suc k) ≤ byte) → (stretch_start m (suc k) ≤ byte → byte < stretch_start m (suc k + n) → wanted byte ≡ is_inside) → wanted byte ≡ is_inside
          go (inl here) more =
              ap (is_source_in start end) (shown-kept byte ∙ h.2 k byte (omega (arith, le)) from here)
              ∙ alike k (no_stretch m.len) (omega arith) (omega arith) (omega (arith, le))
          go (inr behind) more = more behind (omega (arith, to, ap (stretch_start m) same))

      -- Stretches of which none is inside have no range.
      pub shown-passed : (n k : ℕ) → k + n ≤ length m.stretches.items → AreAlike m.stretches.items start end false k (k + n) → shown_from m start end k ≡ shown_from m start end (k + n)
      shown-passed n k le alike =
          let a : ℕ = stretch_start m k in
          let b : ℕ = stretch_start m (k + n) in
          let low : b ≤ m.len = start-low (k + n) le in
          let up : a ≤ b = omega (arith, starts-rise n k le) in
          let parts : m.len - a ≡ (b - a) + (m.len - b) = omega (arith, low, up) in
          let at : a + (b - a) ≡ b = omega (arith, up) in
          ap (ranges_where wanted a) parts
          ∙ where-passed wanted a (b - a) (m.len - b) (λ byte from to. bytes-alike false n k byte le alike from (omega (arith, to, at)))
          ∙ ap (λ byte. ranges_where wanted byte (m.len - b)) at

      -- Stretches that are all inside, up to one that is not or to the end, are a range in front of the others.
      pub shown-range : (n k : ℕ) → k + suc n ≤ length m.stretches.items → AreAlike m.stretches.items start end true k (k + suc n)
          → ((d : Stretch) → k + suc n < length m.stretches.items → is_source_in start end (get_or m.stretches.items (k + suc n) d).source ≡ false)
          → shown_from m start end k ≡ (stretch_start m k, stretch_start m (k + suc n)) ∷ shown_from m start end (k + suc n)
      shown-range n k le alike other =
          let a : ℕ = stretch_start m k in
          let b : ℕ = stretch_start m (k + suc n) in
          let low : b ≤ m.len = start-low (k + suc n) le in
          let up : a + suc n ≤ b = starts-rise (suc n) k le in
          let more : ℕ = b - a - 1 in
          let parts : m.len - a ≡ suc more + (m.len - b) = omega (arith, low, up) in
          let at : a + suc more ≡ b = omega (arith, up) in
          ap (ranges_where wanted a) parts
          ∙ where-range wanted a more (m.len - b) (λ byte from to. bytes-alike true (suc n) k byte le alike from (omega (arith, to, at))) (ends at (cases_lt (k + suc n) (length m.stretches.items)))
          ∙ ap (λ byte. (a, byte) ∷ ranges_where wanted byte (m.len - b)) at
        where
          ends : {c : ℕ} → c ≡ stretch_start m (k + suc n) → (k + suc n < length m.stretches.items) ⊎ (length m.stretches.items ≤ k + suc n) → (m.len - stretch_start m (k + suc n) ≡ 0) ⊎ (wanted c ≡ false)
          ends at (inr past) = inl (omega (arith, ap (λ s. s.start) (get_or_past m.stretches.items (k + suc n) (no_stretch m.len) past)))
          ends {c} at (inl less) = inr (
              ap wanted at
              ∙ ap (is_source_in start end) (shown-kept (stretch_start m (k + suc n)) ∙ h.2 (k + suc n) (stretch_start m (k + suc n)) less (omega arith) (h.1 (k + suc n) less))
              ∙ other (no_stretch m.len) less)

      -- A search for the first range: none is inside up to the last one,
      pub range-none : (number first : ℕ) → length m.stretches.items ≤ first → AreAlike m.stretches.items start end false number first → shown_from m start end number ≡ []
      range-none number first past alike = go (cases_lt number (length m.stretches.items))
        where
          go : (number < length m.stretches.items) ⊎ (length m.stretches.items ≤ number) → shown_from m start end number ≡ []
          go (inr behind) = shown-beyond number behind
          go (inl less) =
              let whole : number + (length m.stretches.items - number) ≡ length m.stretches.items = omega (arith, less) in
              shown-passed (length m.stretches.items - number) number (omega (arith, less)) (λ k d low high inside. alike k d low (omega (arith, inside, past)) inside)
              ∙ shown-beyond (number + (length m.stretches.items - number)) (omega (arith, whole))

      -- or up to the first that is, and all are from there on up to another.
      pub range-found : (number first behind : ℕ) → number ≤ first → first < length m.stretches.items → suc first ≤ behind → behind ≤ length m.stretches.items
          → AreAlike m.stretches.items start end false number first → ((d : Stretch) → is_source_in start end (get_or m.stretches.items first d).source ≡ true)
          → AreAlike m.stretches.items start end true (suc first) behind → ((d : Stretch) → behind < length m.stretches.items → is_source_in start end (get_or m.stretches.items behind d).source ≡ false)
          → shown_from m start end number ≡ (stretch_start m first, stretch_start m behind) ∷ shown_from m start end behind
      range-found number first behind low inside after le passed at alike other =
          let front : number + (first - number) ≡ first = omega (arith, low) in
          let whole : first + suc (behind - suc first) ≡ behind = omega (arith, after) in
          shown-passed (first - number) number (omega (arith, low, inside)) (λ k d from to there. passed k d from (omega (arith, to, front)) there)
          ∙ ap (shown_from m start end) front
          ∙ shown-range (behind - suc first) first (omega (arith, whole, le)) (λ k d from to there. all k d (cases_lt first k) from (omega (arith, to, whole)) there) (λ d there. ap (λ n. is_source_in start end (get_or m.stretches.items n d).source) whole ∙ other d (omega (arith, there, whole)))
          ∙ ap (λ n. (stretch_start m first, stretch_start m n) ∷ shown_from m start end n) whole
        where
          all : (k : ℕ) (d : Stretch) → (first < k) ⊎ (k ≤ first) → first ≤ k → k < behind → k < length m.stretches.items → is_source_in start end (get_or m.stretches.items k d).source ≡ true
          all k d (inl less) from to there = alike k d (omega (arith, less)) to there
          all k d (inr here) from to there =
              let same : k ≡ first = omega (arith, here, from) in
              ap (λ n. is_source_in start end (get_or m.stretches.items n d).source) same ∙ at d

      pub range-order : (first behind : ℕ) → suc first ≤ behind → behind ≤ length m.stretches.items → stretch_start m first < stretch_start m behind
      range-order first behind after le =
          let whole : first + (behind - first) ≡ behind = omega (arith, after) in
          omega (arith, starts-rise (behind - first) first (omega (arith, whole, le)), ap (stretch_start m) whole, after)
