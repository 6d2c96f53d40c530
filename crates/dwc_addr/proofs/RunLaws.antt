-- The runs of a function by their numbers, as they are found in what is kept of it.
use Rattle.std.proofs.Common.{◌≡◌, ℕ, zero, suc, ◌+◌, ◌-◌, ◌<◌, ◌≤◌, refl, sym, ap, subst, ◌∙◌, arith, List, [], ◌∷◌, map, length, take, drop, get_or, inl, inr}
use Rattle.std.specs.Prelude.{◌⊎◌, nat_lt, if◌then◌else◌}
use Rattle.std.specs.List.{AllByRecursion}
use Rattle.std.specs.List.Sorted.{IsNonDecreasingBy}
use Rattle.std.proofs.lemmas.Bool.{lt-ltb, le-ltb, cases_lt}
use Rattle.std.proofs.lemmas.List.{drop_more, length-map, length-drop, get_or-map, take-map, drop-map, take_all, get_or_default}
use Rattle.dwc_native.specs.Runs as base
use Rattle.dwc_native.specs.Runs.{Position, runs, pieces, source_positions, joined_positions}
use Rattle.dwc_addr.specs.declared.address_map.AddressMap.{AddressMap}
use Rattle.dwc_addr.specs.declared.function_map.FunctionMap.{FunctionMap}
use Rattle.dwc_addr.specs.declared.run.Run.{Run}
use Rattle.dwc_addr.specs.Rising.{RisesFrom}
use Rattle.dwc_addr.specs.Runs.{recorded_view, run_starts}
use Rattle.dwc_addr.specs.RunViews.{positions_of, no_source, source_at, begin_of, end_of, IsRunOf}
use Rattle.dwc_addr.specs.Transforms.{function_view}
use Rattle.dwc_addr.proofs.PieceLaws.{recorded_at, no_position, cut, Rise, PieceRises, pieces-cut, places-rise, pieces-rise, first_place, begin_wasm, begin_native, run_at, runs-more, runs-end, place-behind, positions-rise, last-rises}
use Rattle.dwc_addr.proofs.PositionLaws.{positions-recorded}
use Rattle.dwc_addr.proofs.RisingLaws.{RisesFrom-map, RisesFrom-seen, RisesFrom-non_decreasing}

-- the places of later runs among the sources that are left, by the first of these
pub starts-left : (xs : List AddressMap) (place last : ℕ) (e : AddressMap) → place < length xs → e ≡ get_or xs place e
    → run_starts place last (map recorded_view (drop place xs))
    ≡ (if nat_lt e.wasm last then place ∷ run_starts (place + 1) e.wasm (map recorded_view (drop (place + 1) xs)) else run_starts (place + 1) e.wasm (map recorded_view (drop (place + 1) xs)))
starts-left xs place last e less is =
    ap (λ rest. run_starts place last (map recorded_view rest)) (drop_more xs place e less ∙ ap (λ first. first ∷ drop (place + 1) xs) (sym is))
    ∙ ap (λ n. if nat_lt e.wasm last then place ∷ run_starts n e.wasm (map recorded_view (drop (place + 1) xs)) else run_starts n e.wasm (map recorded_view (drop (place + 1) xs))) (omega arith)

module _ (m : FunctionMap) where
  -- the positions are those of the sources
  pub recorded : map recorded_at (positions_of m) ≡ map recorded_view m.addresses
  recorded = positions-recorded m.len m.gaps.now 0 (map recorded_view m.addresses)

  pub count : length (positions_of m) ≡ length m.addresses
  count = sym (length-map (positions_of m) recorded_at) ∙ ap length recorded ∙ length-map m.addresses recorded_view

  pub recorded-at : (k : ℕ) → k < length m.addresses → recorded_at (get_or (positions_of m) k no_position) ≡ recorded_view (source_at m k)
  recorded-at k less =
      sym (get_or-map recorded_at (positions_of m) k no_position (recorded_view no_source) (omega (arith, less, count)))
      ∙ ap (λ es. get_or es k (recorded_view no_source)) recorded
      ∙ get_or-map recorded_view m.addresses k no_source (recorded_view no_source) less

  pub wasm-at : (k : ℕ) → k < length m.addresses → (get_or (positions_of m) k no_position).wasm ≡ (source_at m k).wasm
  wasm-at k less = ap (λ e. e.wasm) (recorded-at k less)

  pub native-at : (k : ℕ) → k < length m.addresses → (get_or (positions_of m) k no_position).start ≡ (source_at m k).generated
  native-at k less = ap (λ e. e.native) (recorded-at k less)

  starts : m.later_runs.items ≡ run_starts 0 0 (map recorded_at (positions_of m))
  starts = m.split ∙ ap (run_starts 0 0) (sym recorded)

  rise : Rise 0 (length (positions_of m)) m.later_runs.items
  rise = subst (λ n. Rise 0 n m.later_runs.items) (length-map (positions_of m) recorded_at) (subst (Rise 0 (length (map recorded_at (positions_of m)))) (sym starts) (places-rise (map recorded_at (positions_of m))))

  cut-at : pieces (positions_of m) ≡ cut 0 m.later_runs.items (positions_of m)
  cut-at = pieces-cut (positions_of m) ∙ ap (λ ss. cut 0 ss (positions_of m)) (sym starts)

  rises : AllByRecursion PieceRises (cut 0 m.later_runs.items (positions_of m))
  rises = subst (AllByRecursion PieceRises) cut-at (pieces-rise (positions_of m))

  runs-cut : runs (function_view m) ≡ base.runs_from (function_view m) m.wasm_start 0 (cut 0 m.later_runs.items (positions_of m))
  unfolding runs
  runs-cut = ap (base.runs_from (function_view m) m.wasm_start 0) cut-at

  -- Where a run ends that is not the last.
  pub ends-inside : (k : ℕ) → k < length m.later_runs.items → (0 < get_or m.later_runs.items k 0) × (get_or m.later_runs.items k 0 < length m.addresses)
  ends-inside k less =
      let h = place-behind (function_view m) (positions_of m) m.later_runs.items rise k less in
      (omega (arith, h.0), omega (arith, h.1, count))

  -- ---- where a run begins and ends, by what the code looks up

  pub begin-inside : (k first : ℕ) → (k ≡ 0 → ⊥) → k ≤ length m.later_runs.items → first ≡ get_or m.later_runs.items (k - 1) first → first < length m.addresses
  begin-inside zero first some le is = absurd (some refl)
  begin-inside (suc k) first some le is =
      let e : suc k - 1 ≡ k = omega arith in
      omega (arith, (ends-inside k (omega (arith, le))).1, is ∙ ap (λ n. get_or m.later_runs.items n first) e ∙ get_or_default m.later_runs.items k first 0 (omega (arith, le)))

  pub begin-is : (k first : ℕ) (source : AddressMap) → (k ≡ 0 → ⊥) → k ≤ length m.later_runs.items → first ≡ get_or m.later_runs.items (k - 1) first → source ≡ get_or m.addresses first source → (first, source.wasm, source.generated) ≡ begin_of m k
  begin-is zero first source some le is at = absurd (some refl)
  begin-is (suc k) first source some le is at =
      let e : suc k - 1 ≡ k = omega arith in
      let inside = begin-inside (suc k) first some le is in
      let place : first ≡ get_or m.later_runs.items k 0 = is ∙ ap (λ n. get_or m.later_runs.items n first) e ∙ get_or_default m.later_runs.items k first 0 (omega (arith, le)) in
      let there : source ≡ source_at m first = at ∙ get_or_default m.addresses first source no_source inside in
      ap (λ (s : AddressMap). (first, s.wasm, s.generated)) there ∙ ap (λ n. (n, (source_at m n).wasm, (source_at m n).generated)) place

  pub end-inside : (k behind : ℕ) → k < length m.later_runs.items → behind ≡ get_or m.later_runs.items k behind → (0 < behind) × (behind < length m.addresses)
  end-inside k behind less is =
      let h = ends-inside k less in
      let place : behind ≡ get_or m.later_runs.items k 0 = is ∙ get_or_default m.later_runs.items k behind 0 less in
      (omega (arith, h.0, place), omega (arith, h.1, place))

  pub end-is : (k behind : ℕ) (last next : AddressMap) → k < length m.later_runs.items → behind ≡ get_or m.later_runs.items k behind → last ≡ get_or m.addresses (behind - 1) last → next ≡ get_or m.addresses behind next
      → (behind, last.wasm, next.generated) ≡ end_of m k
  end-is k behind last next less is before at =
      let inside = end-inside k behind less is in
      let place : behind ≡ get_or m.later_runs.items k 0 = is ∙ get_or_default m.later_runs.items k behind 0 less in
      let one : last ≡ source_at m (behind - 1) = before ∙ get_or_default m.addresses (behind - 1) last no_source (omega (arith, inside.1)) in
      let two : next ≡ source_at m behind = at ∙ get_or_default m.addresses behind next no_source inside.1 in
      rw (lt-ltb k (length m.later_runs.items) less)
      (ap (λ (s : AddressMap). (behind, s.wasm, next.generated)) one
      ∙ ap (λ (s : AddressMap). (behind, (source_at m (behind - 1)).wasm, s.generated)) two
      ∙ ap (λ n. (n, (source_at m (n - 1)).wasm, (source_at m n).generated)) place)

  -- ---- a run by its number

  begin-place : (k : ℕ) → first_place m.later_runs.items k ≡ (begin_of m k).0
  begin-place zero = refl
  begin-place (suc k) = refl

  begin-wasm : (k : ℕ) → k ≤ length m.later_runs.items → begin_wasm (function_view m) (positions_of m) m.later_runs.items k ≡ (begin_of m k).1
  begin-wasm zero le = refl
  begin-wasm (suc k) le = wasm-at (get_or m.later_runs.items k 0) (ends-inside k (omega (arith, le))).1

  begin-native : (k : ℕ) → k ≤ length m.later_runs.items → begin_native (positions_of m) m.later_runs.items k ≡ (begin_of m k).2
  begin-native zero le = refl
  begin-native (suc k) le = native-at (get_or m.later_runs.items k 0) (ends-inside k (omega (arith, le))).1

  begin-low : (k : ℕ) → k ≤ length m.later_runs.items → (begin_of m k).0 ≤ length m.addresses
  begin-low zero le = omega arith
  begin-low (suc k) le = omega (arith, (ends-inside k (omega (arith, le))).1)

  abbrev pub run_of : ℕ × ℕ × ℕ → ℕ × ℕ × ℕ → base.Run
  run_of b e = record { wasm_start = b.1; wasm_end = e.1; start = b.2; end = e.2; positions = joined_positions (take (e.0 - b.0) (drop b.0 (positions_of m))) }

  run-is : (k : ℕ) → k ≤ length m.later_runs.items → run_at (function_view m) (positions_of m) m.later_runs.items k ≡ run_of (begin_of m k) (end_of m k)
  run-is k le = go (cases_lt k (length m.later_runs.items))
    where
      go : (k < length m.later_runs.items) ⊎ (length m.later_runs.items ≤ k) → run_at (function_view m) (positions_of m) m.later_runs.items k ≡ run_of (begin_of m k) (end_of m k)
      go (inl less) =
          let inside = ends-inside k less in
          rw (lt-ltb k (length m.later_runs.items) less, begin-place k, begin-wasm k le, begin-native k le, wasm-at (get_or m.later_runs.items k 0 - 1) (omega (arith, inside.1)), native-at (get_or m.later_runs.items k 0) inside.1) refl
      go (inr past) =
          let whole : take (length m.addresses - (begin_of m k).0) (drop (begin_of m k).0 (positions_of m)) ≡ drop (begin_of m k).0 (positions_of m) =
          take_all (length m.addresses - (begin_of m k).0) (drop (begin_of m k).0 (positions_of m)) (omega (arith, length-drop (begin_of m k).0 (positions_of m), count)) in
          rw (le-ltb k (length m.later_runs.items) past, begin-place k, begin-wasm k le, begin-native k le, whole) refl

  -- The runs from one on are that run and those behind it.
  pub runs-at : (k : ℕ) (b e : ℕ × ℕ × ℕ) → k ≤ length m.later_runs.items → b ≡ begin_of m k → e ≡ end_of m k → drop k (runs (function_view m)) ≡ run_of b e ∷ drop (suc k) (runs (function_view m))
  runs-at k b e le begins ends =
      rw (begins, ends, runs-cut)
      (runs-more (function_view m) (positions_of m) m.later_runs.items rise k le
      ∙ ap (λ (r : base.Run). r ∷ drop (suc k) (base.runs_from (function_view m) m.wasm_start 0 (cut 0 m.later_runs.items (positions_of m)))) (run-is k le))

  -- Behind the last one there is none.
  pub runs-past : drop (suc (length m.later_runs.items)) (runs (function_view m)) ≡ []
  runs-past = rw runs-cut (runs-end (function_view m) (positions_of m) m.later_runs.items rise)

  -- ---- a run's sources

  piece-rises : (k : ℕ) → k ≤ length m.later_runs.items → PieceRises (take ((end_of m k).0 - (begin_of m k).0) (drop (begin_of m k).0 (positions_of m)))
  piece-rises k le = go (cases_lt k (length m.later_runs.items))
    where
      go : (k < length m.later_runs.items) ⊎ (length m.later_runs.items ≤ k) → PieceRises (take ((end_of m k).0 - (begin_of m k).0) (drop (begin_of m k).0 (positions_of m)))
      go (inl less) = rw (lt-ltb k (length m.later_runs.items) less, ← begin-place k) (positions-rise (function_view m) (positions_of m) m.later_runs.items rise rises k less)
      go (inr past) =
          let whole : take (length m.addresses - (begin_of m k).0) (drop (begin_of m k).0 (positions_of m)) ≡ drop (begin_of m k).0 (positions_of m) =
          take_all (length m.addresses - (begin_of m k).0) (drop (begin_of m k).0 (positions_of m)) (omega (arith, length-drop (begin_of m k).0 (positions_of m), count)) in
          let last : length m.later_runs.items ≡ k = omega (arith, past, le) in
          rw (le-ltb k (length m.later_runs.items) past, whole, ← begin-place k, ← last) (last-rises (function_view m) (positions_of m) m.later_runs.items rise rises)

  pub part-recorded : (from n : ℕ) → map recorded_at (take n (drop from (positions_of m))) ≡ map recorded_view (take n (drop from m.addresses))
  part-recorded from n =
      sym (take-map recorded_at n (drop from (positions_of m)) ∙ refl)
      ∙ ap (take n) (sym (drop-map recorded_at from (positions_of m)) ∙ ap (drop from) recorded ∙ drop-map recorded_view from m.addresses)
      ∙ take-map recorded_view n (drop from m.addresses)

  sources-rise : (k : ℕ) → k ≤ length m.later_runs.items → IsNonDecreasingBy (λ e. e.wasm) (take ((end_of m k).0 - (begin_of m k).0) (drop (begin_of m k).0 m.addresses))
  sources-rise k le =
      let n = (end_of m k).0 - (begin_of m k).0 in
      let from = (begin_of m k).0 in
      RisesFrom-non_decreasing (λ e. e.wasm) 0 (take n (drop from m.addresses))
      (RisesFrom-seen (λ e. e.wasm) recorded_view 0 (take n (drop from m.addresses))
      (subst (RisesFrom (λ e. e.wasm) 0) (part-recorded from n) (RisesFrom-map (λ e. e.wasm) recorded_at 0 (take n (drop from (positions_of m))) (piece-rises k le))))

  order : (k : ℕ) → k ≤ length m.later_runs.items → ((begin_of m k).0 ≤ (end_of m k).0) × ((end_of m k).0 ≤ length m.addresses)
  order k le = go (cases_lt k (length m.later_runs.items))
    where
      go : (k < length m.later_runs.items) ⊎ (length m.later_runs.items ≤ k) → ((begin_of m k).0 ≤ (end_of m k).0) × ((end_of m k).0 ≤ length m.addresses)
      go (inl less) =
          let h = place-behind (function_view m) (positions_of m) m.later_runs.items rise k less in
          rw (lt-ltb k (length m.later_runs.items) less, ← begin-place k) (omega (arith, h.0), omega (arith, (ends-inside k less).1))
      go (inr past) = rw (le-ltb k (length m.later_runs.items) past) (begin-low k le, omega arith)

  -- A run's sources are some of the function's, and do not fall.
  pub run-places : (k : ℕ) (b e : ℕ × ℕ × ℕ) (r : Run) → k ≤ length m.later_runs.items → b ≡ begin_of m k → e ≡ end_of m k → r.first ≡ b.0 → r.behind ≡ e.0 → IsRunOf m r
  run-places k b e r le begins ends first behind =
      let at : (r.first ≡ (begin_of m k).0) = first ∙ ap (λ p. p.0) begins in
      let past : (r.behind ≡ (end_of m k).0) = behind ∙ ap (λ p. p.0) ends in
      record { low = rw (at, past) (order k le).0; inside = rw past (order k le).1; rises = rw (at, past) (sources-rise k le) }
