-- Runs that an interval does not meet, by their bounds, have none of its ranges.
use Rattle.std.proofs.Common.{◌≡◌, ℕ, zero, suc, ◌+◌, ◌*◌, ◌/◌, ◌<◌, ◌≤◌, refl, sym, ap, ◌∙◌, arith, List, [], ◌∷◌, ◌++◌, length, get_or, inl, inr, None}
use Rattle.std.specs.Prelude.{nat_lt, Bool, true, false, ◌&&◌, ◌⊎◌}
use Rattle.std.specs.List.{filter_map, cons_option}
use Rattle.std.proofs.lemmas.Bool.{lt-ltb, le-ltb, lt-leb, cases_lt}
use Rattle.std.proofs.lemmas.List.{get_or_append_left, get_or_push, length-append}
use Rattle.dwc_native.specs.Runs as base
use Rattle.dwc_addr.specs.declared.bounds.Bounds.{Bounds}
use Rattle.dwc_addr.specs.declared.function_map.FunctionMap.{FunctionMap}
use Rattle.dwc_addr.specs.RunBounds.{no_bounds, wasm_begin, wasm_end, Encloses, AreRunBounds, AreBlockBounds, IsApart}
use Rattle.dwc_addr.specs.RunViews.{begin_of, end_of}
use Rattle.dwc_addr.specs.Translations.{range_in, ranges_from}
use Rattle.dwc_addr.proofs.RunLaws.{run_of, runs-at}
use Rattle.dwc_addr.proofs.TranslateLaws.{ranges-beyond}

-- ---- bounds that are put behind others

pub runs-pushed : (begins ends : ℕ → ℕ) (last k : ℕ) (bounds : List Bounds) (b : Bounds) → length bounds ≡ k → Encloses b (begins k) (ends k) → AreRunBounds begins ends last bounds → AreRunBounds begins ends last (bounds ++ (b ∷ []))
runs-pushed begins ends last k bounds b size at h i less low = go (cases_lt i (length bounds))
  where
    go : (i < length bounds) ⊎ (length bounds ≤ i) → Encloses (get_or (bounds ++ (b ∷ [])) i no_bounds) (begins i) (ends i)
    go (inl front) = rw (get_or_append_left bounds (b ∷ []) no_bounds i front) (h i front low)
    go (inr behind) =
        let there : i ≡ k = omega (arith, less, length-append bounds (b ∷ []), behind, size) in
        rw (there, get_or_push bounds b no_bounds k size) at

pub blocks-pushed : (bounds blocks : List Bounds) (b : Bounds) (k : ℕ) → length blocks ≡ k → 64 * k + 64 ≤ length bounds
    → ((i : ℕ) → 64 * k ≤ i → i < 64 * k + 64 → Encloses b (get_or bounds i no_bounds).begin (get_or bounds i no_bounds).end)
    → AreBlockBounds bounds blocks → AreBlockBounds bounds (blocks ++ (b ∷ []))
blocks-pushed bounds blocks b k size inside at h j i less from to = go (cases_lt j (length blocks))
  where
    go : (j < length blocks) ⊎ (length blocks ≤ j) → (i < length bounds) × Encloses (get_or (blocks ++ (b ∷ [])) j no_bounds) (get_or bounds i no_bounds).begin (get_or bounds i no_bounds).end
    go (inl front) = rw (get_or_append_left blocks (b ∷ []) no_bounds j front) (h j i front from to)
    go (inr behind) =
        let there : j ≡ k = omega (arith, less, length-append blocks (b ∷ []), behind, size) in
        rw (there, get_or_push blocks b no_bounds k size) (omega (arith, inside, to, there), at i (omega (arith, from, there)) (omega (arith, to, there)))

-- ---- an interval and the runs of a function

none-behind : (b : Bool) → (b && false) ≡ false
none-behind true = refl
none-behind false = refl

-- what begins and ends so is in front of an interval, or behind it
abbrev pub IsPassed : ℕ → ℕ → ℕ → ℕ → Type 0
IsPassed start end begin last = (end ≤ begin) ⊎ (last < start)

no-range : (start end : ℕ) (r : base.Run) → IsPassed start end r.wasm_start r.wasm_end → range_in start end r ≡ None
no-range start end r (inl behind) = rw (le-ltb r.wasm_start end behind) refl
no-range start end r (inr front) = rw (lt-leb start r.wasm_end front, none-behind (nat_lt r.wasm_start end)) refl

enclosed : (b : Bounds) (start end begin last : ℕ) → Encloses b begin last → IsApart b start end → IsPassed start end begin last
enclosed b start end begin last h (inl behind) = inl (omega (arith, h.0, behind))
enclosed b start end begin last h (inr front) = inr (omega (arith, h.1, front))

module _ (m : FunctionMap) (start end : ℕ) where
  begin-seen : (k : ℕ) → wasm_begin m.wasm_start m.addresses m.later_runs.items k ≡ (begin_of m k).1
  begin-seen zero = refl
  begin-seen (suc k) = refl

  end-seen : (k : ℕ) → wasm_end m.wasm_end m.addresses m.later_runs.items k ≡ (end_of m k).1
  end-seen k = go (cases_lt k (length m.later_runs.items))
    where
      go : (k < length m.later_runs.items) ⊎ (length m.later_runs.items ≤ k) → wasm_end m.wasm_end m.addresses m.later_runs.items k ≡ (end_of m k).1
      go (inl less) = rw (lt-ltb k (length m.later_runs.items) less) refl
      go (inr past) = rw (le-ltb k (length m.later_runs.items) past) refl

  abbrev IsPassedRun : ℕ → Type 0
  IsPassedRun k = k ≤ length m.later_runs.items → IsPassed start end (begin_of m k).1 (end_of m k).1

  one-passed : (k : ℕ) → IsPassedRun k → ranges_from m start end (suc k) ≡ ranges_from m start end k
  one-passed k passed = go (cases_lt (length m.later_runs.items) k)
    where
      go : (length m.later_runs.items < k) ⊎ (k ≤ length m.later_runs.items) → ranges_from m start end (suc k) ≡ ranges_from m start end k
      go (inl past) = ranges-beyond m start end (suc k) (omega (arith, past)) ∙ sym (ranges-beyond m start end k (omega (arith, past)))
      go (inr le) =
          sym (ap (filter_map (range_in start end)) (runs-at m k (begin_of m k) (end_of m k) le refl refl)
          ∙ ap (λ o. cons_option o (ranges_from m start end (suc k))) (no-range start end (run_of m (begin_of m k) (end_of m k)) (passed le)))

  many-passed : (n k : ℕ) → ((j : ℕ) → k ≤ j → j < k + n → IsPassedRun j) → ranges_from m start end (k + n) ≡ ranges_from m start end k
  many-passed zero k h = let same : k + 0 ≡ k = omega arith in ap (ranges_from m start end) same
  many-passed (suc n) k h =
      let next : k + suc n ≡ suc k + n = omega arith in
      ap (ranges_from m start end) next
      ∙ many-passed n (suc k) (λ j from to. h j (omega (arith, from)) (omega (arith, to)))
      ∙ one-passed k (h k (omega arith) (omega arith))

  run-apart : (k : ℕ) → k < length m.run_bounds.items → IsApart (get_or m.run_bounds.items k no_bounds) start end → IsPassedRun k
  run-apart k less apart le = rw (← begin-seen k, ← end-seen k) (enclosed _ start end _ _ (m.bounded k less le) apart)

  -- A run is passed over by its bounds, and so is each of a block, and of a block of blocks.
  pub run-passed : (k : ℕ) → k < length m.run_bounds.items → IsApart (get_or m.run_bounds.items k no_bounds) start end → ranges_from m start end (k + 1) ≡ ranges_from m start end k
  run-passed k less apart = let next : k + 1 ≡ suc k = omega arith in ap (ranges_from m start end) next ∙ one-passed k (run-apart k less apart)

  pub block-passed : (b k : ℕ) → k ≡ 64 * b → b < length m.block_bounds.items → IsApart (get_or m.block_bounds.items b no_bounds) start end → ranges_from m start end (k + 64) ≡ ranges_from m start end k
  block-passed b k at less apart = many-passed 64 k (λ j from to.
      let h = m.blocks_bounded b j less (omega (arith, from, at)) (omega (arith, to, at)) in
      run-apart j h.0 (enclosed _ start end _ _ h.1 apart))

  pub outer-passed : (o k : ℕ) → k ≡ 4096 * o → o < length m.outer_bounds.items → IsApart (get_or m.outer_bounds.items o no_bounds) start end → ranges_from m start end (k + 4096) ≡ ranges_from m start end k
  outer-passed o k at less apart = many-passed 4096 k (λ j from to.
      let outer = m.outer_bounded o (j / 64) less (omega (arith, from, at)) (omega (arith, to, at)) in
      let block = m.blocks_bounded (j / 64) j outer.0 (omega arith) (omega arith) in
      run-apart j block.0 (enclosed _ start end _ _ (omega (arith, outer.1.0, block.1.0), omega (arith, outer.1.1, block.1.1)) apart))
