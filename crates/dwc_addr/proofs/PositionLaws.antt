-- The positions of merged entries: one for each source, in order, which ends where the next entry begins.
use Rattle.std.proofs.Common.{◌≡◌, ℕ, zero, suc, ◌+◌, ◌<◌, refl, sym, ap, ◌∙◌, arith, List, [], ◌∷◌, ◌++◌, map, length, get_or, Option, Some, None}
use Rattle.std.specs.Prelude.{◌==◌, if◌then◌else◌, option_map, Bool, true, false}
use Rattle.std.specs.Option.{unwrap_or}
use Rattle.std.proofs.lemmas.List.{append-nil}
use Rattle.std.specs.List.{filter, find}
use Rattle.dwc_native.specs.Functions.{Recorded}
use Rattle.dwc_native.specs.Runs.{Position, native_end, source_positions}
use Rattle.dwc_compiled.specs.declared.instruction_maps.Gap.{Gap}
use Rattle.dwc_compiled.specs.Gaps.{gaps_behind, entry_of_source, merged}
use Rattle.dwc_addr.specs.Rising.{RisesFrom}
use Rattle.dwc_addr.proofs.JoinedLaws.{EndsInFront, EndInFront}
use Rattle.dwc_addr.proofs.PieceLaws.{recorded_at}
use Rattle.dwc_addr.proofs.RisingLaws.{RisesFrom-weaker}

module _ (len : ℕ) where
  -- entries without a source give no position
  positions-past : (gs : List Gap) (rest : List (ℕ × Option ℕ)) → source_positions len (map (λ g. (g.generated, None)) gs ++ rest) ≡ source_positions len rest
  positions-past [] rest = refl
  positions-past (g ∷ gs) rest = positions-past gs rest

  positions-gaps : (gs : List Gap) → source_positions len (map (λ g. (g.generated, None)) gs) ≡ []
  positions-gaps [] = refl
  positions-gaps (g ∷ gs) = positions-gaps gs

  -- The position of a source, in front of those behind it.
  pub positions-more : (gs : List Gap) (before : ℕ) (e : Recorded) (es : List Recorded)
      → source_positions len (merged gs before (e ∷ es)) ≡ record { wasm = e.wasm; start = e.native; end = native_end len (merged gs (suc before) es) } ∷ source_positions len (merged gs (suc before) es)
  positions-more gs before e es = positions-past (filter (λ g. g.before == before) gs) (entry_of_source e ∷ merged gs (suc before) es)

  -- Each source has a position.
  pub positions-recorded : (gs : List Gap) (before : ℕ) (es : List Recorded) → map recorded_at (source_positions len (merged gs before es)) ≡ es
  positions-recorded gs before [] = ap (map recorded_at) (positions-gaps (filter (λ g. g.before == before) gs))
  positions-recorded gs before (e ∷ es) = ap (map recorded_at) (positions-more gs before e es) ∙ ap (λ rest. e ∷ rest) (positions-recorded gs (suc before) es)

  -- where the entries from one on begin: with those without a source that stand there, or else with the source
  begin-at : (gs : List Gap) (rest : List (ℕ × Option ℕ)) (before : ℕ) → native_end len (gaps_behind gs before ++ rest) ≡ unwrap_or (option_map (λ g. g.generated) (find (λ g. g.before == before) gs)) (native_end len rest)
  begin-at [] rest before = refl
  begin-at (g ∷ gs) rest before = go (g.before == before) (begin-at gs rest before)
    where
      go : (b : Bool) → native_end len (gaps_behind gs before ++ rest) ≡ unwrap_or (option_map (λ g. g.generated) (find (λ g. g.before == before) gs)) (native_end len rest)
          → native_end len (map (λ g. (g.generated, None)) (if b then g ∷ filter (λ g. g.before == before) gs else filter (λ g. g.before == before) gs) ++ rest)
          ≡ unwrap_or (option_map (λ g. g.generated) (if b then Some g else find (λ g. g.before == before) gs)) (native_end len rest)
      go true h = refl
      go false h = h

  -- where the source at a place begins, or the code ends where there is none
  abbrev pub next_source : List Recorded → ℕ → ℕ
  next_source [] k = len
  next_source (e ∷ es) zero = e.native
  next_source (e ∷ es) (suc k) = next_source es k

  -- the end of the position of the source at a place
  pub position-end : (gs : List Gap) (before : ℕ) (es : List Recorded) (k : ℕ) (d : Position) → k < length es
      → (get_or (source_positions len (merged gs before es)) k d).end ≡ unwrap_or (option_map (λ g. g.generated) (find (λ g. g.before == suc (before + k)) gs)) (next_source es (suc k))
  position-end gs before [] k d less = absurd (omega (arith, less))
  position-end gs before (e ∷ []) zero d less =
      ap (λ ps. (get_or ps 0 d).end) (positions-more gs before e []) ∙ ap (λ es. native_end len es) (sym (append-nil (gaps_behind gs (suc before)))) ∙ begin-at gs [] (suc before) ∙ ap (λ n. unwrap_or (option_map (λ (g : Gap). g.generated) (find (λ g. g.before == n) gs)) len) (omega arith)
  position-end gs before (e ∷ f ∷ es) zero d less =
      ap (λ ps. (get_or ps 0 d).end) (positions-more gs before e (f ∷ es)) ∙ begin-at gs (entry_of_source f ∷ merged gs (suc (suc before)) es) (suc before) ∙ ap (λ n. unwrap_or (option_map (λ (g : Gap). g.generated) (find (λ g. g.before == n) gs)) f.native) (omega arith)
  position-end gs before (e ∷ es) (suc k) d less =
      ap (λ ps. (get_or ps (suc k) d).end) (positions-more gs before e es)
      ∙ position-end gs (suc before) es k d (omega (arith, less))
      ∙ ap (λ n. unwrap_or (option_map (λ (g : Gap). g.generated) (find (λ g. g.before == n) gs)) (next_source es (suc k))) (omega arith)

  -- ---- ends in front of what follows

  -- entries whose code offsets do not fall
  pub begins-low : (low : ℕ) (es : List (ℕ × Option ℕ)) → RisesFrom (λ e. e.0) low es → RisesFrom (λ p. p.start) low (source_positions len es)
  begins-low low [] h = tt
  begins-low low ((native, None) ∷ es) h = RisesFrom-weaker (λ p. p.start) low native _ h.0 (begins-low native es h.1)
  begins-low low ((native, Some source) ∷ es) h = (h.0, begins-low native es h.1)

  in-front : (p : Position) (ps : List Position) → RisesFrom (λ q. q.start) p.end ps → EndsInFront p ps
  in-front p [] h = tt
  in-front p (q ∷ qs) h = h.0

  -- Where they do not, each position ends at or in front of where the next one begins.
  pub ends-in_front : (low : ℕ) (es : List (ℕ × Option ℕ)) → RisesFrom (λ e. e.0) low es → EndInFront (source_positions len es)
  ends-in_front low [] h = tt
  ends-in_front low ((native, None) ∷ es) h = ends-in_front native es h.1
  ends-in_front low ((native, Some source) ∷ []) h = (tt, tt)
  ends-in_front low ((native, Some source) ∷ f ∷ es) h =
      let p : Position = record { wasm = source; start = native; end = f.0 } in
      (in-front p (source_positions len (f ∷ es)) (begins-low f.0 (f ∷ es) (omega arith, h.1.1)), ends-in_front native (f ∷ es) h.1)
