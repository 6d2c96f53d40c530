-- The entries of an address map are kept whole: those with a source and those without come back in order, however they are added and taken.
use Rattle.std.proofs.Common.{◌≡◌, ℕ, suc, ◌+◌, ◌<◌, ◌≤◌, refl, ap, sym, subst, ◌∙◌, arith, List, [], ◌∷◌, ◌++◌, map, length, Option, Some, None}
use Rattle.std.specs.Prelude.{◌==◌, All}
use Rattle.std.specs.List.{filter, filter_map}
use Rattle.std.proofs.lemmas.Bool.{eq-eqb, ne_eqb}
use Rattle.std.proofs.lemmas.List.{map-append, append_assoc, length-map, length-append}
use Rattle.std.proofs.lemmas.List.Elements.{All-append, All-nil, All-cons, All-head, All-tail, filter-append}
use Rattle.dwc_native.specs.Functions.{Recorded, recorded_entry, wasm_entry}
use Rattle.dwc_compiled.specs.declared.instruction_maps.Gap.{Gap}
use Rattle.dwc_compiled.specs.declared.instruction_maps.InstructionSource.{InstructionSource}
use Rattle.dwc_compiled.specs.Gaps.{gaps_of, gaps_behind, entry_of_source, merged, source_view, AreGapsOf, IsSplit}
use Rattle.std.proofs.lemmas.List.{append-nil}

-- ---- the sources among all entries

-- gaps have no sources
recorded-behind : (gs : List Gap) (rest : List (ℕ × Option ℕ)) → filter_map recorded_entry (map (λ g. (g.generated, None)) gs ++ rest) ≡ filter_map recorded_entry rest
recorded-behind [] rest = refl
recorded-behind (g ∷ gs) rest = recorded-behind gs rest

recorded-gaps : (gs : List Gap) → filter_map recorded_entry (map (λ g. (g.generated, None)) gs) ≡ []
recorded-gaps [] = refl
recorded-gaps (g ∷ gs) = recorded-gaps gs

-- The recorded sources of merged entries are those that were merged.
pub recorded-merged : (gs : List Gap) (before : ℕ) (es : List Recorded) → filter_map recorded_entry (merged gs before es) ≡ es
recorded-merged gs before [] = recorded-gaps (filter (λ g. g.before == before) gs)
recorded-merged gs before (e ∷ es) = recorded-behind (filter (λ g. g.before == before) gs) (entry_of_source e ∷ merged gs (suc before) es) ∙ ap (λ rest. e ∷ rest) (recorded-merged gs (suc before) es)

-- ---- all entries

-- the gaps of entries do not hang on what sources are counted from
pub gaps-counted : (code_offset before : ℕ) (es : List (ℕ × Option ℕ)) → gaps_of before (map (wasm_entry code_offset) es) ≡ gaps_of before es
gaps-counted code_offset before [] = refl
gaps-counted code_offset before ((native, None) ∷ es) = ap (λ gs. record { before = before; generated = native } ∷ gs) (gaps-counted code_offset before es)
gaps-counted code_offset before ((native, Some source) ∷ es) = gaps-counted code_offset (suc before) es

-- the gaps of entries are not in front of those entries
none-behind : (before low : ℕ) (es : List (ℕ × Option ℕ)) → low < before → filter (λ g. g.before == low) (gaps_of before es) ≡ []
none-behind before low [] less = refl
none-behind before low ((native, None) ∷ es) less = rw (ne_eqb before low (λ same. absurd (omega (arith, same, less)))) (none-behind before low es less)
none-behind before low ((native, Some source) ∷ es) less = none-behind (suc before) low es (omega (arith, less))

-- a gap plays no part behind it
merged-past : (g : Gap) (gs : List Gap) (before : ℕ) (es : List Recorded) → g.before < before → merged (g ∷ gs) before es ≡ merged gs before es
merged-past g gs before [] less = rw (ne_eqb g.before before (λ same. absurd (omega (arith, same, less)))) refl
merged-past g gs before (e ∷ es) less = rw (ne_eqb g.before before (λ same. absurd (omega (arith, same, less))), merged-past g gs (suc before) es (omega (arith, less))) refl

-- a gap in front of the others
merged-gap : (g : Gap) (gs : List Gap) (es : List Recorded) → merged (g ∷ gs) g.before es ≡ (g.generated, None) ∷ merged gs g.before es
merged-gap g gs [] = rw (eq-eqb g.before g.before refl) refl
merged-gap g gs (e ∷ es) = rw (eq-eqb g.before g.before refl, merged-past g gs (suc g.before) es (omega arith)) refl

-- Entries are the sources among them, merged with their gaps.
pub merged-all : (before : ℕ) (es : List (ℕ × Option ℕ)) → merged (gaps_of before es) before (filter_map recorded_entry es) ≡ es
merged-all before [] = refl
merged-all before ((native, None) ∷ es) = merged-gap (record { before = before; generated = native }) (gaps_of before es) (filter_map recorded_entry es) ∙ ap (λ rest. (native, None) ∷ rest) (merged-all before es)
merged-all before ((native, Some source) ∷ es) =
    ap (λ gs. map (λ g. (g.generated, None)) gs ++ ((native, Some source) ∷ merged (gaps_of (suc before) es) (suc before) (filter_map recorded_entry es))) (none-behind (suc before) before es (omega arith))
    ∙ ap (λ rest. (native, Some source) ∷ rest) (merged-all (suc before) es)

-- ---- an entry behind the others

-- a gap behind all sources
merged-and-gap : (gs : List Gap) (g : Gap) (before : ℕ) (es : List Recorded) → g.before ≡ before + length es → merged (gs ++ g ∷ []) before es ≡ merged gs before es ++ (g.generated, None) ∷ []
merged-and-gap gs g before [] is =
    ap (map (λ (h : Gap). (h.generated, None))) (filter-append (λ (h : Gap). h.before == before) gs (g ∷ []))
    ∙ map-append (λ (h : Gap). (h.generated, None)) (filter (λ (h : Gap). h.before == before) gs) (filter (λ (h : Gap). h.before == before) (g ∷ []))
    ∙ rw (eq-eqb g.before before (omega (arith, is))) refl
merged-and-gap gs g before (e ∷ es) is =
    ap (λ front. map (λ (h : Gap). (h.generated, None)) front ++ (entry_of_source e ∷ merged (gs ++ g ∷ []) (suc before) es)) (filter-append (λ (h : Gap). h.before == before) gs (g ∷ []))
    ∙ rw (ne_eqb g.before before (λ same. absurd (omega (arith, same, is))), append-nil (filter (λ (h : Gap). h.before == before) gs), merged-and-gap gs g (suc before) es (omega (arith, is)))
    (sym (append_assoc (gaps_behind gs before) (entry_of_source e ∷ merged gs (suc before) es) ((g.generated, None) ∷ [])))

-- no gap stands behind more sources than there are
none-beyond : (gs : List Gap) (count place : ℕ) → count < place → All (λ g. g.before ≤ count) gs → filter (λ (g : Gap). g.before == place) gs ≡ []
none-beyond [] count place less h = refl
none-beyond (g ∷ gs) count place less h =
    let first = All-head (λ (g : Gap). g.before ≤ count) g gs h in
    rw (ne_eqb g.before place (λ same. absurd (omega (arith, same, less, first)))) (none-beyond gs count place less (All-tail (λ (g : Gap). g.before ≤ count) g gs h))

-- a source behind all
merged-and-source : (gs : List Gap) (s : Recorded) (before : ℕ) (es : List Recorded) → All (λ g. g.before ≤ before + length es) gs → merged gs before (es ++ s ∷ []) ≡ merged gs before es ++ entry_of_source s ∷ []
merged-and-source gs s before [] h = ap (λ (more : List Gap). gaps_behind gs before ++ (entry_of_source s ∷ map (λ (g : Gap). (g.generated, None)) more)) (none-beyond gs (before + 0) (suc before) (omega arith) h)
merged-and-source gs s before (e ∷ es) h =
    ap (λ rest. gaps_behind gs before ++ (entry_of_source e ∷ rest)) (merged-and-source gs s (suc before) es (subst (λ n. All (λ (g : Gap). g.before ≤ n) gs) (omega arith) h))
    ∙ sym (append_assoc (gaps_behind gs before) (entry_of_source e ∷ merged gs (suc before) es) (entry_of_source s ∷ []))

-- the gaps of entries and one behind them
gaps-and-gap : (before : ℕ) (es : List (ℕ × Option ℕ)) (native : ℕ) → gaps_of before (es ++ (native, None) ∷ []) ≡ gaps_of before es ++ record { before = before + length (filter_map recorded_entry es); generated = native } ∷ []
gaps-and-gap before [] native = ap (λ n. record { before = n; generated = native } ∷ []) (omega arith)
gaps-and-gap before ((offset, None) ∷ es) native = ap (λ gs. record { before = before; generated = offset } ∷ gs) (gaps-and-gap before es native)
gaps-and-gap before ((offset, Some source) ∷ es) native =
    gaps-and-gap (suc before) es native ∙ ap (λ n. gaps_of (suc before) es ++ record { before = n; generated = native } ∷ []) (omega arith)

gaps-and-source : (before : ℕ) (es : List (ℕ × Option ℕ)) (native source : ℕ) → gaps_of before (es ++ (native, Some source) ∷ []) ≡ gaps_of before es
gaps-and-source before [] native source = refl
gaps-and-source before ((offset, None) ∷ es) native source = ap (λ gs. record { before = before; generated = offset } ∷ gs) (gaps-and-source before es native source)
gaps-and-source before ((offset, Some other) ∷ es) native source = gaps-and-source (suc before) es native source

module _ (sources : List InstructionSource) (gaps : List Gap) (split : IsSplit sources gaps) where
  -- what is kept with a source more, and what it is
  pub source-added : (s : InstructionSource) → merged gaps 0 (map source_view (sources ++ s ∷ [])) ≡ merged gaps 0 (map source_view sources) ++ (s.code_offset, Some s.source) ∷ []
  source-added s =
      ap (merged gaps 0) (map-append source_view sources (s ∷ []))
      ∙ merged-and-source gaps (source_view s) 0 (map source_view sources) (subst (λ n. All (λ (g : Gap). g.before ≤ n) gaps) (omega (arith, length-map sources source_view)) split.inside)

  pub source-split : (s : InstructionSource) → IsSplit (sources ++ s ∷ []) gaps
  source-split s = record {
    kept = ap (gaps_of 0) (source-added s) ∙ gaps-and-source 0 (merged gaps 0 (map source_view sources)) s.code_offset s.source ∙ split.kept;
    inside = widened gaps (length sources) (length (sources ++ s ∷ [])) (omega (arith, length-append sources (s ∷ []))) split.inside;
  }
    where
      widened : (gs : List Gap) (n m : ℕ) → n ≤ m → All (λ (g : Gap). g.before ≤ n) gs → All (λ (g : Gap). g.before ≤ m) gs
      widened [] n m less h = All-nil (λ (g : Gap). g.before ≤ m)
      widened (g ∷ gs) n m less h =
          All-cons (λ (h : Gap). h.before ≤ m) g gs (omega (arith, less, All-head (λ (h : Gap). h.before ≤ n) g gs h)) (widened gs n m less (All-tail (λ (h : Gap). h.before ≤ n) g gs h))

  -- the same with a gap more
  pub gap-added : (g : Gap) → g.before ≡ length sources → merged (gaps ++ g ∷ []) 0 (map source_view sources) ≡ merged gaps 0 (map source_view sources) ++ (g.generated, None) ∷ []
  gap-added g is = merged-and-gap gaps g 0 (map source_view sources) (omega (arith, is, length-map sources source_view))

  pub gap-split : (g : Gap) → g.before ≡ length sources → IsSplit sources (gaps ++ g ∷ [])
  gap-split g is = record {
    kept =
        ap (gaps_of 0) (gap-added g is) ∙ gaps-and-gap 0 (merged gaps 0 (map source_view sources)) g.generated
        ∙ rw (recorded-merged gaps 0 (map source_view sources), length-map sources source_view, ← is, split.kept) (ap (λ n. gaps ++ record { before = n; generated = g.generated } ∷ []) (omega arith));
    inside = All-append (λ (h : Gap). h.before ≤ length sources) gaps (g ∷ []) split.inside
        (All-cons (λ (h : Gap). h.before ≤ length sources) g [] (omega (arith, is)) (All-nil (λ (h : Gap). h.before ≤ length sources)));
  }

-- ---- the first entry of those that are left

-- where a gap is the next entry
pub gap-first : (before native : ℕ) (es : List Recorded) (gs : List Gap) → merged (record { before = before; generated = native } ∷ gs) before es ≡ (native, None) ∷ merged gs before es
gap-first before native es gs = merged-gap (record { before = before; generated = native }) gs es

pub gap-taken : (before native : ℕ) (es : List Recorded) (gs : List Gap) → AreGapsOf before es (record { before = before; generated = native } ∷ gs) → AreGapsOf before es gs
gap-taken before native es gs h = ap tail (sym (ap (gaps_of before) (gap-first before native es gs)) ∙ h)
  where
    tail : List Gap → List Gap
    tail [] = []
    tail (x ∷ xs) = xs

-- where it is not
pub none-front : (before : ℕ) (es : List Recorded) (g : Gap) (gs : List Gap) → (g.before ≡ before → ⊥) → AreGapsOf before es (g ∷ gs) → gaps_behind (g ∷ gs) before ≡ []
none-front before es g gs other h = go (filter (λ (x : Gap). x.before == before) (g ∷ gs)) refl es h
  where
    head : List Gap → ℕ
    head [] = 0
    head (x ∷ xs) = x.before

    entry_of_gap : Gap → ℕ × Option ℕ
    entry_of_gap x = (x.generated, None)

    go : (front : List Gap) → filter (λ (x : Gap). x.before == before) (g ∷ gs) ≡ front → (es : List Recorded) → AreGapsOf before es (g ∷ gs) → map entry_of_gap front ≡ []
    go [] is es h = refl
    go (x ∷ xs) is [] h = absurd (other (ap head (sym h ∙ ap (λ front. gaps_of before (map entry_of_gap front)) is)))
    go (x ∷ xs) is (e ∷ es) h = absurd (other (ap head (sym h ∙ ap (λ front. gaps_of before (map entry_of_gap front ++ (entry_of_source e ∷ merged (g ∷ gs) (suc before) es))) is)))

module _ (before : ℕ) (gs : List Gap) (none : gaps_behind gs before ≡ []) where
  pub none-left : (sources : List InstructionSource) → length sources ≡ 0 → merged gs before (map source_view sources) ≡ []
  none-left [] is = none
  none-left (s ∷ ss) is = absurd (omega (arith, is))

  pub source-first : (e : Recorded) (es : List Recorded) → merged gs before (e ∷ es) ≡ entry_of_source e ∷ merged gs (before + 1) es
  source-first e es = ap (λ front. front ++ (entry_of_source e ∷ merged gs (suc before) es)) none ∙ ap (λ n. entry_of_source e ∷ merged gs n es) (omega arith)

  pub source-taken : (e : Recorded) (es : List Recorded) → AreGapsOf before (e ∷ es) gs → AreGapsOf (before + 1) es gs
  source-taken e es h = ap (λ n. gaps_of n (merged gs (before + 1) es)) (omega arith) ∙ (sym (ap (gaps_of before) (source-first e es)) ∙ h)
