-- The entries of a map are kept whole: the sources among them are those that are kept, and all come back in order.
use Rattle.std.proofs.Common.{◌≡◌, ℕ, suc, ◌+◌, ◌-◌, ◌%◌, ◌^◌, ◌<◌, ◌≤◌, inl, inr, refl, ap, sym, ◌∙◌, arith, List, [], ◌∷◌, map, Option, Some, None}
use Rattle.std.specs.Prelude.{nat_lt, nat_le, ◌&&◌, ◌⊎◌, ◌==◌, if◌then◌else◌, option_map, Bool, true, false, All}
use Rattle.std.specs.List.{filter_map}
use Rattle.std.specs.Option.{option_or}
use Rattle.std.proofs.lemmas.Bool.{ltb-false, le-leb, lt-leb, cases_lt}
use Rattle.std.proofs.lemmas.List.Elements.{All-nil, All-cons}
use Rattle.dwc_base.specs.declared.records.MapFault.{MapFault}
use Rattle.dwc_base.specs.declared.records.MapFault.TheVariants.{BodyOffset, BeforeCodeSection, Reversed, CodeFalls, CodePastBody, SourceOutside}
use Rattle.dwc_native.specs.Functions.{AddressMap, Recorded, recorded_entry, wasm_entry, map_fault, bounds_fault, entry_fault, is_source_within}
use Rattle.dwc_compiled.specs.declared.instruction_maps.Gap.{Gap}
use Rattle.dwc_compiled.specs.declared.instruction_maps.InstructionSource.{InstructionSource}
use Rattle.dwc_compiled.specs.Gaps.{gaps_of, merged, source_view}
use Rattle.dwc_compiled.proofs.GapLaws.{gaps-counted, merged-all}
pub use Rattle.dwc_compiled.proofs.GapLaws.{recorded-merged}
use Rattle.dwc_addr.specs.Runs.{recorded_view}
use Rattle.dwc_addr.specs.Sources.{counted_from}
use Rattle.dwc_addr.specs.Rising.{RisesFrom}
use Rattle.dwc_addr.specs.Transforms.{first_bad_map}
use Rattle.dwc_addr.proofs.RisingLaws.{RisesFrom-weaker}

-- ---- the sources among all entries

abbrev counted : ℕ → Recorded → Recorded
counted code_offset e = record { native = e.native; wasm = e.wasm - code_offset }

among-counted : (code_offset : ℕ) (es : List (ℕ × Option ℕ)) → filter_map recorded_entry (map (wasm_entry code_offset) es) ≡ map (counted code_offset) (filter_map recorded_entry es)
among-counted code_offset [] = refl
among-counted code_offset ((native, None) ∷ es) = among-counted code_offset es
among-counted code_offset ((native, Some source) ∷ es) = ap (λ rest. record { native = native; wasm = source - code_offset } ∷ rest) (among-counted code_offset es)

sources-seen : (code_offset : ℕ) (sources : List InstructionSource) → map recorded_view (map (counted_from code_offset) sources) ≡ map (counted code_offset) (map source_view sources)
sources-seen code_offset [] = refl
sources-seen code_offset (s ∷ ss) = ap (λ rest. record { native = s.code_offset; wasm = s.source - code_offset } ∷ rest) (sources-seen code_offset ss)

-- The sources of a map, counted from the code section, are the recorded sources of its function.
pub sources-counted : (code_offset : ℕ) (es : List (ℕ × Option ℕ)) (sources : List InstructionSource) → map source_view sources ≡ filter_map recorded_entry es
    → map recorded_view (map (counted_from code_offset) sources) ≡ filter_map recorded_entry (map (wasm_entry code_offset) es)
sources-counted code_offset es sources is = sources-seen code_offset sources ∙ (ap (map (counted code_offset)) is ∙ sym (among-counted code_offset es))

-- ---- all entries

-- The entries of a function are its sources, merged with its gaps.
pub entries-merged : (code_offset : ℕ) (es : List (ℕ × Option ℕ)) (gaps : List Gap) (sources : List Recorded) → gaps ≡ gaps_of 0 es → sources ≡ filter_map recorded_entry (map (wasm_entry code_offset) es)
    → merged gaps 0 sources ≡ map (wasm_entry code_offset) es
entries-merged code_offset es gaps sources kept found = rw (kept, found, ← gaps-counted code_offset 0 es) (merged-all 0 (map (wasm_entry code_offset) es))

-- the gaps of entries in their order
pub gaps-rise : (before : ℕ) (es : List (ℕ × Option ℕ)) → RisesFrom (λ g. g.before) before (gaps_of before es)
gaps-rise before [] = tt
gaps-rise before ((native, None) ∷ es) = (omega arith, gaps-rise before es)
gaps-rise before ((native, Some source) ∷ es) = RisesFrom-weaker (λ g. g.before) before (suc before) _ (omega arith) (gaps-rise (suc before) es)

-- ---- good maps

-- where no map is the first bad one, all are good
pub all-good : (code_offset place : ℕ) (ms : List AddressMap) → first_bad_map code_offset place ms ≡ None → All (λ m. map_fault code_offset m ≡ None) ms
all-good code_offset place [] = λ h. All-nil (λ (m : AddressMap). map_fault code_offset m ≡ None)
all-good code_offset place (m ∷ ms) = go (map_fault code_offset m) refl (all-good code_offset (suc place) ms)
  where
    go : (o : Option MapFault) → map_fault code_offset m ≡ o → (first_bad_map code_offset (suc place) ms ≡ None → All (λ m. map_fault code_offset m ≡ None) ms)
        → ◌≡◌ {A = Option (ℕ × MapFault)} (option_or (option_map (λ why. (place, why)) o) (first_bad_map code_offset (suc place) ms)) None → All (λ m. map_fault code_offset m ≡ None) (m ∷ ms)
    go None is more h = All-cons (λ (n : AddressMap). map_fault code_offset n ≡ None) m ms is (more h)
    go (Some why) is more h = absurd (cc)

-- the code offsets of a good map's entries do not fall
entries-rise : (start end len code : ℕ) (es : List (ℕ × Option ℕ)) → entry_fault start end len code es ≡ None → RisesFrom (λ e. e.0) code es
entries-rise start end len code [] = λ h. tt
entries-rise start end len code (e ∷ es) = go (nat_lt e.0 code) (nat_lt len e.0) (is_source_within start end e.1) refl (entries-rise start end len e.0 es)
  where
    go : (a b c : Bool) → nat_lt e.0 code ≡ a → (entry_fault start end len e.0 es ≡ None → RisesFrom (λ e. e.0) e.0 es)
        → ◌≡◌ {A = Option MapFault} (if a then Some CodeFalls else (if b then Some CodePastBody else (if c then entry_fault start end len e.0 es else Some SourceOutside))) None
        → RisesFrom (λ e. e.0) code (e ∷ es)
    go true b c is more h = absurd (cc)
    go false true c is more h = absurd (cc)
    go false false false is more h = absurd (cc)
    go false false true is more h = (ltb-false e.0 code is, more h)

-- whether an offset lies from start to end, by one comparison
pub within-once : (start end offset past : ℕ) → past ≡ (offset + (2 ^ 32 - start)) % 2 ^ 32 → start ≤ end → end < 2 ^ 32 → offset < 2 ^ 32 → nat_le past (end - start) ≡ (nat_le start offset && nat_le offset end)
within-once start end offset past is order low offset_low = go (cases_lt offset start) (cases_lt end offset)
  where
    go : (offset < start) ⊎ (start ≤ offset) → (end < offset) ⊎ (offset ≤ end) → nat_le past (end - start) ≡ (nat_le start offset && nat_le offset end)
    go (inl less) other = rw (lt-leb start offset less) (lt-leb past (end - start) (omega (arith, is, order, low, less)))
    go (inr from) (inl behind) = rw (le-leb start offset from, lt-leb offset end behind) (lt-leb past (end - start) (omega (arith, is, order, offset_low, from, behind)))
    go (inr from) (inr within) = rw (le-leb start offset from, le-leb offset end within) (le-leb past (end - start) (omega (arith, is, offset_low, from, within)))

-- what holds of entries without a fault holds of those of a good map
pub good-so : (P : Type 0) (code_offset : ℕ) (m : AddressMap) → ((start end : ℕ) → entry_fault start end m.body_len 0 m.entries ≡ None → P) → map_fault code_offset m ≡ None → P
good-so P code_offset m so h = go (m.body_offset == 0) m.start m.end h
  where
    inner : (start end : ℕ) (a b : Bool) → ◌≡◌ {A = Option MapFault} (if a then Some BeforeCodeSection else (if b then Some Reversed else entry_fault start end m.body_len 0 m.entries)) None → P
    inner start end true b h = absurd (cc)
    inner start end false true h = absurd (cc)
    inner start end false false h = so start end h

    go : (a : Bool) (start end : Option ℕ) → ◌≡◌ {A = Option MapFault} (if a then bounds_fault code_offset m start end else Some BodyOffset) None → P
    go false start end h = absurd (cc)
    go true None end h = absurd (cc)
    go true (Some start) None h = absurd (cc)
    go true (Some start) (Some end) h = inner start end (nat_lt start code_offset) (nat_lt end start) h

good-rises : (code_offset : ℕ) (m : AddressMap) → map_fault code_offset m ≡ None → RisesFrom (λ e. e.0) 0 m.entries
good-rises code_offset m h = good-so (RisesFrom (λ e. e.0) 0 m.entries) code_offset m (λ start end. entries-rise start end m.body_len 0 m.entries) h

-- nor do they with their sources counted otherwise
wasm-rises : (code_offset low : ℕ) (es : List (ℕ × Option ℕ)) → RisesFrom (λ e. e.0) low es → RisesFrom (λ e. e.0) low (map (wasm_entry code_offset) es)
wasm-rises code_offset low [] h = tt
wasm-rises code_offset low (e ∷ es) h = (h.0, wasm-rises code_offset e.0 es h.1)

pub good-entries : (code_offset : ℕ) (m : AddressMap) → map_fault code_offset m ≡ None → RisesFrom (λ e. e.0) 0 (map (wasm_entry code_offset) m.entries)
good-entries code_offset m h = wasm-rises code_offset 0 m.entries (good-rises code_offset m h)
