-- The loops over functions that are simulated, step by step.
use Rattle.std.proofs.Common.{◌≡◌, ℕ, zero, suc, ◌+◌, ◌<◌, ◌≤◌, pos, ◌+ℤ◌, arith, refl, ap, ap₂, sym, subst, ◌∙◌, List, [], ◌∷◌, ◌++◌, map, drop, get_or, length, Bool, true, false, Some, None, All}
use Rattle.std.specs.Prelude.{◌==◌, if◌then◌else◌, FitsSigned}
use Rattle.std.specs.Borrow.{Bor}
use Rattle.std.specs.Int.{w32}
use Rattle.std.specs.List.{cons_option}
use Rattle.std.proofs.lemmas.Bool.{eqb-true, false_from_ne_true}
use Rattle.std.proofs.lemmas.Int.{ints}
use Rattle.std.proofs.lemmas.List.{append-nil, append_assoc, drop_all, drop_more, map-append}
use Rattle.std.proofs.lemmas.List.Elements.{All-nil, All-cons, All-head, All-tail, All-push}
use Rattle.dwc_base.specs.declared.records.Address.{Address}
use Rattle.dwc_base.specs.declared.records.Address.TheVariants.{Symbol}
use Rattle.dwc_base.specs.declared.translation.ModuleTranslation.{ModuleTranslation}
use Rattle.dwc_native.specs.Functions.{Function}
use Rattle.dwc_carried.specs.SimulatedFunctions.{is_simulated}
use Rattle.dwc_carried.specs.SimulatedUnit.{whole_interval}
use Rattle.dwc_dwarf.specs.Trees.{Interval}
use Rattle.dwc_addr.specs.declared.function_map.FunctionMap.{FunctionMap}
use Rattle.dwc_image.specs.SimulatedSequences.{simulated_view}
use Rattle.dwc_unit.specs.RangeLists.{FitsRange, interval_of}
use Rattle.dwc_extents.specs.NativeExtents.{AreRanges}
use Rattle.dwc_carry.specs.SimulatedCode.{CanWrite, intervals_of, left_in, left_of}

-- what is left to show of all
pub all-more : {A : Type 0} (P : A → Type 0) (xs : List A) (i : ℕ) (d : A) → i < length xs → (All P (drop i xs) → All P xs) → P (get_or xs i d) → All P (drop (i + 1) xs) → All P xs
all-more P xs i d inside left here rest = left (subst (All P) (sym (drop_more xs i d inside)) (All-cons P (get_or xs i d) (drop (i + 1) xs) here rest))

pub all-done : {A : Type 0} (P : A → Type 0) (xs : List A) (i : ℕ) → length xs ≤ i → (All P (drop i xs) → All P xs) → All P xs
all-done P xs i past left = left (subst (All P) (sym (drop_all i xs past)) (All-nil P))

module _ (translated : ℕ → Bool) where
  -- ---- the functions of a module

  -- a function more, which is simulated
  pub function-more : (code_offset : ℕ) (f : Function) (rest : List Function) (before whole : List (ℕ × Function)) → is_simulated translated f ≡ true → before ++ left_of translated code_offset (f ∷ rest) ≡ whole → (before ++ (code_offset, f) ∷ []) ++ left_of translated code_offset rest ≡ whole
  function-more code_offset f rest before whole is h =
      append_assoc before ((code_offset, f) ∷ []) (left_of translated code_offset rest)
      ∙ ap (λ (b : Bool). before ++ (if b then (code_offset, f) ∷ left_of translated code_offset rest else left_of translated code_offset rest)) (sym is)
      ∙ h

  -- one more that is not
  pub function-none : (code_offset : ℕ) (f : Function) (rest : List Function) (before whole : List (ℕ × Function)) → is_simulated translated f ≡ false → before ++ left_of translated code_offset (f ∷ rest) ≡ whole → before ++ left_of translated code_offset rest ≡ whole
  function-none code_offset f rest before whole is h =
      ap (λ (b : Bool). before ++ (if b then (code_offset, f) ∷ left_of translated code_offset rest else left_of translated code_offset rest)) (sym is) ∙ h

  -- ---- modules

  pub module-more : (ts : List ModuleTranslation) (fss : List (List Function)) (i : ℕ) (t : ModuleTranslation) (fs : List Function) (before after whole : List (ℕ × Function)) → i < length ts → i < length fss → t ≡ get_or ts i t → fs ≡ get_or fss i fs
      → after ≡ before ++ left_of translated t.code_section_offset fs → before ++ left_in translated (drop i ts) (drop i fss) ≡ whole → after ++ left_in translated (drop (i + 1) ts) (drop (i + 1) fss) ≡ whole
  module-more ts fss i t fs before after whole in_ts in_fss at_t at_fs is h =
      let split_t : drop i ts ≡ t ∷ drop (i + 1) ts = drop_more ts i t in_ts ∙ ap (λ x. x ∷ drop (i + 1) ts) (sym at_t) in
      let split_fs : drop i fss ≡ fs ∷ drop (i + 1) fss = drop_more fss i fs in_fss ∙ ap (λ x. x ∷ drop (i + 1) fss) (sym at_fs) in
      ap (λ xs. xs ++ left_in translated (drop (i + 1) ts) (drop (i + 1) fss)) is
      ∙ append_assoc before (left_of translated t.code_section_offset fs) (left_in translated (drop (i + 1) ts) (drop (i + 1) fss))
      ∙ ap₂ (λ xs ys. before ++ left_in translated xs ys) (sym split_t) (sym split_fs)
      ∙ h

  pub module-done : (ts : List ModuleTranslation) (fss : List (List Function)) (i : ℕ) (before whole : List (ℕ × Function)) → length ts ≤ i → before ++ left_in translated (drop i ts) (drop i fss) ≡ whole → before ≡ whole
  module-done ts fss i before whole past h = sym (append-nil before) ∙ ap (λ xs. before ++ left_in translated xs (drop i fss)) (sym (drop_all i ts past)) ∙ h

-- ---- ranges

-- a function more of those that are left
pub range-left : (ms : List (ℕ × Bor FunctionMap)) (i : ℕ) (m : ℕ × Bor FunctionMap) → i < length ms → m ≡ get_or ms i m → map simulated_view (drop i ms) ≡ simulated_view m ∷ map simulated_view (drop (i + 1) ms)
range-left ms i m inside at = ap (map simulated_view) (drop_more ms i m inside ∙ ap (λ x. x ∷ drop (i + 1) ms) (sym at))

pub fits-at : (ms : List (ℕ × Bor FunctionMap)) (i : ℕ) (m : ℕ × Bor FunctionMap) → i < length ms → m ≡ get_or ms i m → All CanWrite (map simulated_view ms) → CanWrite (simulated_view m)
fits-at [] i m inside at h = absurd (omega (arith, inside))
fits-at (x ∷ ms) zero m inside at h = subst (λ y. CanWrite (simulated_view y)) (sym at) (All-head CanWrite (simulated_view x) (map simulated_view ms) h)
fits-at (x ∷ ms) (suc i) m inside at h = fits-at ms i m (omega (arith, inside)) at (All-tail CanWrite (simulated_view x) (map simulated_view ms) h)

-- Ranges so far say intervals, which with those of the functions that are left are all.
pub record RangesSoFar (whole : List Interval) (left : List (ℕ × Function)) (rs : List (Address × ℕ)) : Type 0 where
  pub say : map interval_of rs ++ intervals_of left ≡ whole
  pub fit : (size : ℕ) → All (FitsRange size) rs

-- that of a function more, whole
pub ranges-more : (whole : List Interval) (f : ℕ × Function) (left : List (ℕ × Function)) (rs : List (Address × ℕ)) → 0 < f.1.length → CanWrite f → RangesSoFar whole (f ∷ left) rs → RangesSoFar whole left (rs ++ (Symbol f.1.number (pos 0), f.1.length) ∷ [])
ranges-more whole f left rs some can h = record {
  say = ap (λ is. is ++ intervals_of left) (map-append interval_of rs ((Symbol f.1.number (pos 0), f.1.length) ∷ []))
      ∙ append_assoc (map interval_of rs) (interval_of (Symbol f.1.number (pos 0), f.1.length) ∷ []) (intervals_of left)
      ∙ ap (λ z. map interval_of rs ++ record { begin = Symbol f.1.number (pos 0); end = Symbol f.1.number z } ∷ intervals_of left) ends
      ∙ ap (λ o. map interval_of rs ++ cons_option o (intervals_of left)) (sym interval)
      ∙ h.say;
  fit = λ size. All-push (FitsRange size) rs (Symbol f.1.number (pos 0), f.1.length) (h.fit size) (record { symbol = refl; some = some; ends = record { begin = zero-fits; end = subst (FitsSigned w32) (sym ends) end-fits } });
}
  where
    ends : pos 0 +ℤ pos f.1.length ≡ pos f.1.length
    ends = omega (arith, ints)

    zero-fits : FitsSigned w32 (pos 0)
    zero-fits = omega (arith, ints)

    end-fits : FitsSigned w32 (pos f.1.length)
    end-fits = let short = can.short in omega (arith, ints, short)

    nonzero : (f.1.length == 0) ≡ false
    nonzero = false_from_ne_true (f.1.length == 0) (λ h. omega (arith, eqb-true f.1.length 0 h, some))

    interval : whole_interval f.1 ≡ Some (record { begin = Symbol f.1.number (pos 0); end = Symbol f.1.number (pos f.1.length) })
    interval = ap (λ (b : Bool). if b then None else Some (Rattle.dwc_native.specs.Runs.interval_of f.1.number (0, f.1.length))) nonzero

-- one more without code
pub ranges-none : (whole : List Interval) (f : ℕ × Function) (left : List (ℕ × Function)) (rs : List (Address × ℕ)) → f.1.length ≡ 0 → RangesSoFar whole (f ∷ left) rs → RangesSoFar whole left rs
ranges-none whole f left rs none h = record {
  say = ap (λ (k : ℕ). map interval_of rs ++ cons_option (if k == 0 then None else Some (Rattle.dwc_native.specs.Runs.interval_of f.1.number (0, f.1.length))) (intervals_of left)) (sym none) ∙ h.say;
  fit = h.fit;
}

pub ranges-done : (whole : List Interval) (rs : List (Address × ℕ)) → RangesSoFar whole [] rs → AreRanges rs whole
ranges-done whole rs h = record { say = sym (append-nil (map interval_of rs)) ∙ h.say; fit = h.fit }
