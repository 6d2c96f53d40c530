-- The native offset of a wasm offset, case by case.
use Rattle.std.proofs.Common.{◌≡◌, ℕ, suc, ◌-◌, ◌<◌, ◌≤◌, refl, sym, ap, ◌∙◌, arith, List, [], ◌∷◌, map, drop, pos, length, Option, Some, None}
use Rattle.std.specs.Prelude.{ℤ, Bool, true, false, if◌then◌else◌, option_map}
use Rattle.std.specs.Option.{unwrap_or}
use Rattle.std.specs.List.{find, filter, filter_map, cons_option}
use Rattle.std.proofs.lemmas.List.{drop-drop, drop_all}
use Rattle.std.proofs.lemmas.Bool.{le-leb, lt-leb, lt-ltb, le-ltb}
use Rattle.dwc_base.specs.declared.records.Address.{Address}
use Rattle.dwc_base.specs.declared.records.Address.TheVariants.{Symbol}
use Rattle.dwc_base.specs.declared.records.OutputFor.{OutputFor}
use Rattle.dwc_base.specs.declared.records.OutputFor.TheVariants.{Default, Debugger}
use Rattle.dwc_native.specs.Functions.{Function, function_at}
use Rattle.dwc_native.specs.ShownSources.{exact_ranges}
use Rattle.dwc_native.specs.Runs.{Run, runs, has_offset, start_in, end_in, meets, is_range, closed_ranges, native_ranges, native_in_function, native_offset, translated}
use Rattle.dwc_addr.specs.declared.function_map.FunctionMap.{FunctionMap}
use Rattle.dwc_addr.specs.Transforms.{function_view}
use Rattle.dwc_addr.specs.Translations.{range_in, ranges_from, shown_from, ranges_to_come}
use Rattle.dwc_addr.proofs.RunLaws.{runs-past}

module _ (f : Function) (a : ℕ) where
  pub offset-past : f.end ≤ a → f.length ≡ native_offset f a
  unfolding native_offset
  offset-past past = rw (le-leb f.end a past) refl

  pub offset-found : (r : Run) → a < f.end → Some r ≡ find (has_offset a) (runs f) → start_in a r ≡ native_offset f a
  unfolding native_offset
  offset-found r less found = rw (lt-leb f.end a less, ← found) refl

  pub offset-none : a < f.end → None ≡ find (has_offset a) (runs f) → f.length ≡ native_offset f a
  unfolding native_offset
  offset-none less found = rw (lt-leb f.end a less, ← found) refl

-- where no run has the offset
pub none-with : (m : FunctionMap) (a k : ℕ) → k ≡ suc (length m.later_runs.items) → None ≡ find (has_offset a) (drop k (runs (function_view m)))
none-with m a k is = ap (find (has_offset a)) (sym (ap (λ n. drop n (runs (function_view m))) is ∙ runs-past m))

module _ (fs : List Function) (a : ℕ) where
  pub translated-none : None ≡ function_at fs a → None ≡ translated fs a
  unfolding translated
  translated-none none = rw (← none) refl

  pub translated-some : (m : FunctionMap) (symbol offset : ℕ) (addend : ℤ) → Some (function_view m) ≡ function_at fs a → m.symbol ≡ Some symbol → offset ≡ native_offset (function_view m) a → addend ≡ pos offset
      → ◌≡◌ {A = Option Address} (Some (Symbol symbol addend)) (translated fs a)
  unfolding translated
  translated-some m symbol offset addend found is at same =
      ap (λ n. Some (Symbol symbol n)) (same ∙ ap pos at)
      ∙ ap (λ n. Some (Symbol n (pos (native_offset (function_view m) a)))) (sym (ap (λ o. unwrap_or o 0) is))
      ∙ ap (option_map (λ (f : Function). Symbol f.number (pos (native_offset f a)))) found

-- ---- ranges

-- behind the last run there is none
runs-beyond : (m : FunctionMap) (k : ℕ) → suc (length m.later_runs.items) ≤ k → drop k (runs (function_view m)) ≡ []
runs-beyond m k past =
    ap (λ n. drop n (runs (function_view m))) (omega (arith, past))
    ∙ sym (drop-drop (k - suc (length m.later_runs.items)) (suc (length m.later_runs.items)) (runs (function_view m)))
    ∙ ap (drop (k - suc (length m.later_runs.items))) (runs-past m)
    ∙ drop_all (k - suc (length m.later_runs.items)) [] (omega arith)

pub ranges-beyond : (m : FunctionMap) (start end k : ℕ) → suc (length m.later_runs.items) ≤ k → ranges_from m start end k ≡ []
ranges-beyond m start end k past = ap (filter_map (range_in start end)) (runs-beyond m k past)

-- the ranges of runs, picked one by one
picked : (start end : ℕ) (rs : List Run) → filter is_range (map (λ r. (start_in start r, end_in end r)) (filter (meets start end) rs)) ≡ filter_map (range_in start end) rs
picked start end [] = refl
picked start end (r ∷ rs) = go (meets start end r) (picked start end rs)
  where
    one : (b : Bool) (found : ℕ × ℕ) (xs ys : List (ℕ × ℕ)) → xs ≡ ys → ◌≡◌ {A = List (ℕ × ℕ)} (if b then found ∷ xs else xs) (cons_option (if b then Some found else None) ys)
    one true found xs ys same = ap (λ zs. found ∷ zs) same
    one false found xs ys same = same

    go : (a : Bool) → filter is_range (map (λ r. (start_in start r, end_in end r)) (filter (meets start end) rs)) ≡ filter_map (range_in start end) rs
        → filter is_range (map (λ r. (start_in start r, end_in end r)) (if a then r ∷ filter (meets start end) rs else filter (meets start end) rs))
        ≡ cons_option (if a then (if is_range (start_in start r, end_in end r) then Some (start_in start r, end_in end r) else None) else None) (filter_map (range_in start end) rs)
    go false same = same
    go true same = one (is_range (start_in start r, end_in end r)) (start_in start r, end_in end r) _ _ same

pub ranges-all : (m : FunctionMap) (start end : ℕ) → start < end → ranges_from m start end 0 ≡ closed_ranges (function_view m) start end
ranges-all m start end less = rw (lt-ltb start end less) (sym (picked start end (runs (function_view m))))

pub ranges-nothing : (m : FunctionMap) (start end : ℕ) → end ≤ start → [] ≡ closed_ranges (function_view m) start end
ranges-nothing m start end le = rw (le-ltb start end le) refl

-- ---- by whom they are for

module _ (m : FunctionMap) (start end : ℕ) where
  pub default-come : (number : ℕ) → m.output_for ≡ Default → ranges_to_come m start end number ≡ ranges_from m start end number
  default-come number is = ap (λ (o : OutputFor). elim o [ Default ↦ ranges_from m start end number | Debugger ↦ shown_from m start end number ]) is

  pub debugger-come : (number : ℕ) → m.output_for ≡ Debugger → ranges_to_come m start end number ≡ shown_from m start end number
  debugger-come number is = ap (λ (o : OutputFor). elim o [ Default ↦ ranges_from m start end number | Debugger ↦ shown_from m start end number ]) is

  pub default-native : m.output_for ≡ Default → native_ranges (function_view m) start end ≡ closed_ranges (function_view m) start end
  unfolding native_ranges
  default-native is = ap (λ (o : OutputFor). elim o [ Default ↦ closed_ranges (function_view m) start end | Debugger ↦ exact_ranges (function_view m) start end ]) is

  pub debugger-native : m.output_for ≡ Debugger → native_ranges (function_view m) start end ≡ exact_ranges (function_view m) start end
  unfolding native_ranges
  debugger-native is = ap (λ (o : OutputFor). elim o [ Default ↦ closed_ranges (function_view m) start end | Debugger ↦ exact_ranges (function_view m) start end ]) is

module _ (fs : List Function) (start end : ℕ) where
  pub raw-none : None ≡ function_at fs start → None ≡ native_in_function fs start end
  unfolding native_in_function
  raw-none none = rw (← none) refl

  pub raw-some : (m : FunctionMap) (symbol : ℕ) (ranges : List (ℕ × ℕ)) → Some (function_view m) ≡ function_at fs start → m.symbol ≡ Some symbol → ranges ≡ native_ranges (function_view m) start end
      → ◌≡◌ {A = Option (ℕ × List (ℕ × ℕ))} (Some (symbol, ranges)) (native_in_function fs start end)
  unfolding native_in_function
  raw-some m symbol ranges found is same =
      ap (λ (rs : List (ℕ × ℕ)). Some (symbol, rs)) same
      ∙ ap (λ (n : ℕ). Some (n, native_ranges (function_view m) start end)) (sym (ap (λ o. unwrap_or o 0) is))
      ∙ ap (option_map (λ (f : Function). (f.number, native_ranges f start end))) found
