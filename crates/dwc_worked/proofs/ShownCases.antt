-- Shown sources and exact ranges of small functions.
use Rattle.std.proofs.Common.{◌≡◌, ℕ, List, [], ◌∷◌, Some, None, refl}
use Rattle.std.specs.Prelude.{map}
use Rattle.dwc_native.specs.Functions.{Function}
use Rattle.dwc_native.specs.ShownSources.{shown_source, ranges_where, exact_ranges}
use Rattle.dwc_native.specs.Runs.{runs, native_ranges, native_in_function, native}
use Rattle.dwc_worked.proofs.RunCases.{a_function, one_run, two_runs}

unfoldable pub shown_on_literals : ℕ
unfolding shown_source ranges_where exact_ranges runs native_ranges native_in_function native
shown_on_literals = 0

-- before the first source the first, and in a gap the one before it
shown-one : map (shown_source one_run) (0 ∷ 4 ∷ 5 ∷ 8 ∷ 14 ∷ 15 ∷ 23 ∷ 29 ∷ []) ≡ 12 ∷ 12 ∷ 12 ∷ 12 ∷ 12 ∷ 17 ∷ 17 ∷ 17 ∷ []
unfolding shown_on_literals
shown-one = refl

-- of several at one native offset the last; before it the first
shown-shared : map (shown_source (a_function 0 (Some 0) 10 20 30 ((5, Some 12) ∷ (5, None) ∷ (5, Some 14) ∷ (9, Some 16) ∷ (9, Some 11) ∷ (9, None) ∷ []))) (0 ∷ 4 ∷ 5 ∷ 8 ∷ 9 ∷ 29 ∷ []) ≡ 12 ∷ 12 ∷ 14 ∷ 14 ∷ 11 ∷ 11 ∷ []
unfolding shown_on_literals
shown-shared = refl

-- without a source the start of the function
shown-none : map (shown_source (a_function 0 (Some 0) 10 20 30 ((5, None) ∷ []))) (0 ∷ 29 ∷ []) ≡ 10 ∷ 10 ∷ []
unfolding shown_on_literals
shown-none = refl

abbrev in_function : Function → ℕ × ℕ → List (ℕ × ℕ)
in_function f r = exact_ranges f r.0 r.1

-- the end is left out, the gap is in; an interval that is empty or reversed has none
exact-one : map (in_function one_run) ((12, 17) ∷ (12, 18) ∷ (13, 17) ∷ (17, 20) ∷ (10, 13) ∷ (12, 12) ∷ (17, 12) ∷ (0, 99) ∷ []) ≡ ((0, 15) ∷ []) ∷ ((0, 30) ∷ []) ∷ [] ∷ ((15, 30) ∷ []) ∷ ((0, 15) ∷ []) ∷ [] ∷ [] ∷ ((0, 30) ∷ []) ∷ []
unfolding shown_on_literals
exact-one = refl

-- where a source comes twice it has two ranges, which are one where all between them is in the interval
exact-two : map (in_function two_runs) ((12, 13) ∷ (17, 18) ∷ (12, 20) ∷ []) ≡ ((0, 15) ∷ (23, 30) ∷ []) ∷ ((15, 23) ∷ []) ∷ ((0, 30) ∷ []) ∷ []
unfolding shown_on_literals
exact-two = refl

-- a source at the function's end is in no interval up to it; a function without bytes has no range
exact-edges :
    map (λ (c : Function × (ℕ × ℕ)). in_function c.0 c.1) ((a_function 0 (Some 0) 10 20 8 ((0, Some 10) ∷ (6, Some 20) ∷ []), (10, 20)) ∷ (a_function 0 (Some 0) 10 20 8 ((0, Some 10) ∷ (6, Some 20) ∷ []), (10, 21)) ∷ (a_function 0 (Some 0) 10 20 0 ((0, Some 10) ∷ []), (10, 20)) ∷ (a_function 0 (Some 0) 10 10 4 [], (10, 11)) ∷ [])
    ≡ ((0, 6) ∷ []) ∷ ((0, 8) ∷ []) ∷ [] ∷ ((0, 4) ∷ []) ∷ []
unfolding shown_on_literals
exact-edges = refl
