-- Runs, positions and translations of small functions.
use Rattle.std.proofs.Common.{◌≡◌, ℕ, pos, List, [], ◌∷◌, Some, None, refl}
use Rattle.std.specs.Prelude.{Option, map}
use Rattle.dwc_base.specs.declared.records.OutputFor.TheVariants.{Default}
use Rattle.dwc_base.specs.declared.records.Address.TheVariants.{Symbol}
use Rattle.dwc_native.specs.Functions.{Function}
use Rattle.dwc_dwarf.specs.Trees.{Interval}
use Rattle.dwc_native.specs.Runs.{Run, runs, start_in, end_in, native_offset, translated, native_ranges, native_in_function, native, interval_of}
use Rattle.dwc_worked.proofs.DraftsOnLiterals.{runs_on_literals}

-- a function from wasm 10 to 20, of 30 bytes, and one whose sources fall at its last entry
abbrev pub a_function : ℕ → Option ℕ → ℕ → ℕ → ℕ → List (ℕ × Option ℕ) → Function
a_function number symbol start end length entries = record { output = Default; number = number; symbol = symbol; start = start; end = end; length = length; entries = entries }

abbrev pub one_run : Function
one_run = a_function 0 (Some 0) 10 20 30 ((5, Some 12) ∷ (8, None) ∷ (15, Some 17) ∷ (23, None) ∷ [])

abbrev pub two_runs : Function
two_runs = a_function 0 (Some 0) 10 20 30 ((5, Some 12) ∷ (8, None) ∷ (15, Some 17) ∷ (23, Some 12) ∷ (26, None) ∷ [])

runs-one : runs one_run ≡ record { wasm_start = 10; wasm_end = 20; start = 0; end = 30; positions = record { wasm = 12; start = 5; end = 8 } ∷ record { wasm = 17; start = 15; end = 23 } ∷ [] } ∷ []
unfolding runs_on_literals
runs-one = refl

runs-two :
    runs two_runs
    ≡ record { wasm_start = 10; wasm_end = 17; start = 0; end = 23; positions = record { wasm = 12; start = 5; end = 8 } ∷ record { wasm = 17; start = 15; end = 23 } ∷ [] }
    ∷ record { wasm_start = 12; wasm_end = 20; start = 23; end = 30; positions = record { wasm = 12; start = 23; end = 26 } ∷ [] } ∷ []
unfolding runs_on_literals
runs-two = refl

-- without a source there is one run, the whole function
runs-none : runs (a_function 0 (Some 0) 10 20 30 ((5, None) ∷ [])) ≡ record { wasm_start = 10; wasm_end = 20; start = 0; end = 30; positions = [] } ∷ []
unfolding runs_on_literals
runs-none = refl

-- Sources at one native offset are one position, with the first one's wasm offset and the last one's end; a run ends at
-- its last source all the same; and where the wasm offset falls there, a new run begins there.
runs-shared :
    runs (a_function 0 (Some 0) 10 20 30 ((5, Some 12) ∷ (5, None) ∷ (5, Some 14) ∷ (9, Some 16) ∷ (9, Some 17) ∷ (9, Some 11) ∷ (9, Some 12) ∷ []))
    ≡ record { wasm_start = 10; wasm_end = 17; start = 0; end = 9; positions = record { wasm = 12; start = 5; end = 9 } ∷ record { wasm = 16; start = 9; end = 9 } ∷ [] }
    ∷ record { wasm_start = 11; wasm_end = 20; start = 9; end = 30; positions = record { wasm = 11; start = 9; end = 30 } ∷ [] } ∷ []
unfolding runs_on_literals
runs-shared = refl

-- two equal sources do not begin a run, and give two positions
runs-equal : map (λ r. r.positions) (runs (a_function 0 (Some 0) 10 20 30 ((5, Some 12) ∷ (7, Some 12) ∷ []))) ≡ (record { wasm = 12; start = 5; end = 7 } ∷ record { wasm = 12; start = 7; end = 30 } ∷ []) ∷ []
unfolding runs_on_literals
runs-equal = refl

abbrev pub bounds_of_12 : Run → ℕ × ℕ
bounds_of_12 r = (start_in 12 r, end_in 12 r)

-- of several positions at a wasm offset the first gives the start and the last the end
bounds-equal : map bounds_of_12 (runs (a_function 0 (Some 0) 10 20 30 ((5, Some 12) ∷ (7, None) ∷ (9, Some 12) ∷ (11, None) ∷ []))) ≡ (5, 11) ∷ []
unfolding runs_on_literals
bounds-equal = refl

-- ---- addresses

addresses-one : map (translated (one_run ∷ [])) (10 ∷ 20 ∷ 0 ∷ 12 ∷ 18 ∷ 25 ∷ 0xFFFFFFFF ∷ []) ≡ Some (Symbol 0 (pos 0)) ∷ Some (Symbol 0 (pos 30)) ∷ None ∷ Some (Symbol 0 (pos 5)) ∷ Some (Symbol 0 (pos 23)) ∷ Some (Symbol 0 (pos 30)) ∷ None ∷ []
unfolding runs_on_literals
addresses-one = refl

-- in two runs the first that has the offset decides, its ends included
addresses-two : map (native_offset two_runs) (11 ∷ 12 ∷ 17 ∷ 18 ∷ 19 ∷ []) ≡ 0 ∷ 5 ∷ 15 ∷ 26 ∷ 26 ∷ []
unfolding runs_on_literals
addresses-two = refl

-- below the first function, and in one without a symbol, there is no translation
addresses-none : map (translated (a_function 3 None 10 20 30 [] ∷ [])) (9 ∷ 10 ∷ 15 ∷ []) ≡ None ∷ None ∷ None ∷ []
unfolding runs_on_literals
addresses-none = refl

-- ---- intervals

abbrev pub in_one : ℕ × ℕ → List (ℕ × ℕ)
in_one r = native_ranges one_run r.0 r.1

intervals-one : map in_one ((12, 17) ∷ (13, 16) ∷ []) ≡ ((5, 23) ∷ []) ∷ ((8, 15) ∷ []) ∷ []
unfolding runs_on_literals
intervals-one = refl

abbrev pub given_in : List Function → ℕ × ℕ → List Interval
given_in fs r = native fs r.0 r.1

-- an empty interval and a reversed one give nothing
intervals-nothing : map (given_in (one_run ∷ [])) ((16, 16) ∷ (17, 12) ∷ []) ≡ [] ∷ [] ∷ []
unfolding runs_on_literals
intervals-nothing = refl

intervals-two : native (two_runs ∷ []) 12 20 ≡ map (interval_of 0) ((5, 23) ∷ (23, 30) ∷ [])
unfolding runs_on_literals
intervals-two = refl

-- An interval over two functions is one of that in which it begins, up to its end; unlinked begins give nothing, and an
-- unlinked end is one above all.
abbrev pub two_functions : List Function
two_functions = a_function 0 (Some 7) 2 10 20 ((4, Some 5) ∷ []) ∷ a_function 1 (Some 8) 10 20 30 ((6, Some 12) ∷ []) ∷ []

intervals-over : map (given_in two_functions) ((5, 15) ∷ (0, 15) ∷ (0xFFFFFFFF, 0x100000005) ∷ (12, 0xFFFFFFFF) ∷ [])
    ≡ map (interval_of 0) ((4, 20) ∷ []) ∷ [] ∷ [] ∷ map (interval_of 1) ((6, 30) ∷ []) ∷ []
unfolding runs_on_literals
intervals-over = refl

-- in the function that it begins in, a reversed interval has no ranges; where it begins in none, there is no function
in-function : map (λ a. native_in_function two_functions a 5) (9 ∷ 4 ∷ 0 ∷ []) ≡ Some (0, []) ∷ Some (0, (0, 20) ∷ []) ∷ None ∷ []
unfolding runs_on_literals
in-function = refl

-- behind the end of the last function there is still its last byte's end, and so nothing
intervals-behind : native two_functions 25 30 ≡ []
unfolding runs_on_literals
intervals-behind = refl
