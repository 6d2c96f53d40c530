-- The law of scopes on a small module: a function in two runs, and behind it one without a symbol.
use Rattle.std.proofs.Common.{◌≡◌, ℕ, zero, suc, ◌<◌, List, [], ◌∷◌, Some, None, true, refl, arith}
use Rattle.std.specs.Prelude.{slice_index_or}
use Rattle.dwc_base.specs.declared.records.Address.TheVariants.{Constant}
use Rattle.dwc_native.specs.Functions.{AddressMap, Function, functions_of, recorded_sources}
use Rattle.dwc_dwarf.specs.Trees.{Interval}
use Rattle.dwc_native.specs.ScopesKept.{native_of_intervals}
use Rattle.dwc_native.specs.ScopesKept.{HasDistinctSources, KeepsScope, AreNumbered, cover_byte}
use Rattle.dwc_worked.proofs.RunCases.{a_function, two_runs}
use Rattle.dwc_base.specs.declared.records.OutputFor.TheVariants.{Default}
use Rattle.dwc_addr.proofs.KeepLaws.{translations-keep_scopes, made-numbered}

abbrev pub small_maps : List AddressMap
small_maps =
    record { symbol = Some 7; start = Some 110; end = Some 120; body_offset = 0; body_len = 30; entries = (5, Some 112) ∷ (8, None) ∷ (15, Some 117) ∷ (23, Some 112) ∷ (26, None) ∷ [] }
    ∷ record { symbol = None; start = Some 120; end = Some 130; body_offset = 0; body_len = 30; entries = (5, Some 122) ∷ [] } ∷ []

abbrev pub small_module : List Function
small_module = two_runs ∷ a_function 0 None 20 30 30 ((5, Some 22) ∷ []) ∷ []

is-small : functions_of Default 100 0 small_maps ≡ small_module
is-small = refl

small-numbered : AreNumbered small_module
small-numbered = made-numbered Default 100 0 small_maps refl

-- the interval from 12 to 17, which in each run has the code of 12, and a scope that it keeps
abbrev pub small_interval : Interval
small_interval = record { begin = Constant 12; end = Constant 17 }

kept-small : KeepsScope small_module ((12, 17) ∷ []) (native_of_intervals small_module (small_interval ∷ []))
kept-small = translations-keep_scopes small_module small-numbered (small_interval ∷ [])

small-distinct : HasDistinctSources two_runs
small-distinct zero zero d before inside same = omega (arith, before)
small-distinct zero (suc zero) d before inside same = omega (arith, same)
small-distinct zero (suc (suc j)) d before inside same = third j (omega (arith, inside)) same
  where
    third : (j : ℕ) → j < 1 → 5 ≡ (slice_index_or (recorded_sources two_runs) (suc (suc j)) d).native → ⊥
    third zero inside same = omega (arith, same)
    third (suc j) inside same = omega (arith, inside)
small-distinct (suc zero) zero d before inside same = omega (arith, before)
small-distinct (suc zero) (suc zero) d before inside same = omega (arith, before)
small-distinct (suc zero) (suc (suc zero)) d before inside same = omega (arith, same)
small-distinct (suc zero) (suc (suc (suc j))) d before inside same = omega (arith, inside)
small-distinct (suc (suc i)) j d before inside same = omega (arith, before, inside)

-- so the bytes from 23 on, whose source is 12, are covered
covered-second : cover_byte (native_of_intervals small_module (small_interval ∷ [])) 0 24 ≡ true
covered-second = kept-small.no_less (12, 17) two_runs 24 12 (0, omega arith, refl) refl small-distinct (omega arith) refl (omega arith) (omega arith)
